-- Scans may be exchanged: a join is the same bag from either side.
use Rattle.std.proofs.Common.{◌≡◌, inl, inr, ℕ, zero, suc, ◌+◌, ◌<◌, ◌≤◌, Bool, true, false, ◌&&◌, cond, List, [], ◌∷◌, ◌++◌, length, get_or, Option, Some, None, refl, sym, ◌∙◌, ap, subst, arith, append_assoc}
use Rattle.std.specs.List.{AllByRecursion, flat_map, remove}
use Rattle.std.proofs.lemmas.List.{get_or-set_other, length-set}
use Rattle.std.proofs.lemmas.List.Sorted.{IsPermutation-refl, IsPermutation-trans, IsPermutation-append}
use Rattle.qs_terms.specs.Bag.{SameBag}
use Rattle.qs_terms.specs.inner.Bag.{times}
use Rattle.qs_terms.specs.Dataset.{Triple, graph_of}
use Rattle.qs_terms.specs.Statement.{Statement}
use Rattle.qs_terms.specs.Term.{same_term}
use Rattle.qs_terms.specs.declared.term.Term.{Term}
use Rattle.qs_terms.proofs.Counts.{total, times-flat_map}
use Rattle.qs_terms.proofs.SameTerm.{same_term-Decides}
use Rattle.qs_paths_meaning.specs.Pair.{Pair}
use Rattle.qs_algebra_solutions.specs.Solution.{Solution, term_at, unbound, compatible_terms, compatible, merge, same_solution}
use Rattle.qs_algebra_solutions.specs.inner.Solution.{first_bound}
use Rattle.qs_algebra_solutions.specs.Operators.{merges, join}
use Rattle.qs_algebra_patterns.specs.Basic.{Graph}
use Rattle.qs_algebra_patterns.specs.declared.pattern.Slot.{Slot}
use Rattle.qs_algebra_patterns.specs.declared.pattern.Slot.TheVariants as slot
use Rattle.qs_algebra_patterns.specs.declared.pattern.TriplePattern.{TriplePattern}
use Rattle.qs_algebra_patterns.specs.declared.pattern.PathPattern.{PathPattern}
use Rattle.qs_plan_meaning.specs.declared.stage.Look.{Look}
use Rattle.qs_plan_meaning.specs.declared.stage.Look.TheVariants as look
use Rattle.qs_plan_meaning.specs.declared.stage.Stage.{Stage}
use Rattle.qs_plan_meaning.specs.declared.stage.Stage.TheVariants as stage
use Rattle.qs_plan_meaning.specs.inner.Scans.{bound_slot, bound_end, then_bound, bound_triple, bound_ends, path_pairs, extensions, path_extensions}
use Rattle.qs_plan_meaning.specs.inner.Stages.{Made, looked, graph_named, gives, through}
use Rattle.qs_plan_meaning.specs.inner.Stages.{register_of}
use Rattle.qs_plan.specs.inner.Sames.{SameStages, held, Stays, IsScan, Misses}
use Rattle.qs_plan.proofs.Commutes.{SetBy, all_map, slot_sets, end_sets, scanned_each, triple_even, path_even, flat_flat, merges_joined}
use Rattle.qs_plan.proofs.Levels.{gives_triple, gives_path, through_append, flat_ap}
use Rattle.qs_plan.proofs.Onward.{Onward, stages_onward}
use Rattle.qs_plan.proofs.Operators.{by_times, flat_map_same, merges_same}
use Rattle.qs_plan.proofs.Runs.{by_merges}

-- ---- a join from either side

term_turned : (x y : Option Term) → compatible_terms x y ≡ compatible_terms y x
term_turned None None = refl
term_turned None (Some y) = refl
term_turned (Some x) None = refl
term_turned (Some x) (Some y) = at (same_term x y) (same_term y x) refl refl
  where
    at : (b c : Bool) → same_term x y ≡ b → same_term y x ≡ c → same_term x y ≡ same_term y x
    at true true e f = e ∙ sym f
    at false false e f = e ∙ sym f
    at true false e f = let k : same_term y x ≡ true = (same_term-Decides y x).1 (sym ((same_term-Decides x y).0 e)) in cc
    at false true e f = let k : same_term x y ≡ true = (same_term-Decides x y).1 (sym ((same_term-Decides y x).0 f)) in cc

compatible_turned : (a b : Solution) → compatible a b ≡ compatible b a
compatible_turned [] [] = refl
compatible_turned [] (y ∷ b) = refl
compatible_turned (x ∷ a) [] = refl
compatible_turned (x ∷ a) (y ∷ b) = ap (λ c. c && compatible a b) (term_turned x y) ∙ ap (λ c. compatible_terms y x && c) (compatible_turned a b)

first_turned : (x y : Option Term) → compatible_terms x y ≡ true → first_bound x y ≡ first_bound y x
first_turned None None h = refl
first_turned None (Some y) h = refl
first_turned (Some x) None h = refl
first_turned (Some x) (Some y) h = ap Some ((same_term-Decides x y).0 h)

pub both_true : (a b : Bool) → (a && b) ≡ true → (a ≡ true) × (b ≡ true)
both_true true b h = (refl, h)
both_true false b h = let f : false ≡ true = h in cc

merge_turned : (a b : Solution) → compatible a b ≡ true → merge a b ≡ merge b a
merge_turned [] [] h = refl
merge_turned [] (y ∷ b) h = refl
merge_turned (x ∷ a) [] h = refl
merge_turned (x ∷ a) (y ∷ b) h =
    let k = both_true (compatible_terms x y) (compatible a b) h in
    ap (λ z. z ∷ merge a b) (first_turned x y k.0) ∙ ap (λ l. first_bound y x ∷ l) (merge_turned a b k.1)

-- the merge of two, where they are compatible
abbrev pub pair : Solution → Solution → List Solution
pair a b = cond (compatible a b) (merge a b ∷ []) []

pair_turned : (a b : Solution) → pair a b ≡ pair b a
pair_turned a b = at (compatible a b) refl
  where
    at : (c : Bool) → compatible a b ≡ c → pair a b ≡ pair b a
    at true e = let f : compatible b a ≡ true = compatible_turned b a ∙ e in rw (e, f) (ap (λ x. x ∷ []) (merge_turned a b e))
    at false e = let f : compatible b a ≡ false = compatible_turned b a ∙ e in rw (e, f) refl

pub merges_pairs : (xs : List Solution) (a : Solution) → merges xs a ≡ flat_map (pair a) xs
merges_pairs [] a = refl
merges_pairs (x ∷ xs) a = at (compatible a x) refl (merges_pairs xs a)
  where
    at : (b : Bool) → compatible a x ≡ b → merges xs a ≡ flat_map (pair a) xs → merges (x ∷ xs) a ≡ pair a x ++ flat_map (pair a) xs
    at true e h = simp e (ap (λ l. merge a x ∷ l) h)
    at false e h = simp e h

total_plus : {X : Type 0} (f g : X → ℕ) (xs : List X) → total (λ x. f x + g x) xs ≡ total f xs + total g xs
total_plus f g [] = omega arith
total_plus f g (x ∷ xs) = omega (arith, total_plus f g xs)

total_none : {X : Type 0} (xs : List X) → let z : ℕ = 0 in z ≡ total (λ x. 0) xs
total_none [] = refl
total_none (x ∷ xs) = omega (arith, total_none xs)

total_turned : {X Y : Type 0} (f : X → Y → ℕ) (xs : List X) (ys : List Y) → total (λ x. total (f x) ys) xs ≡ total (λ y. total (λ x. f x y) xs) ys
total_turned f [] ys = total_none ys
total_turned f (x ∷ xs) ys = ap (λ n. total (f x) ys + n) (total_turned f xs ys) ∙ sym (total_plus (f x) (λ y. total (λ x. f x y) xs) ys)

total_by : {X : Type 0} (f g : X → ℕ) → ((x : X) → f x ≡ g x) → (xs : List X) → total f xs ≡ total g xs
total_by f g h [] = refl
total_by f g h (x ∷ xs) = omega (arith, h x, total_by f g h xs)

flat_turned : (h : Solution → Solution → List Solution) (xs ys : List Solution) → SameBag (flat_map (λ x. flat_map (h x) ys) xs) (flat_map (λ y. flat_map (λ x. h x y) xs) ys)
flat_turned h xs ys =
    by_times _ _ (λ a.
    times-flat_map same_solution (λ x. flat_map (h x) ys) a xs
    ∙ (total_by (λ x. times same_solution a (flat_map (h x) ys)) (λ x. total (λ y. times same_solution a (h x y)) ys) (λ x. times-flat_map same_solution (h x) a ys) xs
    ∙ (total_turned (λ x y. times same_solution a (h x y)) xs ys
    ∙ sym (times-flat_map same_solution (λ y. flat_map (λ x. h x y) xs) a ys
    ∙ total_by (λ y. times same_solution a (flat_map (λ x. h x y) xs)) (λ y. total (λ x. times same_solution a (h x y)) xs) (λ y. times-flat_map same_solution (λ x. h x y) a xs) ys))))

join_turned : (xs ys : List Solution) → SameBag (join xs ys) (join ys xs)
join_turned xs ys =
    subst (λ (l : List Solution). SameBag l (join ys xs)) (sym (flat_ap (merges ys) (λ x. flat_map (pair x) ys) (merges_pairs ys) xs))
    (subst (λ (l : List Solution). SameBag (flat_map (λ x. flat_map (pair x) ys) xs) l)
    (flat_ap (λ y. flat_map (λ x. pair x y) xs) (merges xs) (λ y. flat_ap (λ x. pair x y) (pair y) (λ x. pair_turned x y) xs ∙ sym (merges_pairs xs y)) ys)
    (flat_turned pair xs ys))

-- merged with both, in either order
both_merged : (xs ys : List Solution) (m : Solution) → SameBag (flat_map (merges ys) (merges xs m)) (flat_map (merges xs) (merges ys m))
both_merged xs ys m =
    subst (λ (l : List Solution). SameBag l (flat_map (merges xs) (merges ys m))) (sym (merges_joined xs ys m))
    (subst (λ (l : List Solution). SameBag (merges (join xs ys) m) l) (sym (merges_joined ys xs m)) (merges_same (join xs ys) (join ys xs) m (join_turned xs ys)))

-- ---- two scans

pub flat_on : (P : Solution → Type 0) (f g : Made) → ((x : Solution) → P x → f x ≡ g x) → (xs : List Solution) → AllByRecursion P xs → flat_map f xs ≡ flat_map g xs
flat_on P f g h [] k = refl
flat_on P f g h (x ∷ xs) k = ap (λ l. l ++ flat_map f xs) (h x k.0) ∙ ap (λ l. g x ++ l) (flat_on P f g h xs k.1)

module _ (r : Option ℕ) (width : ℕ) (quads : List Statement) (active : Graph) where
  -- a scan after what leaves the register and the width
  pub scan_after : (t : Stage) (k : IsScan r t) (m : Solution) → width ≤ length m → (xs : List Solution) → AllByRecursion (Stays r m) xs → flat_map (gives width quads active t) xs ≡ flat_map (merges (k.rows width quads active (held r m) (length m))) xs
  scan_after t k m w xs h =
      flat_on (Stays r m) (gives width quads active t) (merges (k.rows width quads active (held r m) (length m)))
      (λ q a. k.gives_rows width quads active q (omega (arith, w, a.wide)) ∙ ap (λ o. merges (k.rows width quads active o (length q)) q) a.holds ∙ ap (λ n. merges (k.rows width quads active (held r m) n) q) a.wide)
      xs h

  two_turned : (s t : Stage) → IsScan r s → IsScan r t → (m : Solution) → width ≤ length m → SameBag (flat_map (gives width quads active t) (gives width quads active s m)) (flat_map (gives width quads active s) (gives width quads active t m))
  two_turned s t h k m w =
      let xs = h.rows width quads active (held r m) (length m) in
      let ys = k.rows width quads active (held r m) (length m) in
      subst (λ (l : List Solution). SameBag l (flat_map (gives width quads active s) (gives width quads active t m))) (sym (scan_after t k m w (gives width quads active s m) (h.stays width quads active m w) ∙ ap (flat_map (merges ys)) (h.gives_rows width quads active m w)))
      (subst (λ (l : List Solution). SameBag (flat_map (merges ys) (merges xs m)) l) (sym (scan_after s h m w (gives width quads active t m) (k.stays width quads active m w) ∙ ap (flat_map (merges xs)) (k.gives_rows width quads active m w))) (both_merged xs ys m))

-- ---- lists of stages

pub same_refl : (ss : List Stage) → SameStages ss ss
same_refl ss = record { same = λ width quads active m w. IsPermutation-refl (through width quads active ss m) }

pub same_trans : (ss ts us : List Stage) → SameStages ss ts → SameStages ts us → SameStages ss us
same_trans ss ts us a b = record { same = λ width quads active m w. IsPermutation-trans _ _ _ (a.same width quads active m w) (b.same width quads active m w) }

-- stages don't shorten a row
pub all_long : (width : ℕ) (quads : List Statement) (active : Graph) (ss : List Stage) (m : Solution) → width ≤ length m → AllByRecursion (λ q. width ≤ length q) (through width quads active ss m)
all_long width quads active ss m w = all_map (Onward m) (λ q. width ≤ length q) (λ q o. omega (arith, w, o.wide)) (through width quads active ss m) (stages_onward width quads active ss m)

-- equal bags from each
flat_bags : (P : Solution → Type 0) (f g : Made) → ((x : Solution) → P x → SameBag (f x) (g x)) → (xs : List Solution) → AllByRecursion P xs → SameBag (flat_map f xs) (flat_map g xs)
flat_bags P f g h [] k = IsPermutation-refl []
flat_bags P f g h (x ∷ xs) k = IsPermutation-append _ _ _ _ (h x k.0) (flat_bags P f g h xs k.1)

pub same_append : (ss ss' ts ts' : List Stage) → SameStages ss ss' → SameStages ts ts' → SameStages (ss ++ ts) (ss' ++ ts')
same_append ss ss' ts ts' a b = record {
  same = λ width quads active m w.
      subst (λ (l : List Solution). SameBag l (through width quads active (ss' ++ ts') m)) (sym (through_append width quads active ss ts m))
      (subst (λ (l : List Solution). SameBag (flat_map (through width quads active ts) (through width quads active ss m)) l) (sym (through_append width quads active ss' ts' m))
      (IsPermutation-trans _ _ _
      (flat_bags (λ q. width ≤ length q) (through width quads active ts) (through width quads active ts') (λ q k. b.same width quads active q k) (through width quads active ss m) (all_long width quads active ss m w))
      (flat_map_same (through width quads active ts') (through width quads active ts') (through width quads active ss m) (through width quads active ss' m) (a.same width quads active m w) (λ x. IsPermutation-refl (through width quads active ts' x)))));
}

pub same_cons : (s : Stage) (ss ts : List Stage) → SameStages ss ts → SameStages (s ∷ ss) (s ∷ ts)
same_cons s ss ts h = same_append (s ∷ []) (s ∷ []) ss ts (same_refl (s ∷ [])) h

swap_two : (r : Option ℕ) (s t : Stage) (rest : List Stage) → IsScan r s → IsScan r t → SameStages (s ∷ t ∷ rest) (t ∷ s ∷ rest)
swap_two r s t rest h k = record {
  same = λ width quads active m w.
      subst (λ (l : List Solution). SameBag l (through width quads active (t ∷ s ∷ rest) m)) (sym (flat_flat (gives width quads active t) (through width quads active rest) (gives width quads active s m)))
      (subst (λ (l : List Solution). SameBag (flat_map (through width quads active rest) (flat_map (gives width quads active t) (gives width quads active s m))) l)
      (sym (flat_flat (gives width quads active s) (through width quads active rest) (gives width quads active t m)))
      (flat_map_same (through width quads active rest) (through width quads active rest) _ _ (two_turned r width quads active s t h k m w) (λ x. IsPermutation-refl (through width quads active rest x))));
}

-- a scan is brought forward
brought : (r : Option ℕ) (ss : List Stage) (i : ℕ) (s : Stage) → i < length ss → s ≡ get_or ss i s → AllByRecursion (IsScan r) ss → SameStages (s ∷ remove ss i) ss
brought r [] i s lt is h = absurd (omega arith)
brought r (t ∷ ss) zero s lt is h = subst (λ (x : Stage). SameStages (s ∷ ss) (x ∷ ss)) is (same_refl (s ∷ ss))
brought r (t ∷ ss) (suc i) s lt is h =
    same_trans (s ∷ t ∷ remove ss i) (t ∷ s ∷ remove ss i) (t ∷ ss)
    (swap_two r s t (remove ss i) (scan_at ss i (omega arith) is h.1) h.0)
    (same_cons t (s ∷ remove ss i) ss (brought r ss i s (omega arith) is h.1))
  where
    scan_at : (ss : List Stage) (i : ℕ) → i < length ss → s ≡ get_or ss i s → AllByRecursion (IsScan r) ss → IsScan r s
    scan_at [] i lt is h = absurd (omega arith)
    scan_at (u ∷ ss) zero lt is h = subst (IsScan r) (sym is) h.0
    scan_at (u ∷ ss) (suc i) lt is h = scan_at ss i (omega arith) is h.1

pub scans_left : (r : Option ℕ) (ss : List Stage) (i : ℕ) → AllByRecursion (IsScan r) ss → AllByRecursion (IsScan r) (remove ss i)
scans_left r [] zero h = tt
scans_left r [] (suc i) h = tt
scans_left r (t ∷ ss) zero h = h.1
scans_left r (t ∷ ss) (suc i) h = (h.0, scans_left r ss i h.1)

-- one more of a run is put behind those that are done
pub one_brought : (r : Option ℕ) (done new before left rest : List Stage) (i : ℕ) (s : Stage) → i < length left → s ≡ get_or left i s → AllByRecursion (IsScan r) left → new ≡ done ++ s ∷ [] → rest ≡ remove left i → SameStages (done ++ left) before → SameStages (new ++ rest) before
one_brought r done new before left rest i s lt is h e f a =
    subst (λ (l : List Stage). SameStages (l ++ rest) before) (sym e)
    (subst (λ (l : List Stage). SameStages ((done ++ s ∷ []) ++ l) before) (sym f)
    (subst (λ (l : List Stage). SameStages l before) (sym (append_assoc done (s ∷ []) (remove left i)))
    (same_trans _ _ _ (same_append done done (s ∷ remove left i) left (same_refl done) (brought r left i s lt is h)) a)))

-- ---- which stages are scans

pub stays_refl : (r : Option ℕ) (m : Solution) → Stays r m m
stays_refl r m = record { wide = refl; holds = refl }

pub stays_trans : (r : Option ℕ) (m q p : Solution) → Stays r m q → Stays r q p → Stays r m p
stays_trans r m q p a b = record { wide = b.wide ∙ a.wide; holds = b.holds ∙ a.holds }

set_stays : (r : Option ℕ) (s : Slot) (t : Term) (m q : Solution) → Misses r s → SetBy s t m q → Stays r m q
set_stays r (slot.Term c) t m q w e = record { wide = ap length e; holds = ap (held r) e }
set_stays r (slot.Variable v) t m q w (inl e) = record { wide = ap length e; holds = ap (held r) e }
set_stays None (slot.Variable v) t m q w (inr e) = record { wide = ap length e.is ∙ length-set m v (Some t); holds = refl }
set_stays (Some r) (slot.Variable v) t m q w (inr e) = record { wide = ap length e.is ∙ length-set m v (Some t); holds = ap (λ l. term_at l r) e.is ∙ get_or-set_other m v r (Some t) None (λ k. w (sym k)) }

pub triple_stays : (r : Option ℕ) (p : TriplePattern) (t : Triple) (m q : Solution) → Misses r p.subject → Misses r p.predicate → Misses r p.object → bound_triple p t m ≡ Some q → Stays r m q
triple_stays r p t m q a b c h = at (bound_slot p.subject t.subject m) refl h
  where
    last : (x : Solution) → Stays r m x → (o : Option Solution) → bound_slot p.predicate t.predicate x ≡ o → then_bound o (λ y. bound_slot p.object t.object y) ≡ Some q → Stays r m q
    last x s None e k = let n : None ≡ Some q = k in cc
    last x s (Some y) e k =
        stays_trans r m y q (stays_trans r m x y s (set_stays r p.predicate t.predicate x y b (slot_sets p.predicate t.predicate x y e))) (set_stays r p.object t.object y q c (slot_sets p.object t.object y q k))

    at : (o : Option Solution) → bound_slot p.subject t.subject m ≡ o → then_bound o (λ x. then_bound (bound_slot p.predicate t.predicate x) (λ y. bound_slot p.object t.object y)) ≡ Some q → Stays r m q
    at None e k = let n : None ≡ Some q = k in cc
    at (Some x) e k = last x (set_stays r p.subject t.subject m x a (slot_sets p.subject t.subject m x e)) (bound_slot p.predicate t.predicate x) refl k

pub ends_stay : (r : Option ℕ) (p : PathPattern) (e : Pair) (m q : Solution) → Misses r p.subject → Misses r p.object → bound_ends p e m ≡ Some q → Stays r m q
ends_stay r p e m q a c h = at (bound_end p.subject e.left m) refl h
  where
    at : (o : Option Solution) → bound_end p.subject e.left m ≡ o → then_bound o (λ x. bound_end p.object e.right x) ≡ Some q → Stays r m q
    at None f k = let n : None ≡ Some q = k in cc
    at (Some x) f k = stays_trans r m x q (set_stays r p.subject e.left m x a (end_sets p.subject e.left m x f)) (set_stays r p.object e.right x q c (end_sets p.object e.right x q k))

-- the graph by what the register holds
abbrev seen_by : List Statement → Graph → Look → Option Term → Graph
seen_by quads active look.Active o = active
seen_by quads active (look.Named name) o = graph_of quads (Some name)
seen_by quads active (look.Register r) o = graph_named quads o

looked_by : (quads : List Statement) (active : Graph) (place : Look) (m : Solution) → looked quads active place m ≡ seen_by quads active place (held (register_of place) m)
looked_by quads active look.Active m = refl
looked_by quads active (look.Named name) m = refl
looked_by quads active (look.Register r) m = refl

pub triple_scan : (r : Option ℕ) (place : Look) (p : TriplePattern) → register_of place ≡ r → Misses r p.subject → Misses r p.predicate → Misses r p.object → IsScan r (stage.Triple place p)
triple_scan r place p e a b c = record {
  rows = λ width quads active o n. extensions p (seen_by quads active place o) (unbound n);
  gives_rows = λ width quads active m w.
      gives_triple width quads active m place p
      ∙ (ap (λ g. extensions p g m) (looked_by quads active place m ∙ ap (λ x. seen_by quads active place (held x m)) e)
      ∙ by_merges (extensions p (seen_by quads active place (held r m))) (triple_even p (seen_by quads active place (held r m))) m);
  stays = λ width quads active m w.
      subst (AllByRecursion (Stays r m)) (sym (gives_triple width quads active m place p))
      (scanned_each (Stays r m) (λ t. bound_triple p t m) (λ t q k. triple_stays r p t m q a b c k) (looked quads active place m));
}

pub path_scan : (r : Option ℕ) (place : Look) (p : PathPattern) → register_of place ≡ r → Misses r p.subject → Misses r p.object → IsScan r (stage.Path place p)
path_scan r place p e a c = record {
  rows = λ width quads active o n. path_extensions p (seen_by quads active place o) (unbound n);
  gives_rows = λ width quads active m w.
      gives_path width quads active m place p
      ∙ (ap (λ g. path_extensions p g m) (looked_by quads active place m ∙ ap (λ x. seen_by quads active place (held x m)) e)
      ∙ by_merges (path_extensions p (seen_by quads active place (held r m))) (path_even p (seen_by quads active place (held r m))) m);
  stays = λ width quads active m w.
      subst (AllByRecursion (Stays r m)) (sym (gives_path width quads active m place p))
      (scanned_each (Stays r m) (λ x. bound_ends p x m) (λ x q k. ends_stay r p x m q a c k) (path_pairs p (looked quads active place m)));
}

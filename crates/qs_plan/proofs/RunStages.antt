-- The stages of a basic graph pattern.
use Rattle.std.proofs.Common.{◌≡◌, ◌≢◌, ◌⊎◌, inl, inr, ℕ, zero, suc, ◌+◌, ◌≤◌, ◌<◌, Bool, true, List, [], ◌∷◌, ◌++◌, map, take, length, get_or, Option, Some, None, slice_set, refl, sym, ◌∙◌, ap, subst, arith, append-nil, append_assoc}
use Rattle.std.specs.List.{AllByRecursion, flat_map}
use Rattle.std.proofs.lemmas.List.{map-append, get_or-set_other, get_or-take, set_past, length-set, take_more}
use Rattle.qs_terms.specs.Bag.{Distinct, SameBag}
use Rattle.qs_terms.specs.Dataset.{Triple, same_triple}
use Rattle.qs_terms.specs.Statement.{Statement, same_statement}
use Rattle.qs_terms.specs.declared.term.Term.{Term}
use Rattle.qs_paths_meaning.specs.Pair.{Pair}
use Rattle.qs_algebra_patterns.specs.declared.pattern.Slot.{Slot}
use Rattle.qs_algebra_patterns.specs.declared.pattern.Slot.TheVariants as slot
use Rattle.qs_algebra_patterns.specs.declared.pattern.TriplePattern.{TriplePattern}
use Rattle.qs_algebra_patterns.specs.declared.pattern.PathPattern.{PathPattern}
use Rattle.qs_algebra_patterns.specs.declared.pattern.BasicPattern.{BasicPattern}
use Rattle.qs_algebra_patterns.specs.declared.pattern.PatternNode.TheVariants.{Basic}
use Rattle.qs_algebra_patterns.specs.Basic.{Graph, basic}
use Rattle.qs_algebra_patterns.proofs.Meaning.{eval_basic}
use Rattle.qs_algebra_solutions.specs.Solution.{Solution, term_at}
use Rattle.qs_algebra_solutions.specs.Operators.{merges}
use Rattle.qs_plan_meaning.specs.declared.stage.Look.{Look}
use Rattle.qs_plan_meaning.specs.declared.stage.Look.TheVariants as look
use Rattle.qs_plan_meaning.specs.declared.stage.Stage.{Stage}
use Rattle.qs_plan_meaning.specs.declared.stage.Stage.TheVariants as stage
use Rattle.qs_plan_meaning.specs.inner.Scans.{bound_slot, bound_end, then_bound, bound_triple, bound_ends, path_pairs, extensions, path_extensions}
use Rattle.qs_plan_meaning.specs.inner.Stages.{Made, looked, graph_named, register_of, along, gives, through}
use Rattle.qs_plan.specs.inner.Below.{all_below}
use Rattle.qs_plan.specs.inner.Joins.{Ended, Free, IsRun, Joined, JoinedAll, Stands, Under}
use Rattle.qs_plan.specs.inner.Numbers.{past, number, slot_of, triple_of, other_end, path_of, triple_stages}
use Rattle.qs_plan.specs.inner.Lays.{Ready, After, Within, Lays, joined_with}
use Rattle.qs_plan.proofs.Below.{AllBelow, all_fit}
use Rattle.qs_plan.proofs.GraphLaws.{graph_distinct}
use Rattle.qs_plan.proofs.Commutes.{SetBy, slot_sets, end_sets, scanned_each}
use Rattle.qs_plan.proofs.Joining.{all_same}
use Rattle.qs_plan.proofs.Levels.{gives_triple, along_append, through_append}
use Rattle.qs_plan.proofs.Local.{Where, stands, far, cells_from, Fits, local, length_local, take_local, local_free, extensions_local, path_local}
use Rattle.qs_plan.proofs.Runs.{run_of, run_joins}
use Rattle.qs_plan.proofs.Widths.{all_append, all_flat}

-- ---- where is looked

-- rows that hold the same in the register look in the same graph
pub looked_same : (width from : ℕ) (quads : List Statement) (active : Graph) (place : Look) (m r : Solution) → Within width from place → ((v : ℕ) → width ≤ v → v < from → term_at r v ≡ term_at m v)
    → looked quads active place r ≡ looked quads active place m
looked_same width from quads active look.Active m r w h = refl
looked_same width from quads active (look.Named name) m r w h = refl
looked_same width from quads active (look.Register v) m r w h = ap (graph_named quads) (h v w.0 w.1)

pub looked_distinct : (quads : List Statement) (active : Graph) (place : Look) (m : Solution) → Distinct same_statement quads → Distinct same_triple active → Distinct same_triple (looked quads active place m)
looked_distinct quads active look.Active m d e = e
looked_distinct quads active (look.Named name) m d e = graph_distinct (Some name) quads d
looked_distinct quads active (look.Register v) m d e = at (term_at m v)
  where
    at : (o : Option Term) → Distinct same_triple (graph_named quads o)
    at None = tt
    at (Some name) = graph_distinct (Some name) quads d

pub after_refl : (width from next : ℕ) (m : Solution) → ((v : ℕ) → next ≤ v → term_at m v ≡ None) → After width from next m m
after_refl width from next m free = record { wide = refl; free = free; kept = λ v h k. refl }

-- ---- one after another

-- what makes of a row what `k` makes of the cells that the pattern sees, and leaves the others
module _ (Good : Solution → Type 0) (seen : Solution → Solution) where
  pub record Sees (h k : Made) : Type 0 where
    pub same : (r : Solution) → Good r → map seen (h r) ≡ k (seen r)
    pub good : (r : Solution) → Good r → AllByRecursion Good (h r)

  abbrev pub AllSee : List Made → List Made → Type 0
  AllSee [] [] = Unit {0}
  AllSee [] (k ∷ ks) = ⊥
  AllSee (h ∷ hs) [] = ⊥
  AllSee (h ∷ hs) (k ∷ ks) = Sees h k × AllSee hs ks

  pub see_append : (hs ks hs' ks' : List Made) → AllSee hs ks → AllSee hs' ks' → AllSee (hs ++ hs') (ks ++ ks')
  see_append [] [] hs' ks' a b = b
  see_append [] (k ∷ ks) hs' ks' a b = absurd a
  see_append (h ∷ hs) [] hs' ks' a b = absurd a
  see_append (h ∷ hs) (k ∷ ks) hs' ks' a b = (a.0, see_append hs ks hs' ks' a.1 b)

  flat_seen : (h k : Made) → ((r : Solution) → Good r → map seen (h r) ≡ k (seen r)) → (xs : List Solution) → AllByRecursion Good xs → map seen (flat_map h xs) ≡ flat_map k (map seen xs)
  flat_seen h k e [] g = refl
  flat_seen h k e (x ∷ xs) g = map-append seen (h x) (flat_map h xs) ∙ (ap (λ l. l ++ map seen (flat_map h xs)) (e x g.0) ∙ ap (λ l. k (seen x) ++ l) (flat_seen h k e xs g.1))

  flat_good : (h : Made) → ((r : Solution) → Good r → AllByRecursion Good (h r)) → (xs : List Solution) → AllByRecursion Good xs → AllByRecursion Good (flat_map h xs)
  flat_good h f [] g = tt
  flat_good h f (x ∷ xs) g = all_append Good (h x) (flat_map h xs) (f x g.0) (flat_good h f xs g.1)

  pub along_sees : (hs ks : List Made) → AllSee hs ks → Sees (along hs) (along ks)
  along_sees [] [] a = record { same = λ r g. refl; good = λ r g. (g, tt) }
  along_sees [] (k ∷ ks) a = absurd a
  along_sees (h ∷ hs) [] a = absurd a
  along_sees (h ∷ hs) (k ∷ ks) a =
      let b : Sees (along hs) (along ks) = along_sees hs ks a.1 in
      record {
        same = λ r g. flat_seen (along hs) (along ks) b.same (h r) (a.0.good r g) ∙ ap (flat_map (along ks)) (a.0.same r g);
        good = λ r g. flat_good (along hs) b.good (h r) (a.0.good r g);
      }

-- ---- the stages of triples and paths

module _ (width hidden from next : ℕ) (named : width ≤ from) (up : from + hidden ≤ next) (m : Solution) (wide : from + hidden ≤ length m) (short : length m < past) where
  abbrev From : Solution → Type 0
  From r = After width from next m r

  fits_of : (r : Solution) → From r → Fits width hidden from r
  fits_of r g = record { named = named; wide = omega (arith, g.wide, wide); short = omega (arith, g.wide, short) }

  set_from : (none v : ℕ) (t : Option Term) (r : Solution) → past ≤ none → From r → Where width hidden from none v → From (slice_set r (number width hidden from none v) t)
  set_from none v t r le g w = record {
    wide = length-set r (number width hidden from none v) t ∙ g.wide;
    free = λ u h. other u w (inr h) ∙ g.free u h;
    kept = λ u h k. other u w (inl (h, k)) ∙ g.kept u h k;
  }
    where
      other : (u : ℕ) → Where width hidden from none v → ((width ≤ u) × (u < from)) ⊎ (next ≤ u) → term_at (slice_set r (number width hidden from none v) t) u ≡ term_at r u
      other u (Where.Named a e) h = get_or-set_other r (number width hidden from none v) u t None (at h)
        where
          at : ((width ≤ u) × (u < from)) ⊎ (next ≤ u) → u ≢ number width hidden from none v
          at (inl p) q = absurd (omega (arith, p.0, a, e, q))
          at (inr p) q = absurd (omega (arith, p, a, e, q, named, up))
      other u (Where.Hidden a c e) h = get_or-set_other r (number width hidden from none v) u t None (at h)
        where
          at : ((width ≤ u) × (u < from)) ⊎ (next ≤ u) → u ≢ number width hidden from none v
          at (inl p) q = absurd (omega (arith, p.1, a, c, e, q))
          at (inr p) q = absurd (omega (arith, p, a, c, e, q, up))
      other u (Where.Past a e) h = ap (λ l. term_at l u) (set_past r (number width hidden from none v) t (omega (arith, e, le, short, g.wide)))

  sets_from : (none : ℕ) (s : Slot) (t : Term) (r q : Solution) → past ≤ none → From r → SetBy (slot_of width hidden from none s) t r q → From q
  sets_from none (slot.Term c) t r q le g e = subst From (sym e) g
  sets_from none (slot.Variable v) t r q le g (inl e) = subst From (sym e) g
  sets_from none (slot.Variable v) t r q le g (inr e) = subst From (sym e.is) (set_from none v (Some t) r le g (stands width hidden from none v))

  triple_from : (p : TriplePattern) (t : Triple) (r q : Solution) → From r → bound_triple (triple_of width hidden from p) t r ≡ Some q → From q
  triple_from p t r q g h = at (bound_slot (slot_of width hidden from past p.subject) t.subject r) refl h
    where
      last : (a : Solution) → From a → (o : Option Solution) → bound_slot (slot_of width hidden from past p.predicate) t.predicate a ≡ o → then_bound o (λ b. bound_slot (slot_of width hidden from past p.object) t.object b) ≡ Some q → From q
      last a f None e k = let n : None ≡ Some q = k in cc
      last a f (Some b) e k =
          sets_from past p.object t.object b q (omega arith) (sets_from past p.predicate t.predicate a b (omega arith) f (slot_sets (slot_of width hidden from past p.predicate) t.predicate a b e))
          (slot_sets (slot_of width hidden from past p.object) t.object b q k)

      at : (o : Option Solution) → bound_slot (slot_of width hidden from past p.subject) t.subject r ≡ o
          → then_bound o (λ a. then_bound (bound_slot (slot_of width hidden from past p.predicate) t.predicate a) (λ b. bound_slot (slot_of width hidden from past p.object) t.object b)) ≡ Some q → From q
      at None e k = let n : None ≡ Some q = k in cc
      at (Some a) e k = last a (sets_from past p.subject t.subject r a (omega arith) g (slot_sets (slot_of width hidden from past p.subject) t.subject r a e)) (bound_slot (slot_of width hidden from past p.predicate) t.predicate a) refl k

  ends_from : (p : PathPattern) (e : Pair) (far : past ≤ other_end p.subject p.object) (r q : Solution) → From r → bound_ends (path_of width hidden from p) e r ≡ Some q → From q
  ends_from p e far r q g h = at (bound_end (slot_of width hidden from past p.subject) e.left r) refl h
    where
      at : (o : Option Solution) → bound_end (slot_of width hidden from past p.subject) e.left r ≡ o → then_bound o (λ a. bound_end (slot_of width hidden from (other_end p.subject p.object) p.object) e.right a) ≡ Some q → From q
      at None f k = let n : None ≡ Some q = k in cc
      at (Some a) f k =
          sets_from (other_end p.subject p.object) p.object e.right a q far (sets_from past p.subject e.left r a (omega arith) g (end_sets (slot_of width hidden from past p.subject) e.left r a f))
          (end_sets (slot_of width hidden from (other_end p.subject p.object) p.object) e.right a q k)

  module _ (quads : List Statement) (active : Graph) (place : Look) (within : Within width from place) where
    abbrev Seen : Made → Made → Type 0
    Seen = Sees From (local width hidden from)

    triple_sees : (p : TriplePattern) → Seen (gives width quads active (stage.Triple place (triple_of width hidden from p))) (extensions p (looked quads active place m))
    triple_sees p = record {
      same = λ r g.
          ap (map (local width hidden from)) (gives_triple width quads active r place (triple_of width hidden from p) ∙ ap (λ l. extensions (triple_of width hidden from p) l r) (looked_same width from quads active place m r within g.kept))
          ∙ extensions_local width hidden from p (looked quads active place m) r (fits_of r g);
      good = λ r g.
          subst (AllByRecursion From) (sym (gives_triple width quads active r place (triple_of width hidden from p)))
          (scanned_each From (λ t. bound_triple (triple_of width hidden from p) t r) (λ t q e. triple_from p t r q g e) (looked quads active place r));
    }

    pub triples_see : (triples : List TriplePattern) → AllSee From (local width hidden from) (map (gives width quads active) (triple_stages width hidden from place triples)) (map (λ p. extensions p (looked quads active place m)) triples)
    triples_see [] = tt
    triples_see (p ∷ triples) = (triple_sees p, triples_see triples)

-- ---- the stages of paths, which are joined

pub under_within : (width from n : ℕ) (place : Look) → from ≤ n → Within width from place → Under n (register_of place)
under_within width from n look.Active le w = tt
under_within width from n (look.Named name) le w = tt
under_within width from n (look.Register r) le w = omega (arith, le, w.1)

-- the ends of a path of the pattern stand below its other hidden variables, or past all rows
pub slot_stands : (width hidden from n none : ℕ) (s : Slot) → width ≤ from → from + hidden ≤ n → past ≤ none → Stands n (slot_of width hidden from none s)
slot_stands width hidden from n none (slot.Term t) named up le = tt
slot_stands width hidden from n none (slot.Variable v) named up le = at (stands width hidden from none v)
  where
    at : Where width hidden from none v → Stands n (slot.Variable (number width hidden from none v))
    at (Where.Named a e) = inl (omega (arith, a, e, named, up))
    at (Where.Hidden a c e) = inl (omega (arith, a, c, e, up))
    at (Where.Past a e) = inr (omega (arith, e, le))

pub left_stands : (width hidden from n : ℕ) (p : PathPattern) → width ≤ from → from + hidden ≤ n → Stands n (path_of width hidden from p).subject
left_stands width hidden from n p named up = slot_stands width hidden from n past p.subject named up (omega arith)

pub right_stands : (width hidden from n : ℕ) (p : PathPattern) → width ≤ from → from + hidden ≤ n → Stands n (path_of width hidden from p).object
right_stands width hidden from n p named up = slot_stands width hidden from n (other_end p.subject p.object) p.object named up (far width hidden from p.subject p.object)

-- one path more
pub one_joined_more : (place : Look) (n next end : ℕ) (ss ts : List Stage) (ps : List PathPattern) (p : PathPattern) → JoinedAll place n next ss ps → Joined place next end ts p → JoinedAll place n end (ss ++ ts) (ps ++ p ∷ [])
one_joined_more place n next end ss ts [] p h j = record {
  mid = end;
  first = ts;
  rest = [];
  is = ap (λ l. l ++ ts) h.0 ∙ sym (append-nil ts);
  joined = subst (λ (k : ℕ). Joined place k end ts p) h.1 j;
  others = (refl, refl);
}
one_joined_more place n next end ss ts (q ∷ ps) p h j = record {
  mid = h.mid;
  first = h.first;
  rest = h.rest ++ ts;
  is = ap (λ l. l ++ ts) h.is ∙ append_assoc h.first h.rest ts;
  joined = h.joined;
  others = one_joined_more place h.mid next end h.rest ts ps p h.others j;
}

pub paths_more : (width hidden from : ℕ) (place : Look) (n next end : ℕ) (ss ts new : List Stage) (paths : List PathPattern) (i : ℕ) (p : PathPattern) → i < length paths → p ≡ get_or paths i p → new ≡ ss ++ ts
    → JoinedAll place n next ss (map (path_of width hidden from) (take i paths)) → Joined place next end ts (path_of width hidden from p)
    → JoinedAll place n end new (map (path_of width hidden from) (take (i + 1) paths))
paths_more width hidden from place n next end ss ts new paths i p lt is e h j =
    let taken : take (i + 1) paths ≡ take i paths ++ p ∷ [] = take_more paths i p lt ∙ ap (λ x. take i paths ++ x ∷ []) (sym is) in
    subst (λ (l : List Stage). JoinedAll place n end l (map (path_of width hidden from) (take (i + 1) paths))) (sym e)
    (subst (λ (l : List PathPattern). JoinedAll place n end (ss ++ ts) l) (sym (ap (map (path_of width hidden from)) taken ∙ map-append (path_of width hidden from) (take i paths) (p ∷ [])))
    (one_joined_more place n next end ss ts (map (path_of width hidden from) (take i paths)) (path_of width hidden from p) h j))

paths_up : (place : Look) (n k : ℕ) (ss : List Stage) (ps : List PathPattern) → JoinedAll place n k ss ps → n ≤ k
paths_up place n k ss [] h = omega (arith, h.1)
paths_up place n k ss (p ∷ ps) h = let u : h.mid ≤ k = paths_up place h.mid k h.rest ps h.others in omega (arith, u, h.joined.up)

-- the cells that the pattern sees stand before those of other hidden variables
local_take : (width hidden from n : ℕ) → width ≤ from → from + hidden ≤ n → (r : Solution) → local width hidden from (take n r) ≡ local width hidden from r
local_take width hidden from n named up r = cells_same (λ v. term_at (take n r) (number width hidden from past v)) (λ v. term_at r (number width hidden from past v)) (width + hidden) same
  where
    cells_same : (f g : ℕ → Option Term) (k : ℕ) → ((v : ℕ) → v < k → f v ≡ g v) → cells_from f 0 k ≡ cells_from g 0 k
    cells_same f g k h = each 0 k (λ v a b. h v (omega (arith, b)))
      where
        each : (v j : ℕ) → ((u : ℕ) → v ≤ u → u < v + j → f u ≡ g u) → cells_from f v j ≡ cells_from g v j
        each v zero h = refl
        each v (suc j) h = ap (λ x. x ∷ cells_from f (v + 1) j) (h v (omega arith) (omega arith)) ∙ ap (λ l. g v ∷ l) (each (v + 1) j (λ u a b. h u (omega (arith, a)) (omega (arith, b))))

    same : (v : ℕ) → v < width + hidden → term_at (take n r) (number width hidden from past v) ≡ term_at r (number width hidden from past v)
    same v lt = at (stands width hidden from past v)
      where
        at : Where width hidden from past v → term_at (take n r) (number width hidden from past v) ≡ term_at r (number width hidden from past v)
        at (Where.Named a e) = get_or-take n r (number width hidden from past v) None (omega (arith, a, e, named, up))
        at (Where.Hidden a c e) = get_or-take n r (number width hidden from past v) None (omega (arith, a, c, e, up))
        at (Where.Past a e) = absurd (omega (arith, a, lt))

map_local : (width hidden from n : ℕ) → width ≤ from → from + hidden ≤ n → (rs : List Solution) → map (local width hidden from) (map (take n) rs) ≡ map (local width hidden from) rs
map_local width hidden from n named up [] = refl
map_local width hidden from n named up (r ∷ rs) = ap (λ x. x ∷ map (local width hidden from) (map (take n) rs)) (local_take width hidden from n named up r) ∙ ap (λ l. local width hidden from r ∷ l) (map_local width hidden from n named up rs)

module _ (width hidden from : ℕ) (named : width ≤ from) (m : Solution) (short : length m < past) (quads : List Statement) (active : Graph) (place : Look) (within : Within width from place) where
  -- stages that begin where no cell from `n` on is bound, and bind below `k` alone
  pub record Shows (n k : ℕ) (h made : Made) : Type 0 where
    pub same : (r : Solution) → After width from n m r → map (local width hidden from) (h r) ≡ made (local width hidden from r)
    pub good : (r : Solution) → After width from n m r → AllByRecursion (After width from k m) (h r)

  shows_then : (n k e : ℕ) (f g f' g' : Made) → Shows n k f g → Shows k e f' g' → Shows n e (λ r. flat_map f' (f r)) (λ r. flat_map g' (g r))
  shows_then n k e f g f' g' a b = record {
    same = λ r h. flat_seen (After width from k m) (local width hidden from) f' g' b.same (f r) (a.good r h) ∙ ap (flat_map g') (a.same r h);
    good = λ r h. all_flat (After width from k m) (After width from e m) f' b.good (f r) (a.good r h);
  }

  module _ (n k : ℕ) (up : from + hidden ≤ n) (wide : k ≤ length m) (p : PathPattern) (ss : List Stage) (j : Joined place n k ss (path_of width hidden from p)) where
    abbrev rows_of_path : Solution → List Solution
    rows_of_path r = path_extensions (path_of width hidden from p) (looked quads active place m) r

    free_of : (r : Solution) → After width from n m r → Free n k r
    free_of r a = record { wide = omega (arith, wide, a.wide); short = omega (arith, short, a.wide); free = a.free }

    taken : (r : Solution) → After width from n m r → map (take n) (through width quads active ss r) ≡ map (take n) (rows_of_path r)
    taken r a = j.rows width quads active r (free_of r a) ∙ ap (λ g. map (take n) (path_extensions (path_of width hidden from p) g r)) (looked_same width from quads active place m r within a.kept)

    cut : from + hidden ≤ length m
    cut = omega (arith, up, wide, j.up)

    path_shown : (r : Solution) → After width from n m r → map (local width hidden from) (through width quads active ss r) ≡ path_extensions p (looked quads active place m) (local width hidden from r)
    path_shown r a =
        sym (map_local width hidden from n named up (through width quads active ss r))
        ∙ (ap (map (local width hidden from)) (taken r a)
        ∙ (map_local width hidden from n named up (rows_of_path r)
        ∙ path_local width hidden from p (looked quads active place m) r (fits_of width hidden from n named up m cut short r a)))

    abbrev Kept : Solution → Type 0
    Kept q = (v : ℕ) → width ≤ v → v < from → term_at q v ≡ term_at m v

    kept_of : (r : Solution) → After width from n m r → AllByRecursion Kept (through width quads active ss r)
    kept_of r a =
        back (through width quads active ss r)
        (all_same Kept (take n) (through width quads active ss r) (rows_of_path r) (taken r a)
        (forth (rows_of_path r)
        (scanned_each (After width from n m) (λ e. bound_ends (path_of width hidden from p) e r) (λ e q g. ends_from width hidden from n named up m cut short p e (far width hidden from p.subject p.object) r q a g)
        (path_pairs (path_of width hidden from p) (looked quads active place m)))))
      where
        low : (v : ℕ) → v < from → v < n
        low v lt = omega (arith, lt, up)

        forth : (qs : List Solution) → AllByRecursion (After width from n m) qs → AllByRecursion (λ q. Kept (take n q)) qs
        forth [] h = tt
        forth (q ∷ qs) h = (λ v x y. get_or-take n q v None (low v y) ∙ h.0.kept v x y, forth qs h.1)

        back : (qs : List Solution) → AllByRecursion (λ q. Kept (take n q)) qs → AllByRecursion Kept qs
        back [] h = tt
        back (q ∷ qs) h = (λ v x y. sym (get_or-take n q v None (low v y)) ∙ h.0 v x y, back qs h.1)

    path_good : (r : Solution) → After width from n m r → AllByRecursion (After width from k m) (through width quads active ss r)
    path_good r a = both (through width quads active ss r) (j.ended width quads active r (free_of r a)) (kept_of r a)
      where
        both : (qs : List Solution) → AllByRecursion (Ended k r) qs → AllByRecursion Kept qs → AllByRecursion (After width from k m) qs
        both [] e h = tt
        both (q ∷ qs) e h = (record { wide = e.0.wide ∙ a.wide; free = e.0.free; kept = h.0 }, both qs e.1 h.1)

    path_shows : Shows n k (through width quads active ss) (path_extensions p (looked quads active place m))
    path_shows = record { same = path_shown; good = path_good }

  paths_show : (n k : ℕ) (ss : List Stage) (paths : List PathPattern) → from + hidden ≤ n → k ≤ length m → JoinedAll place n k ss (map (path_of width hidden from) paths)
      → Shows n k (through width quads active ss) (along (map (λ p. path_extensions p (looked quads active place m)) paths))
  paths_show n k ss [] up wide h =
      subst (λ (x : List Stage). Shows n k (through width quads active x) (along [])) (sym h.0)
      (subst (λ (x : ℕ). Shows n x (through width quads active []) (along [])) (sym h.1)
      (record { same = λ r a. refl; good = λ r a. (a, tt) }))
  paths_show n k ss (p ∷ paths) up wide h =
      let u : h.mid ≤ k = paths_up place h.mid k h.rest (map (path_of width hidden from) paths) h.others in
      let w : n ≤ h.mid = h.joined.up in
      let graph = looked quads active place m in
      let both : Shows n k (λ r. flat_map (through width quads active h.rest) (through width quads active h.first r)) (along (map (λ p. path_extensions p graph) (p ∷ paths))) =
      shows_then n h.mid k (through width quads active h.first) (path_extensions p graph) (through width quads active h.rest) (along (map (λ p. path_extensions p graph) paths))
      (path_shows n h.mid up (omega (arith, u, wide)) p h.first h.joined)
      (paths_show h.mid k h.rest paths (omega (arith, up, w)) wide h.others) in
      let apart : (r : Solution) → through width quads active ss r ≡ flat_map (through width quads active h.rest) (through width quads active h.first r) =
      λ r. ap (λ x. through width quads active x r) h.is ∙ through_append width quads active h.first h.rest r in
      record {
        same = λ r a. ap (map (local width hidden from)) (apart r) ∙ both.same r a;
        good = λ r a. subst (AllByRecursion (After width from k m)) (sym (apart r)) (both.good r a);
      }

  triples_show : (triples : List TriplePattern) → from + hidden ≤ length m
      → Shows (from + hidden) (from + hidden) (through width quads active (triple_stages width hidden from place triples)) (along (map (λ p. extensions p (looked quads active place m)) triples))
  triples_show triples wide =
      let cut = from + hidden in
      let s = along_sees (After width from cut m) (local width hidden from) _ _ (triples_see width hidden from cut named (omega arith) m wide short quads active place within triples) in
      record { same = s.same; good = s.good }

  run_shows : (next : ℕ) (triples : List TriplePattern) (paths : List PathPattern) (ss : List Stage) → next ≤ length m → JoinedAll place (from + hidden) next ss (map (path_of width hidden from) paths)
      → Shows (from + hidden) next (through width quads active (triple_stages width hidden from place triples ++ ss)) (along (run_of (looked quads active place m) triples paths))
  run_shows next triples paths ss wide j =
      let cut = from + hidden in
      let graph = looked quads active place m in
      let up : cut ≤ next = paths_up place cut next ss (map (path_of width hidden from) paths) j in
      let ts = map (λ (p : TriplePattern). extensions p graph) triples in
      let ps = map (λ (p : PathPattern). path_extensions p graph) paths in
      let both : Shows cut next (λ r. flat_map (through width quads active ss) (through width quads active (triple_stages width hidden from place triples) r)) (λ r. flat_map (along ps) (along ts r)) =
      shows_then cut cut next _ _ _ _ (triples_show triples (omega (arith, up, wide))) (paths_show cut next ss paths (omega arith) wide j) in
      record {
        same = λ r a.
            ap (map (local width hidden from)) (through_append width quads active (triple_stages width hidden from place triples) ss r)
            ∙ (both.same r a ∙ sym (along_append ts ps (local width hidden from r)));
        good = λ r a. subst (AllByRecursion (After width from next m)) (sym (through_append width quads active (triple_stages width hidden from place triples) ss r)) (both.good r a);
      }

-- ---- the law

map_map : {X Y Z : Type 0} (f : X → Y) (g : Y → Z) (xs : List X) → map g (map f xs) ≡ map (λ x. g (f x)) xs
map_map f g [] = refl
map_map f g (x ∷ xs) = ap (λ l. g (f x) ∷ l) (map_map f g xs)

same_on : (P : Solution → Type 0) (f g : Solution → Solution) → ((r : Solution) → P r → f r ≡ g r) → (xs : List Solution) → AllByRecursion P xs → map f xs ≡ map g xs
same_on P f g h [] k = refl
same_on P f g h (x ∷ xs) k = ap (λ y. y ∷ map f xs) (h x k.0) ∙ ap (λ l. g x ∷ l) (same_on P f g h xs k.1)

module _ (width from next : ℕ) (place : Look) (pattern : BasicPattern) (paths : List Stage) (joined : JoinedAll place (from + pattern.hidden) next paths (map (path_of width pattern.hidden from) pattern.paths)) where
  abbrev stages_of : List Stage
  stages_of = triple_stages width pattern.hidden from place pattern.triples ++ paths

  run_up : width ≤ from → Within width from place → from + pattern.hidden ≤ next
  run_up named within = paths_up place (from + pattern.hidden) next paths (map (path_of width pattern.hidden from) pattern.paths) joined

  run_after : (first : Bool) → width ≤ from → Within width from place → (quads : List Statement) (active : Graph) (m : Solution) → Ready width first from next m → AllByRecursion (After width from next m) (through width quads active stages_of m)
  run_after first named within quads active m r =
      (run_shows width pattern.hidden from named m r.short quads active place within next pattern.triples pattern.paths paths r.wide joined).good m
      (after_refl width from (from + pattern.hidden) m (λ v h. r.free v (omega (arith, h))))

  run_bag : (first : Bool) → width ≤ from → Within width from place → AllBelow (width + pattern.hidden) pattern.triples → (quads : List Statement) (active : Graph) → Distinct same_statement quads → Distinct same_triple active → (m : Solution)
      → Ready width first from next m → SameBag (map (take width) (through width quads active stages_of m)) (merges (basic width pattern (looked quads active place m)) (take width m))
  run_bag first named within below quads active d e m r =
      let hidden = pattern.hidden in
      let seen = local width hidden from in
      let graph = looked quads active place m in
      let f = along (run_of graph pattern.triples pattern.paths) in
      let wide : from + hidden ≤ length m = omega (arith, r.wide, run_up named within) in
      let start : After width from (from + hidden) m m = after_refl width from (from + hidden) m (λ v h. r.free v (omega (arith, h))) in
      let s = run_shows width hidden from named m r.short quads active place within next pattern.triples pattern.paths paths r.wide joined in
      let fit : Fits width hidden from m = record { named = named; wide = wide; short = r.short } in
      let rows : map (take width) (through width quads active stages_of m) ≡ map (take width) (f (seen m)) =
      same_on (After width from next m) (take width) (λ x. take width (seen x))
      (λ x g. sym (take_local width hidden from x (record { named = named; wide = omega (arith, wide, g.wide); short = omega (arith, r.short, g.wide) }))) (through width quads active stages_of m) (s.good m start)
      ∙ (sym (map_map seen (take width) (through width quads active stages_of m)) ∙ ap (map (take width)) (s.same m start)) in
      subst (λ (l : List Solution). SameBag l (merges (basic width pattern graph) (take width m))) (sym rows)
      (subst (λ (a : Solution). SameBag (map (take width) (f (seen m))) (merges (basic width pattern graph) a)) (take_local width hidden from m fit)
      (run_joins width graph pattern (seen m) (looked_distinct quads active place m d e) below (length_local width hidden from m) (local_free width hidden from m fit r.free)))

  run_lays_paths : (first : Bool) → width ≤ from → Within width from place → all_below (width + pattern.hidden) pattern.triples ≡ true → Lays first width place from next stages_of (joined_with width (Basic pattern))
  run_lays_paths first named within below = record {
    named = named;
    up = let u : from + pattern.hidden ≤ next = run_up named within in omega (arith, u);
    bag = λ quads active d k m r. subst (λ (l : List Solution). SameBag (map (take width) (through width quads active stages_of m)) (merges l (take width m))) (sym (eval_basic width quads (looked quads active place m) pattern))
        (run_bag first named within (all_fit (width + pattern.hidden) pattern.triples below) quads active d k m r);
    after = λ quads active m r. run_after first named within quads active m r;
  }

-- the run is laid
pub run_lays : (width from next : ℕ) (place : Look) (pattern : BasicPattern) (first : Bool) (stages : List Stage) → width ≤ from → Within width from place → all_below (width + pattern.hidden) pattern.triples ≡ true
    → IsRun width from next place pattern stages → Lays first width place from next stages (joined_with width (Basic pattern))
run_lays width from next place pattern first stages named within below r =
    subst (λ (ss : List Stage). Lays first width place from next ss (joined_with width (Basic pattern))) (sym r.is)
    (run_lays_paths width from next place pattern r.paths r.joined first named within below)

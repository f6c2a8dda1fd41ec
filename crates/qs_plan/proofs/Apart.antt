-- A part of a run evaluated by itself makes what it makes in line.
use Rattle.std.proofs.Common.{◌≡◌, ◌≢◌, ℕ, zero, suc, ◌+◌, ◌-◌, ◌<◌, ◌≤◌, Bool, true, false, ◌&&◌, cond, List, [], ◌∷◌, ◌++◌, map, take, drop, length, get_or, Option, Some, None, refl, sym, ◌∙◌, ap, subst, arith}
use Rattle.std.specs.List.{AllByRecursion, flat_map}
use Rattle.qs_terms.specs.Bag.{SameBag}
use Rattle.qs_terms.specs.Statement.{Statement}
use Rattle.qs_terms.specs.declared.term.Term.{Term}
use Rattle.qs_terms.proofs.SameTerm.{same_term-Decides}
use Rattle.qs_algebra_solutions.specs.Solution.{Solution, term_at, unbound, compatible_terms, compatible, merge}
use Rattle.qs_algebra_solutions.specs.inner.Solution.{first_bound}
use Rattle.qs_algebra_solutions.specs.Operators.{merges}
use Rattle.qs_algebra_patterns.specs.Basic.{Graph}
use Rattle.qs_algebra_patterns.specs.declared.pattern.Slot.{Slot}
use Rattle.qs_algebra_patterns.specs.declared.pattern.Slot.TheVariants as slot
use Rattle.qs_algebra_patterns.specs.declared.pattern.TriplePattern.{TriplePattern}
use Rattle.qs_plan_meaning.specs.declared.stage.Look.{Look}
use Rattle.qs_plan_meaning.specs.declared.stage.Stage.{Stage}
use Rattle.qs_plan_meaning.specs.declared.stage.Stage.TheVariants as stage
use Rattle.qs_plan_meaning.specs.inner.Stages.{aside, fed_rows, gives, register_of, through}
use Rattle.qs_plan.specs.declared.certain.Size.{Size}
use Rattle.qs_plan.specs.inner.Certain.{Begun, SameFrom}
use Rattle.qs_plan.specs.inner.Parts.{IsFedAlike, IsNamed, IsPart}
use Rattle.qs_plan.specs.inner.Reads.{Leaves}
use Rattle.qs_plan.specs.inner.Sames.{Misses, Stays, IsScan, held}
use Rattle.qs_plan.proofs.Commutes.{all_map, flat_flat, merges_joined}
use Rattle.qs_plan.proofs.Entering.{placed_more}
use Rattle.qs_plan.proofs.Laying.{same}
use Rattle.qs_plan.proofs.Leaving.{triple_leaves}
use Rattle.qs_plan.proofs.Levels.{gives_apart, map_flat, through_one}
use Rattle.qs_plan.proofs.Moving.{from_refl}
use Rattle.qs_plan.proofs.Sames.{triple_is_scan}
use Rattle.qs_plan.proofs.Swaps.{both_true, pair, merges_pairs}
use Rattle.qs_plan.proofs.Unions.{along_gives, along_stays, nil_merge, nil_right, rows_along}
use Rattle.qs_plan.proofs.Widths.{all_flat, length_unbound, none_right, first_none, unbound_at, unbound_compatible, unbound_merge}

-- ---- triples of named variables

named_misses : (width v : ℕ) → width ≤ v → (s : Slot) → IsNamed width s → Misses (Some v) s
named_misses width v le (slot.Term t) h = tt
named_misses width v le (slot.Variable w) h = λ e. absurd (omega (arith, le, h, e))

pub triple_is_part : (width : ℕ) (s : Stage) (place : Look) (p : TriplePattern) → s ≡ stage.Triple place p → register_of place ≡ None → IsNamed width p.subject × (IsNamed width p.predicate × IsNamed width p.object) → IsPart width s
triple_is_part width s place p is none h = record {
  scan = triple_is_scan None s place p is none (tt, (tt, tt));
  leaves = λ v le. triple_leaves v s place p is (named_misses width v le p.subject h.0, (named_misses width v le p.predicate h.1.0, named_misses width v le p.object h.1.1));
}

-- ---- solutions that bind no cell from `w` on, without these cells

abbrev Short : ℕ → Solution → Type 0
Short w x = (v : ℕ) → w ≤ v → term_at x v ≡ None

short_compatible : (w : ℕ) (a x : Solution) → Short w x → compatible a (take w x) ≡ compatible a x
short_compatible w [] x h = refl
short_compatible zero (c ∷ a) [] h = refl
short_compatible (suc w) (c ∷ a) [] h = refl
short_compatible zero (c ∷ a) (y ∷ x) h =
    let e : y ≡ None = h zero (omega arith) in
    let k : compatible a x ≡ true = sym (short_compatible zero a x (λ v l. h (suc v) (omega arith))) ∙ nil_right a in
    rw (e, none_right c) (sym k)
short_compatible (suc w) (c ∷ a) (y ∷ x) h = ap (λ b. compatible_terms c y && b) (short_compatible w a x (λ v l. h (suc v) (omega (arith, l))))

short_merge : (w : ℕ) (a x : Solution) → length x ≤ length a → Short w x → merge a (take w x) ≡ merge a x
short_merge w [] [] l h = at w
  where
    at : (w : ℕ) → merge [] (take w []) ≡ merge [] []
    at zero = refl
    at (suc w) = refl
short_merge w [] (y ∷ x) l h = absurd (omega (arith, l))
short_merge zero (c ∷ a) [] l h = refl
short_merge (suc w) (c ∷ a) [] l h = refl
short_merge zero (c ∷ a) (y ∷ x) l h =
    let e : y ≡ None = h zero (omega arith) in
    let k : merge a x ≡ a = sym (short_merge zero a x (omega (arith, l)) (λ v m. h (suc v) (omega arith))) ∙ nil_merge a in
    sym (ap (λ z. first_bound c z ∷ merge a x) e ∙ (ap (λ z. z ∷ merge a x) (first_none c) ∙ ap (λ q. c ∷ q) k))
short_merge (suc w) (c ∷ a) (y ∷ x) l h = ap (λ q. first_bound c y ∷ q) (short_merge w a x (omega (arith, l)) (λ v m. h (suc v) (omega (arith, m))))

abbrev Within : ℕ → ℕ → Solution → Type 0
Within w n x = (length x ≡ n) × Short w x

short_pair : (w : ℕ) (m x : Solution) → Within w (length m) x → pair m (take w x) ≡ pair m x
short_pair w m x h =
    ap (λ c. cond c (merge m (take w x) ∷ []) []) (short_compatible w m x h.1)
    ∙ ap (λ q. cond (compatible m x) (q ∷ []) []) (short_merge w m x (omega (arith, h.0)) h.1)

short_merges : (w : ℕ) (m : Solution) (xs : List Solution) → AllByRecursion (Within w (length m)) xs → merges (map (take w) xs) m ≡ merges xs m
short_merges w m xs h = merges_pairs (map (take w) xs) m ∙ (each xs h ∙ sym (merges_pairs xs m))
  where
    each : (xs : List Solution) → AllByRecursion (Within w (length m)) xs → flat_map (pair m) (map (take w) xs) ≡ flat_map (pair m) xs
    each [] h = refl
    each (x ∷ xs) h = ap (λ l. l ++ flat_map (pair m) (map (take w) xs)) (short_pair w m x h.0) ∙ ap (λ l. pair m x ++ l) (each xs h.1)

-- ---- merged with rows that were merged with what binds nothing

begun_merges : (rows : List Solution) (m : Solution) → merges (merges rows (unbound (length m))) m ≡ merges rows m
begun_merges rows m =
    ap (λ l. merges l m) (sym (nil (merges rows (unbound (length m)))))
    ∙ (sym (merges_joined (unbound (length m) ∷ []) rows m)
    ∙ (ap (flat_map (merges rows)) one ∙ nil (merges rows m)))
  where
    nil : (xs : List Solution) → xs ++ [] ≡ xs
    nil [] = refl
    nil (x ∷ xs) = ap (λ l. x ∷ l) (nil xs)

    one : merges (unbound (length m) ∷ []) m ≡ m ∷ []
    one = let c : compatible m (unbound (length m)) ≡ true = unbound_compatible (length m) m in simp c (ap (λ q. q ∷ []) (unbound_merge m))

-- ---- the cells that a part leaves

module _ (width : ℕ) (quads : List Statement) (active : Graph) where
  abbrev Still : ℕ → Solution → Solution → Type 0
  Still v m q = term_at q v ≡ term_at m v

  all_still : (v : ℕ) (ss : List Stage) → AllByRecursion (Leaves v) ss → (m : Solution) → AllByRecursion (Still v m) (through width quads active ss m)
  all_still v [] h m = (refl, tt)
  all_still v (s ∷ ss) h m =
      all_flat (Still v m) (Still v m) (through width quads active ss)
      (λ q e. all_map (Still v q) (Still v m) (λ p d. d ∙ e) (through width quads active ss q) (all_still v ss h.1 q))
      (gives width quads active s m) (h.0.same width quads active m)

  all_short : (n : ℕ) (ss : List Stage) → AllByRecursion (IsPart width) ss → AllByRecursion (Short width) (through width quads active ss (unbound n))
  all_short n ss h =
      turned (through width quads active ss (unbound n))
      (λ v le. all_map (Still v (unbound n)) (λ x. term_at x v ≡ None) (λ x e. e ∙ unbound_at n v) (through width quads active ss (unbound n))
      (all_still v ss (all_map (IsPart width) (Leaves v) (λ s k. k.leaves v le) ss h) (unbound n)))
    where
      turned : (xs : List Solution) → ((v : ℕ) → width ≤ v → AllByRecursion (λ x. term_at x v ≡ None) xs) → AllByRecursion (Short width) xs
      turned [] k = tt
      turned (x ∷ xs) k = (λ v le. (k v le).0, turned xs (λ v le. (k v le).1))

  all_within : (n : ℕ) → width ≤ n → (ss : List Stage) → AllByRecursion (IsPart width) ss → AllByRecursion (Within width n) (through width quads active ss (unbound n))
  all_within n w ss h =
      both (through width quads active ss (unbound n))
      (all_map (Stays None (unbound n)) (λ x. length x ≡ n) (λ x s. s.wide ∙ length_unbound n) (through width quads active ss (unbound n))
      (along_stays None width quads active ss (all_map (IsPart width) (IsScan None) (λ s k. k.scan) ss h) (unbound n) (omega (arith, w, length_unbound n))))
      (all_short n ss h)
    where
      both : (xs : List Solution) → AllByRecursion (λ x. length x ≡ n) xs → AllByRecursion (Short width) xs → AllByRecursion (Within width n) xs
      both [] a b = tt
      both (x ∷ xs) a b = ((a.0, b.0), both xs a.1 b.1)

  part_gives : (ss : List Stage) → AllByRecursion (IsPart width) ss → (m : Solution) → width ≤ length m → merges (aside width None (through width quads active ss) m) m ≡ through width quads active ss m
  part_gives ss h m w =
      let scans : AllByRecursion (IsScan None) ss = all_map (IsPart width) (IsScan None) (λ s k. k.scan) ss h in
      let rows = rows_along None ss scans width quads active None (length m) in
      let n = length m in
      short_merges width m (through width quads active ss (unbound n)) (all_within n w ss h)
      ∙ (ap (λ l. merges l m)
      (along_gives None width quads active ss scans (unbound n) (omega (arith, w, length_unbound n))
      ∙ ap (λ k. merges (rows_along None ss scans width quads active None k) (unbound n)) (length_unbound n))
      ∙ (begun_merges rows m ∙ sym (along_gives None width quads active ss scans m w)))

-- ---- a part that is fed the row

-- what a merge binds it binds once more
again_compatible : (w : ℕ) (m x : Solution) → length x ≡ length m → compatible m x ≡ true → compatible m (take w (merge m x)) ≡ true
again_compatible w [] x l h = refl
again_compatible w (c ∷ m) [] l h = absurd (omega (arith, l))
again_compatible zero (c ∷ m) (y ∷ x) l h = refl
again_compatible (suc w) (c ∷ m) (y ∷ x) l h =
    let k = both_true (compatible_terms c y) (compatible m x) h in
    rw (self c y) (again_compatible w m x (omega (arith, l)) k.1)
  where
    self : (c y : Option Term) → compatible_terms c (first_bound c y) ≡ true
    self None y = refl
    self (Some t) y = (same_term-Decides t t).1 refl

again_merge : (w : ℕ) (m x : Solution) → length x ≡ length m → Short w x → merge m (take w (merge m x)) ≡ merge m x
again_merge w [] [] l h = at w
  where
    at : (w : ℕ) → merge [] (take w (merge [] [])) ≡ merge [] []
    at zero = refl
    at (suc w) = refl
again_merge w [] (y ∷ x) l h = absurd (omega (arith, l))
again_merge w (c ∷ m) [] l h = absurd (omega (arith, l))
again_merge zero (c ∷ m) (y ∷ x) l h =
    let e : y ≡ None = h zero (omega arith) in
    let k : merge m x ≡ m = sym (again_merge zero m x (omega (arith, l)) (λ v a. h (suc v) (omega arith))) ∙ nil_merge m in
    sym (ap (λ z. first_bound c z ∷ merge m x) e ∙ (ap (λ z. z ∷ merge m x) (first_none c) ∙ ap (λ q. c ∷ q) k))
again_merge (suc w) (c ∷ m) (y ∷ x) l h = ap (λ z. z ∷ merge m (take w (merge m x))) (twice c y) ∙ ap (λ q. first_bound c y ∷ q) (again_merge w m x (omega (arith, l)) (λ v a. h (suc v) (omega (arith, a))))
  where
    twice : (c y : Option Term) → first_bound c (first_bound c y) ≡ first_bound c y
    twice None y = refl
    twice (Some t) y = refl

again_pair : (w : ℕ) (m x : Solution) → Within w (length m) x → flat_map (pair m) (map (take w) (pair m x)) ≡ pair m x
again_pair w m x h = at (compatible m x) refl
  where
    at : (b : Bool) → compatible m x ≡ b → flat_map (pair m) (map (take w) (pair m x)) ≡ pair m x
    at true e =
        let k : compatible m (take w (merge m x)) ≡ true = again_compatible w m x h.0 e in
        simp (e, k) (ap (λ q. q ∷ []) (again_merge w m x h.0 h.1))
    at false e = simp e refl

again_merges : (w : ℕ) (m : Solution) (xs : List Solution) → AllByRecursion (Within w (length m)) xs → merges (map (take w) (merges xs m)) m ≡ merges xs m
again_merges w m xs h =
    merges_pairs (map (take w) (merges xs m)) m
    ∙ (ap (λ l. flat_map (pair m) (map (take w) l)) (merges_pairs xs m)
    ∙ (ap (flat_map (pair m)) (map_flat (take w) (pair m) xs)
    ∙ (sym (flat_flat (λ x. map (take w) (pair m x)) (pair m) xs)
    ∙ (each xs h ∙ sym (merges_pairs xs m)))))
  where
    each : (xs : List Solution) → AllByRecursion (Within w (length m)) xs → flat_map (λ x. flat_map (pair m) (map (take w) (pair m x))) xs ≡ flat_map (pair m) xs
    each [] h = refl
    each (x ∷ xs) h = ap (λ l. l ++ flat_map (λ x. flat_map (pair m) (map (take w) (pair m x))) xs) (again_pair w m x h.0) ∙ ap (λ l. pair m x ++ l) (each xs h.1)

module _ (width : ℕ) (quads : List Statement) (active : Graph) where
  part_merged : (ss : List Stage) → AllByRecursion (IsPart width) ss → (m : Solution) → width ≤ length m → through width quads active ss m ≡ merges (through width quads active ss (unbound (length m))) m
  part_merged ss h m w =
      sym (part_gives width quads active ss h m w) ∙ short_merges width m (through width quads active ss (unbound (length m))) (all_within width quads active (length m) w ss h)

  part_fed : (ss : List Stage) → AllByRecursion (IsPart width) ss → (m : Solution) → width ≤ length m → merges (fed_rows width (through width quads active ss) m) m ≡ through width quads active ss m
  part_fed ss h m w =
      ap (λ l. merges (map (take width) l) m) (part_merged ss h m w)
      ∙ (again_merges width m (through width quads active ss (unbound (length m))) (all_within width quads active (length m) w ss h)
      ∙ sym (part_merged ss h m w))

-- the rows that a part makes of a row it makes by itself
pub parts_alike : (width : ℕ) (ss : List Stage) → AllByRecursion (IsPart width) ss → IsFedAlike width ss
parts_alike width ss h = record { same = λ quads active m w. part_gives width quads active ss h m w ∙ sym (part_fed width quads active ss h m w) }

-- ---- a part among stages

pub part_apart : (size : Size) (ss : List Stage) → size.width ≤ size.cells → AllByRecursion (IsPart size.width) ss → SameFrom size [] (stage.Apart None (record { stages = ss }) ∷ []) ss
part_apart size ss le h = record {
  same = λ quads active m b.
      same _ _
      (through_one size.width quads active (stage.Apart None (record { stages = ss })) m
      ∙ (gives_apart size.width quads active m None (record { stages = ss })
      ∙ part_gives size.width quads active ss h m (omega (arith, le, b.wide))));
}

-- a stage that may be a part, as a group of its own
pub by_itself_arm : (size : Size) (s one : Stage) → size.width ≤ size.cells → IsPart size.width s → one ≡ stage.Apart None (record { stages = s ∷ [] }) → SameFrom size [] (one ∷ []) (s ∷ [])
by_itself_arm size s one le h is = subst (λ (x : Stage). SameFrom size [] (x ∷ []) (s ∷ [])) (sym is) (part_apart size (s ∷ []) le (h, tt))

-- one stage more is done
pub parted_more : (size : Size) (done new stages : List Stage) (i : ℕ) (s one : Stage) → i < length stages → s ≡ get_or stages i s → SameFrom size [] done (take i stages) → SameFrom size [] (one ∷ []) (s ∷ []) → new ≡ done ++ one ∷ [] → SameFrom size [] new (take (i + 1) stages)
parted_more size done new stages i s one lt is a b n = placed_more size done new stages i s one lt is a b (subst (λ (l : List Stage). SameFrom size [] new l) n (from_refl size [] new))

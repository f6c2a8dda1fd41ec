-- All filters of a group go to their places in one pass over the stages.
use Rattle.std.proofs.Common.{not, ⊎_elim, ◌≡◌, ◌⊎◌, inl, inr, ℕ, zero, suc, ◌+◌, ◌≤◌, ◌<◌, ◌==◌, Bool, true, false, ◌&&◌, ◌||◌, cond, if◌then◌else◌, List, [], ◌∷◌, ◌++◌, map, take, drop, length, get_or, Option, refl, sym, ◌∙◌, ap, subst, arith, append-nil, append_assoc}
use Rattle.std.specs.List.{AllByRecursion, filter, flat_map, list_any, list_all}
use Rattle.std.proofs.lemmas.Bool.{cases_lt}
use Rattle.std.proofs.lemmas.Bool.Decides.{nat_tests}
use Rattle.std.proofs.lemmas.List.{take_more, take_all, drop_all, at_drop_more, map-append}
use Rattle.std.proofs.lemmas.List.Elements.{filter-append}
use Rattle.std.proofs.lemmas.List.Folds.{list_all-append}
use Rattle.std.proofs.lemmas.List.Sorted.{list_any-IsPermutation}
use Rattle.qs_terms.specs.Bag.{SameBag}
use Rattle.qs_terms.specs.Statement.{Statement}
use Rattle.qs_expr_meaning.specs.declared.expr.Expr.{Expr}
use Rattle.qs_expr_meaning.specs.declared.expr.Expr.TheVariants.{And}
use Rattle.qs_expr_meaning.specs.Meaning.{holds}
use Rattle.qs_algebra_solutions.specs.Solution.{Solution}
use Rattle.qs_algebra_patterns.specs.Basic.{Graph}
use Rattle.qs_plan.specs.declared.certain.Size.{Size}
use Rattle.qs_plan.specs.declared.filters.Going.{Going}
use Rattle.qs_plan_meaning.specs.declared.stage.Group.{Group}
use Rattle.qs_plan_meaning.specs.declared.stage.Stage.{Stage}
use Rattle.qs_plan_meaning.specs.declared.stage.Stage.TheVariants as stage
use Rattle.qs_plan_meaning.specs.inner.Stages.{kept_if, through}
use Rattle.qs_plan.specs.inner.Certain.{Alike, Begun, Binds, Steady, SameFrom}
use Rattle.qs_plan.specs.inner.Places.{Firm, FirmAt, Inside, SameFilters, Thin, placed_at}
use Rattle.qs_plan.specs.inner.Reads.{Agree, Settles}
use Rattle.qs_plan.proofs.Commutes.{all_map}
use Rattle.qs_plan.proofs.Entering.{apart_filtered, apart_placed, filters_give, holds_each}
use Rattle.qs_plan.proofs.Getting.{binds_on, same_number}
use Rattle.qs_plan.proofs.Laying.{same}
use Rattle.qs_plan.proofs.Levels.{through_append}
use Rattle.qs_plan.proofs.Moving.{agree_each, all_both, all_later, from_refl, from_trans, from_before, from_after, holds_alike}
use Rattle.qs_plan.proofs.Swaps.{flat_on}
use Rattle.qs_plan.proofs.Widths.{all_append}

-- ---- truths

both_true : (b c : Bool) → b ≡ true → c ≡ true → (b && c) ≡ true
both_true true c h k = k
both_true false c h k = h

left_true : (b c : Bool) → (b && c) ≡ true → b ≡ true
left_true true c h = refl
left_true false c h = h

right_true : (b c : Bool) → (b && c) ≡ true → c ≡ true
right_true true c h = h
right_true false c h = let f : false ≡ true = h in cc

abbrev eqb : Bool → Bool → Bool
eqb true c = c
eqb false c = not c

eqb_same : (b c : Bool) → b ≡ c → eqb b c ≡ true
eqb_same true true h = refl
eqb_same false false h = refl
eqb_same true false h = sym h
eqb_same false true h = h

same_eqb : (b c : Bool) → eqb b c ≡ true → b ≡ c
same_eqb true true h = refl
same_eqb false false h = refl
same_eqb true false h = sym h
same_eqb false true h = h

module _ {X : Type 0} where
  all_true : (p : X → Bool) (xs : List X) → AllByRecursion (λ x. p x ≡ true) xs → list_all p xs ≡ true
  all_true p [] h = refl
  all_true p (x ∷ xs) h = both_true (p x) (list_all p xs) h.0 (all_true p xs h.1)

  true_all : (p : X → Bool) (xs : List X) → list_all p xs ≡ true → AllByRecursion (λ x. p x ≡ true) xs
  true_all p [] h = tt
  true_all p (x ∷ xs) h = (left_true (p x) (list_all p xs) h, true_all p xs (right_true (p x) (list_all p xs) h))

  all_more_true : (p q : X → Bool) → ((x : X) → p x ≡ true → q x ≡ true) → (xs : List X) → list_all p xs ≡ true → list_all q xs ≡ true
  all_more_true p q f xs h = all_true q xs (all_map (λ x. p x ≡ true) (λ x. q x ≡ true) f xs (true_all p xs h))

  not_any : (p : X → Bool) (xs : List X) → list_all p xs ≡ not (list_any (λ x. not (p x)) xs)
  not_any p [] = refl
  not_any p (x ∷ xs) = at (p x) (not_any p xs)
    where
      at : (b : Bool) → list_all p xs ≡ not (list_any (λ y. not (p y)) xs) → (b && list_all p xs) ≡ not (not b || list_any (λ y. not (p y)) xs)
      at true h = h
      at false h = refl

  all_flat_map : {Y : Type 0} (p : X → Bool) (f : Y → List X) (ys : List Y) → list_all p (flat_map f ys) ≡ list_all (λ y. list_all p (f y)) ys
  all_flat_map p f [] = refl
  all_flat_map p f (y ∷ ys) = list_all-append p (f y) (flat_map f ys) ∙ ap (λ b. list_all p (f y) && b) (all_flat_map p f ys)

all_permuted : {K : Type 0} (p : K → Bool) (xs ys : List K) → SameBag xs ys → list_all p xs ≡ list_all p ys
all_permuted p xs ys h = not_any p xs ∙ (ap not (list_any-IsPermutation (λ x. not (p x)) xs ys h) ∙ sym (not_any p ys))

-- ---- conditions

pub filters_refl : (es fs : List Expr) → es ≡ fs → SameFilters es fs
filters_refl es fs e = record { same = λ m. ap (list_all (holds m)) e }

pub filters_trans : (es fs gs : List Expr) → SameFilters es fs → SameFilters fs gs → SameFilters es gs
filters_trans es fs gs h k = record { same = λ m. h.same m ∙ k.same m }

pub filters_before : (es fs gs : List Expr) → SameFilters es fs → SameFilters (es ++ gs) (fs ++ gs)
filters_before es fs gs h = record {
  same = λ m. list_all-append (holds m) es gs ∙ (ap (λ b. b && list_all (holds m) gs) (h.same m) ∙ sym (list_all-append (holds m) fs gs));
}

and_turned : (b c : Bool) → (b && c) ≡ (c && b)
and_turned true true = refl
and_turned true false = refl
and_turned false true = refl
and_turned false false = refl

and_joined : (b c d : Bool) → ((b && c) && d) ≡ (b && (c && d))
and_joined true c d = refl
and_joined false c d = refl

-- one more after the first part
filters_between : (es fs : List Expr) (e : Expr) → SameFilters ((es ++ e ∷ []) ++ fs) ((es ++ fs) ++ e ∷ [])
filters_between es fs e = record {
  same = λ m.
      let p = holds m in
      list_all-append p (es ++ e ∷ []) fs
      ∙ (ap (λ b. b && list_all p fs) (list_all-append p es (e ∷ []))
      ∙ (and_joined (list_all p es) (list_all p (e ∷ [])) (list_all p fs)
      ∙ (ap (λ b. list_all p es && b) (and_turned (list_all p (e ∷ [])) (list_all p fs))
      ∙ (sym (and_joined (list_all p es) (list_all p fs) (list_all p (e ∷ [])))
      ∙ (ap (λ b. b && list_all p (e ∷ [])) (sym (list_all-append p es fs)) ∙ sym (list_all-append p (es ++ fs) (e ∷ [])))))));
}

-- the parts of a conjunction in its place
pub filters_and : (es : List Expr) → SameFilters es (And es ∷ [])
filters_and es = record { same = λ m. sym (holds_each m es) ∙ one (holds m (And es)) }
  where
    one : (b : Bool) → b ≡ (b && true)
    one true = refl
    one false = refl

filters_after : (es fs gs : List Expr) → SameFilters fs gs → SameFilters (es ++ fs) (es ++ gs)
filters_after es fs gs h = record {
  same = λ m. list_all-append (holds m) es fs ∙ (ap (λ b. list_all (holds m) es && b) (h.same m) ∙ sym (list_all-append (holds m) es gs));
}

pub parts_put : (waiting new es slice : List Expr) (part : Expr) → part ≡ And es → slice ≡ es → SameFilters new (waiting ++ slice) → SameFilters new (waiting ++ part ∷ [])
parts_put waiting new es slice part is s h =
    filters_trans new (waiting ++ slice) (waiting ++ part ∷ []) h
    (filters_after waiting slice (part ∷ []) (subst (λ (l : List Expr). SameFilters l (part ∷ [])) (sym s) (subst (λ (x : Expr). SameFilters es (x ∷ [])) (sym is) (filters_and es))))

pub part_more : (parts : List Expr) (i : ℕ) (part : Expr) (first waiting new : List Expr) → i < length parts → part ≡ get_or parts i part → SameFilters waiting (first ++ take i parts) → SameFilters new (waiting ++ part ∷ []) → SameFilters new (first ++ take (i + 1) parts)
part_more parts i part first waiting new lt is h k =
    subst (SameFilters new) (append_assoc first (take i parts) (part ∷ []) ∙ ap (λ l. first ++ l) (sym (take_more parts i part lt ∙ ap (λ x. take i parts ++ x ∷ []) (sym is))))
    (filters_trans new (waiting ++ part ∷ []) ((first ++ take i parts) ++ part ∷ []) k (filters_before waiting (first ++ take i parts) (part ∷ []) h))

-- one condition more, in the group or after it
pub inside_more : (conditions : List Expr) (i : ℕ) (e : Expr) (inside after : List Expr) → i < length conditions → e ≡ get_or conditions i e → SameFilters (inside ++ after) (take i conditions) → SameFilters ((inside ++ e ∷ []) ++ after) (take (i + 1) conditions)
inside_more conditions i e inside after lt is h =
    subst (SameFilters ((inside ++ e ∷ []) ++ after)) (sym (take_more conditions i e lt ∙ ap (λ x. take i conditions ++ x ∷ []) (sym is)))
    (filters_trans ((inside ++ e ∷ []) ++ after) ((inside ++ after) ++ e ∷ []) (take i conditions ++ e ∷ []) (filters_between inside after e) (filters_before (inside ++ after) (take i conditions) (e ∷ []) h))

pub after_more : (conditions : List Expr) (i : ℕ) (e : Expr) (inside after : List Expr) → i < length conditions → e ≡ get_or conditions i e → SameFilters (inside ++ after) (take i conditions) → SameFilters (inside ++ (after ++ e ∷ [])) (take (i + 1) conditions)
after_more conditions i e inside after lt is h =
    subst (SameFilters (inside ++ (after ++ e ∷ []))) (sym (take_more conditions i e lt ∙ ap (λ x. take i conditions ++ x ∷ []) (sym is)))
    (subst (λ (l : List Expr). SameFilters l (take i conditions ++ e ∷ [])) (append_assoc inside after (e ∷ [])) (filters_before (inside ++ after) (take i conditions) (e ∷ []) h))

-- ---- the places of conditions

abbrev pub reaches : ℕ → ℕ → Bool
reaches zero p = true
reaches (suc n) zero = false
reaches (suc n) (suc p) = reaches n p

-- the conditions that go to the place or further
abbrev pub from_place : ℕ → List Going → List Expr
from_place n all = map (λ g. g.condition) (filter (λ (g : Going). reaches n g.place) all)

reaches_self : (n : ℕ) → reaches n n ≡ true
reaches_self zero = refl
reaches_self (suc n) = reaches_self n

reaches_past : (n : ℕ) → reaches (suc n) n ≡ false
reaches_past zero = refl
reaches_past (suc n) = reaches_past n

reaches_other : (n p : ℕ) → (p < n) ⊎ (n < p) → reaches n p ≡ reaches (suc n) p
reaches_other zero zero h = absurd (⊎_elim (λ k. omega (arith, k)) (λ k. omega (arith, k)) h)
reaches_other zero (suc p) h = refl
reaches_other (suc n) zero h = refl
reaches_other (suc n) (suc p) h = reaches_other n p (⊎_elim (λ k. inl (omega (arith, k))) (λ k. inr (omega (arith, k))) h)

self_true : (n : ℕ) → (n == n) ≡ true
self_true n = grind (arith, nat_tests)

apart : (n p : ℕ) → (p == n) ≡ false → (p < n) ⊎ (n < p)
apart n p h = ⊎_elim (λ k. inl k) (λ k. inr (other k)) (cases_lt p n)
  where
    other : n ≤ p → n < p
    other k = ⊎_elim (λ l. l) (λ l. absurd (omega (arith, ap {B = ℕ} (λ b. cond b 1 0) (sym h ∙ (ap (λ x. x == n) (same l) ∙ self_true n))))) (cases_lt n p)
      where
        same : p ≤ n → p ≡ n
        same l = omega (arith, k, l)

reach_next : (n p : ℕ) (b : Bool) → (p == n) ≡ b → reaches n p ≡ cond b true (reaches (suc n) p)
reach_next n p true h = subst (λ x. reaches n x ≡ true) (sym (same_number p n h)) (reaches_self n)
reach_next n p false h = reaches_other n p (apart n p h)

not_next : (n p : ℕ) → (p == n) ≡ true → reaches (suc n) p ≡ false
not_next n p h = subst (λ x. reaches (suc n) x ≡ false) (sym (same_number p n h)) (reaches_past n)

-- those that go to the place, and those that go further
pub from_parted : (n : ℕ) (all : List Going) → SameFilters (placed_at n all ++ from_place (suc n) all) (from_place n all)
from_parted n [] = record { same = λ m. refl }
from_parted n (g ∷ all) = record { same = λ m. at m (g.place == n) (reaches (suc n) g.place) (reaches n g.place) (reach_next n g.place (g.place == n) refl) (not_next n g.place) ((from_parted n all).same m) }
  where
    at : (m : Solution) (b c d : Bool) → d ≡ cond b true c → (b ≡ true → c ≡ false) → list_all (holds m) (placed_at n all ++ from_place (suc n) all) ≡ list_all (holds m) (from_place n all)
        → list_all (holds m) (map (λ (g : Going). g.condition) (cond b (g ∷ filter (λ (g : Going). g.place == n) all) (filter (λ (g : Going). g.place == n) all)) ++ map (λ (g : Going). g.condition) (cond c (g ∷ filter (λ (g : Going). reaches (suc n) g.place) all) (filter (λ (g : Going). reaches (suc n) g.place) all)))
        ≡ list_all (holds m) (map (λ (g : Going). g.condition) (cond d (g ∷ filter (λ (g : Going). reaches n g.place) all) (filter (λ (g : Going). reaches n g.place) all)))
    at m true true d e f h = absurd (omega (arith, ap {B = ℕ} (λ b. cond b 1 0) (f refl)))
    at m true false true e f h = ap (λ b. holds m g.condition && b) h
    at m true false false e f h = absurd (omega (arith, ap {B = ℕ} (λ b. cond b 1 0) e))
    at m false true true e f h =
        list_all-append (holds m) (placed_at n all) (g.condition ∷ from_place (suc n) all)
        ∙ (swap (list_all (holds m) (placed_at n all)) (holds m g.condition) (list_all (holds m) (from_place (suc n) all)) ∙ ap (λ b. holds m g.condition && b) (sym (list_all-append (holds m) (placed_at n all) (from_place (suc n) all)) ∙ h))
      where
        swap : (b c d : Bool) → (b && (c && d)) ≡ (c && (b && d))
        swap true c d = refl
        swap false true d = refl
        swap false false d = refl
    at m false true false e f h = absurd (omega (arith, ap {B = ℕ} (λ b. cond b 1 0) e))
    at m false false true e f h = absurd (omega (arith, ap {B = ℕ} (λ b. cond b 1 0) e))
    at m false false false e f h = h

-- all go to a place or further that none goes before
from_first : (n : ℕ) (all : List Going) → AllByRecursion (λ g. n ≤ g.place) all → from_place n all ≡ map (λ g. g.condition) all
from_first n [] h = refl
from_first n (g ∷ all) h = at (reaches n g.place) (le_true n g.place h.0) (from_first n all h.1)
  where
    le_true : (n p : ℕ) → n ≤ p → reaches n p ≡ true
    le_true zero p h = refl
    le_true (suc n) zero h = absurd (omega (arith, h))
    le_true (suc n) (suc p) h = le_true n p (omega (arith, h))

    at : (b : Bool) → b ≡ true → from_place n all ≡ map (λ (g : Going). g.condition) all → map (λ (g : Going). g.condition) (cond b (g ∷ filter (λ (g : Going). reaches n g.place) all) (filter (λ (g : Going). reaches n g.place) all)) ≡ g.condition ∷ map (λ (g : Going). g.condition) all
    at true e h = ap (λ l. g.condition ∷ l) h
    at false e h = absurd (omega (arith, ap {B = ℕ} (λ b. cond b 1 0) e))

-- and none goes past all stages
from_last : (size : Size) (given : List ℕ) (ss : List Stage) (n : ℕ) (all : List Going) → length ss < n → AllByRecursion (FirmAt size given ss) all → from_place n all ≡ []
from_last size given ss n [] lt h = refl
from_last size given ss n (g ∷ all) lt h = at (reaches n g.place) (gt_false n g.place (omega (arith, lt, h.0.within))) (from_last size given ss n all lt h.1)
  where
    gt_false : (n p : ℕ) → p < n → reaches n p ≡ false
    gt_false zero p h = absurd (omega (arith, h))
    gt_false (suc n) zero h = refl
    gt_false (suc n) (suc p) h = gt_false n p (omega (arith, h))

    at : (b : Bool) → b ≡ false → from_place n all ≡ [] → map (λ (g : Going). g.condition) (cond b (g ∷ filter (λ (g : Going). reaches n g.place) all) (filter (λ (g : Going). reaches n g.place) all)) ≡ []
    at false e h = h
    at true e h = absurd (omega (arith, ap {B = ℕ} (λ b. cond b 1 0) e))

-- those that go to a place are firm at it
firm_there : (size : Size) (given : List ℕ) (ss : List Stage) (n : ℕ) (all : List Going) → AllByRecursion (FirmAt size given ss) all → AllByRecursion (λ e. Firm size given e n ss) (placed_at n all)
firm_there size given ss n [] h = tt
firm_there size given ss n (g ∷ all) h = at (g.place == n) refl (firm_there size given ss n all h.1)
  where
    at : (b : Bool) → (g.place == n) ≡ b → AllByRecursion (λ e. Firm size given e n ss) (placed_at n all) → AllByRecursion (λ e. Firm size given e n ss) (map (λ (g : Going). g.condition) (cond b (g ∷ filter (λ (g : Going). g.place == n) all) (filter (λ (g : Going). g.place == n) all)))
    at true e k = (subst (λ (i : ℕ). Firm size given g.condition i ss) (same_number g.place n e) h.0.firm, k)
    at false e k = k

pub going_more : (all : List Going) (i n : ℕ) (g : Going) (es : List Expr) → i < length all → g ≡ get_or all i g → (g.place == n) ≡ true → es ≡ placed_at n (take i all) → es ++ g.condition ∷ [] ≡ placed_at n (take (i + 1) all)
going_more all i n g es lt is e h =
    sym (ap (placed_at n) (take_more all i g lt ∙ ap (λ x. take i all ++ x ∷ []) (sym is))
    ∙ (ap (map (λ (g : Going). g.condition)) (filter-append (λ (g : Going). g.place == n) (take i all) (g ∷ []))
    ∙ (map-append (λ (g : Going). g.condition) (filter (λ (g : Going). g.place == n) (take i all)) (filter (λ (g : Going). g.place == n) (g ∷ []))
    ∙ (ap (λ b. placed_at n (take i all) ++ map (λ (g : Going). g.condition) (cond b (g ∷ []) [])) e ∙ ap (λ l. l ++ g.condition ∷ []) (sym h)))))

pub going_past : (all : List Going) (i n : ℕ) (g : Going) (es : List Expr) → i < length all → g ≡ get_or all i g → (g.place == n) ≡ false → es ≡ placed_at n (take i all) → es ≡ placed_at n (take (i + 1) all)
going_past all i n g es lt is e h =
    sym (ap (placed_at n) (take_more all i g lt ∙ ap (λ x. take i all ++ x ∷ []) (sym is))
    ∙ (ap (map (λ (g : Going). g.condition)) (filter-append (λ (g : Going). g.place == n) (take i all) (g ∷ []))
    ∙ (map-append (λ (g : Going). g.condition) (filter (λ (g : Going). g.place == n) (take i all)) (filter (λ (g : Going). g.place == n) (g ∷ []))
    ∙ (ap (λ b. placed_at n (take i all) ++ map (λ (g : Going). g.condition) (cond b (g ∷ []) [])) e ∙ (append-nil (placed_at n (take i all)) ∙ sym h)))))

-- ---- rows

module _ (size : Size) where
  pub firm_later : (given vs slice : List ℕ) (e : Expr) (ss : List Stage) (place later : ℕ) → Settles vs e → slice ≡ vs → AllByRecursion (λ v. Steady size given v place ss) slice → place ≤ later → Firm size given e later ss
  firm_later given vs slice e ss place later settled is h le = record {
    variables = vs;
    settled = settled;
    steady = all_later size given ss place later le vs (subst (λ (l : List ℕ). AllByRecursion (λ v. Steady size given v place ss) l) is h);
  }

  pub parted_more : (ss : List Stage) (conditions : List Expr) (i : ℕ) (e own seen : Expr) (inside after in_new after_new : List Expr) (is_in : Bool) → i < length conditions → e ≡ get_or conditions i e → own ≡ e → seen ≡ e → (is_in ≡ true → Inside size ss seen) → (is_in ≡ true → (in_new ≡ inside ++ own ∷ []) × (after_new ≡ after)) → (is_in ≡ false → (in_new ≡ inside) × (after_new ≡ after ++ own ∷ []))
      → SameFilters (inside ++ after) (take i conditions) × AllByRecursion (Inside size ss) inside → SameFilters (in_new ++ after_new) (take (i + 1) conditions) × AllByRecursion (Inside size ss) in_new
  parted_more ss conditions i e own seen inside after in_new after_new true lt is o s h k l inv =
      let grown : in_new ≡ inside ++ e ∷ [] = (k refl).0 ∙ ap (λ (x : Expr). inside ++ x ∷ []) o in (
        subst (λ (a : List Expr). SameFilters (in_new ++ a) (take (i + 1) conditions)) (sym (k refl).1) (subst (λ (a : List Expr). SameFilters (a ++ after) (take (i + 1) conditions)) (sym grown) (inside_more conditions i e inside after lt is inv.0)),
        subst (AllByRecursion (Inside size ss)) (sym grown) (all_append (Inside size ss) inside (e ∷ []) inv.1 (subst (Inside size ss) s (h refl), tt)),
      )
  parted_more ss conditions i e own seen inside after in_new after_new false lt is o s h k l inv = (
    subst (λ (a : List Expr). SameFilters (in_new ++ a) (take (i + 1) conditions)) (sym ((l refl).1 ∙ ap (λ (x : Expr). after ++ x ∷ []) o)) (subst (λ (a : List Expr). SameFilters (a ++ (after ++ e ∷ [])) (take (i + 1) conditions)) (sym (l refl).0) (after_more conditions i e inside after lt is inv.0)),
    subst (AllByRecursion (Inside size ss)) (sym (l refl).0) inv.1,
  )

  pub filters_from : (given : List ℕ) (es fs : List Expr) → SameFilters es fs → SameFrom size given (map stage.Filter es) (map stage.Filter fs)
  filters_from given es fs h = record {
    same = λ quads active m b.
        same _ _ (filters_give size.width quads active es m ∙ (ap (λ b. kept_if b m) (h.same (take size.width m)) ∙ sym (filters_give size.width quads active fs m)));
  }

  -- a group by itself takes in the filters that are inside it
  inside_on : (ss ts : List Stage) (e : Expr) → Inside size ss e → Inside size (ss ++ ts) e
  inside_on ss ts e h = record { variables = h.variables; settled = h.settled; bound = each h.variables h.bound }
    where
      each : (vs : List ℕ) → AllByRecursion (λ v. (v < size.width) × Binds size [] v ss) vs → AllByRecursion (λ v. (v < size.width) × Binds size [] v (ss ++ ts)) vs
      each [] k = tt
      each (v ∷ vs) k = ((k.0.0, binds_on v size [] ss ts k.0.1), each vs k.1)

  apart_all : (r : Option ℕ) (own : Group) (es : List Expr) (g : Group) → AllByRecursion (Inside size g.stages) es → SameFrom size [] own.stages (g.stages ++ map stage.Filter es) → SameFrom size [] (stage.Apart r own ∷ []) (stage.Apart r g ∷ map stage.Filter es)
  apart_all r own [] g h k = apart_placed size r own g (subst (SameFrom size [] own.stages) (append-nil g.stages) k) (stage.Apart r g) refl
  apart_all r own (e ∷ es) g h k =
      from_trans size [] (stage.Apart r own ∷ []) (stage.Apart r with_e ∷ map stage.Filter es) (stage.Apart r g ∷ stage.Filter e ∷ map stage.Filter es)
      (apart_all r own es with_e (all_map (Inside size g.stages) (Inside size with_e.stages) (λ x i. inside_on g.stages (stage.Filter e ∷ []) x i) es h.1) (subst (SameFrom size [] own.stages) (sym (append_assoc g.stages (stage.Filter e ∷ []) (map stage.Filter es))) k))
      (from_before size [] (stage.Apart r with_e ∷ []) (stage.Apart r g ∷ stage.Filter e ∷ []) (map stage.Filter es) (apart_filtered size [] h.0.variables e r g with_e h.0.settled h.0.bound (from_refl size [] with_e.stages)))
    where
      with_e : Group
      with_e = record { stages = g.stages ++ stage.Filter e ∷ [] }

  module _ (given : List ℕ) where
    pub thin_refl : (ss : List Stage) → Thin size given ss ss
    thin_refl ss = record { thin = λ quads active m b p h. h }

    pub thin_push : (ss ts : List Stage) (s : Stage) → Thin size given ss ts → Thin size given (ss ++ s ∷ []) (ts ++ s ∷ [])
    thin_push ss ts s h = record {
      thin = λ quads active m b p k.
          ap (list_all p) (through_append size.width quads active ss (s ∷ []) m)
          ∙ (all_flat_map p (through size.width quads active (s ∷ [])) (through size.width quads active ss m)
          ∙ h.thin quads active m b (λ q. list_all p (through size.width quads active (s ∷ []) q))
          (sym (ap (list_all p) (through_append size.width quads active ts (s ∷ []) m) ∙ all_flat_map p (through size.width quads active (s ∷ [])) (through size.width quads active ts m)) ∙ k));
    }

    pub thin_filters : (ss ts : List Stage) (es : List Expr) → Thin size given ss ts → Thin size given (ss ++ map stage.Filter es) ts
    thin_filters ss ts es h = record {
      thin = λ quads active m b p k.
          ap (list_all p) (through_append size.width quads active ss (map stage.Filter es) m)
          ∙ (all_flat_map p (through size.width quads active (map stage.Filter es)) (through size.width quads active ss m)
          ∙ all_more_true p (λ q. list_all p (through size.width quads active (map stage.Filter es) q)) (λ q e. ap (list_all p) (filters_give size.width quads active es q) ∙ kept p q (list_all (holds (take size.width q)) es) e)
          (through size.width quads active ss m) (h.thin quads active m b p k));
    }
      where
        kept : (p : Solution → Bool) (q : Solution) (b : Bool) → p q ≡ true → list_all p (kept_if b q) ≡ true
        kept p q true e = both_true (p q) true e refl
        kept p q false e = refl

    pub thin_same : (us ss ts : List Stage) → SameFrom size given us ss → Thin size given ss ts → Thin size given us ts
    thin_same us ss ts h k = record {
      thin = λ quads active m b p e. all_permuted p (through size.width quads active us m) (through size.width quads active ss m) (h.same quads active m b) ∙ k.thin quads active m b p e;
    }

    -- ---- filters that pass stages

    module _ (quads : List Statement) (active : Graph) where
      -- all conditions hold of a row where they hold of another
      abbrev Like : List Expr → Solution → Solution → Type 0
      Like es q r = list_all (holds (take size.width r)) es ≡ list_all (holds (take size.width q)) es

      abbrev LikeAfter : List Stage → List Expr → Solution → Type 0
      LikeAfter ts es q = AllByRecursion (Like es q) (through size.width quads active ts q)

      kept_alike : (es : List Expr) (q : Solution) (b : Bool) → list_all (holds (take size.width q)) es ≡ b → (rs : List Solution) → AllByRecursion (Like es q) rs → flat_map (through size.width quads active (map stage.Filter es)) rs ≡ (if b then rs else [])
      kept_alike es q true e [] h = refl
      kept_alike es q false e [] h = refl
      kept_alike es q true e (r ∷ rs) h =
          ap (λ l. l ++ flat_map (through size.width quads active (map stage.Filter es)) rs) (filters_give size.width quads active es r ∙ ap (λ c. kept_if c r) (h.0 ∙ e)) ∙ ap (λ l. r ∷ l) (kept_alike es q true e rs h.1)
      kept_alike es q false e (r ∷ rs) h =
          ap (λ l. l ++ flat_map (through size.width quads active (map stage.Filter es)) rs) (filters_give size.width quads active es r ∙ ap (λ c. kept_if c r) (h.0 ∙ e)) ∙ kept_alike es q false e rs h.1

      filters_past : (ts : List Stage) (es : List Expr) (q : Solution) → LikeAfter ts es q → through size.width quads active (map stage.Filter es ++ ts) q ≡ through size.width quads active (ts ++ map stage.Filter es) q
      filters_past ts es q h =
          through_append size.width quads active (map stage.Filter es) ts q
          ∙ (ap (flat_map (through size.width quads active ts)) (filters_give size.width quads active es q)
          ∙ at (list_all (holds (take size.width q)) es) refl)
        where
          at : (b : Bool) → list_all (holds (take size.width q)) es ≡ b → flat_map (through size.width quads active ts) (kept_if b q) ≡ through size.width quads active (ts ++ map stage.Filter es) q
          at true e = append-nil (through size.width quads active ts q) ∙ sym (through_append size.width quads active ts (map stage.Filter es) q ∙ kept_alike es q true e (through size.width quads active ts q) h)
          at false e = sym (through_append size.width quads active ts (map stage.Filter es) q ∙ kept_alike es q false e (through size.width quads active ts q) h)

      -- the same as a test
      abbrev like_test : List Stage → List Expr → Solution → Bool
      like_test ts es q = list_all (λ r. eqb (list_all (holds (take size.width r)) es) (list_all (holds (take size.width q)) es)) (through size.width quads active ts q)

      tested : (ts : List Stage) (es : List Expr) (q : Solution) → LikeAfter ts es q → like_test ts es q ≡ true
      tested ts es q h = all_true _ (through size.width quads active ts q) (all_map (Like es q) _ (λ r e. eqb_same (list_all (holds (take size.width r)) es) (list_all (holds (take size.width q)) es) e) (through size.width quads active ts q) h)

      untested : (ts : List Stage) (es : List Expr) (q : Solution) → like_test ts es q ≡ true → LikeAfter ts es q
      untested ts es q h = all_map _ (Like es q) (λ r e. same_eqb (list_all (holds (take size.width r)) es) (list_all (holds (take size.width q)) es) e) (through size.width quads active ts q) (true_all _ (through size.width quads active ts q) h)

      -- what is firm at a place is alike past it
      module _ (ss : List Stage) (n : ℕ) (m : Solution) (b : Begun size given m) where
        one_like : (e : Expr) → Firm size given e n ss → AllByRecursion (λ q. AllByRecursion (λ r. holds (take size.width r) e ≡ holds (take size.width q) e) (through size.width quads active (drop n ss) q)) (through size.width quads active (take n ss) m)
        one_like e f =
            all_map (λ q. AllByRecursion (Agree f.variables q) (through size.width quads active (drop n ss) q)) _
            (λ q h. all_map (Agree f.variables q) (λ r. holds (take size.width r) e ≡ holds (take size.width q) e) (λ r k. holds_alike size given f.variables e f.settled size.width q r k) (through size.width quads active (drop n ss) q) h)
            (through size.width quads active (take n ss) m)
            (agree_each size given f.variables e f.settled (through size.width quads active (drop n ss)) f.variables (through size.width quads active (take n ss) m) (all f.variables f.steady))
          where
            all : (us : List ℕ) → AllByRecursion (λ v. Steady size given v n ss) us → AllByRecursion (λ v. AllByRecursion (λ q. AllByRecursion (Alike v q) (through size.width quads active (drop n ss) q)) (through size.width quads active (take n ss) m)) us
            all [] k = tt
            all (u ∷ us) k = (k.0.alike n (omega arith) quads active m b, all us k.1)

        all_like : (es : List Expr) → AllByRecursion (λ e. Firm size given e n ss) es → AllByRecursion (LikeAfter (drop n ss) es) (through size.width quads active (take n ss) m)
        all_like [] f = none (through size.width quads active (take n ss) m)
          where
            inner : (q : Solution) (rs : List Solution) → AllByRecursion (Like [] q) rs
            inner q [] = tt
            inner q (r ∷ rs) = (refl, inner q rs)

            none : (qs : List Solution) → AllByRecursion (LikeAfter (drop n ss) []) qs
            none [] = tt
            none (q ∷ qs) = (inner q (through size.width quads active (drop n ss) q), none qs)
        all_like (e ∷ es) f =
            all_map _ (LikeAfter (drop n ss) (e ∷ es))
            (λ q h. all_map _ (Like (e ∷ es) q) (λ r k. ap (λ b. b && list_all (holds (take size.width r)) es) k.0 ∙ ap (λ b. holds (take size.width q) e && b) k.1) (through size.width quads active (drop n ss) q)
            (all_both (λ r. holds (take size.width r) e ≡ holds (take size.width q) e) (Like es q) (through size.width quads active (drop n ss) q) h.0 h.1))
            (through size.width quads active (take n ss) m)
            (all_both _ (LikeAfter (drop n ss) es) (through size.width quads active (take n ss) m) (one_like e f.0) (all_like es f.1))

    -- filters that are firm at a place pass the stages after it
    pub filters_moved : (ss done : List Stage) (n : ℕ) (es : List Expr) → Thin size given done (take n ss) → AllByRecursion (λ e. Firm size given e n ss) es → SameFrom size given (done ++ (map stage.Filter es ++ drop n ss)) (done ++ (drop n ss ++ map stage.Filter es))
    filters_moved ss done n es h f = record {
      same = λ quads active m b.
          same _ _
          (through_append size.width quads active done (map stage.Filter es ++ drop n ss) m
          ∙ (flat_on (LikeAfter quads active (drop n ss) es) (through size.width quads active (map stage.Filter es ++ drop n ss)) (through size.width quads active (drop n ss ++ map stage.Filter es))
          (λ q k. filters_past quads active (drop n ss) es q k) (through size.width quads active done m)
          (all_map (λ q. like_test quads active (drop n ss) es q ≡ true) (LikeAfter quads active (drop n ss) es) (λ q k. untested quads active (drop n ss) es q k) (through size.width quads active done m)
          (true_all (like_test quads active (drop n ss) es) (through size.width quads active done m)
          (h.thin quads active m b (like_test quads active (drop n ss) es)
          (all_true (like_test quads active (drop n ss) es) (through size.width quads active (take n ss) m)
          (all_map (LikeAfter quads active (drop n ss) es) (λ q. like_test quads active (drop n ss) es q ≡ true) (λ q k. tested quads active (drop n ss) es q k) (through size.width quads active (take n ss) m) (all_like quads active ss n m b es f)))))))
          ∙ sym (through_append size.width quads active done (drop n ss ++ map stage.Filter es) m));
    }

    -- ---- one pass over the stages

    -- before the stages that are left all filters stand that go there
    pub record Halfway (ss : List Stage) (all : List Going) (n : ℕ) (done : List Stage) : Type 0 where
      pub thin : Thin size given done (take n ss)
      pub same : SameFrom size given (done ++ (drop n ss ++ map stage.Filter (from_place (suc n) all))) (ss ++ map stage.Filter (map (λ (g : Going). g.condition) all))

    -- the filters that go to a place
    place_put : (ss : List Stage) (all : List Going) (n : ℕ) (done : List Stage) → Thin size given done (take n ss) → AllByRecursion (FirmAt size given ss) all
        → SameFrom size given (done ++ (drop n ss ++ map stage.Filter (from_place n all))) (ss ++ map stage.Filter (map (λ (g : Going). g.condition) all)) → Halfway ss all n (done ++ map stage.Filter (placed_at n all))
    place_put ss all n done thin firm h = record {
      thin = thin_filters done (take n ss) (placed_at n all) thin;
      same =
          let here = map stage.Filter (placed_at n all) in
          let more = map stage.Filter (from_place (suc n) all) in
          let left = drop n ss in
          let target = ss ++ map stage.Filter (map (λ (g : Going). g.condition) all) in
          subst (λ (l : List Stage). SameFrom size given l target) (append_assoc done (here ++ left) more ∙ (ap (λ (l : List Stage). done ++ l) (append_assoc here left more) ∙ sym (append_assoc done here (left ++ more))))
          (from_trans size given ((done ++ (here ++ left)) ++ more) ((done ++ (left ++ here)) ++ more) target
          (from_before size given (done ++ (here ++ left)) (done ++ (left ++ here)) more (filters_moved ss done n (placed_at n all) thin (firm_there size given ss n all firm)))
          (subst (λ (l : List Stage). SameFrom size given l target) (sym (append_assoc done (left ++ here) more ∙ ap (λ (l : List Stage). done ++ l) (append_assoc left here more)))
          (from_trans size given (done ++ (left ++ (here ++ more))) (done ++ (left ++ map stage.Filter (from_place n all))) target
          (from_after size given [] done (left ++ (here ++ more)) (left ++ map stage.Filter (from_place n all)) tt
          (from_after size [] [] left (here ++ more) (map stage.Filter (from_place n all)) tt
          (subst (λ (l : List Stage). SameFrom size [] l (map stage.Filter (from_place n all))) (map-append stage.Filter (placed_at n all) (from_place (suc n) all))
          (filters_from [] (placed_at n all ++ from_place (suc n) all) (from_place n all) (from_parted n all)))))
          h)));
    }

    pub pass_begun : (ss done new : List Stage) (all found : List Going) (here slice : List Expr) → all ≡ found → AllByRecursion (FirmAt size given ss) found → done ≡ [] → here ≡ placed_at 0 all → slice ≡ here → new ≡ done ++ map stage.Filter slice → Halfway ss all 0 new
    pass_begun ss done new all found here slice f firm d e s n =
        subst (Halfway ss all 0) (sym (n ∙ (ap (λ (l : List Stage). l ++ map stage.Filter slice) d ∙ ap (map stage.Filter) (s ∙ e))))
        (place_put ss all 0 [] (thin_refl []) (subst (AllByRecursion (FirmAt size given ss)) (sym f) firm)
        (subst (λ (l : List Expr). SameFrom size given (ss ++ map stage.Filter l) (ss ++ map stage.Filter (map (λ (g : Going). g.condition) all))) (sym (from_first 0 all (each all)))
        (from_refl size given (ss ++ map stage.Filter (map (λ (g : Going). g.condition) all)))))
      where
        each : (gs : List Going) → AllByRecursion (λ g. 0 ≤ g.place) gs
        each [] = tt
        each (g ∷ gs) = (omega arith, each gs)

    pub pass_more : (ss done new : List Stage) (all found : List Going) (n next : ℕ) (one : Stage) (here slice : List Expr) → next ≡ n + 1 → n < length ss → one ≡ get_or ss n one → all ≡ found → AllByRecursion (FirmAt size given ss) found → here ≡ placed_at next all → slice ≡ here → Halfway ss all n done → SameFrom size given new (done ++ one ∷ map stage.Filter slice) → Halfway ss all next new
    pass_more ss done new all found n next one here slice up lt is f firm e s h k = record {
      thin = thin_same new (done ++ one ∷ there) (take next ss) given_new (subst (λ (l : List Stage). Thin size given l (take next ss)) (append_assoc done (one ∷ []) there) put.thin);
      same =
          from_trans size given (new ++ (drop next ss ++ more)) ((done ++ one ∷ there) ++ (drop next ss ++ more)) target
          (from_before size given new (done ++ one ∷ there) (drop next ss ++ more) given_new)
          (subst (λ (l : List Stage). SameFrom size given (l ++ (drop next ss ++ more)) target) (append_assoc done (one ∷ []) there) put.same);
    }
      where
        there : List Stage
        there = map stage.Filter (placed_at next all)

        more : List Stage
        more = map stage.Filter (from_place (suc next) all)

        target : List Stage
        target = ss ++ map stage.Filter (map (λ (g : Going). g.condition) all)

        given_new : SameFrom size given new (done ++ one ∷ there)
        given_new = subst (λ (l : List Expr). SameFrom size given new (done ++ one ∷ map stage.Filter l)) (s ∙ e) k

        suc_next : suc n ≡ next
        suc_next = omega (arith, up)

        taken : take next ss ≡ take n ss ++ one ∷ []
        taken = ap (λ i. take i ss) up ∙ (take_more ss n one lt ∙ ap (λ (x : Stage). take n ss ++ x ∷ []) (sym is))

        dropped : drop n ss ≡ one ∷ drop next ss
        dropped = at_drop_more (λ (l : List Stage). l) ss n one lt ∙ (ap (λ (x : Stage). x ∷ drop (n + 1) ss) (sym is) ∙ ap (λ i. one ∷ drop i ss) (sym up))

        put : Halfway ss all next ((done ++ one ∷ []) ++ there)
        put =
            place_put ss all next (done ++ one ∷ []) (subst (Thin size given (done ++ one ∷ [])) (sym taken) (thin_push done (take n ss) one h.thin)) (subst (AllByRecursion (FirmAt size given ss)) (sym f) firm)
            (subst (λ (l : List Stage). SameFrom size given l target)
            (ap (λ (l : List Stage). done ++ (l ++ map stage.Filter (from_place next all))) dropped ∙ sym (append_assoc done (one ∷ []) (drop next ss ++ map stage.Filter (from_place next all))))
            (subst (λ (i : ℕ). SameFrom size given (done ++ (drop n ss ++ map stage.Filter (from_place i all))) target) suc_next h.same))

    pub pass_ended : (ss done : List Stage) (all found : List Going) (n : ℕ) (es : List Expr) → length ss ≤ n → all ≡ found → AllByRecursion (FirmAt size given ss) found → map (λ (g : Going). g.condition) found ≡ es → Halfway ss all n done → SameFrom size given done (ss ++ map stage.Filter es)
    pass_ended ss done all found n es last f firm e h =
        subst (λ (l : List Expr). SameFrom size given done (ss ++ map stage.Filter l)) (ap (map (λ (g : Going). g.condition)) f ∙ e)
        (subst (λ (l : List Stage). SameFrom size given l (ss ++ map stage.Filter (map (λ (g : Going). g.condition) all)))
        (ap (λ (l : List Stage). done ++ (l ++ map stage.Filter (from_place (suc n) all))) (drop_all n ss last) ∙ (ap (λ (l : List Expr). done ++ map stage.Filter l) (from_last size given ss (suc n) all (omega (arith, last)) (subst (AllByRecursion (FirmAt size given ss)) (sym f) firm)) ∙ append-nil done))
        h.same)

    -- ---- a stage that takes filters in

    pub plain_put : (done pushed new : List Stage) (one : Stage) (es : List Expr) → pushed ≡ done ++ one ∷ [] → new ≡ pushed ++ map stage.Filter es → SameFrom size given new (done ++ one ∷ map stage.Filter es)
    plain_put done pushed new one es p n = subst (λ (l : List Stage). SameFrom size given l (done ++ one ∷ map stage.Filter es)) (sym (n ∙ (ap (λ (l : List Stage). l ++ map stage.Filter es) p ∙ append_assoc done (one ∷ []) (map stage.Filter es)))) (from_refl size given (done ++ one ∷ map stage.Filter es))

    pub alone_put : (done new : List Stage) (one : Stage) (es : List Expr) → es ≡ [] → new ≡ done ++ one ∷ [] → SameFrom size given new (done ++ one ∷ map stage.Filter es)
    alone_put done new one es none n = subst (λ (l : List Expr). SameFrom size given new (done ++ one ∷ map stage.Filter l)) (sym none) (subst (λ (l : List Stage). SameFrom size given l (done ++ one ∷ [])) (sym n) (from_refl size given (done ++ one ∷ [])))

    pub union_put : (known own : List ℕ) (done sliced new : List Stage) (one : Stage) (bs branches slice : List Group) (es : List Expr) → own ≡ known → AllByRecursion (λ v. Binds size given v sliced) known → sliced ≡ done → one ≡ stage.Union branches → slice ≡ branches → new ≡ done ++ stage.Union bs ∷ []
        → SameFrom size own (stage.Union bs ∷ []) (stage.Union slice ∷ map stage.Filter es) → SameFrom size given new (done ++ one ∷ map stage.Filter es)
    union_put known own done sliced new one bs branches slice es k b d is s n h =
        subst (λ (l : List Stage). SameFrom size given l (done ++ one ∷ map stage.Filter es)) (sym n)
        (from_after size given known done (stage.Union bs ∷ []) (one ∷ map stage.Filter es) (subst (λ (l : List Stage). AllByRecursion (λ v. Binds size given v l) known) d b)
        (subst (λ (l : List ℕ). SameFrom size l (stage.Union bs ∷ []) (one ∷ map stage.Filter es)) k
        (subst (λ (x : Stage). SameFrom size own (stage.Union bs ∷ []) (x ∷ map stage.Filter es)) (sym is) (subst (λ (l : List Group). SameFrom size own (stage.Union bs ∷ []) (stage.Union l ∷ map stage.Filter es)) s h))))

    pub apart_put : (done pushed new : List Stage) (one : Stage) (r : Option ℕ) (g own : Group) (slice : List Stage) (es inside after in_slice after_slice : List Expr) → one ≡ stage.Apart r g → slice ≡ g.stages → AllByRecursion (Inside size slice) inside → SameFilters (inside ++ after) es → in_slice ≡ inside → after_slice ≡ after
        → SameFrom size [] own.stages (g.stages ++ map stage.Filter in_slice) → pushed ≡ done ++ stage.Apart r own ∷ [] → new ≡ pushed ++ map stage.Filter after_slice → SameFrom size given new (done ++ one ∷ map stage.Filter es)
    apart_put done pushed new one r g own slice es inside after in_slice after_slice is s i f j k h p n =
        subst (λ (l : List Stage). SameFrom size given l (done ++ one ∷ map stage.Filter es)) (sym (n ∙ (ap (λ (l : List Stage). l ++ map stage.Filter after_slice) p ∙ (append_assoc done (stage.Apart r own ∷ []) (map stage.Filter after_slice) ∙ ap (λ (l : List Expr). done ++ stage.Apart r own ∷ map stage.Filter l) k))))
        (from_after size given [] done (stage.Apart r own ∷ map stage.Filter after) (one ∷ map stage.Filter es) tt
        (subst (λ (x : Stage). SameFrom size [] (stage.Apart r own ∷ map stage.Filter after) (x ∷ map stage.Filter es)) (sym is)
        (from_trans size [] (stage.Apart r own ∷ map stage.Filter after) ((stage.Apart r g ∷ map stage.Filter inside) ++ map stage.Filter after) (stage.Apart r g ∷ map stage.Filter es)
        (from_before size [] (stage.Apart r own ∷ []) (stage.Apart r g ∷ map stage.Filter inside) (map stage.Filter after)
        (apart_all r own inside g (subst (λ (l : List Stage). AllByRecursion (Inside size l) inside) s i) (subst (λ (l : List Expr). SameFrom size [] own.stages (g.stages ++ map stage.Filter l)) j h)))
        (from_after size [] [] (stage.Apart r g ∷ []) (map stage.Filter inside ++ map stage.Filter after) (map stage.Filter es) tt
        (subst (λ (l : List Stage). SameFrom size [] l (map stage.Filter es)) (map-append stage.Filter inside after) (filters_from [] (inside ++ after) es f))))))

  -- ---- stages and the filters that wait

  pub waiting_more : (waiting new : List Expr) (done : List Stage) (one : Stage) (e condition : Expr) → one ≡ stage.Filter e → condition ≡ e → SameFilters new (waiting ++ condition ∷ []) → SameFrom size [] (done ++ map stage.Filter new) ((done ++ map stage.Filter waiting) ++ one ∷ [])
  waiting_more waiting new done one e condition is c h =
      subst (SameFrom size [] (done ++ map stage.Filter new))
      (ap (λ (l : List Stage). done ++ l) (map-append stage.Filter waiting (condition ∷ [])) ∙ (sym (append_assoc done (map stage.Filter waiting) (stage.Filter condition ∷ [])) ∙ ap (λ (x : Stage). (done ++ map stage.Filter waiting) ++ x ∷ []) (ap stage.Filter c ∙ sym is)))
      (from_after size [] [] done (map stage.Filter new) (map stage.Filter (waiting ++ condition ∷ [])) tt (filters_from [] new (waiting ++ condition ∷ []) h))

  pub none_waiting : (waiting : List Expr) (done : List Stage) → waiting ≡ [] → SameFrom size [] done (done ++ map stage.Filter waiting)
  none_waiting waiting done none = subst (λ (l : List Expr). SameFrom size [] done (done ++ map stage.Filter l)) (sym none) (subst (SameFrom size [] done) (sym (append-nil done)) (from_refl size [] done))

  pub all_waiting : (waiting taken slice : List Expr) (done sliced new : List Stage) → taken ≡ waiting → slice ≡ taken → sliced ≡ done → SameFrom size [] new (sliced ++ map stage.Filter slice) → SameFrom size [] new (done ++ map stage.Filter waiting)
  all_waiting waiting taken slice done sliced new t s d h = subst (λ (l : List Expr). SameFrom size [] new (done ++ map stage.Filter l)) (s ∙ t) (subst (λ (l : List Stage). SameFrom size [] new (l ++ map stage.Filter slice)) d h)

  pub waited_more : (waiting new : List Expr) (done put pushed : List Stage) (one : Stage) → new ≡ [] → SameFrom size [] put (done ++ map stage.Filter waiting) → pushed ≡ put ++ one ∷ [] → SameFrom size [] (pushed ++ map stage.Filter new) ((done ++ map stage.Filter waiting) ++ one ∷ [])
  waited_more waiting new done put pushed one none h p =
      subst (λ (l : List Expr). SameFrom size [] (pushed ++ map stage.Filter l) ((done ++ map stage.Filter waiting) ++ one ∷ [])) (sym none)
      (subst (λ (l : List Stage). SameFrom size [] l ((done ++ map stage.Filter waiting) ++ one ∷ [])) (sym (append-nil pushed ∙ p)) (from_before size [] put (done ++ map stage.Filter waiting) (one ∷ []) h))

  pub all_waited : (stages done new : List Stage) (waiting : List Expr) (i : ℕ) → length stages ≤ i → SameFrom size [] (done ++ map stage.Filter waiting) (take i stages) → SameFrom size [] new (done ++ map stage.Filter waiting) → SameFrom size [] new stages
  all_waited stages done new waiting i le h k = subst (SameFrom size [] new) (take_all i stages le) (from_trans size [] new (done ++ map stage.Filter waiting) (take i stages) k h)

  pub none_placed : (done stages : List Stage) (waiting : List Expr) → done ≡ [] → waiting ≡ [] → SameFrom size [] (done ++ map stage.Filter waiting) (take 0 stages)
  none_placed done stages waiting d w = subst (λ (l : List Stage). SameFrom size [] (l ++ map stage.Filter waiting) []) (sym d) (subst (λ (l : List Expr). SameFrom size [] (map stage.Filter l) []) (sym w) (from_refl size [] []))

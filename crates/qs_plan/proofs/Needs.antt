-- What is needed of a row, as lists of variables.
use Rattle.std.proofs.Common.{◌≡◌, ◌⊎◌, inl, inr, ◌==◌, ◌||◌, ℕ, ◌+◌, ◌≤◌, ◌<◌, Bool, true, false, List, [], ◌∷◌, ◌++◌, take, length, get_or, None, refl, sym, ◌∙◌, ap, subst, arith}
use Rattle.std.specs.List.{AllByRecursion, list_any}
use Rattle.std.proofs.lemmas.Bool.{cases_lt}
use Rattle.std.proofs.lemmas.List.{take_all}
use Rattle.qs_expr_meaning.specs.declared.expr.Expr.{Expr}
use Rattle.qs_algebra_solutions.specs.Solution.{Solution, term_at}
use Rattle.qs_plan.specs.declared.certain.Size.{Size}
use Rattle.qs_plan_meaning.specs.declared.stage.Stage.{Stage}
use Rattle.qs_plan.specs.inner.Certain.{Binds}
use Rattle.qs_plan.specs.inner.Feeds.{Lacks, Covers, Missing, Met, Touches, Asks, Sees}
use Rattle.qs_plan.specs.inner.Reads.{Settles, LeaveAll}
use Rattle.qs_plan.proofs.Commutes.{all_map}
use Rattle.qs_plan.proofs.Keeping.{all_more}

pub covers_same : (vs : List ℕ) → Covers vs vs
covers_same vs = record { lacks = λ m h. h }

pub covers_more : (a b c : List ℕ) → Covers a b → Covers b c → Covers a c
covers_more a b c h k = record { lacks = λ m l. h.lacks m (k.lacks m l) }

pub covers_one : (vs : List ℕ) (v : ℕ) (new : List ℕ) → new ≡ vs ++ v ∷ [] → Covers vs new
covers_one vs v new is = record { lacks = λ m h. firsts vs m (subst (λ (l : List ℕ). Lacks l m) is h) }
  where
    firsts : (us : List ℕ) (m : Solution) → Lacks (us ++ v ∷ []) m → Lacks us m
    firsts [] m h = tt
    firsts (u ∷ us) m h = (h.0, firsts us m h.1)

pub missing_one : (vs : List ℕ) (v : ℕ) (new : List ℕ) → new ≡ vs ++ v ∷ [] → Missing new v
missing_one vs v new is = record { none = λ m h. last vs m (subst (λ (l : List ℕ). Lacks l m) is h) }
  where
    last : (us : List ℕ) (m : Solution) → Lacks (us ++ v ∷ []) m → term_at m v ≡ None
    last [] m h = h.0
    last (u ∷ us) m h = last us m h.1

pub met_more : (size : Size) (ss : List Stage) (old new : List ℕ) (v : ℕ) → Covers old new → Met size ss old v → Met size ss new v
met_more size ss old new v c (inl h) = inl (record { none = λ m l. h.none m (c.lacks m l) })
met_more size ss old new v c (inr h) = inr h

pub all_met_more : (size : Size) (ss : List Stage) (old new : List ℕ) → Covers old new → (vs : List ℕ) → AllByRecursion (Met size ss old) vs → AllByRecursion (Met size ss new) vs
all_met_more size ss old new c vs h = all_map (Met size ss old) (Met size ss new) (λ v k. met_more size ss old new v c k) vs h

-- ---- loops

pub missing_more : (vs : List ℕ) (i d v : ℕ) (old new : List ℕ) → i < length vs → v ≡ get_or vs i d → new ≡ old ++ v ∷ [] → AllByRecursion (Missing old) (take i vs) → AllByRecursion (Missing new) (take (i + 1) vs)
missing_more vs i d v old new lt is e h =
    all_more (Missing new) vs i d v lt is
    (all_map (Missing old) (Missing new) (λ w k. record { none = λ m l. k.none m ((covers_one old v new e).lacks m l) }) (take i vs) h)
    (missing_one old v new e)

missing_all : (vs new : List ℕ) → AllByRecursion (Missing new) vs → Covers vs new
missing_all vs new h = record { lacks = λ m l. each vs h m l }
  where
    each : (us : List ℕ) → AllByRecursion (Missing new) us → (m : Solution) → Lacks new m → Lacks us m
    each [] k m l = tt
    each (u ∷ us) k m l = (k.0.none m l, each us k.1 m l)

pub missing_ended : (vs : List ℕ) (i : ℕ) (new : List ℕ) → length vs ≤ i → AllByRecursion (Missing new) (take i vs) → Covers vs new
missing_ended vs i new le h = missing_all vs new (subst (AllByRecursion (Missing new)) (take_all i vs le) h)

pub met_step : (size : Size) (ss : List Stage) (vs : List ℕ) (i d v : ℕ) (old new : List ℕ) → i < length vs → v ≡ get_or vs i d → Covers old new → Met size ss new v → AllByRecursion (Met size ss old) (take i vs) → AllByRecursion (Met size ss new) (take (i + 1) vs)
met_step size ss vs i d v old new lt is c k h = all_more (Met size ss new) vs i d v lt is (all_met_more size ss old new c (take i vs) h) k

pub met_ended : (size : Size) (ss : List Stage) (vs : List ℕ) (i : ℕ) (new : List ℕ) → length vs ≤ i → AllByRecursion (Met size ss new) (take i vs) → AllByRecursion (Met size ss new) vs
met_ended size ss vs i new le h = subst (AllByRecursion (Met size ss new)) (take_all i vs le) h

any_append : (v : ℕ) (xs ys : List ℕ) → list_any (λ w. w == v) (xs ++ ys) ≡ (list_any (λ w. w == v) xs || list_any (λ w. w == v) ys)
any_append v [] ys = refl
any_append v (x ∷ xs) ys = at (x == v) (any_append v xs ys)
  where
    at : (b : Bool) → list_any (λ w. w == v) (xs ++ ys) ≡ (list_any (λ w. w == v) xs || list_any (λ w. w == v) ys) → (b || list_any (λ w. w == v) (xs ++ ys)) ≡ ((b || list_any (λ w. w == v) xs) || list_any (λ w. w == v) ys)
    at true h = refl
    at false h = h

not_either : (b c : Bool) → (b || c) ≡ false → (b ≡ false) × (c ≡ false)
not_either true c h = let g : true ≡ false = h in cc
not_either false c h = (refl, h)

pub touches_none : (ss : List Stage) (vs : List ℕ) → Touches 0 ss vs
touches_none ss vs = record { leaves = λ v lt h. absurd (omega (arith, lt)) }

pub touches_step : (i : ℕ) (ss : List Stage) (old new : List ℕ) → Touches i ss old → (new ≡ old ++ i ∷ []) ⊎ ((new ≡ old) × LeaveAll i ss) → Touches (i + 1) ss new
touches_step i ss old new t (inr h) = record { leaves = λ v lt k. at v lt (subst (λ (l : List ℕ). list_any (λ w. w == v) l ≡ false) h.0 k) (cases_lt v i) }
  where
    at : (v : ℕ) → v < i + 1 → list_any (λ w. w == v) old ≡ false → (v < i) ⊎ (i ≤ v) → LeaveAll v ss
    at v lt k (inl below) = t.leaves v below k
    at v lt k (inr above) = subst (λ (u : ℕ). LeaveAll u ss) (let e : i ≡ v = omega (arith, lt, above) in e) h.1
touches_step i ss old new t (inl e) = record { leaves = λ v lt k. at v lt (not_either (list_any (λ w. w == v) old) (list_any (λ w. w == v) (i ∷ [])) (sym (any_append v old (i ∷ [])) ∙ subst (λ (l : List ℕ). list_any (λ w. w == v) l ≡ false) e k)) (cases_lt v i) }
  where
    self : (v : ℕ) → i ≡ v → (i == v) ≡ true
    self v e = grind (arith, e)

    at : (v : ℕ) → v < i + 1 → (list_any (λ w. w == v) old ≡ false) × (list_any (λ w. w == v) (i ∷ []) ≡ false) → (v < i) ⊎ (i ≤ v) → LeaveAll v ss
    at v lt k (inl below) = t.leaves v below k.0
    at v lt k (inr above) = other (i == v) (self v (omega (arith, lt, above))) k.1
      where
        other : (b : Bool) → b ≡ true → (b || false) ≡ false → LeaveAll v ss
        other true f g = let z : true ≡ false = g in cc
        other false f g = let z : false ≡ true = f in cc

-- ---- records of what is asked

pub asks_of : (size : Size) (ss : List Stage) (conditions : List Expr) (old new : List ℕ) (variables : List ℕ) → Covers old new → AllByRecursion (Settles variables) conditions → AllByRecursion (Met size ss new) variables → Asks size ss conditions old new
asks_of size ss conditions old new variables c s m = record { covers = c; variables = variables; settled = s; met = m }

pub sees_of : (size : Size) (before ss : List Stage) (conditions : List Expr) (inner a b c d touched : List ℕ) → Covers a b → Covers inner b → Touches size.width ss touched → Covers b c → AllByRecursion (Met size before c) touched → Asks size before conditions c d
    → Sees size before ss conditions inner a d
sees_of size before ss conditions inner a b c d touched h k t l m asks = record {
  covers = covers_more a b d h (covers_more b c d l asks.covers);
  more = covers_more inner b d k (covers_more b c d l asks.covers);
  touched = touched;
  touches = t;
  met = all_met_more size before c d asks.covers touched m;
  asks = record { covers = covers_more a b d h (covers_more b c d l asks.covers); variables = asks.variables; settled = asks.settled; met = asks.met };
}

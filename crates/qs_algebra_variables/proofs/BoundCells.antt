-- Which variables solutions bind, through the operators of the algebra and through all maps.
use Rattle.std.proofs.Common.{◌≡◌, ℕ, zero, suc, ◌+◌, ◌≤◌, ◌<◌, Bool, true, false, cond, if◌then◌else◌, not, List, [], ◌∷◌, ◌++◌, map, take, Option, Some, None, IsSome, refl, sym, ap, subst, ◌∙◌, arith}
use Rattle.std.specs.List.{AllByRecursion, filter, flat_map, list_any}
use Rattle.std.proofs.lemmas.List.{get_or-take}
use Rattle.qs_terms.specs.declared.term.Term.{Term}
use Rattle.qs_algebra_solutions.specs.Solution.{Solution, term_at, unbound, compatible, merge}
use Rattle.qs_algebra_solutions.specs.inner.Solution.{first_bound}
use Rattle.qs_algebra_solutions.specs.Operators.{merges, join, or_alone, left_join, excludes, minus}
use Rattle.qs_algebra_patterns.specs.Basic.{all_maps}

abbrev pub Bound : ℕ → Solution → Type 0
Bound v m = IsSome (term_at m v)

abbrev pub Unbound : ℕ → Solution → Type 0
Unbound v m = term_at m v ≡ None

-- ---- lists

module _ {X : Type 0} (P : X → Type 0) where
  pub each_of : ((x : X) → P x) → (xs : List X) → AllByRecursion P xs
  each_of h [] = tt
  each_of h (x ∷ xs) = (h x, each_of h xs)

  pub each_append : (xs ys : List X) → AllByRecursion P xs → AllByRecursion P ys → AllByRecursion P (xs ++ ys)
  each_append [] ys h k = k
  each_append (x ∷ xs) ys h k = (h.0, each_append xs ys h.1 k)

  kept : (x : X) (xs : List X) (b : Bool) → P x → AllByRecursion P xs → AllByRecursion P (cond b (x ∷ xs) xs)
  kept x xs true h k = (h, k)
  kept x xs false h k = k

  pub each_filter : (test : X → Bool) (xs : List X) → AllByRecursion P xs → AllByRecursion P (filter test xs)
  each_filter test [] h = tt
  each_filter test (x ∷ xs) h = kept x (filter test xs) (test x) h.0 (each_filter test xs h.1)

module _ {X Y : Type 0} (P : X → Type 0) (Q : Y → Type 0) where
  pub each_map : (f : X → Y) → ((x : X) → P x → Q (f x)) → (xs : List X) → AllByRecursion P xs → AllByRecursion Q (map f xs)
  each_map f h [] k = tt
  each_map f h (x ∷ xs) k = (h x k.0, each_map f h xs k.1)

  pub each_flat_map : (f : X → List Y) → ((x : X) → P x → AllByRecursion Q (f x)) → (xs : List X) → AllByRecursion P xs → AllByRecursion Q (flat_map f xs)
  each_flat_map f h [] k = tt
  each_flat_map f h (x ∷ xs) k = each_append Q (f x) (flat_map f xs) (h x k.0) (each_flat_map f h xs k.1)

-- ---- a variable of a merged solution

first_none : (x : Option Term) → first_bound x None ≡ x
first_none None = refl
first_none (Some x) = refl

merge_at : (a b : Solution) (v : ℕ) → term_at (merge a b) v ≡ first_bound (term_at a v) (term_at b v)
merge_at [] b zero = refl
merge_at [] b (suc v) = refl
merge_at (x ∷ a) [] zero = sym (first_none x)
merge_at (x ∷ a) [] (suc v) = sym (first_none (term_at a v))
merge_at (x ∷ a) (y ∷ b) zero = refl
merge_at (x ∷ a) (y ∷ b) (suc v) = merge_at a b v

first_left : (x y : Option Term) → IsSome x → IsSome (first_bound x y)
first_left None y h = let f : false ≡ true = h in cc
first_left (Some x) y h = refl

first_right : (x y : Option Term) → IsSome y → IsSome (first_bound x y)
first_right None y h = h
first_right (Some x) y h = refl

first_neither : (x y : Option Term) → x ≡ None → y ≡ None → first_bound x y ≡ None
first_neither x y e f = rw (e, f) refl

pub unbound_at : (n v : ℕ) → Unbound v (unbound n)
unbound_at zero zero = refl
unbound_at zero (suc v) = refl
unbound_at (suc n) zero = refl
unbound_at (suc n) (suc v) = unbound_at n v

-- ---- joins

module _ (v : ℕ) (left right : List Solution) where
  pub join_left : AllByRecursion (Bound v) left → AllByRecursion (Bound v) (join left right)
  join_left = each_flat_map (Bound v) (Bound v) (merges right) (λ a h.
      each_map (λ m. m ≡ m) (Bound v) (merge a) (λ b e. subst IsSome (sym (merge_at a b v)) (first_left (term_at a v) (term_at b v) h))
      (filter (compatible a) right) (each_of (λ m. m ≡ m) (λ m. refl) _)) left

  pub join_right : AllByRecursion (Bound v) right → AllByRecursion (Bound v) (join left right)
  join_right k = each_flat_map (λ m. m ≡ m) (Bound v) (merges right) (λ a e.
      each_map (Bound v) (Bound v) (merge a) (λ b h. subst IsSome (sym (merge_at a b v)) (first_right (term_at a v) (term_at b v) h))
      (filter (compatible a) right) (each_filter (Bound v) (compatible a) right k)) left (each_of (λ m. m ≡ m) (λ m. refl) left)

  pub join_neither : AllByRecursion (Unbound v) left → AllByRecursion (Unbound v) right → AllByRecursion (Unbound v) (join left right)
  join_neither h k = each_flat_map (Unbound v) (Unbound v) (merges right) (λ a e.
      each_map (Unbound v) (Unbound v) (merge a) (λ b f. merge_at a b v ∙ first_neither (term_at a v) (term_at b v) e f)
      (filter (compatible a) right) (each_filter (Unbound v) (compatible a) right k)) left h

  -- ---- optional and minus

  alone_each : (P : Solution → Type 0) (a : Solution) (ms : List Solution) → P a → AllByRecursion P ms → AllByRecursion P (or_alone a ms)
  alone_each P a [] h k = (h, tt)
  alone_each P a (m ∷ ms) h k = k

  pub left_join_left : (holds : Solution → Bool) → AllByRecursion (Bound v) left → AllByRecursion (Bound v) (left_join holds left right)
  left_join_left holds = each_flat_map (Bound v) (Bound v) (λ a. or_alone a (filter holds (merges right a))) (λ a h.
      alone_each (Bound v) a (filter holds (merges right a)) h
      (each_filter (Bound v) holds (merges right a)
      (each_map (λ m. m ≡ m) (Bound v) (merge a) (λ b e. subst IsSome (sym (merge_at a b v)) (first_left (term_at a v) (term_at b v) h))
      (filter (compatible a) right) (each_of (λ m. m ≡ m) (λ m. refl) _)))) left

  pub left_join_neither : (holds : Solution → Bool) → AllByRecursion (Unbound v) left → AllByRecursion (Unbound v) right → AllByRecursion (Unbound v) (left_join holds left right)
  left_join_neither holds h k = each_flat_map (Unbound v) (Unbound v) (λ a. or_alone a (filter holds (merges right a))) (λ a e.
      alone_each (Unbound v) a (filter holds (merges right a)) e
      (each_filter (Unbound v) holds (merges right a)
      (each_map (Unbound v) (Unbound v) (merge a) (λ b f. merge_at a b v ∙ first_neither (term_at a v) (term_at b v) e f)
      (filter (compatible a) right) (each_filter (Unbound v) (compatible a) right k)))) left h

  pub minus_each : (P : Solution → Type 0) → AllByRecursion P left → AllByRecursion P (minus left right)
  minus_each P h = each_filter P (λ a. not (list_any (excludes a) right)) left h

-- ---- all maps

module _ (f : ℕ → Bool) (terms : List Term) where
  all_terms : AllByRecursion (λ (t : Term). t ≡ t) terms
  all_terms = each_of (λ (t : Term). t ≡ t) (λ t. refl) terms

  all_solutions : (ms : List Solution) → AllByRecursion (λ (m : Solution). m ≡ m) ms
  all_solutions ms = each_of (λ (m : Solution). m ≡ m) (λ m. refl) ms

  first_bound_here : (b : Bool) (ms : List Solution) → b ≡ true → AllByRecursion (Bound 0) (if b then flat_map (λ t. map (λ m. Some t ∷ m) ms) terms else map (λ m. None ∷ m) ms)
  first_bound_here true ms e = each_flat_map (λ (t : Term). t ≡ t) (Bound 0) _ (λ t h. each_map (λ (m : Solution). m ≡ m) (Bound 0) _ (λ m k. refl) ms (all_solutions ms)) terms all_terms
  first_bound_here false ms e = let g : false ≡ true = e in cc

  first_unbound_here : (b : Bool) (ms : List Solution) → b ≡ false → AllByRecursion (Unbound 0) (if b then flat_map (λ t. map (λ m. Some t ∷ m) ms) terms else map (λ m. None ∷ m) ms)
  first_unbound_here true ms e = let g : true ≡ false = e in cc
  first_unbound_here false ms e = each_map (λ (m : Solution). m ≡ m) (Unbound 0) _ (λ m k. refl) ms (all_solutions ms)

  later : (P : ℕ → Solution → Type 0) (k : ℕ) → ((c : Option Term) (m : Solution) → P k m → P (suc k) (c ∷ m)) → (b : Bool) (ms : List Solution) → AllByRecursion (P k) ms
      → AllByRecursion (P (suc k)) (if b then flat_map (λ t. map (λ m. Some t ∷ m) ms) terms else map (λ m. None ∷ m) ms)
  later P k up true ms h = each_flat_map (λ (t : Term). t ≡ t) (P (suc k)) _ (λ t e. each_map (P k) (P (suc k)) _ (λ m p. up (Some t) m p) ms h) terms all_terms
  later P k up false ms h = each_map (P k) (P (suc k)) _ (λ m p. up None m p) ms h

  pub maps_bind : (k v n : ℕ) → k < n → f (v + k) ≡ true → AllByRecursion (Bound k) (all_maps f terms v n)
  maps_bind k v zero lt e = absurd (omega (arith, lt))
  maps_bind zero v (suc n) lt e = first_bound_here (f v) (all_maps f terms (v + 1) n) (ap f (omega arith) ∙ e)
  maps_bind (suc k) v (suc n) lt e =
      later Bound k (λ c m p. p) (f v) (all_maps f terms (v + 1) n) (maps_bind k (v + 1) n (omega (arith, lt)) (ap f (omega arith) ∙ e))

  pub maps_leave : (k v n : ℕ) → f (v + k) ≡ false → AllByRecursion (Unbound k) (all_maps f terms v n)
  maps_leave zero v zero e = (refl, tt)
  maps_leave (suc k) v zero e = (refl, tt)
  maps_leave zero v (suc n) e = first_unbound_here (f v) (all_maps f terms (v + 1) n) (ap f (omega arith) ∙ e)
  maps_leave (suc k) v (suc n) e =
      later Unbound k (λ c m p. p) (f v) (all_maps f terms (v + 1) n) (maps_leave k (v + 1) n (ap f (omega arith) ∙ e))

-- ---- the variables in front

pub take_bound : (width v : ℕ) (m : Solution) → v < width → Bound v m → Bound v (take width m)
take_bound width v m lt h = subst IsSome (sym (get_or-take width m v None lt)) h

pub take_unbound : (width v : ℕ) (m : Solution) → Unbound v m → Unbound v (take width m)
take_unbound zero zero m h = refl
take_unbound zero (suc v) m h = refl
take_unbound (suc width) zero [] h = refl
take_unbound (suc width) (suc v) [] h = refl
take_unbound (suc width) zero (c ∷ m) h = h
take_unbound (suc width) (suc v) (c ∷ m) h = take_unbound width v m h

pub take_past : (width v : ℕ) (m : Solution) → width ≤ v → Unbound v (take width m)
take_past zero zero m h = refl
take_past zero (suc v) m h = refl
take_past (suc width) zero m h = absurd (omega (arith, h))
take_past (suc width) (suc v) [] h = refl
take_past (suc width) (suc v) (c ∷ m) h = take_past width v m (omega (arith, h))

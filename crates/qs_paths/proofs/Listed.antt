-- Maps and filters of lists, where something is known of their members.
use Rattle.std.proofs.Common.{◌≡◌, ℕ, Bool, true, false, ◌||◌, cond, inl, inr, Option, Some, None, List, [], ◌∷◌, map, refl, sym, ◌∙◌, ap, subst, arith}
use Rattle.std.specs.Iterator.{YieldsFirst}
use Rattle.std.specs.List.{Contains, filter, flat_map, list_any}
use Rattle.std.specs.Option.{is_some}
use Rattle.std.proofs.lemmas.List.Sorted.{length_permutation}
use Rattle.qs_terms.specs.Bag.{SameBag, once}
use Rattle.qs_terms.specs.Dataset.{Triple, nodes_of}
use Rattle.qs_terms.specs.inner.Dataset.{ends_of}
use Rattle.qs_terms.specs.Term.{same_term}
use Rattle.qs_terms.specs.declared.term.Term.{Term}
use Rattle.qs_terms.proofs.SameTerm.{same_term-Decides}
use Rattle.qs_store.proofs.Members.{here, member_of_filter, there}
use Rattle.qs_paths_meaning.proofs.Members.{Mem, bool_same, in_mem, mem_in, mem_of_once, mem_once}

pub contains_of : {X : Type 0} (x : X) (xs : List X) → Mem x xs → Contains xs x
contains_of x [] h = elim h [ ]
contains_of x (y ∷ xs) (inl e) = subst (Contains (y ∷ xs)) (sym e) (here y xs)
contains_of x (y ∷ xs) (inr h) = there y x xs (contains_of x xs h)

pub no_member : {X : Type 0} (xs : List X) → ((x : X) → Mem x xs → ⊥) → xs ≡ []
no_member [] h = refl
no_member (x ∷ xs) h = absurd (h x (inl refl))

pub filter_all : {X : Type 0} (p : X → Bool) (xs : List X) → ((x : X) → Contains xs x → p x ≡ true) → filter p xs ≡ xs
filter_all p [] h = refl
filter_all p (x ∷ xs) h = by (p x) (h x (here x xs)) (filter_all p xs (λ y k. h y (there x y xs k)))
  where
    by : (b : Bool) → b ≡ true → filter p xs ≡ xs → cond b (x ∷ filter p xs) (filter p xs) ≡ x ∷ xs
    by true e i = ap (λ l. x ∷ l) i
    by false e i = let f : false ≡ true = e in cc

pub map_in : {X Y Z W : Type 0} (f : Y → Z) (g : X → Y) (h : W → Z) (k : X → W) (xs : List X) → ((x : X) → Contains xs x → f (g x) ≡ h (k x)) → map f (map g xs) ≡ map h (map k xs)
map_in f g h k [] e = refl
map_in f g h k (x ∷ xs) e = ap (λ z. z ∷ map f (map g xs)) (e x (here x xs)) ∙ ap (λ l. h (k x) ∷ l) (map_in f g h k xs (λ y m. e y (there x y xs m)))

-- a filter before or after a map
pub map_filter_in : {X Y : Type 0} (f : X → Y) (p : X → Bool) (q : Y → Bool) (xs : List X) → ((x : X) → Contains xs x → q (f x) ≡ p x) → map f (filter p xs) ≡ filter q (map f xs)
map_filter_in f p q [] h = refl
map_filter_in f p q (x ∷ xs) h = by (p x) (h x (here x xs)) (map_filter_in f p q xs (λ y k. h y (there x y xs k)))
  where
    by : (b : Bool) → q (f x) ≡ b → map f (filter p xs) ≡ filter q (map f xs) → map f (cond b (x ∷ filter p xs) (filter p xs)) ≡ filter q (f x ∷ map f xs)
    by true e i = ap (λ l. f x ∷ l) i ∙ sym (ap (λ c. cond c (f x ∷ filter q (map f xs)) (filter q (map f xs))) e)
    by false e i = i ∙ sym (ap (λ c. cond c (f x ∷ filter q (map f xs)) (filter q (map f xs))) e)

-- what is left of a list's members
pub filter_in : {X : Type 0} (p : X → Bool) (x : X) (xs : List X) → Contains (filter p xs) x → Contains xs x
filter_in p x xs h = (member_of_filter p x xs h).0

-- all that two maps make of the members pass
pub filter_maps : {X Y Z : Type 0} (p : Z → Bool) (g : Y → Z) (f : X → Y) (xs : List X) → ((x : X) → Contains xs x → p (g (f x)) ≡ true) → filter p (map g (map f xs)) ≡ map g (map f xs)
filter_maps p g f [] h = refl
filter_maps p g f (x ∷ xs) h = by (p (g (f x))) (h x (here x xs)) (filter_maps p g f xs (λ y k. h y (there x y xs k)))
  where
    by : (b : Bool) → b ≡ true → filter p (map g (map f xs)) ≡ map g (map f xs) → cond b (g (f x) ∷ filter p (map g (map f xs))) (filter p (map g (map f xs))) ≡ g (f x) ∷ map g (map f xs)
    by true e i = ap (λ l. g (f x) ∷ l) i
    by false e i = let k : false ≡ true = e in cc

-- ---- whether there is one

abbrev pub is_any : {X : Type 0} → List X → Bool
is_any [] = false
is_any (x ∷ xs) = true

any_mapped : {X Y : Type 0} (f : X → Y) (xs : List X) → is_any (map f xs) ≡ is_any xs
any_mapped f [] = refl
any_mapped f (x ∷ xs) = refl

any_same : {X : Type 0} (xs ys : List X) → SameBag xs ys → is_any xs ≡ is_any ys
any_same [] [] h = refl
any_same [] (y ∷ ys) h = absurd (omega (arith, length_permutation _ _ h))
any_same (x ∷ xs) [] h = absurd (omega (arith, length_permutation _ _ h))
any_same (x ∷ xs) (y ∷ ys) h = refl

any_left : (p : Triple → Bool) (ts : List Triple) → is_any (filter p ts) ≡ list_any p ts
any_left p [] = refl
any_left p (t ∷ ts) = at (p t) (any_left p ts)
  where
    at : (b : Bool) → is_any (filter p ts) ≡ list_any p ts → is_any (cond b (t ∷ filter p ts) (filter p ts)) ≡ (b || list_any p ts)
    at true i = refl
    at false i = i

pub any_of_bag : {X : Type 0} (f : X → Triple) (p : Triple → Bool) (xs : List X) (ts : List Triple) → SameBag (map f xs) (filter p ts) → is_any xs ≡ list_any p ts
any_of_bag f p xs ts h = sym (any_mapped f xs) ∙ (any_same (map f xs) (filter p ts) h ∙ any_left p ts)

-- ---- nodes

module _ (x : Term) where
  ends_any : (g : List Triple) → list_any (same_term x) (flat_map ends_of g) ≡ (list_any (λ t. same_term x t.subject) g || list_any (λ t. same_term x t.object) g)
  ends_any [] = refl
  ends_any (t ∷ g) = ap (λ r. same_term x t.subject || (same_term x t.object || r)) (ends_any g) ∙ moved (same_term x t.subject) (same_term x t.object) (list_any (λ t. same_term x t.subject) g) (list_any (λ t. same_term x t.object) g)
    where
      moved : (a b r s : Bool) → (a || (b || (r || s))) ≡ ((a || r) || (b || s))
      moved true b r s = refl
      moved false true true s = refl
      moved false true false s = refl
      moved false false true s = refl
      moved false false false s = refl

  once_any : (ts : List Term) → list_any (same_term x) ts ≡ list_any (same_term x) (once same_term ts)
  once_any ts = bool_same _ _ (λ h. mem_in same_term same_term-Decides x (once same_term ts) (mem_once same_term same_term-Decides x ts (in_mem same_term same_term-Decides x ts h))) (λ h. mem_in same_term same_term-Decides x ts (mem_of_once same_term same_term-Decides x ts (in_mem same_term same_term-Decides x (once same_term ts) h)))

  pub is_node : (g : List Triple) → (list_any (λ t. same_term x t.subject) g || list_any (λ t. same_term x t.object) g) ≡ list_any (same_term x) (nodes_of g)
  is_node g = sym (ends_any g) ∙ once_any (flat_map ends_of g)

-- whether there is a next triple
pub any_next : (xs rest : List (List ℕ)) (o : Option (List ℕ)) (b : Bool) → YieldsFirst (λ (l : List (List ℕ)). l) xs o rest → b ≡ is_some o → b ≡ is_any xs
any_next xs rest None b h e = e ∙ sym (ap is_any h.0)
any_next xs rest (Some x) b h e = e ∙ sym (ap is_any h)

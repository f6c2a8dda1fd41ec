-- The first place of a name, by what stands before each place.
use Rattle.std.proofs.Common.{◌≡◌, ℕ, zero, suc, ◌<◌, Bool, true, false, ◌||◌, cond, nat_eq, List, [], ◌∷◌, length, take, Option, Some, None, slice_get, if◌then◌else◌, refl, sym, ap, ◌∙◌, arith}
use Rattle.std.proofs.lemmas.List.{take_all}
use Rattle.std.proofs.lemmas.Bool.{lt-ltb, le-ltb}
use Rattle.std.specs.Cmp.Lexicographic.{pointwise, bytes_decides}
use Rattle.qs_syntax_scope.specs.Names.{Name, contains}
use Rattle.qs_syntax_scope.specs.Places.{place_of}
use Rattle.qs_syntax_scope.specs.inner.Places.{is_before, first_with, IsIndex}
use Rattle.qs_syntax_scope.specs.declared.name_list.Places.{Places}

absent_at : (x name : Name) (xs : List Name) (b : Bool) → pointwise nat_eq x name ≡ b → (b || contains xs name) ≡ false → (contains xs name ≡ false → place_of xs name ≡ length xs) → cond b zero (suc (place_of xs name)) ≡ suc (length xs)
absent_at x name xs true e h f = let k : true ≡ false = h in cc
absent_at x name xs false e h f = ap suc (f h)

absent : (names : List Name) (name : Name) → contains names name ≡ false → place_of names name ≡ length names
absent [] name h = refl
absent (x ∷ xs) name h = absent_at x name xs (pointwise nat_eq x name) refl h (absent xs name)

found_at : (x name : Name) (xs : List Name) (first : ℕ) (b : Bool) → (b || contains (take first xs) name) ≡ false → (b || contains (take (suc first) xs) name) ≡ true
    → (contains (take first xs) name ≡ false → contains (take (suc first) xs) name ≡ true → place_of xs name ≡ first) → cond b zero (suc (place_of xs name)) ≡ suc first
found_at x name xs first true h k f = let e : true ≡ false = h in cc
found_at x name xs first false h k f = ap suc (f h k)

first_at : (b c : Bool) (n : ℕ) → (b || c) ≡ true → c ≡ false → cond b zero n ≡ zero
first_at true c n h k = refl
first_at false c n h k = let e : true ≡ false = sym h ∙ k in cc

found : (names : List Name) (name : Name) (first : ℕ) → contains (take first names) name ≡ false → contains (take (suc first) names) name ≡ true → place_of names name ≡ first
found [] name zero h k = let e : false ≡ true = k in cc
found [] name (suc first) h k = let e : false ≡ true = k in cc
found (x ∷ xs) name zero h k = first_at (pointwise nat_eq x name) (contains (take zero xs) name) (suc (place_of xs name)) k refl
found (x ∷ xs) name (suc first) h k = found_at x name xs first (pointwise nat_eq x name) h k (found xs name first)

-- ---- a name that is among them stands at its place

pub at_place : (names : List Name) (name : Name) → contains names name ≡ true → slice_get names (place_of names name) ≡ Some name
at_place [] name h = let e : false ≡ true = h in cc
at_place (x ∷ xs) name h = by (pointwise nat_eq x name) refl h (at_place xs name)
  where
    by : (b : Bool) → pointwise nat_eq x name ≡ b → (b || contains xs name) ≡ true → (contains xs name ≡ true → slice_get xs (place_of xs name) ≡ Some name)
        → slice_get (x ∷ xs) (if b then zero else suc (place_of xs name)) ≡ Some name
    by true e h later = ap Some ((bytes_decides x name).0 e)
    by false e h later = later h

pub within : (names : List Name) (name : Name) → contains names name ≡ true → place_of names name < length names
within [] name h = let e : false ≡ true = h in absurd cc
within (x ∷ xs) name h = by (pointwise nat_eq x name) h (within xs name)
  where
    by : (b : Bool) → (b || contains xs name) ≡ true → (contains xs name ≡ true → place_of xs name < length xs) → (if b then zero else suc (place_of xs name)) < length (x ∷ xs)
    by true h later = omega arith
    by false h later = let inner : place_of xs name < length xs = later h in omega arith

-- ---- by the index

by_place : (names : List Name) (name : Name) (places : Option Places) → ((place : ℕ) → contains (take place names) name ≡ is_before place places) → place_of names name ≡ first_with (length names) places
by_place names name None before = absent names name (ap (λ l. contains l name) (sym (take_all (length names) names (omega arith))) ∙ before (length names))
by_place names name (Some places) before =
    found names name places.first (before places.first ∙ le-ltb places.first places.first (omega arith)) (before (suc places.first) ∙ lt-ltb places.first (suc places.first) (omega arith))

-- the index tells the first place
pub first_place : (names : List Name) (places : Name → Option Places) → IsIndex names places → (name : Name) → place_of names name ≡ first_with (length names) (places name)
first_place names places is name = by_place names name (places name) (is.before name)

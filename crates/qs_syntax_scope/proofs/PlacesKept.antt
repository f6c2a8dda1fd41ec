-- One more name keeps the index.
use Rattle.std.proofs.Common.{◌≡◌, ℕ, zero, suc, ◌+◌, ◌<◌, ◌≤◌, Bool, true, false, ◌||◌, cond, nat_eq, ltb, leb, List, [], ◌∷◌, ◌++◌, length, take, drop, Option, Some, None, refl, sym, ap, subst, ◌∙◌, ⊎_elim, arith, length-append}
use Rattle.std.proofs.lemmas.List.{take-append-le, drop-append-le, take_all, drop_all}
use Rattle.std.proofs.lemmas.List.Folds.{list_any-append}
use Rattle.std.proofs.lemmas.Bool.{lt-ltb, le-ltb, le-leb, lt-leb, cases_lt, or_right}
use Rattle.std.specs.Ordering.{nat_cmp}
use Rattle.std.specs.Cmp.Lexicographic.{pointwise, slice_cmp, texts_ties, bytes_decides, nat_list_eq_equiv}
use Rattle.std.specs.BTreeMap.{is_at}
use Rattle.qs_syntax_scope.specs.Names.{Name, contains}
use Rattle.qs_syntax_scope.specs.inner.Places.{is_before, is_from, first_with, IsWithin, IsIndex}
use Rattle.qs_syntax_scope.specs.declared.name_list.Places.{Places}

same : Name → Name → Bool
same = pointwise nat_eq

or_false : (b : Bool) → (b || false) ≡ b
or_false true = refl
or_false false = refl

pub with_name : (names : List Name) {items : List Name} {name key : Name} → items ≡ names ++ key ∷ [] → key ≡ name → items ≡ names ++ name ∷ []
with_name names e f = e ∙ ap (λ n. names ++ n ∷ []) f

-- ---- of another name

take_nil : (place : ℕ) (q : Name) → contains (take place []) q ≡ false
take_nil zero q = refl
take_nil (suc place) q = refl

drop_nil : (place : ℕ) (q : Name) → contains (drop place []) q ≡ false
drop_nil zero q = refl
drop_nil (suc place) q = refl

take_other : (names : List Name) (name q : Name) (place : ℕ) → pointwise nat_eq name q ≡ false → contains (take place (names ++ name ∷ [])) q ≡ contains (take place names) q
take_other names name q zero e = refl
take_other [] name q (suc place) e = ap (λ b. b || contains (take place []) q) e ∙ take_nil place q
take_other (x ∷ xs) name q (suc place) e = ap (λ b. pointwise nat_eq x q || b) (take_other xs name q place e)

drop_other : (names : List Name) (name q : Name) (place : ℕ) → pointwise nat_eq name q ≡ false → contains (drop place (names ++ name ∷ [])) q ≡ contains (drop place names) q
drop_other names name q zero e = list_any-append (λ one. pointwise nat_eq one q) names (name ∷ []) ∙ ap (λ b. contains names q || (b || false)) e ∙ or_false (contains names q)
drop_other [] name q (suc place) e = drop_nil place q
drop_other (x ∷ xs) name q (suc place) e = drop_other xs name q place e

-- ---- of the name itself

all_with : (names : List Name) (name : Name) → pointwise nat_eq name name ≡ true → contains (names ++ name ∷ []) name ≡ true
all_with names name e = list_any-append (λ one. pointwise nat_eq one name) names (name ∷ []) ∙ ap (λ b. contains names name || (b || false)) e ∙ or_right (contains names name) true refl

take_same : (names : List Name) (name : Name) (place : ℕ) → contains (take place (names ++ name ∷ [])) name ≡ (contains (take place names) name || ltb (length names) place)
take_same names name place = ⊎_elim
    (λ (h : length names < place).
    ap (λ l. contains l name) (take_all place (names ++ name ∷ []) (omega (arith, length-append names (name ∷ []))))
    ∙ all_with names name (nat_list_eq_equiv.refl name)
    ∙ sym (or_right (contains (take place names) name) (ltb (length names) place) (lt-ltb (length names) place h)))
    (λ (h : place ≤ length names).
    ap (λ l. contains l name) (take-append-le place names (name ∷ []) h)
    ∙ sym (ap (λ b. contains (take place names) name || b) (le-ltb (length names) place h) ∙ or_false (contains (take place names) name)))
    (cases_lt (length names) place)

drop_same : (names : List Name) (name : Name) (place : ℕ) → contains (drop place (names ++ name ∷ [])) name ≡ (contains (drop place names) name || leb place (length names))
drop_same names name place = ⊎_elim
    (λ (h : length names < place).
    ap (λ l. contains l name) (drop_all place (names ++ name ∷ []) (omega (arith, length-append names (name ∷ []))))
    ∙ sym (ap (λ b. contains (drop place names) name || b) (lt-leb place (length names) h) ∙ or_false (contains (drop place names) name) ∙ ap (λ l. contains l name) (drop_all place names (omega arith))))
    (λ (h : place ≤ length names).
    ap (λ l. contains l name) (drop-append-le place names (name ∷ []) h)
    ∙ all_with (drop place names) name (nat_list_eq_equiv.refl name)
    ∙ sym (or_right (contains (drop place names) name) (leb place (length names)) (le-leb place (length names) h)))
    (cases_lt (length names) place)

lt_or : (a n place : ℕ) → a ≤ n → (ltb a place || ltb n place) ≡ ltb a place
lt_or a n place h = ⊎_elim
    (λ (l : a < place). ap (λ b. b || ltb n place) (lt-ltb a place l) ∙ sym (lt-ltb a place l))
    (λ (l : place ≤ a). ap (λ b. ltb a place || b) (le-ltb n place (omega arith)) ∙ or_false (ltb a place))
    (cases_lt a place)

le_or : (a n place : ℕ) → a ≤ n → (leb place a || leb place n) ≡ leb place n
le_or a n place h = ⊎_elim
    (λ (l : a < place). ap (λ b. b || leb place n) (lt-leb place a l))
    (λ (l : place ≤ a). ap (λ b. b || leb place n) (le-leb place a l) ∙ sym (le-leb place n (omega arith)))
    (cases_lt a place)

-- ---- the index with one more name

before_with : (len place : ℕ) (old : Option Places) → IsWithin len old → (is_before place old || ltb len place) ≡ ltb (first_with len old) place
before_with len place None w = refl
before_with len place (Some places) w = lt_or places.first len place w.0

from_with : (len place : ℕ) (old : Option Places) → IsWithin len old → (is_from place old || leb place len) ≡ leb place len
from_with len place None w = refl
from_with len place (Some places) w = le_or places.last len place w.1

first_within : (len : ℕ) (old : Option Places) → IsWithin len old → first_with len old ≤ len + 1
first_within len None w = omega arith
first_within len (Some places) w = let h : places.first ≤ len = w.0 in omega arith

wider : (len longer : ℕ) (old : Option Places) → len ≤ longer → IsWithin len old → IsWithin longer old
wider len longer None h w = tt
wider len longer (Some places) h w = let a : places.first ≤ len = w.0 in let b : places.last ≤ len = w.1 in (omega arith, omega arith)

module _ (names : List Name) (name : Name) (old new : Name → Option Places) (is : IsIndex names old) (places : Places)
    (first : places.first ≡ first_with (length names) (old name)) (last : places.last ≡ length names)
    (updated : (q : Name) → new q ≡ cond (is_at (slice_cmp nat_cmp name) q) (Some places) (old q)) where
  at_name : new name ≡ Some places
  at_name = updated name ∙ ap (λ b. cond b (Some places) (old name)) (sym (texts_ties name name) ∙ nat_list_eq_equiv.refl name)

  at_other : (q : Name) → pointwise nat_eq name q ≡ false → new q ≡ old q
  at_other q e = updated q ∙ ap (λ b. cond b (Some places) (old q)) (sym (texts_ties name q) ∙ e)

  before_name : (place : ℕ) → contains (take place (names ++ name ∷ [])) name ≡ is_before place (new name)
  before_name place =
      take_same names name place
      ∙ ap (λ b. b || ltb (length names) place) (is.before name place)
      ∙ before_with (length names) place (old name) (is.within name)
      ∙ ap (λ n. ltb n place) (sym first)
      ∙ sym (ap (is_before place) at_name)

  from_name : (place : ℕ) → contains (drop place (names ++ name ∷ [])) name ≡ is_from place (new name)
  from_name place =
      drop_same names name place
      ∙ ap (λ b. b || leb place (length names)) (is.from name place)
      ∙ from_with (length names) place (old name) (is.within name)
      ∙ ap (λ n. leb place n) (sym last)
      ∙ sym (ap (is_from place) at_name)

  longer : length (names ++ name ∷ []) ≡ length names + 1
  longer = length-append names (name ∷ [])

  within_name : IsWithin (length (names ++ name ∷ [])) (new name)
  within_name =
      let f : first_with (length names) (old name) ≤ length names + 1 = first_within (length names) (old name) (is.within name) in
      let there : IsWithin (length (names ++ name ∷ [])) (Some places) = (omega (arith, f, first, longer), omega (arith, last, longer)) in
      subst (IsWithin (length (names ++ name ∷ []))) (sym at_name) there

  -- what holds of the name, and of each other, holds of all
  of_all : (P : Name → Type 0) → P name → ((q : Name) → pointwise nat_eq name q ≡ false → P q) → (q : Name) → P q
  of_all P here other q = by (pointwise nat_eq name q) refl
    where
      by : (b : Bool) → pointwise nat_eq name q ≡ b → P q
      by true e = subst P ((bytes_decides name q).0 e) here
      by false e = other q e

  pub index_with : IsIndex (names ++ name ∷ []) new
  index_with = record {
    before = of_all (λ q. (place : ℕ) → contains (take place (names ++ name ∷ [])) q ≡ is_before place (new q)) before_name
        (λ q e place. take_other names name q place e ∙ is.before q place ∙ sym (ap (is_before place) (at_other q e)));
    from = of_all (λ q. (place : ℕ) → contains (drop place (names ++ name ∷ [])) q ≡ is_from place (new q)) from_name
        (λ q e place. drop_other names name q place e ∙ is.from q place ∙ sym (ap (is_from place) (at_other q e)));
    within = of_all (λ q. IsWithin (length (names ++ name ∷ [])) (new q)) within_name
        (λ q e. subst (IsWithin (length (names ++ name ∷ []))) (sym (at_other q e)) (wider (length names) _ (old q) (omega (arith, longer)) (is.within q)));
  }

-- Number and term of a dictionary agree.
use Rattle.std.proofs.Common.{◌≡◌, ◌↔◌, ℕ, zero, suc, ◌-◌, get_or, ◌+◌, ◌<◌, ◌≤◌, Bool, true, false, List, [], ◌∷◌, ◌++◌, length, take, Option, Some, None, slice_get, if◌then◌else◌, refl, sym, ap, ◌∙◌, arith, add-one, length-append}
use Rattle.std.specs.List.{IsDistinct, list_any, position}
use Rattle.std.specs.Option.{option_map}
use Rattle.std.proofs.lemmas.Bool.{false≢true}
use Rattle.std.proofs.lemmas.Option.{same_Some, none-some, slice_get_read}
use Rattle.indexmap.specs.IndexSet.{insert_key}
use Rattle.qs_terms.specs.Bag.{Distinct, with_new}
use Rattle.qs_terms.specs.Term.{same_term}
use Rattle.qs_terms.specs.declared.term.Term.{Term}
use Rattle.qs_terms.specs.contracts.term.TermPartialEq.TheImpl as equ
use Rattle.qs_terms.proofs.SameTerm.{same_term-Decides, eq_is}
use Rattle.qs_dict.specs.inner.Dict.{term_at, number_of, KeepsNumbers}
use Rattle.qs_dict.proofs.Places.{slice_get-front, slice_get-take, any_at_place, Distinct-keys, slice_get-position, position-slice_get}

-- the set's test of its keys
pub eq_term : (term : Term) → equ.ghosts.eq term ≡ same_term term
eq_term term = λ j other. eq_is term other j

pub distinct_terms : (terms : List Term) → IsDistinct equ.ghosts.eq terms → Distinct same_term terms
distinct_terms = Distinct-keys equ.ghosts.eq same_term eq_is

pub place_number : (terms : List Term) (term : Term) (place : Option ℕ) → place ≡ position (equ.ghosts.eq term) terms → option_map suc place ≡ number_of terms term
place_number terms term place e = ap (option_map suc) (e ∙ ap (λ p. position p terms) (eq_term term))

number_at_zero : (place : Option ℕ) → option_map suc place ≡ Some 0 → ⊥
number_at_zero None e = none-some _ e
number_at_zero (Some i) e = absurd (omega (arith, same_Some _ _ e))

place_of_number : (place : Option ℕ) (i : ℕ) → option_map suc place ≡ Some (suc i) → place ≡ Some i
place_of_number None i e = absurd (none-some _ e)
place_of_number (Some k) i e = ap Some (omega (arith, same_Some _ _ e))

-- the number is the term's exactly where the term is the number's
pub exact_number : (terms : List Term) (term : Term) → Distinct same_term terms → (n : ℕ) → (number_of terms term ≡ Some n) ↔ (term_at terms n ≡ Some term)
exact_number terms term u zero = (λ e. absurd (number_at_zero _ e), λ e. absurd (none-some _ e))
exact_number terms term u (suc i) = (
  λ e. slice_get-position same_term same_term-Decides terms i term (place_of_number _ i e),
  λ e. ap (option_map suc) (position-slice_get same_term same_term-Decides terms i term u e),
)

-- the term that stands at the number's place
pub term_there : (terms : List Term) (number : ℕ) (term : Term) → 0 < number → number ≤ length terms → term ≡ get_or terms (number - 1) term → term_at terms number ≡ Some term
term_there terms zero term some h e = absurd (omega arith)
term_there terms (suc i) term some h e =
    let place : suc i - 1 ≡ i = omega arith in
    slice_get_read terms (length terms) i term refl (omega arith) (e ∙ ap (λ k. get_or terms k term) place)

-- a term that has a number is there, so that nothing is added
pub with_known : (terms : List Term) (term : Term) (n : ℕ) → number_of terms term ≡ Some n → terms ≡ with_new same_term terms term
with_known terms term zero e = absurd (number_at_zero _ e)
with_known terms term (suc i) e = rw (any_at_place (same_term term) terms i term (place_of_number _ i e)) refl

-- what the set makes of its keys
pub keys_with : (terms : List Term) (term : Term) → insert_key equ.ghosts.eq terms term ≡ with_new same_term terms term
keys_with terms term = ap (λ p. if list_any p terms then terms else terms ++ term ∷ []) (eq_term term)

-- a term that is there leaves the keys
pub keys_stay : (terms new : List Term) (term : Term) (n : ℕ) → new ≡ insert_key equ.ghosts.eq terms term → number_of terms term ≡ Some n → new ≡ terms
keys_stay terms new term n k e = k ∙ (keys_with terms term ∙ sym (with_known terms term n e))

-- what the set lacks has no number
pub no_number : (terms : List Term) (term : Term) (n : ℕ) → number_of terms term ≡ Some n → list_any (equ.ghosts.eq term) terms ≡ false → ⊥
no_number terms term zero e a = number_at_zero _ e
no_number terms term (suc i) e a =
    false≢true (sym a ∙ (ap (λ p. list_any p terms) (eq_term term) ∙ any_at_place (same_term term) terms i term (place_of_number _ i e)))

keeps_at : (terms more : List Term) (n : ℕ) → n ≤ length terms → term_at (terms ++ more) n ≡ term_at terms n
keeps_at terms more zero h = refl
keeps_at terms more (suc i) h = slice_get-front terms more i (omega arith)

keeps_by : (terms : List Term) (term : Term) (b : Bool) → KeepsNumbers (length terms) terms (if b then terms else terms ++ term ∷ [])
keeps_by terms term true n h = refl
keeps_by terms term false n h = keeps_at terms (term ∷ []) n h

-- a new term leaves the numbers
pub keeps_with : (terms : List Term) (term : Term) → KeepsNumbers (length terms) terms (with_new same_term terms term)
keeps_with terms term = keeps_by terms term (list_any (same_term term) terms)

-- and so does a cut those that it leaves
pub keeps_front : (len : ℕ) (terms : List Term) → KeepsNumbers len terms (take len terms)
keeps_front len terms zero h = refl
keeps_front len terms (suc i) h = slice_get-take len terms i (omega arith)

-- where the set put the term, there is its number
pub place_at : (terms : List Term) (term : Term) (place : ℕ) → Distinct same_term terms → ((k : Term) × (slice_get terms place ≡ Some k) × (equ.ghosts.eq term k ≡ true)) → number_of terms term ≡ Some (place + 1)
place_at terms term place u h =
    let key : term ≡ h.0 = (same_term-Decides term h.0).0 (sym (eq_is term h.0) ∙ h.2) in
    let there : slice_get terms place ≡ Some term = h.1 ∙ ap Some (sym key) in
    rw (add-one place) ((exact_number terms term u (suc place)).1 there)

-- an insertion adds one key at most
pub at_most_one : (old new : ℕ) (added : Bool) → new ≡ old + (if added then 1 else 0) → new ≤ old + 1
at_most_one old new true e = omega arith
at_most_one old new false e = omega arith

-- what the set lacks has none
pub unnumbered : (terms : List Term) (term : Term) → list_any (equ.ghosts.eq term) terms ≡ false → number_of terms term ≡ None
unnumbered terms term a = by (number_of terms term) refl
  where
    by : (o : Option ℕ) → number_of terms term ≡ o → o ≡ None
    by None e = refl
    by (Some n) e = absurd (no_number terms term n e a)

more_at_most : (terms : List Term) (term : Term) (b : Bool) → length (if b then terms else terms ++ term ∷ []) ≤ length terms + 1
more_at_most terms term true = omega arith
more_at_most terms term false = omega (arith, length-append terms (term ∷ []))

-- one term at most is put
pub more_by_one : (terms : List Term) (term : Term) → length (with_new same_term terms term) ≤ length terms + 1
more_by_one terms term = more_at_most terms term (list_any (same_term term) terms)

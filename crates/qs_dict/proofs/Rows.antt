-- Worked rows of the definitions, by hand.
use Rattle.std.proofs.Common.{◌≡◌, List, [], ◌∷◌, Some, None, refl}
use Rattle.qs_terms.specs.Literal as literal
use Rattle.qs_terms.specs.declared.term.Term.{Term}
use Rattle.qs_terms.specs.declared.term.Term.TheVariants.{Iri, Blank, Literal}
use Rattle.qs_dict.specs.inner.Dict.{term_at, number_of}

-- "1" and "01" of one datatype: the same value, but two terms
abbrev one : literal.Literal
one = record { form = 49 ∷ []; datatype = 105 ∷ 58 ∷ []; tag = None }

abbrev one_again : literal.Literal
one_again = record { form = 48 ∷ 49 ∷ []; datatype = 105 ∷ 58 ∷ []; tag = None }

abbrev terms : List Term
terms = Blank 7 ∷ Literal one ∷ Iri (105 ∷ 58 ∷ []) ∷ []

numbers_from_one : term_at terms 1 ≡ Some (Blank 7)
numbers_from_one = refl

zero_unused : term_at terms 0 ≡ None
zero_unused = refl

past_the_last : term_at terms 4 ≡ None
past_the_last = refl

third : number_of terms (Iri (105 ∷ 58 ∷ [])) ≡ Some 3
third = refl

second : number_of terms (Literal one) ≡ Some 2
second = refl

not_by_value : number_of terms (Literal one_again) ≡ None
not_by_value = refl

not_by_number : number_of terms (Blank 1) ≡ None
not_by_number = refl

-- Rows of expressions, computed by the definitions.
use Rattle.std.proofs.Common.{◌≡◌, ℕ, Bool, true, false, List, [], ◌∷◌, codes, Option, Some, None, refl}
use Rattle.std.specs.Prelude.{pos, negsuc}
use Rattle.std.specs.Str.{chars}
use Rattle.qs_terms.specs.Literal.{xsd_string, xsd_integer, xsd_boolean, rdf_lang_string, typed, tagged}
use Rattle.qs_terms.specs.declared.term.Term.TheVariants.{Iri, Blank, Literal}
use Rattle.qs_expr_values.specs.Number.{integer_of, in_range}
use Rattle.qs_expr_values.specs.Values.{integer_term, boolean_term, text_term}
use Rattle.qs_expr_meaning.specs.Calls.{Value, unary, binary, strings, joined}
use Rattle.qs_expr_meaning.specs.Truth.{either, both, any, every, denied}
use Rattle.qs_expr_meaning.specs.Meaning.{truth, among, number, added, multiplied, with_sign, choice, first_value, compared}
use Rattle.qs_syntax_tree.specs.declared.expression.Comparison.TheVariants.{Equal, NotEqual, Less}
use Rattle.qs_syntax_tree.specs.declared.expression.Sign.TheVariants.{Plus, Minus}
use Rattle.qs_syntax_tree.specs.declared.expression.UnaryFunction.TheVariants.{StrLen, Lang, Datatype, Str, IsNumeric}
use Rattle.qs_syntax_tree.specs.declared.expression.BinaryFunction.TheVariants.{LangMatches, Contains, SameTerm}

-- ---- truth with errors: the table of SPARQL 1.1 Query, 17.2

abbrev T : Option Bool
T = Some true

abbrev F : Option Bool
F = Some false

abbrev E : Option Bool
E = None

or_true : (either T T ≡ T) × (either T F ≡ T) × (either F T ≡ T) × (either F F ≡ F)
or_true = (refl, refl, refl, refl)

or_error : (either T E ≡ T) × (either E T ≡ T) × (either F E ≡ E) × (either E F ≡ E) × (either E E ≡ E)
or_error = (refl, refl, refl, refl, refl)

and_true : (both T T ≡ T) × (both T F ≡ F) × (both F T ≡ F) × (both F F ≡ F)
and_true = (refl, refl, refl, refl)

and_error : (both T E ≡ E) × (both E T ≡ E) × (both F E ≡ F) × (both E F ≡ F) × (both E E ≡ E)
and_error = (refl, refl, refl, refl, refl)

not_error : denied E ≡ E
not_error = refl

later_decides : (any (F ∷ E ∷ T ∷ []) ≡ T) × (every (T ∷ E ∷ F ∷ []) ≡ F)
later_decides = (refl, refl)

none_at_all : (any [] ≡ F) × (every [] ≡ T)
none_at_all = (refl, refl)

-- ---- IN

abbrev int : List ℕ → Value
int form = Some (Literal (typed form xsd_integer))

abbrev str : List ℕ → Value
str form = Some (text_term form)

one_of_three : among (int (codes "1")) (int (codes "2") ∷ str (codes "a") ∷ int (codes "1") ∷ []) ≡ Some true
unfolding integer_of xsd_integer xsd_boolean xsd_string
one_of_three = refl

none_of_two : among (int (codes "1")) (int (codes "2") ∷ str (codes "a") ∷ []) ≡ None
unfolding integer_of xsd_integer xsd_boolean xsd_string
none_of_two = refl

error_among_none : among None [] ≡ Some false
error_among_none = refl

-- ---- comparisons

equal_values : compared Equal (Literal (typed (codes "01") xsd_integer)) (Literal (typed (codes "1") xsd_integer)) ≡ Some true
unfolding integer_of xsd_integer
equal_values = refl

other_terms : binary SameTerm (Literal (typed (codes "01") xsd_integer)) (Literal (typed (codes "1") xsd_integer)) ≡ Some (boolean_term false)
other_terms = refl

past_64_bits_equal : compared Equal (Literal (typed (codes "09223372036854775808") xsd_integer)) (Literal (typed (codes "9223372036854775808") xsd_integer)) ≡ Some true
unfolding integer_of xsd_integer
past_64_bits_equal = refl

no_order : compared Less (Iri (codes "x:a")) (Iri (codes "x:b")) ≡ None
no_order = refl

unlike_iris : compared NotEqual (Iri (codes "x:a")) (Iri (codes "x:b")) ≡ Some true
unlike_iris = refl

not_ill_formed : denied (truth (int (codes "abc"))) ≡ Some true
unfolding xsd_integer xsd_boolean
not_ill_formed = refl

empty_is_false : choice (truth (str [])) (int (codes "1")) (int (codes "2")) ≡ int (codes "2")
unfolding xsd_integer xsd_boolean xsd_string
empty_is_false = refl

error_chooses_none : choice None (int (codes "1")) (int (codes "2")) ≡ None
error_chooses_none = refl

first_without_error : first_value (None ∷ int (codes "1") ∷ None ∷ []) ≡ int (codes "1")
first_without_error = refl

-- ---- arithmetic and both ends of the range

past_64_bits : added (number (int (codes "9223372036854775807"))) (Plus, int (codes "1")) ≡ Some (pos 9223372036854775808)
unfolding integer_of xsd_integer
past_64_bits = refl

past_128_bits : added (number (int (codes "170141183460469231731687303715884105727"))) (Plus, int (codes "1")) ≡ None
unfolding integer_of xsd_integer
past_128_bits = refl

least : added (number (int (codes "-170141183460469231731687303715884105727"))) (Minus, int (codes "1")) ≡ Some (negsuc 170141183460469231731687303715884105727)
unfolding integer_of xsd_integer
least = refl

past_least : added (number (int (codes "-170141183460469231731687303715884105728"))) (Minus, int (codes "1")) ≡ None
unfolding integer_of xsd_integer
past_least = refl

minus_minus : in_range (Some (with_sign Minus (negsuc 9223372036854775807))) ≡ Some (pos 9223372036854775808)
minus_minus = refl

minus_least : in_range (Some (with_sign Minus (negsuc 170141183460469231731687303715884105727))) ≡ None
minus_least = refl

product_of_two : multiplied (Some (negsuc 1)) (int (codes "3")) ≡ Some (negsuc 5)
unfolding integer_of xsd_integer
product_of_two = refl

no_number : number (str (codes "1")) ≡ None
unfolding xsd_integer xsd_boolean xsd_string
no_number = refl

-- ---- functions

matches : binary LangMatches (text_term (codes "en-us")) (text_term (codes "EN")) ≡ Some (boolean_term true)
unfolding xsd_integer xsd_boolean xsd_string
matches = refl

tagged_is_no_range : binary LangMatches (text_term (codes "en")) (Literal (tagged (codes "en") (codes "en"))) ≡ None
unfolding xsd_integer xsd_boolean xsd_string rdf_lang_string
tagged_is_no_range = refl

one_character : unary StrLen (text_term (195 ∷ 169 ∷ [])) ≡ Some (integer_term (pos 1))
unfolding xsd_string chars
one_character = refl

no_length : unary StrLen (Literal (typed (codes "1") xsd_integer)) ≡ None
unfolding xsd_string xsd_integer
no_length = refl

no_tag : unary Lang (text_term (codes "a")) ≡ Some (text_term [])
no_tag = refl

datatype_of_tagged : unary Datatype (Literal (tagged (codes "a") (codes "en"))) ≡ Some (Iri rdf_lang_string)
datatype_of_tagged = refl

blank_has_no_form : unary Str (Blank 3) ≡ None
blank_has_no_form = refl

numeric_without_value : unary IsNumeric (Literal (typed (codes "x") xsd_integer)) ≡ Some (boolean_term false)
unfolding integer_of xsd_integer
numeric_without_value = refl

plain_in_tagged : binary Contains (Literal (tagged (codes "abc") (codes "en"))) (text_term (codes "bc")) ≡ Some (boolean_term true)
unfolding xsd_string rdf_lang_string
plain_in_tagged = refl

tagged_in_plain : binary Contains (text_term (codes "abc")) (Literal (tagged (codes "bc") (codes "en"))) ≡ None
unfolding xsd_string rdf_lang_string
tagged_in_plain = refl

-- ---- CONCAT

same_tags : joined (tagged (codes "a") (codes "en") ∷ tagged (codes "b") (codes "EN") ∷ []) ≡ Literal (tagged (codes "ab") (codes "en"))
same_tags = refl

other_tags : joined (tagged (codes "a") (codes "en") ∷ tagged (codes "b") (codes "de") ∷ []) ≡ text_term (codes "ab")
other_tags = refl

one_without_tag : joined (tagged (codes "a") (codes "en") ∷ typed (codes "b") xsd_string ∷ []) ≡ text_term (codes "ab")
one_without_tag = refl

no_strings : joined [] ≡ text_term []
no_strings = refl

not_a_string : strings (str (codes "a") ∷ int (codes "1") ∷ []) ≡ None
unfolding xsd_integer xsd_string
not_a_string = refl

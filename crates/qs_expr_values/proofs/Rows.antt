-- Rows of values, computed by the definitions.
use Rattle.std.proofs.Common.{◌≡◌, ℕ, true, false, List, [], codes, Some, None, refl}
use Rattle.std.specs.Prelude.{pos, negsuc}
use Rattle.std.specs.declared.cmp.Ordering.TheVariants.{Less, Equal, Greater}
use Rattle.qs_terms.specs.Literal.{xsd_string, xsd_integer, xsd_boolean, rdf_lang_string, typed, tagged}
use Rattle.qs_terms.specs.declared.term.Term.{Term}
use Rattle.qs_terms.specs.declared.term.Term.TheVariants.{Iri, Blank, Literal}
use Rattle.qs_expr_values.specs.Number.{integer_of}
use Rattle.qs_expr_values.specs.Sorting.{key_of, compare_keys}
use Rattle.qs_expr_values.specs.Text.{matches_range}
use Rattle.qs_expr_values.specs.Values.{ebv, equal}

-- ---- integers and the ends of their range

greatest : integer_of (codes "170141183460469231731687303715884105727") ≡ Some (pos 170141183460469231731687303715884105727)
unfolding integer_of
greatest = refl

past_greatest : integer_of (codes "170141183460469231731687303715884105728") ≡ None
unfolding integer_of
past_greatest = refl

least : integer_of (codes "-170141183460469231731687303715884105728") ≡ Some (negsuc 170141183460469231731687303715884105727)
unfolding integer_of
least = refl

past_least : integer_of (codes "-170141183460469231731687303715884105729") ≡ None
unfolding integer_of
past_least = refl

zeros : integer_of (codes "+0007") ≡ Some (pos 7)
unfolding integer_of
zeros = refl

minus_zero : integer_of (codes "-0") ≡ Some (pos 0)
unfolding integer_of
minus_zero = refl

sign_alone : integer_of (codes "-") ≡ None
unfolding integer_of
sign_alone = refl

no_digits : integer_of (codes "") ≡ None
unfolding integer_of
no_digits = refl

two_signs : integer_of (codes "-+1") ≡ None
unfolding integer_of
two_signs = refl

space : integer_of (codes " 1") ≡ None
unfolding integer_of
space = refl

-- ---- what is true

abbrev of : List ℕ → List ℕ → Term
of form datatype = Literal (typed form datatype)

ill_formed : ebv (of (codes "abc") xsd_integer) ≡ Some false
unfolding xsd_integer xsd_boolean
ill_formed = refl

too_great : ebv (of (codes "170141183460469231731687303715884105728") xsd_integer) ≡ Some true
unfolding xsd_integer xsd_boolean
too_great = refl

ill_formed_boolean : ebv (of (codes "yes") xsd_boolean) ≡ Some false
unfolding xsd_boolean
ill_formed_boolean = refl

tagged_empty : ebv (Literal (tagged [] (codes "en"))) ≡ Some false
unfolding xsd_integer xsd_boolean xsd_string rdf_lang_string
tagged_empty = refl

-- ---- equal, or not known to be

one : equal (of (codes "01") xsd_integer) (of (codes "1") xsd_integer) ≡ Some true
unfolding integer_of xsd_integer
one = refl

past_64_bits : equal (of (codes "09223372036854775808") xsd_integer) (of (codes "9223372036854775808") xsd_integer) ≡ Some true
unfolding integer_of xsd_integer
past_64_bits = refl

two_truths : equal (of (codes "1") xsd_boolean) (of (codes "true") xsd_boolean) ≡ Some true
unfolding xsd_integer xsd_boolean
two_truths = refl

no_kind : equal (of (codes "a") xsd_string) (of (codes "1") xsd_integer) ≡ None
unfolding integer_of xsd_integer xsd_boolean xsd_string
no_kind = refl

different_kinds : equal (Iri (codes "x:a")) (Blank 7) ≡ Some false
unfolding xsd_integer
different_kinds = refl

same_of_no_kind : equal (Literal (tagged (codes "a") (codes "en"))) (Literal (tagged (codes "a") (codes "EN"))) ≡ Some true
unfolding xsd_integer xsd_boolean xsd_string rdf_lang_string
same_of_no_kind = refl

others_of_no_kind : equal (Literal (tagged (codes "a") (codes "en"))) (Literal (tagged (codes "b") (codes "en"))) ≡ None
unfolding xsd_integer xsd_boolean xsd_string rdf_lang_string
others_of_no_kind = refl

-- ---- language ranges (RFC 4647, 3.3.1)

front : matches_range (codes "EN") (codes "en-us") ≡ true
front = refl

no_front : matches_range (codes "en") (codes "eng") ≡ false
no_front = refl

whole : matches_range (codes "de-de") (codes "de-DE") ≡ true
whole = refl

any_tag : matches_range (codes "*") (codes "de") ≡ true
any_tag = refl

no_tag : matches_range (codes "*") [] ≡ false
no_tag = refl

-- ---- the order of ORDER BY

ties : compare_keys (key_of (Some (of (codes "01") xsd_integer))) (key_of (Some (of (codes "1") xsd_integer))) ≡ Equal
unfolding integer_of xsd_integer
ties = refl

nine_before_ten : compare_keys (key_of (Some (of (codes "9") xsd_integer))) (key_of (Some (of (codes "10") xsd_integer))) ≡ Less
unfolding integer_of xsd_integer
nine_before_ten = refl

ten_before_its_text : compare_keys (key_of (Some (of (codes "10") xsd_integer))) (key_of (Some (of (codes "10") xsd_string))) ≡ Less
unfolding integer_of xsd_integer xsd_boolean xsd_string
ten_before_its_text = refl

unbound_before_blank : compare_keys (key_of None) (key_of (Some (Blank 0))) ≡ Less
unbound_before_blank = refl

iri_before_false : compare_keys (key_of (Some (Iri (codes "z:z")))) (key_of (Some (of (codes "0") xsd_boolean))) ≡ Less
unfolding xsd_integer xsd_boolean
iri_before_false = refl

ill_formed_last : compare_keys (key_of (Some (of (codes "x") xsd_integer))) (key_of (Some (of (codes "a") xsd_string))) ≡ Greater
unfolding integer_of xsd_integer xsd_boolean xsd_string
ill_formed_last = refl

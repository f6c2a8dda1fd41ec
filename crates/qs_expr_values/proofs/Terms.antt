-- What computed terms are worth, and what is true of them.
use Rattle.std.proofs.Common.{◌≡◌, ℕ, Bool, true, false, List, Option, Some, None, refl, ap, ◌∙◌, if◌then◌else◌}
use Rattle.std.specs.Prelude.{ℤ}
use Rattle.std.specs.Int.{w128}
use Rattle.std.specs.Int.RustNames.{FitsSigned}
use Rattle.qs_terms.specs.Literal.{xsd_string, xsd_integer, xsd_boolean, rdf_lang_string}
use Rattle.qs_expr_values.specs.Number.{integer_of, in_range, canonical}
use Rattle.qs_expr_values.specs.Values.{integer, boolean, text, other, worth, boolean_term, integer_term, text_term, strung, is_not_zero, ebv}
use Rattle.qs_expr_values.specs.Text.{is_not_empty}
use Rattle.qs_expr_values.specs.inner.Values.{integer_or_other}
use Rattle.qs_expr_values.proofs.Numbers.{read_back, fits}

pub value_back : (z : ℤ) → FitsSigned w128 z → integer_of (canonical z) ≡ Some z
unfolding integer_of
value_back z h = ap in_range (read_back z h) ∙ ap (λ b. if b then Some z else None) (fits z h)

pub worth_integer : (z : ℤ) → FitsSigned w128 z → worth (integer_term z) ≡ integer z
unfolding xsd_integer
worth_integer z h = ap integer_or_other (value_back z h)

pub worth_boolean : (b : Bool) → worth (boolean_term b) ≡ boolean b
unfolding xsd_integer xsd_boolean
worth_boolean true = refl
worth_boolean false = refl

pub worth_text : (s : List ℕ) → worth (text_term s) ≡ text s
unfolding xsd_integer xsd_boolean xsd_string
worth_text s = refl

pub worth_tagged : (t : List ℕ) (s : List ℕ) → worth (strung (Some t) s) ≡ other
unfolding xsd_integer xsd_boolean xsd_string rdf_lang_string
worth_tagged t s = refl

pub ebv_integer : (z : ℤ) → FitsSigned w128 z → ebv (integer_term z) ≡ Some (is_not_zero (Some z))
unfolding xsd_integer xsd_boolean
ebv_integer z h = ap (λ o. Some (is_not_zero o)) (read_back z h)

pub ebv_boolean : (b : Bool) → ebv (boolean_term b) ≡ Some b
unfolding xsd_boolean
ebv_boolean true = refl
ebv_boolean false = refl

pub ebv_text : (s : List ℕ) → ebv (text_term s) ≡ Some (is_not_empty s)
unfolding xsd_integer xsd_boolean xsd_string
ebv_text s = refl

pub ebv_strung : (t : Option (List ℕ)) (s : List ℕ) → ebv (strung t s) ≡ Some (is_not_empty s)
unfolding xsd_integer xsd_boolean xsd_string rdf_lang_string
ebv_strung None s = refl
ebv_strung (Some t) s = refl

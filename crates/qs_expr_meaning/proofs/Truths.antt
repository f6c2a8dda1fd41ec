-- The effective boolean value of a boolean is the boolean.
use Rattle.std.proofs.Common.{◌≡◌, Bool, true, false, Option, Some, None, refl, ap, ◌∙◌}
use Rattle.qs_terms.specs.Literal.{xsd_boolean}
use Rattle.qs_expr_values.specs.Values.{boolean_term}
use Rattle.qs_expr_meaning.specs.Calls.{Value}
use Rattle.qs_expr_meaning.specs.Meaning.{truth}
use Rattle.qs_expr_meaning.specs.inner.Meaning.{boolean_value}

told : (b : Bool) → truth (Some (boolean_term b)) ≡ Some b
unfolding xsd_boolean
told true = refl
told false = refl

pub truth_of : (o : Option Bool) → truth (boolean_value o) ≡ o
truth_of None = refl
truth_of (Some b) = told b

pub truth_told : (x : Value) (b : Bool) → x ≡ Some (boolean_term b) → truth x ≡ Some b
truth_told x b h = ap truth h ∙ told b

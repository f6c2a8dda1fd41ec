-- Definitions over those of `Calls`, for proofs and the layers between.
use Rattle.std.specs.Prelude.{ℕ, Bool, List, length, Option, Some, None, pos, if◌then◌else◌}
use Rattle.std.specs.Option.{is_some, option_map}
use Rattle.std.specs.List.{flat_map}
use Rattle.std.specs.Str.{chars}
use Rattle.qs_terms.specs.Literal as lit
use Rattle.qs_terms.specs.Term.{same_tag}
use Rattle.qs_terms.specs.declared.term.Term.{Term}
use Rattle.qs_expr_values.specs.Values.{worth, boolean_term, integer_term}
use Rattle.qs_expr_meaning.specs.Calls.{Value, integer_of_worth, of_both, unary, string_of}
use Rattle.qs_expr_meaning.specs.Calls.{compatible}
use Rattle.qs_syntax_tree.specs.declared.expression.UnaryFunction.TheVariants.{Str, Lang, Datatype}

abbrev pub is_numeric : Term → Bool
is_numeric t = is_some (integer_of_worth (worth t))

abbrev pub form_of : Term → Value
form_of t = unary Str t

abbrev pub tag_of : Term → Value
tag_of t = unary Lang t

abbrev pub datatype_of : Term → Value
datatype_of t = unary Datatype t

-- how many code points a string has
abbrev pub length_of : lit.Literal → Term
length_of l = integer_term (pos (length (chars l.form)))

abbrev pub Parts : Type 0
Parts = List ℕ × Option (List ℕ)

abbrev pub literal_parts : lit.Literal → Parts
literal_parts l = (l.form, l.tag)

-- the form and the tag of a string
abbrev pub string_parts : Term → Option Parts
string_parts t = option_map literal_parts (string_of t)

abbrev pub agreeing : Parts → Parts → Option (List ℕ × List ℕ)
agreeing x y = if compatible x.1 y.1 then Some (x.0, y.0) else None

-- the forms of two strings whose tags agree, by their parts
abbrev pub forms_of_parts : Term → Term → Option (List ℕ × List ℕ)
forms_of_parts a b = of_both agreeing (string_parts a) (string_parts b)

abbrev pub of_texts : (List ℕ → List ℕ → Bool) → Option (List ℕ) → Option (List ℕ) → Value
of_texts test a b = of_both (λ x y. Some (boolean_term (test x y))) a b

abbrev pub forms : List lit.Literal → List ℕ
forms ls = flat_map (λ l. l.form) ls

-- a tag, if the next string has it too
abbrev pub agreed : Option (List ℕ) → lit.Literal → Option (List ℕ)
agreed tag l = if same_tag tag l.tag then tag else None

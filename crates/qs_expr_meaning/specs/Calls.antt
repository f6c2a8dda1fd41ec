-- The functions of the profile (SPARQL 1.1 Query, 17.4): a term, or none where they err.
use Rattle.std.specs.Prelude.{ℕ, Bool, true, false, ◌||◌, not, List, [], ◌∷◌, length, Option}
use Rattle.std.specs.Prelude.{Some, None, if◌then◌else◌, pos, ℤ, nat_eq}
use Rattle.std.specs.Option.{is_some, unwrap_or, option_map, option_and_then}
use Rattle.std.specs.List.{fold, flat_map, starts_with, ends_with}
use Rattle.std.specs.Str.{bytes_eq, chars}
use Rattle.qs_terms.specs.Literal as lit
use Rattle.qs_terms.specs.Literal.{xsd_string}
use Rattle.qs_terms.specs.Statement.{is_iri}
use Rattle.qs_terms.specs.Term.{same_term, same_tag}
use Rattle.qs_terms.specs.declared.term.Term.{Term}
use Rattle.qs_terms.specs.declared.term.Term.TheVariants as term
use Rattle.qs_expr_values.specs.Text.{stands_in, matches_range}
use Rattle.qs_expr_values.specs.Values.{Worth, integer, text, worth, is_literal}
use Rattle.qs_expr_values.specs.Values.{boolean_term, integer_term, text_term, strung}
use Rattle.qs_syntax_tree.specs.declared.expression.UnaryFunction.{UnaryFunction}
use Rattle.qs_syntax_tree.specs.declared.expression.UnaryFunction.TheVariants.{IsIri, IsBlank}
use Rattle.qs_syntax_tree.specs.declared.expression.UnaryFunction.TheVariants.{IsLiteral, IsNumeric}
use Rattle.qs_syntax_tree.specs.declared.expression.UnaryFunction.TheVariants.{Str, Lang, Datatype}
use Rattle.qs_syntax_tree.specs.declared.expression.UnaryFunction.TheVariants.{StrLen}
use Rattle.qs_syntax_tree.specs.declared.expression.BinaryFunction.{BinaryFunction}
use Rattle.qs_syntax_tree.specs.declared.expression.BinaryFunction.TheVariants.{SameTerm}
use Rattle.qs_syntax_tree.specs.declared.expression.BinaryFunction.TheVariants.{LangMatches}
use Rattle.qs_syntax_tree.specs.declared.expression.BinaryFunction.TheVariants.{Contains, StrStarts}
use Rattle.qs_syntax_tree.specs.declared.expression.BinaryFunction.TheVariants.{StrEnds}

-- a value, or none where there is an error
abbrev pub Value : Type 0
Value = Option Term

-- of two values, neither of which is an error
abbrev pub of_both : {A X : Type 0} → (A → A → Option X) → Option A → Option A → Option X
of_both f a b = option_and_then (λ x. option_and_then (f x) b) a

-- the integer of the range, if it is worth one
abbrev pub integer_of_worth : Worth → Option ℤ
integer_of_worth (integer z) = Some z
integer_of_worth _ = None

abbrev pub is_blank : Term → Bool
is_blank (term.Blank n) = true
is_blank _ = false

-- a string: an xsd:string or a literal with a tag
abbrev pub string_of : Term → Option lit.Literal
string_of (term.Literal l) =
    if bytes_eq l.datatype xsd_string || is_some l.tag then Some l else None
string_of _ = None

-- the functions of one argument (17.4.2 and 17.4.3.2); a length is counted in code points
abbrev pub unary : UnaryFunction → Term → Value
unary IsIri t = Some (boolean_term (is_iri t))
unary IsBlank t = Some (boolean_term (is_blank t))
unary IsLiteral t = Some (boolean_term (is_literal t))
unary IsNumeric t = Some (boolean_term (is_some (integer_of_worth (worth t))))
unary Str (term.Iri i) = Some (text_term i)
unary Str (term.Blank n) = None
unary Str (term.Literal l) = Some (text_term l.form)
unary Lang (term.Literal l) = Some (text_term (unwrap_or l.tag []))
unary Lang _ = None
unary Datatype (term.Literal l) = Some (term.Iri l.datatype)
unary Datatype _ = None
unary StrLen t = option_map (λ l. integer_term (pos (length (chars l.form)))) (string_of t)

-- the tags of two arguments agree, or the second has none (17.4.3.1.2)
abbrev pub compatible : Option (List ℕ) → Option (List ℕ) → Bool
compatible a b = not (is_some b) || same_tag a b

-- the forms of two strings whose tags agree
abbrev pub both_forms : Term → Term → Option (List ℕ × List ℕ)
both_forms a b = of_both (λ s t. if compatible s.tag t.tag then Some (s.form, t.form) else None)
    (string_of a) (string_of b)

abbrev pub of_strings : (List ℕ → List ℕ → Bool) → Term → Term → Value
of_strings test a b = option_map (λ p. boolean_term (test p.0 p.1)) (both_forms a b)

abbrev pub text_of_worth : Worth → Option (List ℕ)
text_of_worth (text s) = Some s
text_of_worth _ = None

-- the functions of two arguments; those of LANGMATCHES are strings without tags
abbrev pub binary : BinaryFunction → Term → Term → Value
binary SameTerm a b = Some (boolean_term (same_term a b))
binary LangMatches tag range = of_both (λ t r. Some (boolean_term (matches_range r t)))
    (text_of_worth (worth tag)) (text_of_worth (worth range))
binary Contains a b = of_strings (λ s t. stands_in t s) a b
binary StrStarts a b = of_strings (starts_with nat_eq) a b
binary StrEnds a b = of_strings (ends_with nat_eq) a b

-- ---- CONCAT (17.4.3.12)

-- the strings, if all values are strings
abbrev pub strings : List Value → Option (List lit.Literal)
strings [] = Some []
strings (x ∷ xs) =
    option_and_then (λ l. option_map (λ ls. l ∷ ls) (strings xs)) (option_and_then string_of x)

-- the tag that all have, if there is one
abbrev pub common_tag : List lit.Literal → Option (List ℕ)
common_tag [] = None
common_tag (l ∷ ls) = fold (λ tag next. if same_tag tag next.tag then tag else None) l.tag ls

abbrev pub joined : List lit.Literal → Term
joined ls = strung (common_tag ls) (flat_map (λ l. l.form) ls)

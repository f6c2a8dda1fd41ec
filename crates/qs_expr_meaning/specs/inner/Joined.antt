-- What is left of CONCAT after its first strings.
use Rattle.std.specs.Prelude.{◌≡◌, ℕ, true, List, [], ◌∷◌, ◌++◌, Option, Some, None, Result}
use Rattle.std.specs.Prelude.{MatchResult, if◌then◌else◌}
use Rattle.std.specs.Borrow.{Bor}
use Rattle.std.specs.Option.{option_copied, option_map, option_and_then, unwrap_or}
use Rattle.qs_terms.specs.Literal.{Literal}
use Rattle.qs_terms.specs.Term.{same_tag}
use Rattle.qs_terms.specs.declared.term.Term.{Term}
use Rattle.qs_terms.specs.declared.term.Term.TheVariants as term
use Rattle.qs_expr_values.specs.Values.{strung}
use Rattle.qs_expr_meaning.specs.Calls.{Value}
use Rattle.qs_expr_meaning.specs.inner.Calls.{Parts, string_parts}
use Rattle.qs_expr_meaning.specs.inner.Comes.{Errs}
use Rattle.qs_expr_meaning.specs.declared.fault.ExprFault.{ExprFault}

abbrev pub Tag : Type 0
Tag = Option (List ℕ)

abbrev pub tag_in : Option Literal → Tag
tag_in None = None
tag_in (Some l) = l.tag

abbrev pub tag_of_term : Term → Tag
tag_of_term (term.Iri i) = None
tag_of_term (term.Blank n) = None
tag_of_term (term.Literal l) = l.tag

-- the form so far, and the tag, or none before the first string
abbrev pub SoFar : Type 0
SoFar = List ℕ × Option Tag

abbrev pub tag_seen : Option (Option (Bor Literal)) → Option Tag
tag_seen None = None
tag_seen (Some l) = Some (tag_in (option_copied l))

abbrev pub nothing : SoFar
nothing = ([], None)

-- the tag so far, if the next string has it too
abbrev pub with_tag : Option Tag → Tag → Tag
with_tag None next = next
with_tag (Some tag) next = if same_tag tag next then tag else None

abbrev pub with_parts : SoFar → Parts → SoFar
with_parts s p = (s.0 ++ p.0, Some (with_tag s.1 p.1))

-- with one string more; none where the value is no string
abbrev pub with_value : SoFar → Term → Option SoFar
with_value s t = option_map (with_parts s) (string_parts t)

abbrev pub finished : SoFar → Term
finished s = strung (unwrap_or s.1 None) s.0

abbrev pub joined_from : SoFar → List Value → Value
joined_from s [] = Some (finished s)
joined_from s (None ∷ xs) = None
joined_from s (Some t ∷ xs) = option_and_then (λ next. joined_from next xs) (with_value s t)

-- the form and the tag of the strings with one more
abbrev pub JoinsTo : Option SoFar → List ℕ → Result (Option (Bor Literal)) ExprFault → Type 0
JoinsTo due form result =
    MatchResult result (λ tag. due ≡ Some (form, Some (tag_in (option_copied tag)))) (Errs true due)

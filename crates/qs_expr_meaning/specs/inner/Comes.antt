-- What the evaluator answers: what is due, an error only where one is due, and running out of
-- memory only where memory is taken.
use Rattle.std.specs.Prelude.{◌≡◌, ℕ, List, Bool, true, Option, Some, None, Result, MatchResult}
use Rattle.std.specs.Borrow.{Bor}
use Rattle.std.specs.Option.{option_copied}
use Rattle.qs_terms.specs.declared.term.Term.{Term}
use Rattle.qs_terms.specs.declared.term.Term.TheVariants as rdf
use Rattle.qs_terms.specs.Literal.{xsd_string, rdf_lang_string}
use Rattle.qs_expr_values.specs.inner.Value.{term_of, datatype_text}
use Rattle.qs_expr_values.specs.declared.datatype.Datatype.{Datatype}
use Rattle.qs_expr_values.specs.Values.{boolean_term}
use Rattle.qs_expr_values.specs.declared.value.Value.{Value}
use Rattle.qs_expr_meaning.specs.declared.fault.ExprFault.{ExprFault}
use Rattle.qs_expr_meaning.specs.declared.fault.ExprFault.TheVariants.{TypeError, Memory}

-- an error only where one is due; memory may run out where it is taken
abbrev pub Errs : {X : Type 0} → Bool → Option X → ExprFault → Type 0
Errs makes due TypeError = due ≡ None
Errs makes due Memory = makes ≡ true

-- what is due, or running out of memory
abbrev pub Comes : {X : Type 0} → Bool → Option X → Result X ExprFault → Type 0
Comes makes due result = MatchResult result (λ x. due ≡ Some x) (Errs makes due)

-- the term that is due, as a value
abbrev pub ComesAs : Bool → Option Term → Result Value ExprFault → Type 0
ComesAs makes due result = MatchResult result (λ v. due ≡ Some (term_of v)) (Errs makes due)

-- the boolean that is due, as a term
abbrev pub Tells : Bool → Option Term → Result Bool ExprFault → Type 0
Tells makes due result = MatchResult result (λ b. due ≡ Some (boolean_term b)) (Errs makes due)

-- the form and the tag that contracts see of two references
abbrev pub parts_seen : Bor (List ℕ) × Option (Bor (List ℕ)) → List ℕ × Option (List ℕ)
parts_seen p = (p.0.now, option_copied p.1)

abbrev pub forms_seen : Bor (List ℕ) × Bor (List ℕ) → List ℕ × List ℕ
forms_seen p = (p.0.now, p.1.now)

-- the IRI of a datatype, as a term
abbrev pub iri_of : Datatype → Term
iri_of d = rdf.Iri (datatype_text d)

-- the datatype of a string, with a tag or without
abbrev pub tagged_datatype : Option (List ℕ) → Term
tagged_datatype None = rdf.Iri xsd_string
tagged_datatype (Some tag) = rdf.Iri rdf_lang_string

-- Terms (RDF 1.1 Concepts, 3.1): IRIs, blank nodes with numbers, and literals. The integers `"01"`
-- and `"1"` are two terms.
use Rattle.std.specs.Prelude.{ℕ, Bool, false, ◌&&◌, ◌==◌, List, Option}
use Rattle.std.specs.Str.{bytes_eq}
use Rattle.std.specs.Option.{option_eq}
use Rattle.qs_terms.specs.Literal as literal
use Rattle.qs_terms.specs.declared.term.Term.{Term}
use Rattle.qs_terms.specs.declared.term.Term.TheVariants.{Iri, Blank, Literal}

-- two literals are the same where form, datatype and tag are (RDF 1.1 Concepts, 3.3)
abbrev pub same_tag : Option (List ℕ) → Option (List ℕ) → Bool
same_tag = option_eq bytes_eq

abbrev pub same_literal : literal.Literal → literal.Literal → Bool
same_literal a b =
    bytes_eq a.form b.form && (bytes_eq a.datatype b.datatype && same_tag a.tag b.tag)

-- two terms are the same where kind and texts are, and two blank nodes where their numbers are
abbrev pub same_term : Term → Term → Bool
same_term (Iri a) (Iri b) = bytes_eq a b
same_term (Blank m) (Blank n) = m == n
same_term (Literal a) (Literal b) = same_literal a b
same_term _ _ = false

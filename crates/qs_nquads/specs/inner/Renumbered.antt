-- Quads with other blank nodes: what reading a written text gives.
use Rattle.std.specs.Prelude.{◌≡◌, ℕ, true, ◌+◌, ◌^◌, ◌<◌, ◌==◌, List, [], ◌∷◌, ◌++◌, map, length}
use Rattle.std.specs.Prelude.{Option, Some, None, if◌then◌else◌}
use Rattle.std.specs.List.{flat_map}
use Rattle.std.specs.Str.{IsUtf8}
use Rattle.qs_terms.specs.Bag.{once}
use Rattle.qs_terms.specs.inner.Iri.{is_iri_text}
use Rattle.qs_terms.specs.inner.Literal.{is_literal}
use Rattle.qs_terms.specs.Statement.{Statement, fits_places}
use Rattle.qs_terms.specs.declared.term.Term.{Term}
use Rattle.qs_terms.specs.declared.term.Term.TheVariants as term
use Rattle.qs_nquads.specs.Nquads.{IsNquads}
use Rattle.qs_nquads.specs.Written.{ordered, nquads_of}

-- the number of the blank node that the term is
abbrev pub blanks_in : Term → List ℕ
blanks_in (term.Iri i) = []
blanks_in (term.Blank n) = n ∷ []
blanks_in (term.Literal l) = []

abbrev pub blanks_in_name : Option Term → List ℕ
blanks_in_name None = []
blanks_in_name (Some name) = blanks_in name

-- the blank nodes of a statement, in the order in which its line names them
abbrev pub blanks_of : Statement → List ℕ
blanks_of q = blanks_in q.subject ++ (blanks_in q.object ++ blanks_in_name q.graph)

-- the blank nodes of statements by their first appearance, each once
unfoldable pub first_blanks : List Statement → List ℕ
first_blanks qs = once ◌==◌ (flat_map blanks_of qs)

-- how many stand before the number
abbrev pub before : ℕ → List ℕ → ℕ
before b [] = 0
before b (x ∷ xs) = if b == x then 0 else (before b xs + 1)

-- the term with another number
abbrev pub renumbered_term : (ℕ → ℕ) → Term → Term
renumbered_term f (term.Iri i) = term.Iri i
renumbered_term f (term.Blank n) = term.Blank (f n)
renumbered_term f (term.Literal l) = term.Literal l

abbrev pub renumbered_name : (ℕ → ℕ) → Option Term → Option Term
renumbered_name f None = None
renumbered_name f (Some name) = Some (renumbered_term f name)

abbrev pub renumbered : (ℕ → ℕ) → Statement → Statement
renumbered f q = record {
  graph = renumbered_name f q.graph;
  subject = renumbered_term f q.subject;
  predicate = renumbered_term f q.predicate;
  object = renumbered_term f q.object;
}

-- what holds of each term of a program: a lawful text, or a number of 64 bits
abbrev pub IsTerm : Term → Type 0
IsTerm (term.Iri i) = IsUtf8 i × (is_iri_text i ≡ true)
IsTerm (term.Blank n) = n < 2 ^ 64
IsTerm (term.Literal l) = IsUtf8 l.form × IsUtf8 l.datatype × (is_literal l ≡ true)

abbrev pub IsName : Option Term → Type 0
IsName None = Unit {0}
IsName (Some name) = IsTerm name

-- what holds of each quad of a program: its terms are lawful, and stand where they may
pub record IsQuad (q : Statement) : Type 0 where
  pub fits : fits_places q.graph q.subject q.predicate ≡ true
  pub graph : IsName q.graph
  pub subject : IsTerm q.subject
  pub predicate : IsTerm q.predicate
  pub object : IsTerm q.object

abbrev pub AreQuads : List Statement → Type 0
AreQuads [] = Unit {0}
AreQuads (q ∷ qs) = IsQuad q × AreQuads qs

-- the number of a blank node: `first` and the place of its first appearance
abbrev pub number_from : ℕ → List Statement → ℕ → ℕ
number_from first qs b = first + before b (first_blanks qs)

-- the text of the quads is N-Quads of the quads in the order of their lines, with other blank
-- nodes, where numbers suffice
abbrev pub ReadsBack : List Statement → ℕ → Type 0
ReadsBack qs first =
    first + length (first_blanks (ordered qs)) < 2 ^ 64
    → IsNquads (nquads_of qs) first (map (renumbered (number_from first (ordered qs))) (ordered qs))
    (first + length (first_blanks (ordered qs)))

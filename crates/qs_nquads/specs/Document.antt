-- Documents by the grammar of RDF 1.1 N-Quads, section 4, over what the tokens of a text say.
-- Productions have the standard's numbers. `part.Iri` is an IRIREF [10], `part.Blank` a
-- BLANK_NODE_LABEL [141s], `part.Form` a STRING_LITERAL_QUOTE [11], `part.Tag` a LANGTAG [144s],
-- and `part.LineEnd` one character of an EOL [8].
use Rattle.std.specs.Prelude.{◌≡◌, ℕ, List, [], ◌∷◌, ◌++◌, Option, Some, None, Ok}
use Rattle.qs_terms.specs.Literal.{Literal, xsd_string, typed, checked_typed, checked_tagged}
use Rattle.qs_terms.specs.Statement.{Statement}
use Rattle.qs_terms.specs.declared.term.Term.{Term}
use Rattle.qs_terms.specs.declared.term.Term.TheVariants as term
use Rattle.qs_nquads.specs.declared.part.Part.{Part}
use Rattle.qs_nquads.specs.declared.part.Part.TheVariants as part

-- subject [3] and graphLabel [6]: IRIREF | BLANK_NODE_LABEL
pub data IsNode : Part → Term → Type 0 where
  iri : (i : List ℕ) → IsNode (part.Iri i) (term.Iri i)
  blank : (n : ℕ) → IsNode (part.Blank n) (term.Blank n)

-- predicate [4]: IRIREF
pub data IsPredicate : Part → Term → Type 0 where
  predicate : (i : List ℕ) → IsPredicate (part.Iri i) (term.Iri i)

-- literal [7]: STRING_LITERAL_QUOTE ('^^' IRIREF | LANGTAG)?
-- A datatype may not be rdf:langString (RDF 1.1 Concepts, 3.3).
pub data IsLiteral : List Part → Literal → Type 0 where
  plain : (form : List ℕ) → IsLiteral (part.Form form ∷ []) (typed form xsd_string)
  with_type : (form i : List ℕ) (l : Literal) → checked_typed form i ≡ Ok l
      → IsLiteral (part.Form form ∷ part.Carets ∷ part.Iri i ∷ []) l
  with_tag : (form tag : List ℕ) (l : Literal) → checked_tagged form tag ≡ Ok l
      → IsLiteral (part.Form form ∷ part.Tag tag ∷ []) l

-- object [5]: IRIREF | BLANK_NODE_LABEL | literal
pub data IsObject : List Part → Term → Type 0 where
  node : (p : Part) (t : Term) → IsNode p t → IsObject (p ∷ []) t
  literal : (ps : List Part) (l : Literal) → IsLiteral ps l → IsObject ps (term.Literal l)

-- graphLabel? [2]
pub data IsGraph : List Part → Option Term → Type 0 where
  unnamed : IsGraph [] None
  named : (p : Part) (t : Term) → IsNode p t → IsGraph (p ∷ []) (Some t)

-- statement [2]: subject predicate object graphLabel? '.'
pub data IsStatement : List Part → Statement → Type 0 where
  statement : (s p : Part) (o g : List Part) (a b c : Term) (d : Option Term)
      → IsNode s a → IsPredicate p b → IsObject o c → IsGraph g d
      → IsStatement (s ∷ p ∷ (o ++ (g ++ part.Dot ∷ [])))
      (record { graph = d; subject = a; predicate = b; object = c })

-- nquadsDoc [1]: statement? (EOL statement)* EOL?
-- A line has a statement or none, and all but the last have an end.
pub data IsDocument : List Part → List Statement → Type 0 where
  none : IsDocument [] []
  last : (ps : List Part) (q : Statement) → IsStatement ps q → IsDocument ps (q ∷ [])
  empty_line : (ps : List Part) (qs : List Statement)
      → IsDocument ps qs → IsDocument (part.LineEnd ∷ ps) qs
  line : (ps rest : List Part) (q : Statement) (qs : List Statement)
      → IsStatement ps q → IsDocument rest qs → IsDocument (ps ++ part.LineEnd ∷ rest) (q ∷ qs)

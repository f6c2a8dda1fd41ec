-- How statements are read a part at a time: subject, predicate, object, optionally the name of a
-- graph, `.`. Only spaces, tabs and a comment may follow the `.` of a statement on its line. LF
-- and CR each are a token before a statement and after its `.`.
use Rattle.std.specs.Prelude.{ℕ, Bool, true, false, List, Option, Some, None, Result, Ok, Err}
use Rattle.qs_terms.specs.Literal.{Literal, xsd_string, typed, checked_typed, checked_tagged}
use Rattle.qs_terms.specs.Statement.{Statement}
use Rattle.qs_terms.specs.declared.fault.TermFault.{TermFault}
use Rattle.qs_terms.specs.declared.term.Term.{Term}
use Rattle.qs_terms.specs.declared.term.Term.TheVariants as term
use Rattle.qs_nquads.specs.declared.fault.NqFaultKind.{NqFaultKind}
use Rattle.qs_nquads.specs.declared.fault.NqFaultKind.TheVariants as fault
use Rattle.qs_nquads.specs.declared.node.Node.{Node}
use Rattle.qs_nquads.specs.declared.node.Node.TheVariants as node
use Rattle.qs_nquads.specs.declared.part.Part.{Part}
use Rattle.qs_nquads.specs.declared.part.Part.TheVariants as part
use Rattle.qs_nquads.specs.declared.statement_state.StatementState.{StatementState}
use Rattle.qs_nquads.specs.declared.statement_state.StatementState.TheVariants as place
use Rattle.qs_nquads.specs.inner.Next.{Next}
use Rattle.qs_nquads.specs.inner.Next as next

-- an IRI or a blank node, as a term
abbrev pub term_of : Node → Term
term_of (node.Iri i) = term.Iri i
term_of (node.Blank n) = term.Blank n

abbrev pub name_of : Option Node → Option Term
name_of None = None
name_of (Some n) = Some (term_of n)

-- a whole statement
abbrev pub statement : Node → List ℕ → Term → Option Node → Statement
statement s p o g =
    record { graph = name_of g; subject = term_of s; predicate = term.Iri p; object = o }

-- the statement goes on at this place
abbrev pub goes_on : StatementState → Result Next NqFaultKind
goes_on p = Ok (next.StatementState p)

-- the part has no place here
abbrev pub misplaced : Result Next NqFaultKind
misplaced = Err fault.Shape

-- the object is a literal, unless its datatype is rdf:langString
abbrev pub with_literal : Node → List ℕ → Result Literal TermFault → Result Next NqFaultKind
with_literal s p (Ok l) = goes_on (place.Object s p (term.Literal l))
with_literal s p (Err f) = Err fault.Literal

-- before a statement
abbrev pub at_start : Part → Result Next NqFaultKind
at_start (part.Iri i) = goes_on (place.Subject (node.Iri i))
at_start (part.Blank n) = goes_on (place.Subject (node.Blank n))
at_start part.LineEnd = goes_on place.Start
at_start (part.Form t) = misplaced
at_start (part.Tag t) = misplaced
at_start part.Carets = misplaced
at_start part.Dot = misplaced

-- after the subject
abbrev pub at_subject : Node → Part → Result Next NqFaultKind
at_subject s (part.Iri i) = goes_on (place.Predicate s i)
at_subject s (part.Blank n) = misplaced
at_subject s part.LineEnd = misplaced
at_subject s (part.Form t) = misplaced
at_subject s (part.Tag t) = misplaced
at_subject s part.Carets = misplaced
at_subject s part.Dot = misplaced

-- after the predicate
abbrev pub at_predicate : Node → List ℕ → Part → Result Next NqFaultKind
at_predicate s p (part.Iri i) = goes_on (place.Object s p (term.Iri i))
at_predicate s p (part.Blank n) = goes_on (place.Object s p (term.Blank n))
at_predicate s p (part.Form t) = goes_on (place.Form s p t)
at_predicate s p part.LineEnd = misplaced
at_predicate s p (part.Tag t) = misplaced
at_predicate s p part.Carets = misplaced
at_predicate s p part.Dot = misplaced

-- after the object
abbrev pub at_object : Node → List ℕ → Term → Part → Result Next NqFaultKind
at_object s p o (part.Iri i) = goes_on (place.Label s p o (node.Iri i))
at_object s p o (part.Blank n) = goes_on (place.Label s p o (node.Blank n))
at_object s p o part.Dot = Ok (next.Quad (statement s p o None))
at_object s p o part.LineEnd = misplaced
at_object s p o (part.Form t) = misplaced
at_object s p o (part.Tag t) = misplaced
at_object s p o part.Carets = misplaced

-- after a string: its tag or `^^`; or it is a literal of xsd:string
abbrev pub at_form : Node → List ℕ → List ℕ → Part → Result Next NqFaultKind
at_form s p form (part.Tag t) = with_literal s p (checked_tagged form t)
at_form s p form part.Carets = goes_on (place.Typed s p form)
at_form s p form (part.Iri i) = at_object s p (term.Literal (typed form xsd_string)) (part.Iri i)
at_form s p form (part.Blank n) =
    at_object s p (term.Literal (typed form xsd_string)) (part.Blank n)
at_form s p form part.Dot = at_object s p (term.Literal (typed form xsd_string)) part.Dot
at_form s p form part.LineEnd = misplaced
at_form s p form (part.Form t) = misplaced

-- after `^^`
abbrev pub at_typed : Node → List ℕ → List ℕ → Part → Result Next NqFaultKind
at_typed s p form (part.Iri i) = with_literal s p (checked_typed form i)
at_typed s p form (part.Blank n) = misplaced
at_typed s p form part.LineEnd = misplaced
at_typed s p form (part.Form t) = misplaced
at_typed s p form (part.Tag t) = misplaced
at_typed s p form part.Carets = misplaced
at_typed s p form part.Dot = misplaced

-- after the name of the graph
abbrev pub at_label : Node → List ℕ → Term → Node → Part → Result Next NqFaultKind
at_label s p o g part.Dot = Ok (next.Quad (statement s p o (Some g)))
at_label s p o g (part.Iri i) = misplaced
at_label s p o g (part.Blank n) = misplaced
at_label s p o g part.LineEnd = misplaced
at_label s p o g (part.Form t) = misplaced
at_label s p o g (part.Tag t) = misplaced
at_label s p o g part.Carets = misplaced

-- after the `.`, where only the line's end may stand
abbrev pub at_done : Part → Result Next NqFaultKind
at_done part.LineEnd = goes_on place.Start
at_done (part.Iri i) = misplaced
at_done (part.Blank n) = misplaced
at_done (part.Form t) = misplaced
at_done (part.Tag t) = misplaced
at_done part.Carets = misplaced
at_done part.Dot = misplaced

-- what a part makes of a place: the next place, a whole statement, or a fault
abbrev pub after : StatementState → Part → Result Next NqFaultKind
after place.Start t = at_start t
after (place.Subject s) t = at_subject s t
after (place.Predicate s p) t = at_predicate s p t
after (place.Form s p form) t = at_form s p form t
after (place.Typed s p form) t = at_typed s p form t
after (place.Object s p o) t = at_object s p o t
after (place.Label s p o g) t = at_label s p o g t
after place.Done t = at_done t

-- a text may end before a statement and after its `.`
abbrev pub may_end : StatementState → Bool
may_end place.Start = true
may_end place.Done = true
may_end (place.Subject s) = false
may_end (place.Predicate s p) = false
may_end (place.Form s p form) = false
may_end (place.Typed s p form) = false
may_end (place.Object s p o) = false
may_end (place.Label s p o g) = false

-- What the longest front says at a place of a statement: a label gets its number only where it
-- has its place.
use Rattle.std.specs.Prelude.{ℕ, Bool, true, false, List, Result, Ok, Err}
use Rattle.qs_lex_escapes.specs.Decoded.{decoded}
use Rattle.qs_lex_escapes.specs.Escape.{uchar, string_escape}
use Rattle.qs_terms.specs.Iri.{checked_iri}
use Rattle.qs_nquads.specs.Labels.{Numbering, number}
use Rattle.qs_nquads.specs.Part.{inside}
use Rattle.qs_nquads.specs.inner.Part.{behind, iri_part, blank_part}
use Rattle.qs_nquads.specs.declared.class.Class.{Class}
use Rattle.qs_nquads.specs.declared.class.Class.TheVariants as class
use Rattle.qs_nquads.specs.declared.fault.NqFaultKind.{NqFaultKind}
use Rattle.qs_nquads.specs.declared.fault.NqFaultKind.TheVariants as fault
use Rattle.qs_nquads.specs.declared.part.Part.{Part}
use Rattle.qs_nquads.specs.declared.part.Part.TheVariants as part
use Rattle.qs_nquads.specs.declared.statement_state.StatementState.{StatementState}
use Rattle.qs_nquads.specs.declared.statement_state.StatementState.TheVariants as place

-- a statement takes a blank node here: as subject, object or name of a graph ([3], [5], [6])
abbrev pub takes_label : StatementState → Bool
takes_label place.Start = true
takes_label (place.Subject s) = false
takes_label (place.Predicate s p) = true
takes_label (place.Form s p form) = true
takes_label (place.Typed s p form) = false
takes_label (place.Object s p o) = true
takes_label (place.Label s p o g) = false
takes_label place.Done = false

-- a label where it has its place
abbrev pub label_part : Numbering → Bool → List ℕ → Result (Part × Numbering) NqFaultKind
label_part n true label = blank_part (number n label)
label_part n false label = Err fault.Shape

-- what the front of a class, of these bytes, says at a place of a statement
abbrev pub part_of : StatementState → Numbering → Class → List ℕ
    → Result (Part × Numbering) NqFaultKind
part_of p n class.Iri token = iri_part n (checked_iri (decoded uchar (inside token)))
part_of p n class.String token = Ok (part.Form (decoded string_escape (inside token)), n)
part_of p n class.Tag token = Ok (part.Tag (behind token 1), n)
part_of p n class.Label token = label_part n (takes_label p) (behind token 2)
part_of p n class.Carets token = Ok (part.Carets, n)
part_of p n class.Dot token = Ok (part.Dot, n)
part_of p n class.LineEnd token = Ok (part.LineEnd, n)
part_of p n class.Open token = Err fault.Token
part_of p n class.Broken token = Err fault.Escape

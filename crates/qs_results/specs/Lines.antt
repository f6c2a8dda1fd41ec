-- Faults as lines, without the line's end. Places and lines are in decimal.
use Rattle.std.specs.Prelude.{ℕ, List, ◌++◌, codes, decimal}
use Rattle.qs_terms.specs.declared.fault.QFault.{QFault}
use Rattle.qs_terms.specs.declared.fault.QFault.TheVariants as fault
use Rattle.qs_nquads.specs.declared.fault.NqFault.{NqFault}
use Rattle.qs_nquads.specs.declared.fault.NqFaultKind.{NqFaultKind}
use Rattle.qs_nquads.specs.declared.fault.NqFaultKind.TheVariants as kind

-- the line of a query's or an update's fault
abbrev pub fault_line : QFault → List ℕ
fault_line (fault.Syntax place) = codes "F1 syntax at " ++ decimal place
fault_line (fault.Prefix place) = codes "F2 undeclared prefix at " ++ decimal place
fault_line (fault.RelativeIri place) = codes "F3 relative IRI at " ++ decimal place
fault_line (fault.LeftOut word) = codes "F4 left out: " ++ word
fault_line fault.Scope = codes "F5 scope"
fault_line (fault.TooLarge place) = codes "F6 too large at " ++ decimal place
fault_line fault.NoGraph = codes "F7 no such graph"
fault_line fault.GraphExists = codes "F7 graph exists"
fault_line fault.TooManyRows = codes "F8 too many rows"
fault_line fault.Memory = codes "F9 out of memory"
fault_line fault.Full = codes "F10 full"

-- the status of a reply with that line: 400 where the text of the request is at fault, and 500
-- elsewhere (SPARQL 1.1 Protocol, 2.1.7 and 2.2.5; RFC 9110, 15.5.1 and 15.6.1)
abbrev pub fault_status : QFault → ℕ
fault_status fault.NoGraph = 500
fault_status fault.GraphExists = 500
fault_status fault.TooManyRows = 500
fault_status fault.Memory = 500
fault_status fault.Full = 500
fault_status _ = 400

-- what is wrong with data
abbrev pub kind_text : NqFaultKind → List ℕ
kind_text kind.Utf8 = codes "N1 utf8"
kind_text kind.Token = codes "N2 token"
kind_text kind.Shape = codes "N3 shape"
kind_text kind.Iri = codes "N4 iri"
kind_text kind.Escape = codes "N5 escape"
kind_text kind.Literal = codes "N6 literal"
kind_text kind.Memory = codes "N7 memory"
kind_text kind.Full = codes "N8 full"

-- the line of a fault in data
abbrev pub data_fault_line : NqFault → List ℕ
data_fault_line f = kind_text f.kind ++ (codes " at line " ++ decimal f.line)

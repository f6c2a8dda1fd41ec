-- Literals whose parts make none.
use Rattle.std.specs.Prelude.{Option, Some, None, Result, Ok, Err}
use Rattle.qs_terms.specs.Outcome.{Outcome}
use Rattle.qs_terms.specs.declared.fault.TermFault.{TermFault}
use Rattle.qs_terms.specs.declared.fault.TermFault.TheVariants as term
use Rattle.qs_terms.specs.declared.fault.TermFault.TheVariants.{NotAbsolute, BadChar, BadTag}
use Rattle.qs_terms.specs.declared.fault.TermFault.TheVariants.{BadDatatype}
use Rattle.qs_terms.specs.declared.fault.QFault.TheVariants.{Memory}

-- a literal that was made, or none where its parts make none
abbrev pub unless_refused : {A : Type 0} → Result A TermFault → Outcome (Option A)
unless_refused (Ok a) = Ok (Some a)
unless_refused (Err BadTag) = Ok None
unless_refused (Err BadDatatype) = Ok None
unless_refused (Err NotAbsolute) = Ok None
unless_refused (Err BadChar) = Ok None
unless_refused (Err term.Memory) = Err Memory

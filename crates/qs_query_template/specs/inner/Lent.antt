-- Lists of borrowed values, and outcomes that a Vec holds.
use Rattle.std.specs.Prelude.{List, Ok, Err, Result, Vec}
pub use Rattle.qs_base.specs.inner.Lent.{lent}
use Rattle.qs_terms.specs.Outcome.{Outcome}
use Rattle.qs_terms.specs.declared.fault.QFault.{QFault}

-- the list in the place of the Vec
abbrev pub listed : {X Z : Type 0} → Result (Vec X Z) QFault → Outcome (List X)
listed (Ok v) = Ok v.items
listed (Err e) = Err e

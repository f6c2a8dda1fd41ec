-- What a reader has handed out after a statement, or at the end of its text.
use Rattle.std.proofs.Common.{◌≡◌, inr, ◌-◌, ℕ, List, Option, Some, None, length, refl}
use Rattle.qs_terms.specs.Statement.{Statement}
use Rattle.qs_nquads.specs.Labels.{Numbering}
use Rattle.qs_nquads.specs.Nquads.{IsFault, line_at}
use Rattle.qs_nquads.specs.inner.Outcome.{IsStop}
use Rattle.qs_nquads.specs.inner.Reading.{start}
use Rattle.qs_nquads.specs.inner.Unread.{Unread, HasRead, HasComeTo, IsNextOf, reading}
use Rattle.qs_nquads.specs.declared.fault.NqFaultKind.{NqFaultKind}
use Rattle.qs_nquads.specs.declared.statement_state.StatementState.{StatementState}
use Rattle.qs_nquads.proofs.Bridge.{to_nquads}
use Rattle.qs_nquads.proofs.FaultBridge.{to_fault}

module _ (first : ℕ) (quads : List Statement) (old : Unread) (h : HasRead first quads old) where
  pub handed_out : (r : Option Statement) (p : StatementState) (labels : Numbering) (rest : List ℕ) → IsNextOf (start first old.bytes) quads r p labels rest
      → HasComeTo first quads r (record { bytes = old.bytes; place = p; labels = labels; rest = rest })
  handed_out (Some q) p labels rest c = (h.0, c)
  handed_out None p labels rest c = ((h.0, c.0), to_nquads old.bytes first quads labels.next (h.0, (reading p labels quads, c.1, refl, refl)))

  pub fails : (kind : NqFaultKind) (left line : ℕ) → IsStop (start first old.bytes) kind left → line ≡ line_at old.bytes (length old.bytes - left) → IsFault old.bytes first kind line
  fails kind left line s e = to_fault old.bytes first kind line (inr (h.0, (left, s, e)))

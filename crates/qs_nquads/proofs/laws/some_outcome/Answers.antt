use Rattle.std.proofs.Common.{inl, inr}
use Rattle.qs_nquads.proofs.Bridge.{to_nquads}
use Rattle.qs_nquads.proofs.FaultBridge.{to_fault}
use Rattle.qs_nquads.proofs.SomeOutcome as some
use Rattle.qs_nquads.proofs.laws.some_outcome.Goals as goal

pub returns : goal.returns
returns c = λ bytes first. elim (some.some_outcome bytes first) [
  | inl h ↦ inl (h.0, h.1, to_nquads bytes first h.0 h.1 h.2)
  | inr h ↦ inr (h.0, h.1, h.2, to_fault bytes first h.0 h.1 h.3)
]

use Rattle.std.proofs.Common.{◌++◌, ◌∙◌, List, ℕ, ap, ap₂, sym, append_assoc, arith}
use Rattle.qs_nquads.proofs.Lines.{joined_step}
use Rattle.qs_nquads.proofs.output.join.Goals as goal

pub loop-line-preserved : goal.loop-line-preserved
loop-line-preserved c =
    c.in_ok-extend_from_slice.ensures.items
    ∙ (ap₂ (λ (a b : List ℕ). a ++ b) c.loop-line.invariant (c.as_bytes.ensures ∙ c.line-item.is)
    ∙ append_assoc c.args.before.items _ _
    ∙ ap (λ (l : List ℕ). c.args.before.items ++ l) (sym (joined_step c.args.lines.now c.loop-line.line-index c.line-item.result (omega arith))))

use Rattle.std.proofs.Common.{rules, ◌≤◌, ◌∙◌, length, drop}
use Rattle.std.proofs.lemmas.List.{take_rest}
use Rattle.qs_terms.proofs.Puts.{appends_more, took_some}
use Rattle.qs_terms.proofs.device.put_all.Goals as goal

pub loop-sent-preserved : goal.loop-sent-preserved
loop-sent-preserved g c =
    let held = c.loop-sent.invariant in
    let rest = take_rest c.args.bytes.now c.loop-sent.sent in
    let count : c.in-Ok.n ≤ length (drop c.loop-sent.sent c.args.bytes.now) = rw rest at c.in-Ok.ensures.bound in (
      search rules,
      appends_more _ _ _ c.loop-sent.sent c.in-Ok.n _ held.1 (rw rest at c.in-Ok.ensures.bytes),
      c.in-Ok.ensures.faults ∙ took_some _ _ _ c.in-Ok.n-test.1 ∙ held.2,
    )

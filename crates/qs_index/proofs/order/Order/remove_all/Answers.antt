use Rattle.std.proofs.Common.{◌≡◌, ◌-◌, ◌++◌, length, take, drop, length-drop, arith, sym, ap, ◌∙◌, subst, take-add}
use Rattle.std.proofs.lemmas.List.{take_all}
use Rattle.qs_index.specs.inner.Entries.{IsDifference}
use Rattle.qs_index.proofs.Leaving.{IsDifference-then}
use Rattle.qs_index.proofs.order.Order.remove_all.Goals as goal

pub loop-done-preserved : goal.loop-done-preserved
loop-done-preserved c =
    let all = c.args.entries.now in
    let done = c.loop-done.done in
    let count = c.remove_met-passed.result.count in
    let n = length-drop done all in
    let rest : take (length all - done) (drop done all) ≡ drop done all = take_all (length all - done) (drop done all) (omega arith) in
    let fewer = ap length rest in
    record {
      within = omega (arith, c.remove_met-passed.ensures.within, c.loop-done.invariant.within);
      spare = omega (arith, c.remove_met-passed.ensures.spare, c.loop-done.invariant.spare);
      difference =
          subst (λ r. IsDifference c.args.self.now.entries r c.remove_met-passed.new.self.entries) (ap (λ r. take done all ++ take count r) rest ∙ sym (take-add done count all))
          (IsDifference-then c.args.self.now.entries (take done all) (take count (take (length all - done) (drop done all))) c.loop-done.self.entries c.remove_met-passed.new.self.entries c.loop-done.invariant.difference c.remove_met-passed.ensures.difference);
    }

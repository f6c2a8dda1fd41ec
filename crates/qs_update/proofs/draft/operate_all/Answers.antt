use Rattle.std.proofs.Common.{◌∙◌}
use Rattle.qs_update_laws.specs.inner.Written.{operation_values_have_no_blank}
use Rattle.qs_update.proofs.Tested.{all_dropped}
use Rattle.qs_update.proofs.Turns.{remain}
use Rattle.qs_update.proofs.draft.operate_all.Goals as goal

pub loop-rest-preserved : goal.loop-rest-preserved
loop-rest-preserved c =
    let l = c.loop-rest in
    let e = c.in_ok-count.ensures in
    let n = c.in_ok-count.count in
    rw c.split_at.ensures.back record {
      same_reference = e.same_reference ∙ l.invariant.same_reference;
      values = all_dropped operation_values_have_no_blank n l.rest.now l.invariant.values;
      remaining = remain c.args.max_rows c.args.update.now.operations l.rest.now c.args.draft.now.store.now l.draft.store.now l.invariant.remaining n c.operate_first.new.draft.store.now e.base e.limit e.default_graph e.outcome;
    }

use Rattle.std.proofs.Common.{Err, sym}
use Rattle.std.proofs.lemmas.Result.{err_from_is_err_and}
use Rattle.qs_update.specs.Request.{bounds_of}
use Rattle.qs_update.proofs.Turns.{stopped}
use Rattle.qs_update.proofs.draft.operate_first.Goals as goal

pub returns-in_err-apply_operation-clause-outcome : goal.returns-in_err-apply_operation-clause-outcome
returns-in_err-apply_operation-clause-outcome c =
    let old = c.args.draft.now.store.now in
    let bounds = bounds_of c.args.max_rows old in
    let run = c.in_ok-run.run' in
    let f = c.in_err-apply_operation.field-0.0 in
    let p = err_from_is_err_and c.from_residual-in_err-apply_operation.result c.from_residual-in_err-apply_operation.ensures.1 in
    rw (p.1, p.2) (λ n. stopped bounds run.count c.args.operations.now old.draft f
    (c.in_ok-run.ensures.effect c.if-run-gt0.true bounds old.draft (Err f) (sym c.next_blank.ensures.next) (c.in_err-apply_operation.ensures.outcome n)))

use Rattle.std.proofs.Common.{Bool, Ok, subst}
use Rattle.std.proofs.lemmas.Result.{err_from_is_err_and}
use Rattle.qs_update.specs.inner.DataRun.{IsPut}
use Rattle.qs_update.proofs.DataRun.{one_more, refused}
use Rattle.qs_update.proofs.data.data_run.Goals as goal

pub loop-count-preserved : goal.loop-count-preserved
loop-count-preserved c =
    let i = c.loop-count in
    let o = c.index-operations-count.result in
    record {
      run = one_more c.quads_make_their_terms_known.ensures c.args.operations.now i.count c.args.next o i.effect c.loop-count-test.true c.index-operations-count.is i.invariant.run c.put_data.new.effect
          (subst (λ (b : Bool). IsPut o i.effect (Ok b) c.put_data.new.effect) c.if-not-branch.false c.in_ok-put_data.ensures.effect);
      lawful = c.in_ok-put_data.ensures.lawful c.args.next i.invariant.lawful;
    }

pub returns-in_err-put_data-clause-refused : goal.returns-in_err-put_data-clause-refused
returns-in_err-put_data-clause-refused c =
    let i = c.loop-count in
    let f = c.in_err-put_data.field-0.0 in
    let p = err_from_is_err_and c.from_residual.result c.from_residual.ensures.1 in
    rw (p.1, p.2) (λ n. refused c.quads_make_their_terms_known.ensures c.args.operations.now i.count c.args.next c.index-operations-count.result i.effect c.loop-count-test.true c.index-operations-count.is i.invariant.run f (c.in_err-put_data.ensures.effect n))

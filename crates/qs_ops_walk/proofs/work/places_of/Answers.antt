use Rattle.std.proofs.Common.{refl}
use Rattle.qs_ops_walk.proofs.Begins.{place_more, ready_more}
use Rattle.qs_ops_walk.proofs.work.places_of.Goals as goal

pub loop-instr-preserved : goal.loop-instr-preserved
loop-instr-preserved g c =
    rw c.in_ok-push.ensures.items
    (record {
      code = place_more c.loop-instr.places.items (record { instr = c.in-Some.instr; work = c.in_ok-work.work }) c.loop-instr.yielded c.in-Some.instr c.loop-instr.invariant.code refl;
      ready = λ table. ready_more c.args.reader.now table c.loop-instr.places.items (record { instr = c.in-Some.instr; work = c.in_ok-work.work }) (c.loop-instr.invariant.ready table) (c.in_ok-work.ensures table);
    })

use Rattle.std.proofs.Common.{rules, ◌+◌}
use Rattle.std.proofs.lemmas.List.{nil_from_length}
use Rattle.qs_service_replay.proofs.Reading.{read_on, all_read, fault_of}
use Rattle.qs_service_replay.proofs.script.read_script.Goals as goal

pub returns-in-Err : goal.returns-in-Err
returns-in-Err c =
    fault_of c.args.text.now c.loop-rest.events.items c.loop-rest.rest.now c.first_line.result.0.now c.first_line.result.1.now (c.len.result + 1) c.in-Err.fault (search rules) c.loop-rest.invariant c.first_line.ensures.line c.in-Err.ensures

pub loop-rest-preserved : goal.loop-rest-preserved
loop-rest-preserved c =
    read_on c.args.text.now c.loop-rest.events.items c.push.new.self.items c.in-Ok.event c.loop-rest.rest.now c.first_line.result.0.now c.first_line.result.1.now c.in_ok-push-in-Ok.ensures.items c.loop-rest.invariant c.first_line.ensures.line c.in-Ok.ensures

pub returns : goal.returns
returns c = all_read c.args.text.now _ c.loop-rest.rest.now c.loop-rest.invariant (nil_from_length c.loop-rest.rest.now (search rules))

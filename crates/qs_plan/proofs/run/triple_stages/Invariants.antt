use Rattle.std.proofs.Common.{◌≡◌, take}
use Rattle.qs_plan.specs.inner.Numbers.{triple_stages}
use Rattle.qs_plan.proofs.run.triple_stages.Given as goal

abbrev pub invariant-loop-triple : goal.invariant-loop-triple
invariant-loop-triple l = l.stages ≡ triple_stages l.width l.hidden l.from l.look (take l.triple-index l.triples)

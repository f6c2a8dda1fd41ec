use Rattle.qs_update.specs.inner.DataRun.{IsRun}
use Rattle.qs_update.specs.inner.Lawful.{IsLawful}
use Rattle.qs_update.proofs.data.data_run.Given as goal

abbrev pub invariant-loop-count : goal.invariant-loop-count
invariant-loop-count l = record { run : IsRun l.operations l.count l.next l.effect; lawful : IsLawful l.next l.effect }

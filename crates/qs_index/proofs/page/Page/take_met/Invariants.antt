use Rattle.qs_index.proofs.Leaving.{IsPassing}
use Rattle.qs_index.proofs.page.Page.take_met.Given as goal

abbrev pub invariant-loop-at : goal.invariant-loop-at
invariant-loop-at l = record {
  passing : IsPassing l.from l.fn.self l.entries l.at l.kept l.met l.self-inside.entries.items;
}

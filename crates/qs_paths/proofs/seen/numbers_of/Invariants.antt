use Rattle.std.proofs.Common.{take}
use Rattle.qs_paths.specs.inner.Scans.{AreOutside}
use Rattle.qs_paths.proofs.seen.numbers_of.Given as goal

abbrev pub invariant-loop-member : goal.invariant-loop-member
invariant-loop-member g l = AreOutside (g.V.View.content l.edges.view.now).known l.inverse (take l.member-index l.members) l.numbers.items

use Rattle.std.proofs.Common.{◌≡◌, ◌-◌, ◌^◌, length}
use Rattle.qs_paths_meaning.specs.inner.Links.{IsMarked}
use Rattle.qs_paths.proofs.Followed.{AreFollowed}
use Rattle.qs_paths.proofs.linked.follow.Given as goal

abbrev pub invariant-loop-at : goal.invariant-loop-at
invariant-loop-at g l = record {
  long : length l.found.rounds.items ≡ length l.links.nodes.keys;
  marked : IsMarked l.found.round l.found.rounds.items l.found.numbers.items;
  searched : AreFollowed (g.E.Source.known l.edges) (g.E.Source.graph l.edges) l.path l.links.nodes.keys l.fn.repetition l.fn.start.node l.found.numbers.items l.at;
}

abbrev pub decreases-loop-at : goal.decreases-loop-at
decreases-loop-at g l = 2 ^ 64 - l.at

use Rattle.std.proofs.Common.{◌≡◌, length, map, take}
use Rattle.qs_paths_meaning.specs.Pairs.{pairs}
use Rattle.qs_paths_meaning.specs.inner.Links.{IsMarked}
use Rattle.qs_paths.specs.inner.Links.{AreAlike}
use Rattle.qs_paths.proofs.Along.{AreFromStarts}
use Rattle.qs_paths.proofs.linked.rows_from.Given as goal

abbrev pub invariant-loop-start : goal.invariant-loop-start
invariant-loop-start g l = record {
  long : length l.found.rounds.items ≡ length l.links.nodes.keys;
  marked : IsMarked l.found.round l.found.rounds.items l.found.numbers.items;
  long_alike : length l.alike.rounds.items ≡ length l.links.nodes.keys;
  marked_alike : IsMarked l.alike.round l.alike.rounds.items l.alike.numbers.items;
  alike : AreAlike (g.E.Source.known l.edges) l.repetition (pairs (g.E.Source.graph l.edges) l.path) (g.E.Source.graph l.edges) l.links.nodes.keys l.found.numbers.items l.alike.numbers.items;
  rows : AreFromStarts (g.E.Source.known l.edges) (g.E.Source.graph l.edges) (pairs (g.E.Source.graph l.edges) l.path) l.repetition (take l.start-index (map (λ s. s.node) l.starts)) l.rows.items;
}

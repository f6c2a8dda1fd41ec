use Rattle.std.proofs.Common.{◌≡◌, map, take}
use Rattle.std.specs.Prelude.{All}
use Rattle.qs_paths_meaning.specs.inner.Links.{rows_of}
use Rattle.qs_paths.specs.inner.Links.{IsWeb, LeadAlike, StandsAt}
use Rattle.qs_paths.proofs.links.Links.placed.Given as goal

abbrev pub invariant-loop-node : goal.invariant-loop-node
invariant-loop-node l = record {
  web : IsWeb l.self.nodes.keys (rows_of l.self.next.items);
  leads : LeadAlike l.fn.self.nodes.keys (rows_of l.fn.self.next.items) l.self.nodes.keys (rows_of l.self.next.items);
  nodes : map (λ s. s.node) l.all.items ≡ take l.node-index l.nodes;
  at : All (λ s. StandsAt l.self.nodes.keys s.place s.node) l.all.items;
}

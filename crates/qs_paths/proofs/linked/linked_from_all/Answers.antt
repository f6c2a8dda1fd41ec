use Rattle.std.proofs.Common.{◌∙◌, map, subst, sym}
use Rattle.qs_paths_meaning.specs.Pairs.{pairs}
use Rattle.qs_paths_meaning.specs.inner.Links.{rows_of}
use Rattle.qs_paths_meaning.proofs.AlongLinks.{start_at}
use Rattle.qs_paths.specs.declared.links.Placed.{Placed as PlacedValue}
use Rattle.qs_paths.specs.inner.Links.{StandsAt}
use Rattle.qs_paths.specs.inner.Nodes.{AreStarts}
use Rattle.qs_paths.proofs.Along.{links_alike, start_names_node, starts_named, steps_linked}
use Rattle.qs_paths.proofs.linked.linked_from_all.Goals as goal

pub rows_from-requires-clause-links : goal.rows_from-requires-clause-links
rows_from-requires-clause-links g c =
    steps_linked (g.E.Source.known c.args.edges.now) c.placed.new.self.nodes.keys (rows_of c.placed.new.self.next.items) (pairs (g.E.Source.graph c.args.edges.now) c.args.path.now) c.args.steps.now c.requires
    (links_alike c.in_ok-links.links.nodes.keys c.placed.new.self.nodes.keys (rows_of c.in_ok-links.links.next.items) (rows_of c.placed.new.self.next.items) c.args.steps.now c.in_ok-starts.ensures.leads c.in_ok-links.ensures.links)

pub rows_from-requires-clause-at : goal.rows_from-requires-clause-at
rows_from-requires-clause-at g c = λ i s lt is.
    start_at (λ (z : PlacedValue). StandsAt c.placed.new.self.nodes.keys z.place z.node) c.in_ok-starts.starts.items c.put_in_order.new.starts.items c.as_slice-2.result.now i s c.in_ok-put_in_order.ensures c.as_slice-2.ensures.value lt is c.in_ok-starts.ensures.at

pub rows_from-requires-clause-node : goal.rows_from-requires-clause-node
rows_from-requires-clause-node g c = λ i s lt is.
    start_names_node (g.E.Source.known c.args.edges.now) (g.E.Source.graph c.args.edges.now) (pairs (g.E.Source.graph c.args.edges.now) c.args.path.now) c.args.repetition (λ (z : PlacedValue). z.node) c.put_in_order.new.starts.items c.as_slice-2.result.now i s c.as_slice-2.ensures.value lt is
    (starts_named (g.E.Source.known c.args.edges.now) (g.E.Source.graph c.args.edges.now) (pairs (g.E.Source.graph c.args.edges.now) c.args.path.now) c.args.repetition (λ (s : PlacedValue). s.node) c.in_ok-starts.starts.items c.put_in_order.new.starts.items c.in_ok-ends.ends.nodes.keys c.in_ok-put_in_order.ensures (c.in_ok-starts.ensures.nodes ∙ c.as_slice.ensures.keys) c.in_ok-ends.ensures)

pub rows_from-requires-clause-starts : goal.rows_from-requires-clause-starts
rows_from-requires-clause-starts g c =
    subst (λ l. AreStarts (g.E.Source.known c.args.edges.now) (g.E.Source.graph c.args.edges.now) (pairs (g.E.Source.graph c.args.edges.now) c.args.path.now) c.args.repetition (map (λ (z : PlacedValue). z.node) l)) (sym c.as_slice-2.ensures.value)
    (starts_named (g.E.Source.known c.args.edges.now) (g.E.Source.graph c.args.edges.now) (pairs (g.E.Source.graph c.args.edges.now) c.args.path.now) c.args.repetition (λ (s : PlacedValue). s.node) c.in_ok-starts.starts.items c.put_in_order.new.starts.items c.in_ok-ends.ends.nodes.keys c.in_ok-put_in_order.ensures (c.in_ok-starts.ensures.nodes ∙ c.as_slice.ensures.keys) c.in_ok-ends.ensures)

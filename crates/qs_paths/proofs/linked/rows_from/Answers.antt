use Rattle.std.proofs.Common.{refl, ◌++◌, ◌∙◌, [], ap, get_or, length, map, subst, sym}
use Rattle.std.proofs.lemmas.List.Sorted.{IsPermutation-refl}
use Rattle.qs_paths_meaning.specs.Pairs.{pairs}
use Rattle.qs_paths.specs.declared.links.Placed.{Placed as PlacedValue}
use Rattle.qs_paths.specs.inner.Links.{nodes_at}
use Rattle.qs_paths_meaning.specs.Pair.{Pair}
use Rattle.qs_terms.specs.Bag.{SameBag}
use Rattle.qs_paths.specs.inner.Nodes.{named_pairs, node_pair}
use Rattle.qs_paths.proofs.Alike.{none_alike}
use Rattle.qs_paths.proofs.Along.{from_all, from_next}
use Rattle.qs_paths.proofs.Names.{item}
use Rattle.qs_paths.proofs.linked.rows_from.Goals as goal

pub reach-requires-clause-at : goal.reach-requires-clause-at
reach-requires-clause-at g c = c.requires.at c.loop-start.start-index (get_or c.args.starts.now c.loop-start.start-index (record { place = 0; node = 0 })) c.loop-start-test.true (item c.args.starts.now c.loop-start.start-index (record { place = 0; node = 0 }) c.loop-start-test.true)

pub reach-requires-clause-node : goal.reach-requires-clause-node
reach-requires-clause-node g c = c.requires.node c.loop-start.start-index (get_or c.args.starts.now c.loop-start.start-index (record { place = 0; node = 0 })) c.loop-start-test.true (item c.args.starts.now c.loop-start.start-index (record { place = 0; node = 0 }) c.loop-start-test.true)

pub loop-start-init : goal.loop-start-init
loop-start-init g c = record {
  long = c.in_ok-found.ensures.long ∙ ap length c.as_slice-count.ensures.keys;
  marked = c.in_ok-found.ensures.marked;
  long_alike = c.in_ok-alike.ensures.long ∙ ap length c.as_slice-count.ensures.keys;
  marked_alike = c.in_ok-alike.ensures.marked;
  alike =
      none_alike (g.E.Source.known c.args.edges.now) c.args.repetition (pairs (g.E.Source.graph c.args.edges.now) c.args.path.now) (g.E.Source.graph c.args.edges.now) c.args.links.now.nodes.keys c.in_ok-found.found.numbers.items c.in_ok-alike.alike.numbers.items c.in_ok-alike.ensures.none;
  rows = λ name n. subst (λ l. SameBag {X = Pair} (named_pairs name l) []) (sym c.new-rows.ensures.items) (IsPermutation-refl []);
}

pub loop-start-preserved : goal.loop-start-preserved
loop-start-preserved g c =
    let s : PlacedValue = get_or c.args.starts.now c.loop-start.start-index (record { place = 0; node = 0 }) in record {
      long = c.in_ok-reach.ensures.long;
      marked = c.in_ok-reach.ensures.marked;
      long_alike = c.in_ok-reach.ensures.long_alike;
      marked_alike = c.in_ok-reach.ensures.marked_alike;
      alike = c.in_ok-reach.ensures.alike;
      rows =
          from_next (g.E.Source.known c.args.edges.now) (g.E.Source.graph c.args.edges.now) c.args.path.now c.args.repetition (λ (z : PlacedValue). z.node) c.args.starts.now c.loop-start.start-index s c.loop-start.rows.items c.put_reached.new.pairs.items (nodes_at s.node c.args.links.now.nodes.keys c.reach.new.found.numbers.items)
          c.loop-start-test.true (item c.args.starts.now c.loop-start.start-index (record { place = 0; node = 0 }) c.loop-start-test.true) c.loop-start.invariant.rows c.in_ok-reach.ensures.ends
          (c.in_ok-put_reached.ensures
          ∙ (ap (λ t. c.loop-start.rows.items ++ map (node_pair s.node) (nodes_at s.node t c.as_slice-in-loop-start.result.now)) c.as_slice.ensures.keys
          ∙ ap (λ n. c.loop-start.rows.items ++ map (node_pair s.node) (nodes_at s.node c.args.links.now.nodes.keys n)) c.as_slice-in-loop-start.ensures.value));
    }

pub returns : goal.returns
returns g c =
    from_all (g.E.Source.known c.args.edges.now) (g.E.Source.graph c.args.edges.now) (pairs (g.E.Source.graph c.args.edges.now) c.args.path.now) c.args.repetition (λ (s : PlacedValue). s.node) c.args.starts.now c.args.starts.now c.loop-start.start-index c.loop-start.rows.items
    c.loop-start-test.false refl c.requires.starts c.loop-start.invariant.rows

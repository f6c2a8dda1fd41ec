use Rattle.std.proofs.Common.{◌+◌, ◌∷◌, arith, sym, subst}
use Rattle.qs_terms.specs.Bag.{SameBag}
use Rattle.qs_paths.specs.inner.Nodes.{named_pair}
use Rattle.qs_paths.specs.inner.State.{IsWalking}
use Rattle.std.proofs.lemmas.List.Sorted.{IsPermutation-refl}
use Rattle.qs_paths.proofs.Walked.{rest_of, walk_gives, walk_skips}
use Rattle.qs_paths.proofs.walk.next_walked.Goals as goal

pub returns-then-agrees : goal.returns-then-agrees
returns-then-agrees g c name n ps h =
    let was = (c.in_ok-find_next.ensures.goes name n ps (c.nodes.invariant name n ps h)).0 in
    let w = c.find_next.new.walk in
    let rest = rest_of (g.E.Source.known c.args.edges.now) (g.E.Source.graph c.args.edges.now) name n w.path.now w.repetition w.backward w.start w.end w.found.nodes.keys (w.given + 1) in
    let lt = c.in_ok-find_next.ensures.ready c.if-branch.true in (
      rest,
      (
        subst (λ z. SameBag ps (named_pair name z ∷ rest)) (sym c.pair_with.ensures)
            (walk_gives (g.E.Source.known c.args.edges.now) (g.E.Source.graph c.args.edges.now) name n w.path.now w.repetition w.backward w.start w.end w.found.nodes.keys w.at w.given c.node-node.result ps c.agrees.result was.search lt c.node-node.ensures c.agrees.ensures c.if-agrees.true was.left),
        record { closing = was.closing; search = was.search; given = omega (arith, lt); left = IsPermutation-refl rest },
      ),
    )

pub nodes-preserved : goal.nodes-preserved
nodes-preserved g c name n ps h =
    let was = (c.in_ok-find_next.ensures.goes name n ps (c.nodes.invariant name n ps h)).0 in
    let w = c.find_next.new.walk in
    let lt = c.in_ok-find_next.ensures.ready c.if-branch.true in record {
      closing = was.closing;
      search = was.search;
      given = omega (arith, lt);
      left = walk_skips (g.E.Source.known c.args.edges.now) (g.E.Source.graph c.args.edges.now) name n w.path.now w.repetition w.backward w.start w.end w.found.nodes.keys w.at w.given c.node-node.result ps c.agrees.result was.search lt c.node-node.ensures c.agrees.ensures c.if-agrees.false was.left;
    }

pub returns : goal.returns
returns g c name n ps h =
    let was = c.in_ok-find_next.ensures.goes name n ps (c.nodes.invariant name n ps h) in
    let e = was.1 c.if-branch.false in (e, subst (λ l. IsWalking (g.E.Source.graph c.args.edges.now) name c.find_next.new.walk l) e was.0)

pub overflow_add-walk : goal.overflow_add-walk
overflow_add-walk g c = let k = c.in_ok-find_next.ensures.small c.if-branch.true in omega (arith, k)

use Rattle.std.proofs.Common.{◌≡◌, ◌≤◌, ◌<◌, arith, length, map, true, false}
use Rattle.qs_paths.proofs.Walked.{walk_keeps, walk_longer, walk_on, walk_over}
use Rattle.qs_paths.specs.declared.node.NodePair.{NodePair}
use Rattle.qs_paths.proofs.walk.find_next.Goals as goal

pub returns-then-walk-len-clause-goes : goal.returns-then-walk-len-clause-goes
returns-then-walk-len-clause-goes g c name n ps h =
    let was = c.steps.invariant.goes name n ps h in
    let w = c.steps.walk in (
      was,
      λ e.
          walk_over (g.E.Source.known c.args.edges.now) (g.E.Source.graph c.args.edges.now) name n w.path.now w.repetition w.backward w.start w.end w.found.nodes.keys w.at w.given ps was.closing was.search
          (let k : length w.found.nodes.keys ≤ w.at = omega (arith, c.len-in-steps.ensures, c.if-walk-len.true) in k)
          (let k : length w.found.nodes.keys ≤ w.given = omega (arith, c.len.ensures, c.steps-test.true) in k) was.left,
    )

pub steps-preserved : goal.steps-preserved
steps-preserved g c =
    let w = c.steps.walk in record {
      goes = λ name n ps h.
          let was = c.steps.invariant.goes name n ps h in
          let e = c.in_ok-add_rights.ensures in record {
            closing = was.closing;
            search =
                walk_on (g.E.Source.known c.args.edges.now) (g.E.Source.graph c.args.edges.now) name n w.path.now w.repetition w.backward w.start w.end w.found.nodes.keys c.add_rights.new.self.nodes.keys w.at c.node-node.result c.in_ok-next.next.items c.as_slice.result.now was.closing was.search
                (let k : w.at < length w.found.nodes.keys = omega (arith, c.len-in-steps.ensures, c.if-walk-len.false) in k) c.node-node.ensures c.in_ok-next.ensures c.as_slice.ensures.value e;
            given = walk_longer (g.E.Source.known c.args.edges.now) (g.E.Source.graph c.args.edges.now) name n w.path.now w.repetition w.backward w.start w.end w.found.nodes.keys c.add_rights.new.self.nodes.keys (map (λ (z : NodePair). z.right) c.as_slice.result.now) w.given e was.given;
            left = walk_keeps (g.E.Source.known c.args.edges.now) (g.E.Source.graph c.args.edges.now) name n w.path.now w.repetition w.backward w.start w.end w.found.nodes.keys c.add_rights.new.self.nodes.keys (map (λ (z : NodePair). z.right) c.as_slice.result.now) w.given ps e was.given was.left;
          };
      given = c.steps.invariant.given;
    }

pub returns-clause-goes : goal.returns-clause-goes
returns-clause-goes g c name n ps h = (c.steps.invariant.goes name n ps h, λ e. let f : true ≡ false = e in cc)

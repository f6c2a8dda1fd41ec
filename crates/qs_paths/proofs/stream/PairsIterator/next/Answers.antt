use Rattle.std.proofs.Common.{Some, refl, sym}
use Rattle.qs_paths.specs.inner.Seen.{graph_in, known_in}
use Rattle.qs_paths.proofs.Opening.{hands, same_state, steps_on}
use Rattle.qs_paths.proofs.stream.PairsIterator.next.Goals as goal

pub returns-in-Some-clause-steps : goal.returns-in-Some-clause-steps
returns-in-Some-clause-steps g c =
    let old = c.args.self.now in
    let known = known_in g.V.View.content old.edges in
    let graph = graph_in g.V.View.content g.V.View.default_seen old.edges in record {
      answers = λ table ps h.
          hands g.V.View.content g.V.View.default_seen table ps old old.request old.turned c.next_found.new.state c.in-Some.pair c.turned.result c.cells_of.result h
          (steps_on known graph old.turned old.state c.next_found.new.state old.request c.in-Some.ensures.asked old.request (Some c.in-Some.pair) (sym c.in-Some.ensures.asked) (c.in-Some.ensures.some known graph))
          c.turned.ensures c.cells_of.ensures.left c.cells_of.ensures.right;
      again = λ f. absurd (c.in-Some.ensures.whole f.1);
      known = refl;
    }

pub returns-in-None-clause-steps : goal.returns-in-None-clause-steps
returns-in-None-clause-steps g c = same_state g.V.View.content g.V.View.default_seen c.args.self.now c.next_found.new.state c.find_next.result c.find_next.new.self c.in-None.ensures.none c.find_next.ensures

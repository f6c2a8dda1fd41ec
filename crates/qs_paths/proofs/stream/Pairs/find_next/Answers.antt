use Rattle.std.proofs.Common.{refl, subst}
use Rattle.qs_paths.specs.inner.Seen.{graph_in, known_in}
use Rattle.qs_paths.specs.inner.State.{GivesStep}
use Rattle.qs_paths.proofs.Opening.{hands, no_err}
use Rattle.qs_paths.proofs.stream.Pairs.find_next.Goals as goal

pub returns : goal.returns
returns g c =
    let old = c.args.self.now in
    let known = known_in g.V.View.content old.edges in
    let graph = graph_in g.V.View.content g.V.View.default_seen old.edges in record {
      answers = λ table ps h.
          hands g.V.View.content g.V.View.default_seen table ps old c.step-next.new.request c.step-next.new.is_turned c.step-next.new.state c.in_ok-pair.pair c.turned.result c.cells_of.result h
          (subst (λ o. GivesStep known graph old.request old.turned old.state o c.step-next.new.request c.step-next.new.is_turned c.step-next.new.state) c.in_ok-pair.was c.in-Ok.ensures.gives) c.turned.ensures c.cells_of.ensures.left c.cells_of.ensures.right;
      again = λ f. absurd (no_err c.step-next.result c.in-Ok.answer (c.step-next.ensures.failed f) c.in-Ok.is);
      known = refl;
    }

use Rattle.std.proofs.lemmas.Result.{IfOk-weaker}
use Rattle.qs_paths.specs.inner.Seen.{graph_in, known_in}
use Rattle.qs_paths.proofs.Opening.{steps_on, steps_open}
use Rattle.qs_paths.proofs.stream.step.Goals as goal

pub returns-in_default-clause-gives : goal.returns-in_default-clause-gives
returns-in_default-clause-gives g c =
    IfOk-weaker c.next_of_state.result _ _
    (λ o h. steps_on (known_in g.V.View.content c.args.edges.now) (graph_in g.V.View.content g.V.View.default_seen c.args.edges.now) c.args.is_turned.now c.args.state.now c.next_of_state.new.state c.take.new.self c.take.ensures.after c.args.request.now o c.in_default.ensures.value h)
    c.next_of_state.ensures.gives

pub returns-clause-gives : goal.returns-clause-gives
returns-clause-gives g c =
    IfOk-weaker c.next_of_state-2.result _ _
    (λ o h. steps_open (known_in g.V.View.content c.args.edges.now) (graph_in g.V.View.content g.V.View.default_seen c.args.edges.now) c.in_ok-opened.opened.turned c.in_ok-opened.opened.state c.next_of_state-2.new.state c.take.new.self c.take.ensures.after c.args.request.now c.in-Some.request c.args.is_turned.now c.args.state.now o c.in-Some.ensures.value c.in_ok-opened.ensures h)
    c.next_of_state-2.ensures.gives

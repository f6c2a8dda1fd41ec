use Rattle.std.proofs.lemmas.Result.{IfOk-weaker}
use Rattle.qs_paths.specs.inner.Seen.{graph_in, known_in}
use Rattle.qs_paths.proofs.Opening.{state_edges, state_walked, state_whole}
use Rattle.qs_paths.proofs.state.next_of_state.Goals as goal

pub returns-in-Whole-clause-gives : goal.returns-in-Whole-clause-gives
returns-in-Whole-clause-gives g c name n ps h =
    state_whole (graph_in g.V.View.content g.V.View.default_seen c.args.edges.now) name ps c.args.state.now c.in-Whole.rows c.next_row.new.rows c.next_row.result c.in-Whole.is c.next_row.ensures.gives h

pub returns-in-Edges-clause-gives : goal.returns-in-Edges-clause-gives
returns-in-Edges-clause-gives g c =
    IfOk-weaker c.next_of_stretch.result _ _
    (λ o h. state_edges (known_in g.V.View.content c.args.edges.now) (graph_in g.V.View.content g.V.View.default_seen c.args.edges.now) c.args.state.now c.in-Edges.stretch c.next_of_stretch.new.stretch o c.in-Edges.is h)
    c.next_of_stretch.ensures

pub returns-in-Walked-clause-gives : goal.returns-in-Walked-clause-gives
returns-in-Walked-clause-gives g c =
    IfOk-weaker c.next_walked.result _ _
    (λ o h. state_walked (known_in g.V.View.content c.args.edges.now) (graph_in g.V.View.content g.V.View.default_seen c.args.edges.now) c.args.state.now c.in-Walked.walk c.next_walked.new.walk o c.in-Walked.is h)
    c.next_walked.ensures

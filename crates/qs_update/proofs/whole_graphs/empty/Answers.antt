use Rattle.std.proofs.Common.{[], OnOk, subst}
use Rattle.qs_store.specs.Change.{IsChanged}
use Rattle.qs_update.proofs.Quads.{all_targets, default_target, graph_target, named_target}
use Rattle.qs_update.proofs.whole_graphs.empty.Goals as goal

pub returns-in_ok-name-in-Graph-clause-quads : goal.returns-in_ok-name-in-Graph-clause-quads
returns-in_ok-name-in-Graph-clause-quads c =
    let quads = c.args.draft.now.store.now.draft.quads in
    subst (λ l. OnOk c.clear_graph.result (IsChanged quads l [] c.clear_graph.new.self.store.now.draft.quads))
    (graph_target c.args.target.now c.in-Graph.name c.in_ok-name-in-Graph.name quads c.in-Graph.is c.in_ok-name-in-Graph.ensures) c.clear_graph.ensures.quads

pub returns-in-Default-clause-quads : goal.returns-in-Default-clause-quads
returns-in-Default-clause-quads c =
    let quads = c.args.draft.now.store.now.draft.quads in
    subst (λ l. OnOk c.clear_graph-in-Default.result (IsChanged quads l [] c.clear_graph-in-Default.new.self.store.now.draft.quads))
    (default_target c.args.target.now quads c.in-Default.is) c.clear_graph-in-Default.ensures.quads

pub returns-in-Named-clause-quads : goal.returns-in-Named-clause-quads
returns-in-Named-clause-quads c =
    let quads = c.args.draft.now.store.now.draft.quads in
    subst (λ l. OnOk c.clear_named.result (IsChanged quads l [] c.clear_named.new.self.store.now.draft.quads))
    (named_target c.args.target.now quads c.in-Named.is) c.clear_named.ensures.quads

pub returns-in-All-clause-quads : goal.returns-in-All-clause-quads
returns-in-All-clause-quads c =
    let quads = c.args.draft.now.store.now.draft.quads in
    subst (λ l. OnOk c.clear_all.result (IsChanged quads l [] c.clear_all.new.self.store.now.draft.quads))
    (all_targets c.args.target.now quads c.in-All.is) c.clear_all.ensures.quads

use Rattle.qs_store.specs.inner.ActiveGraph.{active_graph}
use Rattle.qs_expr.specs.inner.Cell.{denoted_if}
use Rattle.qs_paths.specs.inner.Nodes.{named_end}
use Rattle.qs_paths.proofs.Naming.{all_denoted, name, named_given, naming}
use Rattle.qs_paths.proofs.Opening.{asked_left}
use Rattle.qs_paths.proofs.asked.pairs.Goals as goal

pub returns-in-Some-clause-pairs : goal.returns-in-Some-clause-pairs
returns-in-Some-clause-pairs g c table one l r =
    let content = g.V.View.content c.args.view.now in
    let default = g.V.View.default_seen c.args.view.now in
    let few = c.is_lawful.ensures.few in
    let q = c.in-Some.request in record {
      name = name content.known table one few;
      naming = naming content.known table one few;
      denoted = all_denoted content default c.args.graph c.is_lawful.ensures.seen few table one c.args.path.now c.args.left c.args.right l r;
      left =
          asked_left (active_graph content default c.args.graph) c.args.path.now q.path.now (denoted_if content.known table c.args.left) (denoted_if content.known table c.args.right) (named_end (name content.known table one few) q.left) (named_end (name content.known table one few) q.right) c.in-Some.ensures.some.0
          (named_given content.known table one few q.left c.args.left l c.in-Some.ensures.some.1) (named_given content.known table one few q.right c.args.right r c.in-Some.ensures.some.2);
    }

pub returns-in-None-clause-pairs : goal.returns-in-None-clause-pairs
returns-in-None-clause-pairs g c table one l r =
    let content = g.V.View.content c.args.view.now in
    let few = c.is_lawful.ensures.few in record {
      name = name content.known table one few;
      naming = naming content.known table one few;
      denoted = all_denoted content (g.V.View.default_seen c.args.view.now) c.args.graph c.is_lawful.ensures.seen few table one c.args.path.now c.args.left c.args.right l r;
      left = tt;
    }

use Rattle.qs_paths_meaning.specs.Pairs.{pairs}
use Rattle.qs_paths.proofs.Along.{lefts_named_start, nodes_named_start}
use Rattle.qs_paths.proofs.linked.starts_of.Goals as goal

pub returns-in_ok-lefts-in-OneOrMore : goal.returns-in_ok-lefts-in-OneOrMore
returns-in_ok-lefts-in-OneOrMore g c =
    lefts_named_start (g.E.Source.known c.args.edges.now) (g.E.Source.graph c.args.edges.now) c.args.path.now c.args.repetition c.args.steps.now c.in_ok-lefts-in-OneOrMore.lefts.nodes.keys c.requires c.in-OneOrMore.is c.in_ok-lefts-in-OneOrMore.ensures

pub returns-in_ok-all-in_default : goal.returns-in_ok-all-in_default
returns-in_ok-all-in_default g c =
    nodes_named_start (g.E.Source.known c.args.edges.now) (g.E.Source.graph c.args.edges.now) (pairs (g.E.Source.graph c.args.edges.now) c.args.path.now) c.args.repetition c.in_ok-all-in_default.all.nodes.keys c.in_ok-all-in_default.ensures

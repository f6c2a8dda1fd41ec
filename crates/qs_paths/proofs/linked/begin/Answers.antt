use Rattle.std.proofs.Common.{subst, ◌∙◌}
use Rattle.qs_paths_meaning.specs.inner.Links.{AreBelow, rows_of}
use Rattle.qs_paths.proofs.Along.{begun_by, begun_with}
use Rattle.qs_paths.proofs.linked.begin.Goals as goal

pub returns-in_ok-lead_on-in-ZeroOrOne-clause-holds : goal.returns-in_ok-lead_on-in-ZeroOrOne-clause-holds
returns-in_ok-lead_on-in-ZeroOrOne-clause-holds g c =
    begun_with (g.E.Source.known c.args.edges.now) (g.E.Source.graph c.args.edges.now) c.args.path.now c.args.links.now.nodes.keys (rows_of c.args.links.now.next.items) c.requires.web c.requires.links c.args.start.node c.args.repetition c.requires.node
    c.args.start.place c.args.found.now.numbers.items c.add.new.self.numbers.items c.lead_on.new.found.numbers.items c.requires.at (subst (λ n. AreBelow n c.args.found.now.numbers.items) c.requires.long c.requires.marked.below)
    (subst (λ n. AreBelow n c.add.new.self.numbers.items) (c.in_ok-add-in-ZeroOrOne.ensures.long ∙ c.requires.long) c.in_ok-add-in-ZeroOrOne.ensures.marked.below) c.in-ZeroOrOne.is c.requires.empty c.in_ok-add-in-ZeroOrOne.ensures.numbers c.in_ok-lead_on-in-ZeroOrOne.ensures.numbers

pub returns-in_ok-lead_on-in-OneOrMore-clause-holds : goal.returns-in_ok-lead_on-in-OneOrMore-clause-holds
returns-in_ok-lead_on-in-OneOrMore-clause-holds g c =
    begun_by (g.E.Source.known c.args.edges.now) (g.E.Source.graph c.args.edges.now) c.args.path.now c.args.links.now.nodes.keys (rows_of c.args.links.now.next.items) c.requires.web c.requires.links c.args.start.node c.args.repetition c.requires.node
    c.args.start.place c.args.found.now.numbers.items c.lead_on-in-OneOrMore.new.found.numbers.items c.requires.at (subst (λ n. AreBelow n c.args.found.now.numbers.items) c.requires.long c.requires.marked.below) c.in-OneOrMore.is c.requires.empty c.in_ok-lead_on-in-OneOrMore.ensures.numbers

use Rattle.std.proofs.Common.{subst, sym, ◌∙◌}
use Rattle.qs_paths_meaning.specs.Pairs.{pairs}
use Rattle.qs_paths_meaning.specs.inner.Links.{AreBelow, rows_of}
use Rattle.qs_paths.proofs.Alike.{alike_if, none_alike}
use Rattle.qs_paths.proofs.linked.walk_unless_alike.Goals as goal

pub returns-clause-alike : goal.returns-clause-alike
returns-clause-alike g c =
    none_alike (g.E.Source.known c.args.edges.now) c.args.repetition (pairs (g.E.Source.graph c.args.edges.now) c.args.path.now) (g.E.Source.graph c.args.edges.now) c.args.links.now.nodes.keys c.walk.new.found.numbers.items c.clear.new.self.numbers.items c.in_ok-clear.ensures.numbers

pub returns-then-is_some-clause-ends : goal.returns-then-is_some-clause-ends
returns-then-is_some-clause-ends g c =
    alike_if (g.E.Source.known c.args.edges.now) (g.E.Source.graph c.args.edges.now) c.args.path.now c.args.links.now.nodes.keys (rows_of c.args.links.now.next.items) c.requires.web c.requires.links c.args.repetition c.place_alike.result (sym c.is_some.ensures ∙ c.if-is_some.true) c.place_alike.ensures.closing c.args.found.now.numbers.items c.args.alike.now.numbers.items
    c.args.start.place c.args.start.node c.requires.at c.requires.node (subst (λ n. AreBelow n c.args.found.now.numbers.items) c.requires.long c.requires.marked.below) c.place_alike.ensures.found c.place_alike.ensures.row c.place_alike.ensures.alike c.requires.alike

use Rattle.std.proofs.Common.{arith, subst, ◌∙◌, ◌<◌, ◌≤◌, length}
use Rattle.qs_paths_meaning.specs.inner.Links.{AreBelow, rows_of}
use Rattle.qs_paths.proofs.Along.{followed_all, followed_next, followed_none}
use Rattle.qs_paths.proofs.linked.follow.Goals as goal

pub loop-at-init : goal.loop-at-init
loop-at-init g c = record {
  long = c.requires.long;
  marked = c.requires.marked;
  searched =
      followed_none (g.E.Source.known c.args.edges.now) (g.E.Source.graph c.args.edges.now) c.args.path.now c.args.links.now.nodes.keys (rows_of c.args.links.now.next.items) c.requires.web c.requires.links c.args.start.node c.args.repetition c.requires.node c.args.found.now.numbers.items c.requires.holds;
}

pub loop-at-preserved : goal.loop-at-preserved
loop-at-preserved g c = record {
  long = c.in_ok-lead_on.ensures.long ∙ c.loop-at.invariant.long;
  marked = c.in_ok-lead_on.ensures.marked;
  searched =
      followed_next (g.E.Source.known c.args.edges.now) (g.E.Source.graph c.args.edges.now) c.args.path.now c.args.links.now.nodes.keys (rows_of c.args.links.now.next.items) c.requires.web c.requires.links c.args.start.node c.args.repetition c.requires.node c.loop-at.found.numbers.items c.lead_on.new.found.numbers.items c.loop-at.at c.number-number.result
      c.requires.closing c.loop-at.invariant.searched (let k : c.loop-at.at < length c.loop-at.found.numbers.items = omega (arith, c.len.ensures, c.loop-at-test.true) in k) c.number-number.ensures (subst (λ n. AreBelow n c.loop-at.found.numbers.items) c.loop-at.invariant.long c.loop-at.invariant.marked.below) c.in_ok-lead_on.ensures.numbers;
}

pub returns-clause-ends : goal.returns-clause-ends
returns-clause-ends g c =
    followed_all (g.E.Source.known c.args.edges.now) (g.E.Source.graph c.args.edges.now) c.args.path.now c.args.links.now.nodes.keys (rows_of c.args.links.now.next.items) c.requires.web c.requires.links c.args.start.node c.args.repetition c.requires.node c.loop-at.found.numbers.items c.loop-at.at
    c.requires.closing c.loop-at.invariant.searched (let k : length c.loop-at.found.numbers.items ≤ c.loop-at.at = omega (arith, c.len.ensures, c.loop-at-test.false) in k)

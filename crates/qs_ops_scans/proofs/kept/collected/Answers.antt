use Rattle.std.proofs.Common.{Bool, subst}
use Rattle.qs_ops_scans.specs.inner.Kept.{IsTaken}
use Rattle.std.proofs.lemmas.Result.{IfOk-weaker}
use Rattle.qs_ops_scans.proofs.Collected.{begins, ends, ends_whole, goes}
use Rattle.qs_ops_scans.proofs.kept.collected.Goals as goal

pub pairs-init : goal.pairs-init
pairs-init g c = begins g.V.View.content g.V.View.default_seen c.args.repeated c.args.pairs.now c.new-kept.result.items c.new-kept.ensures.items

pub returns-then-not-branch : goal.returns-then-not-branch
returns-then-not-branch g c =
    ends g.V.View.content g.V.View.default_seen c.args.repeated c.args.pairs.now c.pairs.pairs c.take_next.new.pairs c.pairs.kept.items c.take_next.new.kept.items c.pairs.invariant
    (subst (λ (b : Bool). IsTaken g.V.View.content g.V.View.default_seen c.args.repeated c.pairs.pairs c.pairs.kept.items b c.take_next.new.pairs c.take_next.new.kept.items) c.if-not-branch.true c.in_ok-take_next.ensures)

pub pairs-preserved : goal.pairs-preserved
pairs-preserved g c =
    goes g.V.View.content g.V.View.default_seen c.args.repeated c.args.pairs.now c.pairs.pairs c.take_next.new.pairs c.pairs.kept.items c.take_next.new.kept.items c.pairs.invariant
    (subst (λ (b : Bool). IsTaken g.V.View.content g.V.View.default_seen c.args.repeated c.pairs.pairs c.pairs.kept.items b c.take_next.new.pairs c.take_next.new.kept.items) c.if-not-branch.false c.in_ok-take_next.ensures)

pub returns-in-Some : goal.returns-in-Some
returns-in-Some g c =
    let u =
    goes g.V.View.content g.V.View.default_seen c.args.repeated c.args.pairs.now c.pairs.pairs c.take_next.new.pairs c.pairs.kept.items c.take_next.new.kept.items c.pairs.invariant
    (subst (λ (b : Bool). IsTaken g.V.View.content g.V.View.default_seen c.args.repeated c.pairs.pairs c.pairs.kept.items b c.take_next.new.pairs c.take_next.new.kept.items) c.if-not-branch.false c.in_ok-take_next.ensures) in
    IfOk-weaker c.joined.result _ _
    (λ both e. ends_whole g.V.View.content g.V.View.default_seen c.args.repeated c.args.pairs.now c.take_next.new.pairs c.take_next.new.kept.items c.in_ok-rest.field-0 c.in-Some.rest both.items u c.in-Some.is c.in_ok-rest.ensures.any c.in_ok-rest.ensures.all e)
    c.joined.ensures

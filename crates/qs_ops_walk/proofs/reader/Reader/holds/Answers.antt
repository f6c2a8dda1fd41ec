use Rattle.std.proofs.Common.{◌≡◌, Bool, subst, ◌∙◌, arith}
use Rattle.std.specs.Result.{IfOk}
use Rattle.qs_ops_walk.proofs.Readings.{whole_holds, front_holds}
use Rattle.qs_ops_walk.proofs.reader.Reader.holds.Goals as goal

pub returns-then-width-self : goal.returns-then-width-self
returns-then-width-self g c =
    subst (λ (v : Bool). IfOk c.holds.result (λ b. b ≡ v))
    (whole_holds _ c.args.self.now c.self.view_is c.args.scratch.now c.args.row.now c.args.condition.now.expr (omega (arith, c.width.ensures, c.if-width-self.true)))
    c.holds.ensures.value

pub returns : goal.returns
returns g c =
    c.in_ok-holds.ensures.value ∙ front_holds _ c.args.self.now c.self.view_is c.args.scratch.now c.args.row.now c.in_ok-named.named c.args.condition.now.expr c.in_ok-named.ensures.terms

use Rattle.qs_plan.proofs.Fixed.{in_fixes}
use Rattle.qs_plan.proofs.fixes.fixed_by_members.Goals as goal

pub returns-in-Some-2 : goal.returns-in-Some-2
returns-in-Some-2 c =
    let k = rw c.in-Some-2.is at c.in_ok-terms.ensures in in_fixes c.in-Some.variable c.in-Some-2.terms c.args.one.now c.args.parts.now c.in-Some.ensures k.0 k.1

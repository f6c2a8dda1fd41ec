use Rattle.qs_expr.proofs.Amongst.{among_sound}
use Rattle.qs_expr.proofs.among.AmongConstants.new.Goals as goal

pub invariant_of-result : goal.invariant_of-result
invariant_of-result g c = record {
  sound = λ m x at p.
      among_sound c.new-members.result c.put_all.new.self c.args.exprs.now c.new-members.ensures (c.in_ok-put_all.ensures.hits c.if-not-branch.false) (c.in_ok-put_all.ensures.apart c.if-not-branch.false)
      c.args.denied c.args.variable c.args.expr.now c.requires m x at p;
}

use Rattle.qs_expr.specs.inner.Members.{is_apart, is_in}
use Rattle.qs_expr.proofs.Amongst.{differs_more, equals_more}
use Rattle.qs_expr.proofs.members.Members.put_all.Goals as goal

pub loop-expr-preserved : goal.loop-expr-preserved
loop-expr-preserved c =
    let i = c.loop-expr.expr-index in
    let es = c.args.exprs.now in
    let e = c.expr-item.result in
    record {
      hits = λ m x p. equals_more m x es i e c.in-Term.term c.loop-expr-test.true c.expr-item.is c.in-Term.is (is_in c.args.self.now x) (is_in c.loop-expr.self x) (is_in c.put.new.self x) (c.loop-expr.invariant.hits m x p) (c.in_ok-put.ensures.hits x p);
      apart = λ m x p. differs_more m x es i e c.in-Term.term c.loop-expr-test.true c.expr-item.is c.in-Term.is (is_apart c.args.self.now x) (is_apart c.loop-expr.self x) (is_apart c.put.new.self x) (c.loop-expr.invariant.apart m x p) (c.in_ok-put.ensures.apart x p);
    }

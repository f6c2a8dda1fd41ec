use Rattle.std.proofs.Common.{arith}
use Rattle.qs_lex_regular.proofs.HexDigits.{pushed, pushed_fits}
use Rattle.qs_lex_regular.proofs.push.push.Goals as goal

pub overflow_mul-value : goal.overflow_mul-value
overflow_mul-value c = omega (arith, pushed_fits c.args.digits.after c.args.digits.value 0 c.args.digits.bound c.args.digits.fits (omega arith))

pub overflow_add-value : goal.overflow_add-value
overflow_add-value c = omega (arith, pushed_fits c.args.digits.after c.args.digits.value c.in-Some.digit c.args.digits.bound c.args.digits.fits (omega (arith, c.in-Some.ensures.value)))

pub invariant_of-result : goal.invariant_of-result
invariant_of-result c = record {
  bound = omega arith;
  fits = pushed c.args.digits.after c.args.digits.value c.in-Some.digit (omega arith) c.args.digits.bound c.args.digits.fits (omega (arith, c.in-Some.ensures.value));
}

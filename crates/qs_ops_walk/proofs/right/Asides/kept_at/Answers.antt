use Rattle.std.proofs.Common.{rules, length, ap, arith}
use Rattle.qs_ops_walk.proofs.right.Asides.kept_at.Goals as goal

pub returns : goal.returns
returns c = record {
  a = c.in-Some.aside.now;
  at = c.args.place;
  inside = omega (arith, c.in-Some.ensures.lookup.3, ap length c.deref.ensures.value);
  is = rw c.deref.ensures.value at c.in-Some.ensures.lookup.1;
  cells = search rules;
  name = search rules;
  kept = search rules;
}

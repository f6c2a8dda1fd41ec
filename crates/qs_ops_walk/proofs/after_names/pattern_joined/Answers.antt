use Rattle.std.proofs.Common.{ℕ, ◌-◌, refl, sym, ◌∙◌, arith}
use Rattle.qs_ops_walk.proofs.after_names.pattern_joined.Goals as goal

pub returns : goal.returns
returns c =
    let k : ℕ = c.args.joining.next - 1 in record {
      register = refl;
      k = k;
      follows = omega arith;
      after = c.in-Some.after.now;
      within = c.in-Some.ensures.lookup.3.0;
      stands = c.in-Some.ensures.lookup.1;
      triple = c.in-Some-pattern_named.ensures.triple;
      next = c.next-next.ensures;
      apart = c.in-Some-pattern_named.ensures.apart;
      other = sym c.misses.ensures ∙ c.if-not-misses.false;
    }

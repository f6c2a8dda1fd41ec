use Rattle.std.proofs.Common.{◌≡◌, ℕ, ◌-◌, suc, refl, sym, ◌∙◌, arith}
use Rattle.qs_ops_walk.proofs.after_names.pattern_in_each.Goals as goal

pub returns : goal.returns
returns c =
    let k : ℕ = c.next-follows.result - 1 in
    let e : c.next-follows.result ≡ suc k = omega arith in record {
      naming = c.in-Names.naming;
      names = c.in-Names.is;
      register = refl;
      k = k;
      follows = sym c.next-follows.ensures ∙ e;
      after = c.in-Some.after.now;
      within = c.in-Some.ensures.lookup.3.0;
      stands = c.in-Some.ensures.lookup.1;
      triple = c.in-Some-pattern_named.ensures.triple;
      next = c.next.ensures;
      apart = c.in-Some-pattern_named.ensures.apart;
      cell = omega arith;
    }

use Rattle.std.proofs.Common.{◌≡◌, ℕ, ◌-◌, suc, refl, sym, ◌∙◌, ap, arith}
use Rattle.qs_ops_walk.specs.declared.work.Work.TheVariants as work
use Rattle.qs_ops_walk.proofs.after_names.joining_after.Goals as goal

pub returns : goal.returns
returns c =
    let k : ℕ = c.next-follows.result - 1 in
    let e : c.next-follows.result ≡ suc k = omega arith in
    let held : c.in-Name.held ≡ c.in-Names.naming.register = omega arith in record {
      naming = c.in-Names.naming;
      names = c.in-Names.is;
      register = refl;
      k = k;
      follows = sym c.next-follows.ensures ∙ e;
      after = c.in-Some.merging.now;
      within = c.in-Some.ensures.lookup.3.0;
      stands = c.in-Some.ensures.lookup.1;
      joins = c.in-Name.is ∙ ap (work.Name c.in-Name.variable) held;
      next = c.next-next.ensures;
      named = omega arith;
      wide = omega arith;
      cell = omega arith;
    }

use Rattle.std.proofs.Common.{rules, FitsSigned, ◌||◌, sym, ◌∙◌, ap}
use Rattle.std.specs.Int.{w128}
use Rattle.std.proofs.lemmas.Int.{to_z-of_z}
use Rattle.qs_terms.specs.Term.{same_term}
use Rattle.qs_expr_values.specs.Values.{integer}
use Rattle.qs_expr_values.specs.inner.Value.{seen}
use Rattle.qs_expr.specs.inner.Members.{hit_by, is_in_by}
use Rattle.qs_expr.proofs.members.Members.put_by.Goals as goal

pub returns-in_ok-put_integer-in-Integer-clause-hits : goal.returns-in_ok-put_integer-in-Integer-clause-hits
returns-in_ok-put_integer-in-Integer-clause-hits c x w =
    let fits : FitsSigned w128 c.in-Integer.number = search rules in
    c.in_ok-put_integer-in-Integer.ensures.hits x w (same_term x c.args.term.now)
    ∙ ap (λ v. is_in_by c.args.self.now x w || hit_by (same_term x c.args.term.now) w v) (ap integer (to_z-of_z w128 c.in-Integer.number fits) ∙ sym (ap seen c.in-Integer.is))

use Rattle.std.proofs.Common.{arith, sym, ap, map, take, ◌∙◌}
use Rattle.std.proofs.lemmas.List.{take-map}
use Rattle.qs_expr_values.specs.inner.TermValue.{term_value}
use Rattle.qs_dict.proofs.Numbers.{distinct_terms, keeps_front}
use Rattle.qs_dict.proofs.dict.Dict.cut.Goals as goal

pub invariant_of-self : goal.invariant_of-self
invariant_of-self c = (
  record {
    distinct = distinct_terms _ c.truncate.ensures.unique;
    within = omega (arith, c.self.invariant.0.within, c.truncate.ensures.len);
    bound = c.self.invariant.0.bound;
  },
  c.truncate-2.ensures.items ∙ (ap (take c.args.len) c.self.invariant.1 ∙ (take-map term_value c.args.len c.self.inside.terms.keys ∙ ap (map term_value) (sym c.truncate.ensures.keys))),
)

pub returns-clause-lawful : goal.returns-clause-lawful
returns-clause-lawful c = (invariant_of-self c).0

pub returns-clause-kept : goal.returns-clause-kept
returns-clause-kept c = rw (c.truncate.ensures.keys, ← c.self.view_is) (keeps_front c.args.len c.self.inside.terms.keys)

use Rattle.std.proofs.Common.{rules, arith}
use Rattle.qs_syntax_limits.specs.Large as spec
use Rattle.qs_syntax_limits.specs.inner.Parts as inner
use Rattle.qs_syntax_limits.proofs.Rows.{excess_three}
use Rattle.qs_syntax_limits.proofs.query.in_construct.Goals as goal

pub returns : goal.returns
returns c =
    let h = excess_three (spec.triples c.args.construct.now.template) (inner.given spec.group c.args.construct.now.pattern) (spec.modifiers c.args.construct.now.modifiers) in
    first_of (search (rules, h), grind (arith, h))

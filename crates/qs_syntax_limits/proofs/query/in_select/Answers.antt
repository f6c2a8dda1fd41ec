use Rattle.std.proofs.Common.{rules, arith}
use Rattle.qs_syntax_limits.specs.Large as spec
use Rattle.qs_syntax_limits.proofs.Rows.{excess_three}
use Rattle.qs_syntax_limits.proofs.query.in_select.Goals as goal

pub returns : goal.returns
returns c =
    let h = excess_three (spec.projection c.args.select.now.projection) (spec.group c.args.select.now.pattern) (spec.modifiers c.args.select.now.modifiers) in
    first_of (search (rules, h), grind (arith, h))

use Rattle.std.proofs.Common.{rules, arith}
use Rattle.qs_syntax_limits.specs.Large as spec
use Rattle.qs_syntax_limits.specs.inner.Parts as inner
use Rattle.qs_syntax_limits.proofs.Rows.{excess_three}
use Rattle.qs_syntax_limits.proofs.update.in_modify.Goals as goal

pub returns : goal.returns
returns c =
    let h = excess_three (inner.given spec.braces c.args.modify.now.delete) (inner.given spec.braces c.args.modify.now.insert) (spec.group c.args.modify.now.pattern) in
    first_of (search (rules, h), grind (arith, h))

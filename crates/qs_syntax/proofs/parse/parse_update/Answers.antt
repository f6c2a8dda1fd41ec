use Rattle.std.proofs.Common.{rules, ◌≡◌, length, arith}
use Rattle.std.specs.Vec.{vec_len}
use Rattle.qs_syntax.proofs.NoTokens.{update_without_tokens}
use Rattle.qs_syntax.proofs.parse.parse_update.Goals as goal

pub returns-then-is_empty-clause-outcome : goal.returns-then-is_empty-clause-outcome
returns-then-is_empty-clause-outcome c =
    let zero : vec_len c.in_ok-tokens.tokens ≡ 0 = search rules in
    let none : length c.in_ok-tokens.tokens.items ≡ 0 = omega (arith, c.in_ok-tokens.tokens.ok, zero) in
    update_without_tokens c.args.text.now c.in_ok-tokens.tokens.items c.settle_nothing.result c.in_ok-tokens.ensures none (c.settle_nothing.ensures c.args.text.now)

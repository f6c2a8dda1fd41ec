use Rattle.std.proofs.Common.{◌≡◌, length, take, rules, sym, subst, arith}
use Rattle.qs_index.specs.inner.Prefix.{IsAfter}
use Rattle.qs_index.proofs.Prefixes.{after_last}
use Rattle.qs_index.proofs.prefix.Prefix.after.Goals as goal

pub returns-clause-after : goal.returns-clause-after
returns-clause-after c =
    let given = c.args.given in
    let entry = c.args.entry in
    let four : length entry ≡ 4 = search rules in
    subst (IsAfter (take given entry)) (sym c.new.ensures) (after_last entry given c.in_ok-numbers.field-0 (omega arith) (omega arith) (omega (arith, c.in_ok-numbers.ensures)))

use Rattle.std.proofs.Common.{arith, ap, drop, ◌*◌, ◌+◌, ℕ, List}
use Rattle.std.proofs.lemmas.List.{drop_more}
use Rattle.std.specs.Str.Parse.{digits_value_after}
use Rattle.qs_http.proofs.Values.{digits_least}
use Rattle.qs_http.proofs.bytes.number_up_to.Goals as goal

pub returns-then-value-limit : goal.returns-then-value-limit
returns-then-value-limit c = λ small.
    let next = ap (λ (l : List ℕ). digits_value_after 10 c.loop-digit.value l) (drop_more c.args.digits.now c.loop-digit.digit-index 0 (omega arith)) in
    let least = digits_least (c.loop-digit.value * 10 + c.digit_of.result) (drop (c.loop-digit.digit-index + 1) c.args.digits.now) in
    absurd (omega (arith, rw c.digit_of.ensures.value at least))

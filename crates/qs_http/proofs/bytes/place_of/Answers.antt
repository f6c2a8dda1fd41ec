use Rattle.std.proofs.Common.{arith, sym, ◌==◌}
use Rattle.std.proofs.lemmas.List.Sums.{position_or_len_is}
use Rattle.std.proofs.lemmas.Bool.Decides.{nat_tests}
use Rattle.qs_http.proofs.bytes.place_of.Goals as goal

pub returns-then-b-byte : goal.returns-then-b-byte
returns-then-b-byte c = sym (position_or_len_is (λ b. b == c.args.byte) c.args.bytes.now c.loop-i.i 0 (omega arith) c.loop-i.invariant (λ _. grind (arith, nat_tests)))

pub returns : goal.returns
returns c = sym (position_or_len_is (λ b. b == c.args.byte) c.args.bytes.now _ 0 (omega arith) (λ k below. c.loop-i.invariant k (omega arith)) (λ more. absurd (omega arith)))

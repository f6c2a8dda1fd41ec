use Rattle.std.proofs.Common.{arith, sym}
use Rattle.std.proofs.lemmas.List.Sums.{position_or_len_is}
use Rattle.std.proofs.lemmas.Bool.Decides.{nat_tests}
use Rattle.qs_http.specs.inner.HeadEnd.{is_in_line}
use Rattle.qs_http.proofs.bytes.leading_len.Goals as goal

pub returns-then-byte-ne10-clause-count : goal.returns-then-byte-ne10-clause-count
returns-then-byte-ne10-clause-count c = sym (position_or_len_is is_in_line c.args.bytes.now c.loop-i.i 0 (omega arith) c.loop-i.invariant (λ _. grind (arith, nat_tests)))

pub returns-clause-count : goal.returns-clause-count
returns-clause-count c = sym (position_or_len_is is_in_line c.args.bytes.now _ 0 (omega arith) (λ k below. c.loop-i.invariant k (omega arith)) (λ more. absurd (omega arith)))

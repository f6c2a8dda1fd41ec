-- The table is held against the definition at each of the 256 bytes, by computing.
use Rattle.std.proofs.Common.{nat_eq, get_or, refl, arith}
use Rattle.std.proofs.lemmas.Bool.{agree_below_at}
use Rattle.qs_nquads.specs.Table.{is_string_char}
use Rattle.qs_nquads.specs.declared.run.TheConstants.{PLAIN}
use Rattle.qs_nquads.specs.inner.Run.{ends_in_string}
use Rattle.qs_nquads.proofs.run.ends_in_string.Goals as goal

pub returns : goal.returns
unfolding ends_in_string is_string_char
returns c = agree_below_at (λ k. nat_eq (get_or PLAIN k 0) 46) ends_in_string 256 c.args.b refl (omega arith)

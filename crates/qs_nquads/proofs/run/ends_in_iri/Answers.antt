-- The table is held against the definition at each of the 256 bytes, by computing.
use Rattle.std.proofs.Common.{not, nat_eq, get_or, refl, arith}
use Rattle.std.proofs.lemmas.Bool.{agree_below_at}
use Rattle.qs_lex_regular.specs.Character.{is_iri_char}
use Rattle.qs_nquads.specs.declared.run.TheConstants.{PLAIN}
use Rattle.qs_nquads.specs.inner.Run.{ends_in_iri}
use Rattle.qs_nquads.proofs.run.ends_in_iri.Goals as goal

pub returns : goal.returns
unfolding ends_in_iri is_iri_char
returns c = agree_below_at (λ k. not (nat_eq (get_or PLAIN k 0) 105)) ends_in_iri 256 c.args.b refl (omega arith)

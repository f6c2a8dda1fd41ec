use Rattle.qs_syntax_limits.specs.inner.Parts.{same_subject}
use Rattle.qs_syntax_limits.proofs.Rows.{from_none_at_end}
use Rattle.qs_syntax_limits.proofs.triples.in_triples.Goals as goal

pub returns : goal.returns
returns c = from_none_at_end same_subject c.loop-triples.found c.args.all.now c.loop-triples.triples-index c.loop-triples-test.false c.loop-triples.invariant

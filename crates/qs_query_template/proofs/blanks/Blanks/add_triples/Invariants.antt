use Rattle.std.proofs.Common.{◌≡◌, take}
use Rattle.std.specs.List.{fold}
use Rattle.qs_query_template.specs.Blanks.{add_blank}
use Rattle.qs_query_template.specs.inner.Blanks.{triples_blanks}
use Rattle.qs_query_template.proofs.blanks.Blanks.add_triples.Given as goal

abbrev pub invariant-loop-triple : goal.invariant-loop-triple
invariant-loop-triple l = l.self ≡ fold add_blank l.initial.self (triples_blanks (take l.triple-index l.triples))

use Rattle.qs_lex_escapes.proofs.decode.push_escape.Goals as goal

pub range_from-requires : goal.range_from-requires
range_from-requires c = λ _. c.requires c.in-Some.found c.in-Some.is

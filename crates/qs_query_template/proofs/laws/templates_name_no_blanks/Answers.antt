use Rattle.qs_query_template.proofs.Named.{no_triples, no_blocks}
use Rattle.qs_query_template.proofs.laws.templates_name_no_blanks.Goals as goal

pub returns : goal.returns
returns c = record {
  triples = no_triples;
  blocks = no_blocks;
}

use Rattle.qs_query_template.proofs.Counted.{triples_numbered, blocks_numbered}
use Rattle.qs_query_template.proofs.laws.blanks_are_numbered.Goals as goal

pub returns : goal.returns
returns c = record {
  triples = triples_numbered;
  blocks = blocks_numbered;
}

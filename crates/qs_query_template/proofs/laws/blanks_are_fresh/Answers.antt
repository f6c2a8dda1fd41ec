use Rattle.qs_query_template.proofs.Fresh.{of_block, apart, of_all, unused}
use Rattle.qs_query_template.proofs.laws.blanks_are_fresh.Goals as goal

pub returns : goal.returns
returns c = record {
  block = of_block;
  apart = apart;
  all = of_all;
  unused = unused;
}

use Rattle.qs_lex.proofs.Unique.{one_list, not_both, one_place, nothing_read}
use Rattle.qs_lex.proofs.laws.one_token_list.Goals as goal

pub returns-clause-lists : goal.returns-clause-lists
returns-clause-lists c = one_list

pub returns-clause-apart : goal.returns-clause-apart
returns-clause-apart c = not_both

pub returns-clause-places : goal.returns-clause-places
returns-clause-places c = one_place

pub returns-clause-nothing : goal.returns-clause-nothing
returns-clause-nothing c = nothing_read

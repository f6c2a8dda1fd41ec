use Rattle.std.proofs.Common.{sym}
use Rattle.std.proofs.lemmas.List.Sorted.{length_permutation}
use Rattle.qs_query_forms.proofs.Lengths.{sliced_length, counts_agree, length_of_sequence}
use Rattle.qs_query_forms.proofs.laws.sequences_have_one_length.Goals as goal

pub returns-clause-order : goal.returns-clause-order
returns-clause-order c = counts_agree

pub returns-clause-part : goal.returns-clause-part
returns-clause-part c = λ asked a b h. sliced_length asked.slice a b (sym (length_permutation a b h))

pub returns-clause-length : goal.returns-clause-length
returns-clause-length c = length_of_sequence

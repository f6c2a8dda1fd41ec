use Rattle.std.proofs.Common.{refl}
use Rattle.qs_syntax_tree.specs.Words.{word_kind}
use Rattle.qs_syntax_laws.proofs.SpelledKinds.{words, mark_texts, other_word, other_mark, has_token}
use Rattle.qs_syntax_laws.proofs.tables.kinds_are_spelled_one_way.Goals as goal

pub returns-clause-keywords : goal.returns-clause-keywords
returns-clause-keywords c = words

pub returns-clause-marks : goal.returns-clause-marks
returns-clause-marks c = mark_texts

pub returns-clause-no_other_keyword : goal.returns-clause-no_other_keyword
returns-clause-no_other_keyword c = other_word

pub returns-clause-no_other_mark : goal.returns-clause-no_other_mark
returns-clause-no_other_mark c = other_mark

pub returns-clause-as_written : goal.returns-clause-as_written
unfolding word_kind
returns-clause-as_written c = refl

pub returns-clause-all : goal.returns-clause-all
returns-clause-all c = has_token

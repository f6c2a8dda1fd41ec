use Rattle.qs_results.proofs.Tokens.{behind}
use Rattle.qs_results.proofs.term.put_tagged.Goals as goal

pub returns-clause-tokens : goal.returns-clause-tokens
returns-clause-tokens c = behind _ _ _ _ _ _ _ _ _ c.in_ok-begin_object.ensures.ok c.in_ok-put_typed_value.ensures.tokens c.in_ok-put_text.ensures.tokens c.in_ok-end_object.ensures.ok

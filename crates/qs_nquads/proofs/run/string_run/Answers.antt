use Rattle.std.proofs.Common.{ap, ◌∙◌}
use Rattle.std.specs.List.{position}
use Rattle.qs_nquads.specs.inner.Run.{ends_in_string}
use Rattle.qs_nquads.proofs.Runs.{string_ended, string_unended}
use Rattle.qs_nquads.proofs.run.string_run.Goals as goal

pub returns-in-Some : goal.returns-in-Some
returns-in-Some c = string_ended _ _ c.utf8.text (c.in-Some.ensures ∙ ap (λ z. position ends_in_string z) c.as_bytes.ensures.value)

pub returns-in-None : goal.returns-in-None
returns-in-None c = string_unended _ c.utf8.text (c.in-None.ensures ∙ ap (λ z. position ends_in_string z) c.as_bytes.ensures.value)

use Rattle.std.proofs.Common.{ap, ◌∙◌}
use Rattle.std.specs.List.{position}
use Rattle.qs_nquads.specs.inner.Run.{ends_in_iri}
use Rattle.qs_nquads.proofs.Runs.{iri_ended, iri_unended}
use Rattle.qs_nquads.proofs.run.iri_run.Goals as goal

pub returns-in-Some : goal.returns-in-Some
returns-in-Some c = iri_ended _ _ c.utf8.text (c.in-Some.ensures ∙ ap (λ z. position ends_in_iri z) c.as_bytes.ensures.value)

pub returns-in-None : goal.returns-in-None
returns-in-None c = iri_unended _ c.utf8.text (c.in-None.ensures ∙ ap (λ z. position ends_in_iri z) c.as_bytes.ensures.value)

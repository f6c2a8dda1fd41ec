use Rattle.std.proofs.Common.{◌∙◌, sym}
use Rattle.qs_http.specs.inner.HeadView.{plain}
use Rattle.qs_http.proofs.Steps.{sound_length}
use Rattle.qs_http.proofs.conclude.step_of_head.Goals as goal

pub returns-in_default-body_length : goal.returns-in_default-body_length
returns-in_default-body_length c =
    absurd (c.in_default-body_length.ensures
    (sound_length (plain c.args.head.now) (sym c.due.ensures ∙ c.in_default.is) (sym c.if-is_get.ensures)))

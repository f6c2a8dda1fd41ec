use Rattle.std.proofs.Common.{ap, sym, arith, ◌∙◌, length, []}
use Rattle.qs_http.specs.HeadEnd.{head_end}
use Rattle.qs_http.specs.inner.HeadState.{place_from}
use Rattle.qs_http.specs.declared.head_end.HeadState.TheVariants.{Leading}
use Rattle.qs_http.proofs.Ends.{end_from-nil, place_from-nil, head_end-searched}
use Rattle.qs_http.proofs.session.Session.new.Goals as goal

pub invariant_of-result : goal.invariant_of-result
invariant_of-result c = (
  ap head_end c.new.ensures.items ∙ head_end-searched [] ∙ end_from-nil Leading,
  omega (arith, ap length c.new.ensures.items),
  sym (ap (place_from Leading) c.new.ensures.items ∙ place_from-nil Leading),
)

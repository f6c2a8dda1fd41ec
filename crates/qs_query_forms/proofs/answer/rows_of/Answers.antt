use Rattle.std.proofs.Common.{◌≡◌, ◌∙◌, ap, map}
use Rattle.qs_algebra_solutions.specs.Solution.{projected}
use Rattle.qs_base.specs.inner.Lent.{lent}
use Rattle.qs_query_forms.specs.Sequence.{sliced}
use Rattle.qs_query_forms.proofs.Ordered.{few}
use Rattle.qs_query_forms.proofs.answer.rows_of.Goals as goal

pub returns : goal.returns
returns c =
    let asked = c.args.asked.now in
    let part : c.slice_rows-part.result.now ≡ sliced asked.slice c.in_ok-listed.listed.items = c.slice_rows-part.ensures ∙ ap (sliced asked.slice) c.as_slice.ensures.value in
    let rows : c.from_vec.result ≡ map (projected asked.columns) (lent c.slice_rows-part.result.now) =
    c.from_vec.ensures ∙ c.in_ok-rows.ensures ∙ ap (λ columns. map (projected columns) (lent c.slice_rows-part.result.now)) c.as_slice-2.ensures in
    few asked (lent c.args.all.items) c.in_ok-listed.listed.items c.slice_rows-part.result.now c.in_ok-listed.ensures part c.args.max_rows c.from_vec.result c.if-part-max_rows.false rows

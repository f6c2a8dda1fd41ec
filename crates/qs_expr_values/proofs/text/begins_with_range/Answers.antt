use Rattle.std.proofs.Common.{◌≡◌, nat_eq, length, ◌<◌, ◌==◌, false, ◌&&◌, take, ap, sym, ◌∙◌, arith}
use Rattle.std.specs.Str.{bytes_eq}
use Rattle.std.proofs.lemmas.Bool.Decides.{same_from_decides}
use Rattle.std.proofs.lemmas.Slice.Eq.{bytes_eq-Decides}
use Rattle.qs_terms.specs.Tag.{lowered}
use Rattle.qs_expr_values.proofs.Ranges.{begins}
use Rattle.qs_expr_values.proofs.text.begins_with_range.Goals as goal

pub returns-then-tag-range-eq45 : goal.returns-then-tag-range-eq45
returns-then-tag-range-eq45 c =
    let range = c.args.range.now in
    let tag = c.args.tag.now in
    let some : (length range == 0) ≡ false = sym c.is_empty.ensures ∙ c.if-is_empty.false in
    let longer : length range < length tag = omega arith in
    let same = bytes_eq (lowered (take (length range) tag)) (lowered range) in
    same_from_decides c.eq_ignore_ascii_case.result same c.eq_ignore_ascii_case.ensures.test (bytes_eq-Decides (lowered (take (length range) tag)) (lowered range))
    ∙ sym (begins range tag some longer ∙ ap (λ x. nat_eq x 45 && same) c.if-tag-range-eq45.true)

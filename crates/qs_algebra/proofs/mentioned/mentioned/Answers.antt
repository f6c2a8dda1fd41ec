use Rattle.std.proofs.Common.{◌||◌, ap, ◌∙◌}
use Rattle.qs_algebra_patterns.specs.Basic.{mentions}
use Rattle.qs_algebra_patterns.specs.inner.Basic.{is_end}
use Rattle.qs_algebra.specs.inner.Flags.{flags_from}
use Rattle.qs_algebra.specs.inner.Flags.{flag_at}
use Rattle.qs_algebra.proofs.ColumnLaws.{either_are}
use Rattle.qs_algebra.proofs.mentioned.mentioned.Goals as goal

pub returns : goal.returns
returns c =
    let w = c.args.width in
    let p = c.args.pattern.now in
    either_are (mentions p.triples) (is_end p.paths) w c.in_ok-in_triples.in_triples.items c.in_ok-at_ends.at_ends.items c.in_ok-flags.flags.items
    (c.in_ok-in_triples.ensures ∙ ap (λ l. flags_from (mentions l) 0 w) c.as_slice.ensures)
    (c.in_ok-at_ends.ensures ∙ ap (λ l. flags_from (is_end l) 0 w) c.as_slice-2.ensures)
    (c.in_ok-flags.ensures
    ∙ (ap (λ l. flags_from (λ v. flag_at l v || flag_at c.as_slice-4.result.now v) 0 w) c.as_slice-3.ensures.value
    ∙ ap (λ l. flags_from (λ v. flag_at c.in_ok-in_triples.in_triples.items v || flag_at l v) 0 w) c.as_slice-4.ensures.value))

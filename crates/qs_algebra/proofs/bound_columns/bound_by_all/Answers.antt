use Rattle.std.proofs.Common.{◌&&◌, List, Option, ap, ◌∙◌, arith}
use Rattle.std.specs.List.{list_all}
use Rattle.std.proofs.lemmas.List.{take_all}
use Rattle.std.specs.Option.{is_some}
use Rattle.qs_terms.specs.declared.term.Term.{Term}
use Rattle.qs_algebra_solutions.specs.Solution.{term_at, binding}
use Rattle.qs_algebra.specs.inner.Flags.{flags_from}
use Rattle.qs_algebra.specs.inner.Flags.{flag_at}
use Rattle.qs_algebra.proofs.Arms.{every_more}
use Rattle.qs_algebra.proofs.bound_columns.bound_by_all.Goals as goal

pub loop-row-preserved : goal.loop-row-preserved
loop-row-preserved c =
    let w = c.args.width in
    every_more (λ (row : List (Option Term)) v. is_some (term_at (binding w c.args.variables.now row) v)) c.args.rows.now c.loop-row.row-index w c.row-item.result c.loop-row.flags.items c.in_ok-more.more.items c.in_ok-flags-2.flags.items
    c.loop-row-test.true c.row-item.is c.loop-row.invariant
    (c.in_ok-more.ensures ∙ ap (λ (row : List (Option Term)). flags_from (λ v. is_some (term_at (binding w c.args.variables.now row) v)) 0 w) c.as_slice.ensures)
    (c.in_ok-flags-2.ensures
    ∙ (ap (λ l. flags_from (λ v. flag_at l v && flag_at c.as_slice-in-loop-row-2.result.now v) 0 w) c.as_slice-in-loop-row.ensures.value
    ∙ ap (λ l. flags_from (λ v. flag_at c.loop-row.flags.items v && flag_at l v) 0 w) c.as_slice-in-loop-row-2.ensures.value))

pub returns : goal.returns
returns c =
    c.loop-row.invariant
    ∙ ap (λ (rows : List (List (Option Term))). flags_from (λ v. list_all (λ (row : List (Option Term)). is_some (term_at (binding c.args.width c.args.variables.now row) v)) rows) 0 c.args.width)
    (take_all c.loop-row.row-index c.args.rows.now (omega (arith, c.loop-row-test.false)))

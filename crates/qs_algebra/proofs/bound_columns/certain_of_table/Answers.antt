use Rattle.std.proofs.Common.{◌&&◌, ◌==◌, List, Option, ap, ◌∙◌}
use Rattle.std.specs.List.{list_any, list_all}
use Rattle.std.specs.Option.{is_some}
use Rattle.qs_terms.specs.declared.term.Term.{Term}
use Rattle.qs_algebra_solutions.specs.Solution.{term_at, binding}
use Rattle.qs_algebra.specs.inner.Flags.{flags_from}
use Rattle.qs_algebra.specs.inner.Flags.{flag_at}
use Rattle.qs_algebra.proofs.ColumnLaws.{both_are}
use Rattle.qs_algebra.proofs.bound_columns.certain_of_table.Goals as goal

pub returns : goal.returns
returns c =
    let w = c.args.width in
    both_are _ _ w c.in_ok-columns.columns.items c.in_ok-bound.bound.items c.in_ok-flags.flags.items
    (c.in_ok-columns.ensures ∙ ap (λ vs. flags_from (λ v. list_any (λ w. w == v) vs) 0 w) c.as_slice-variables.ensures)
    (c.in_ok-bound.ensures
    ∙ (ap (λ vs. flags_from (λ v. list_all (λ (row : List (Option Term)). is_some (term_at (binding w vs row) v)) c.as_slice.result.now) 0 w) c.as_slice-variables.ensures
    ∙ ap (λ (rows : List (List (Option Term))). flags_from (λ v. list_all (λ (row : List (Option Term)). is_some (term_at (binding w c.args.table.now.variables row) v)) rows) 0 w) c.as_slice.ensures))
    (c.in_ok-flags.ensures
    ∙ (ap (λ l. flags_from (λ v. flag_at l v && flag_at c.as_slice-3.result.now v) 0 w) c.as_slice-2.ensures.value
    ∙ ap (λ l. flags_from (λ v. flag_at c.in_ok-columns.columns.items v && flag_at l v) 0 w) c.as_slice-3.ensures.value))

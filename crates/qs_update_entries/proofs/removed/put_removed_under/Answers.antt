use Rattle.std.proofs.Common.{◌++◌, ◌+◌, ◌∙◌, append_assoc, take, ap, sym}
use Rattle.std.specs.List.{filter_map, flat_map}
use Rattle.qs_expr.specs.inner.Cell.{row_solution}
use Rattle.qs_query_template.specs.Instances.{instance}
use Rattle.qs_query_template.specs.declared.template.QuadTemplate.{QuadTemplate}
use Rattle.qs_store.specs.inner.Entries.{entry_of}
use Rattle.qs_update_entries.proofs.Adding.{one_more}
use Rattle.qs_update_entries.proofs.removed.put_removed_under.Goals as goal

pub loop-quad-preserved : goal.loop-quad-preserved
loop-quad-preserved c =
    let known = c.args.draft.now.store.now.draft.known in
    let m = row_solution known c.args.scratch.now c.args.row.now in
    let f = λ (q : QuadTemplate). filter_map (entry_of known) (instance 0 0 m q) in
    let old = c.args.entries.now.items in
    let i = c.loop-quad.quad-index in
    let q = c.quad-item.result in
    let qs = c.as_slice-quad-items.result.now in
    c.in_ok-put_removed_of.ensures
    ∙ (ap (λ l. l ++ f q) (c.loop-quad.invariant ∙ ap (λ z. old ++ flat_map f (take i z)) (sym c.as_slice-quad-items.ensures))
    ∙ (append_assoc old (flat_map f (take i qs)) (f q)
    ∙ ap (λ l. old ++ l) (sym (one_more f qs i q c.loop-quad-test.true c.quad-item.is) ∙ ap (λ z. flat_map f (take (i + 1) z)) c.as_slice-quad-items.ensures)))

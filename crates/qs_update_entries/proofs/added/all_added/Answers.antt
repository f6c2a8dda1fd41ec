use Rattle.std.proofs.Common.{◌++◌, ◌∙◌, length, map, take, ap, sym, subst}
use Rattle.std.proofs.lemmas.Result.{err_from_is_err_and}
use Rattle.qs_expr.specs.inner.Cell.{row_solution, FitsRow}
use Rattle.qs_query_template.specs.Instances.{instances}
use Rattle.qs_query_template.specs.inner.Instances.{instances_under}
use Rattle.qs_store.specs.Change.{with_terms_of}
use Rattle.qs_store.specs.inner.Change.{IsFullAt}
use Rattle.qs_store.proofs.Terms.{front_trans}
use Rattle.qs_update_entries.specs.inner.Say.{Say}
use Rattle.qs_update_entries.proofs.Adding.{full_of_more, more_instances, next_first, rest_of_instances, with_rest_of_instances}
use Rattle.qs_update_entries.proofs.Growing.{same_row, still_row}
use Rattle.qs_update_entries.proofs.Saying.{learns_more}
use Rattle.qs_update_entries.proofs.added.all_added.Goals as goal

pub put_added_under-requires-clause-fits : goal.put_added_under-requires-clause-fits
put_added_under-requires-clause-fits c =
    let old = c.args.draft.now.store.now.draft.known in
    let row = c.row-item.result in
    still_row old c.loop-row.draft.store.now.draft.known c.args.scratch.now c.loop-row.invariant.front row
    (subst (FitsRow old c.args.scratch.now) (sym c.row-item.is) (c.requires.fits c.loop-row.row-index row c.loop-row-test.true))

pub returns-in_err-put_added_under-clause-full : goal.returns-in_err-put_added_under-clause-full
returns-in_err-put_added_under-clause-full c =
    let old = c.args.draft.now.store.now in
    let now = c.loop-row.draft.store.now in
    let t = c.args.template.now in
    let table = c.args.scratch.now in
    let row = c.row-item.result in
    let rows = c.args.rows.now in
    let i = c.loop-row.row-index in
    let inv = c.loop-row.invariant in
    let f = row_solution old.draft.known table in
    let done = instances t c.args.next (map f (take i rows)) in
    let fit = subst (FitsRow old.draft.known table) (sym c.row-item.is) (c.requires.fits i row c.loop-row-test.true) in
    let fault = c.in_err-put_added_under.field-0.0 in
    let one = instances_under t c.loop-row.first (f row) in
    let now_full = c.in_err-put_added_under.ensures.full old.draft.known done inv.say in
    let full = subst (λ l. IsFullAt fault l (length (with_terms_of old.draft.known (done ++ one)))) inv.learns.limit
    (subst (λ m. IsFullAt fault now.limit (length (with_terms_of old.draft.known (done ++ instances_under t c.loop-row.first m)))) (same_row old.draft.known now.draft.known table inv.front row fit) now_full) in
    let p = err_from_is_err_and c.from_residual.result c.from_residual.ensures.1 in
    rw (p.1, p.2)
    (full_of_more fault old.limit old.draft.known (done ++ one) (rest_of_instances t c.args.next f rows i row c.loop-row-test.true c.row-item.is c.loop-row.first inv.first) (instances t c.args.next (map f rows))
    (with_rest_of_instances t c.args.next f rows i row c.loop-row-test.true c.row-item.is c.loop-row.first inv.first) full)

pub loop-row-preserved : goal.loop-row-preserved
loop-row-preserved c =
    let old = c.args.draft.now.store.now in
    let now = c.loop-row.draft.store.now in
    let new = c.put_added_under.new.draft.store.now in
    let t = c.args.template.now in
    let table = c.args.scratch.now in
    let row = c.row-item.result in
    let rows = c.args.rows.now in
    let i = c.loop-row.row-index in
    let inv = c.loop-row.invariant in
    let f = row_solution old.draft.known table in
    let done = instances t c.args.next (map f (take i rows)) in
    let fit = subst (FitsRow old.draft.known table) (sym c.row-item.is) (c.requires.fits i row c.loop-row-test.true) in
    let said = c.in_ok-put_added_under.ensures.say old.draft.known done inv.say in
    let same = ap (λ m. done ++ instances_under t c.loop-row.first m) (same_row old.draft.known now.draft.known table inv.front row fit) in
    record {
      same_reference = c.put_added_under.ensures.same_reference ∙ inv.same_reference;
      learns = learns_more old now new inv.learns c.put_added_under.ensures.learns;
      front = front_trans old.draft.known now.draft.known new.draft.known inv.front c.in_ok-put_added_under.ensures.front;
      first = next_first t c.args.next f rows i row c.loop-row-test.true c.row-item.is c.loop-row.first inv.first;
      say = subst (Say old.draft.known new.draft.known c.put_added_under.new.entries.items) (same ∙ sym (more_instances t c.args.next f rows i row c.loop-row-test.true c.row-item.is c.loop-row.first inv.first)) said;
    }

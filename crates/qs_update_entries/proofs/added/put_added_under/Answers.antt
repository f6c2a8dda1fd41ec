use Rattle.std.proofs.Common.{◌≡◌, ◌++◌, ◌<◌, ◌∙◌, [], append-nil, get_or, length, take, ap, sym, subst}
use Rattle.std.specs.List.{flat_map}
use Rattle.std.proofs.lemmas.Result.{err_from_is_err_and}
use Rattle.qs_expr.specs.inner.Cell.{row_solution}
use Rattle.qs_query_template.specs.Instances.{instance}
use Rattle.qs_store.specs.inner.References.{referred_quad}
use Rattle.qs_store.proofs.Terms.{front_trans}
use Rattle.qs_update_entries.specs.inner.Refers.{AreFresh, if_lawful}
use Rattle.qs_update_entries.specs.inner.Say.{Say}
use Rattle.qs_update_entries.proofs.Adding.{behind, full_behind}
use Rattle.qs_update_entries.proofs.Growing.{same_row, still_row}
use Rattle.qs_update_entries.proofs.Saying.{learns_more}
use Rattle.qs_update_entries.proofs.added.put_added_under.Goals.{in-Some+in_ok-put_added-in-Some, in-None}
use Rattle.qs_update_entries.proofs.added.put_added_under.Goals as goal

pub put_added-requires : goal.put_added-requires
put_added-requires c =
    let now = c.loop-quad.draft.store.now.draft.known in
    let fresh = subst (AreFresh c.args.template.now.blanks c.args.first) (sym c.as_slice.ensures.value) c.in_ok-put_blanks.ensures.fresh in
    (c.in-Some.ensures now c.args.template.now.blanks c.args.first fresh (still_row c.args.draft.now.store.now.draft.known now c.args.scratch.now c.loop-quad.invariant.front c.args.row.now c.requires.fits)).0

pub returns-in_err-put_added-in-Some-clause-full : goal.returns-in_err-put_added-in-Some-clause-full
returns-in_err-put_added-in-Some-clause-full c =
    let old = c.args.draft.now.store.now.draft.known in
    let now = c.loop-quad.draft.store.now.draft.known in
    let table = c.args.scratch.now in
    let row = c.args.row.now in
    let f = instance c.args.template.now.blanks c.args.first (row_solution old table row) in
    let i = c.loop-quad.quad-index in
    let q = c.quad-item.result in
    let inv = c.loop-quad.invariant in
    let one = if_lawful (referred_quad now c.in-Some.quad) in
    let fresh = subst (AreFresh c.args.template.now.blanks c.args.first) (sym c.as_slice.ensures.value) c.in_ok-put_blanks.ensures.fresh in
    let made = (c.in-Some.ensures now c.args.template.now.blanks c.args.first fresh (still_row old now table inv.front row c.requires.fits)).1 in
    let is : f q ≡ one = ap (λ m. instance c.args.template.now.blanks c.args.first m q) (sym (same_row old now table inv.front row c.requires.fits)) ∙ made in
    let p = err_from_is_err_and c.from_residual-in_err-put_added-in-Some.result c.from_residual-in_err-put_added-in-Some.ensures.1 in
    rw (p.1, p.2) (λ known quads s.
    full_behind f c.args.template.now.quads i q (subst (λ z. i < length z) c.as_slice-quad-items.ensures c.loop-quad-test.true) (subst (λ z. q ≡ get_or z i q) c.as_slice-quad-items.ensures c.quad-item.is) quads one is
    c.in_err-put_added-in-Some.field-0.0 c.loop-quad.draft.store.now.limit c.args.draft.now.store.now.limit known inv.learns.limit
    (c.in_err-put_added-in-Some.ensures.full known (quads ++ flat_map f (take i c.args.template.now.quads)) (inv.say known quads s)))

pub loop-quad-preserved : goal.loop-quad-preserved
loop-quad-preserved c =
    let old = c.args.draft.now.store.now.draft.known in
    let now = c.loop-quad.draft.store.now.draft.known in
    let table = c.args.scratch.now in
    let row = c.args.row.now in
    let blanks = c.args.template.now.blanks in
    let f = instance blanks c.args.first (row_solution old table row) in
    let qs = c.args.template.now.quads in
    let i = c.loop-quad.quad-index in
    let q = c.quad-item.result in
    let inv = c.loop-quad.invariant in
    let lt : i < length qs = subst (λ z. i < length z) c.as_slice-quad-items.ensures c.loop-quad-test.true in
    let at : q ≡ get_or qs i q = subst (λ z. q ≡ get_or z i q) c.as_slice-quad-items.ensures c.quad-item.is in
    let fresh = subst (AreFresh blanks c.args.first) (sym c.as_slice.ensures.value) c.in_ok-put_blanks.ensures.fresh in
    let fit = still_row old now table inv.front row c.requires.fits in
    let same = ap (λ m. instance blanks c.args.first m q) (sym (same_row old now table inv.front row c.requires.fits)) in
    elim c.match-quad_ref.branch [
      | in-Some+in_ok-put_added-in-Some w ↦
          let one = if_lawful (referred_quad now w.in-Some.quad) in
          let is : f q ≡ one = same ∙ (w.in-Some.ensures now blanks c.args.first fresh fit).1 in
          let new = w.put_added.new.draft.store.now in
          rw (w.draft-is, w.entries-is) record {
            same_reference = w.put_added.ensures.same_reference ∙ inv.same_reference;
            learns = learns_more c.args.draft.now.store.now c.loop-quad.draft.store.now new inv.learns w.put_added.ensures.learns;
            front = front_trans old now new.draft.known inv.front w.in_ok-put_added-in-Some.ensures.front;
            say = λ known quads s. subst (Say known new.draft.known w.put_added.new.entries.items) (behind f qs i q lt at quads one is) (w.in_ok-put_added-in-Some.ensures.say known (quads ++ flat_map f (take i qs)) (inv.say known quads s));
          }
      | in-None w ↦
          let is : f q ≡ [] = same ∙ w.in-None.ensures now blanks c.args.first fresh fit in
          rw (w.draft-is, w.entries-is) record {
            same_reference = inv.same_reference;
            learns = inv.learns;
            front = inv.front;
            say = λ known quads s.
                let done = quads ++ flat_map f (take i qs) in
                subst (Say known now c.loop-quad.entries.items) (sym (append-nil done) ∙ behind f qs i q lt at quads [] is) (inv.say known quads s);
          }
    ]

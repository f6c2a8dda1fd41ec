use Rattle.std.proofs.Common.{◌≡◌, ◌≤◌, ◌∙◌, Ok, ap, length, map, refl, subst, sym}
use Rattle.std.proofs.lemmas.List.{length-map}
use Rattle.qs_expr.specs.inner.Cell.{row_solution}
use Rattle.qs_query_template.specs.Instances.{instances, next_after}
use Rattle.qs_query_template.specs.inner.Instances.{within}
use Rattle.qs_store.specs.Change.{IsChanged, with_terms_of}
use Rattle.qs_update.specs.Request.{IsCarriedOut}
use Rattle.qs_update.proofs.Turns.{applied, known_in_turn}
use Rattle.qs_update.proofs.Under.{change, denoted_by, enough}
use Rattle.qs_update.proofs.modified.change_by_templates.Goals as goal

pub returns-in-Ok-clause-outcome : goal.returns-in-Ok-clause-outcome
returns-in-Ok-clause-outcome c =
    let held = c.args.draft.now.store.now in
    let old = held.draft in
    let new = c.change_under.new.draft.store.now.draft in
    let delete = c.args.delete in
    let insert = c.args.insert.now in
    let items = c.args.found.now.rows.items in
    let f = row_solution old.known c.args.found.now.scratch in
    let rows = denoted_by old.known c.args.found.now in
    let after = c.in_ok-after.after in
    let done = c.in-Ok.ensures in
    let as_rows = c.as_slice-rows.ensures.value in
    let number : Ok after ≡ within (next_after insert old.next (length c.as_slice-rows.result.now)) (next_after insert old.next (length c.as_slice-rows.result.now)) =
    subst (λ n. Ok after ≡ within (next_after insert n (length c.as_slice-rows.result.now)) (next_after insert n (length c.as_slice-rows.result.now))) c.next_blank.ensures.next c.in_ok-after.ensures in
    let suffices : Ok after ≡ within (next_after insert old.next (length rows)) (next_after insert old.next (length rows)) =
    subst (λ n. Ok after ≡ within (next_after insert old.next n) (next_after insert old.next n)) (ap length as_rows ∙ sym (length-map items f)) number in
    let k = enough delete insert old.next rows after suffices in
    let effect = change delete insert old.next rows in
    let quads =
    subst (λ d. IsChanged old.quads (instances d old.next rows) effect.added new.quads) c.deletion-delete.ensures
    (subst (λ l. IsChanged old.quads (instances c.deletion-delete.result old.next (map f l)) (instances insert old.next (map f l)) new.quads) as_rows done.quads) in
    let room : length (with_terms_of old.known effect.added) ≤ held.limit = subst (λ l. length (with_terms_of old.known (instances insert old.next (map f l))) ≤ held.limit) as_rows done.full in
    let known : new.known ≡ with_terms_of old.known effect.added = subst (λ l. new.known ≡ with_terms_of old.known (instances insert old.next (map f l))) as_rows done.in_turn in
    subst (λ x. IsCarriedOut held.limit old x (Ok new)) (sym k.0)
    (applied held.limit old new effect effect.removed effect.added refl refl room quads (done.next ∙ k.1) (known_in_turn old.known effect.added new.known known))

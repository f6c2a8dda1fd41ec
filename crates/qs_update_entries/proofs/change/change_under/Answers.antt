use Rattle.std.proofs.Common.{◌≡◌, ◌∙◌, map, subst, sym}
use Rattle.std.specs.List.{filter_map}
use Rattle.std.proofs.lemmas.Result.{on_ok_weaker}
use Rattle.qs_expr.specs.inner.Cell.{row_solution}
use Rattle.qs_query_template.specs.Instances.{instances}
use Rattle.qs_store.specs.Change.{IsChanged}
use Rattle.qs_store.specs.inner.Entries.{entry_of, said, AreEntries}
use Rattle.qs_update_entries.proofs.Changing.{found_entries, instances_lawful}
use Rattle.qs_update_entries.proofs.Removing.{removed_as_quads, under_all}
use Rattle.qs_update_entries.proofs.change.change_under.Goals as goal

pub change_entries-requires-clause-removed : goal.change_entries-requires-clause-removed
change_entries-requires-clause-removed c =
    let old = c.args.draft.now.store.now.draft in
    let more = c.all_added.new.draft.store.now.draft.known in
    let delete = c.args.delete.now in
    let ms = map (row_solution old.known c.args.scratch.now) c.args.rows.now in
    let removed = c.in_ok-removed.removed.items in
    let are : removed ≡ filter_map (entry_of old.known) (instances delete old.next ms) = c.in_ok-removed.ensures ∙ under_all old.known delete old.next ms c.requires.blanks in
    subst (AreEntries more) (sym c.as_mut_slice.ensures.value)
    (found_entries old.known more (instances delete old.next ms) removed c.in_ok-added.ensures.front c.count-count.ensures.lawful.terms_once (instances_lawful delete old.next ms) are)

pub returns-clause-quads : goal.returns-clause-quads
returns-clause-quads c =
    let old = c.args.draft.now.store.now.draft in
    let mid = c.all_added.new.draft.store.now.draft in
    let new = c.change_entries.new.self.store.now.draft.quads in
    let delete = c.args.delete.now in
    let ms = map (row_solution old.known c.args.scratch.now) c.args.rows.now in
    let outs = instances delete old.next ms in
    let ins = instances c.args.insert.now old.next ms in
    let removed = c.in_ok-removed.removed.items in
    let added = c.in_ok-added.added.items in
    let are : removed ≡ filter_map (entry_of old.known) outs = c.in_ok-removed.ensures ∙ under_all old.known delete old.next ms c.requires.blanks in
    let says : said mid.known added ≡ ins = subst (λ n. said mid.known added ≡ instances c.args.insert.now n ms) c.next_blank-next.ensures.next c.in_ok-added.ensures.say.says in
    on_ok_weaker c.change_entries.result
    (λ w.
    let a : IsChanged mid.quads (said mid.known removed) (said mid.known c.as_mut_slice-2.result.now) new = subst (λ l. IsChanged mid.quads (said mid.known l) (said mid.known c.as_mut_slice-2.result.now) new) c.as_mut_slice.ensures.value w in
    let b : IsChanged mid.quads (said mid.known removed) (said mid.known added) new = subst (λ l. IsChanged mid.quads (said mid.known removed) (said mid.known l) new) c.as_mut_slice-2.ensures.value a in
    let d : IsChanged mid.quads (said mid.known removed) ins new = subst (λ l. IsChanged mid.quads (said mid.known removed) l new) says b in
    let e : IsChanged old.quads (said mid.known removed) ins new = subst (λ l. IsChanged l (said mid.known removed) ins new) c.all_added.ensures.learns.quads d in
    removed_as_quads old.known mid.known c.in_ok-added.ensures.front c.count-count.ensures.lawful.terms_once outs removed are old.quads ins new c.terms.ensures.known e)
    c.change_entries.ensures.quads

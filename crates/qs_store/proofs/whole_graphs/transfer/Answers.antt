use Rattle.std.proofs.Common.{sym, subst}
use Rattle.std.specs.Option.{option_copied}
use Rattle.qs_store.specs.Change.{IsChanged}
use Rattle.qs_store.specs.inner.Entries.{said, AreEntries}
use Rattle.qs_store.specs.WholeGraphs.{copies, removed_by}
use Rattle.qs_store.proofs.Copied.{later_entries, same_entries, transferred_said, transferred_entries}
use Rattle.qs_store.proofs.whole_graphs.transfer.Goals as goal

pub entries_removed-requires : goal.entries_removed-requires
entries_removed-requires c =
    later_entries c.args.dict.now.terms c.entries_copied.new.dict.terms c.entries_copied.ensures.front c.len-count.ensures.lawful.distinct c.args.layers.now.draft c.requires.known

pub returns-clause-quads : goal.returns-clause-quads
returns-clause-quads c =
    let a = c.args.dict.now.terms in
    let b = c.entries_copied.new.dict.terms in
    let entries = c.args.layers.now.draft in
    let from = option_copied c.args.from in
    let to = option_copied c.args.to in
    let outs = c.as_mut_slice.result.now in
    let ins = c.as_mut_slice-2.result.now in
    let added = copies from to (said a entries) in
    subst (λ d. IsChanged (said a entries) (removed_by c.args.removal from to (said a entries)) added (said b d)) (sym c.note_removed.ensures.draft)
    (transferred_said a b c.entries_copied.ensures.front c.len-count.ensures.lawful.distinct entries c.requires.known outs ins c.change.new.self.draft c.args.removal from to added
    (same_entries b (removed_by c.args.removal from to (said b entries)) c.in_ok-outs.outs.items outs (sym c.as_mut_slice.ensures.value) c.in_ok-outs.ensures)
    (same_entries b added c.in_ok-ins.ins.items ins (sym c.as_mut_slice-2.ensures.value) c.in_ok-ins.ensures.entries)
    c.in_ok-change.ensures.draft)

pub returns-clause-entries : goal.returns-clause-entries
returns-clause-entries c =
    let a = c.args.dict.now.terms in
    let b = c.entries_copied.new.dict.terms in
    let entries = c.args.layers.now.draft in
    let ins = c.as_mut_slice-2.result.now in
    let added = copies (option_copied c.args.from) (option_copied c.args.to) (said a entries) in
    subst (AreEntries b) (sym c.note_removed.ensures.draft)
    (transferred_entries a b c.entries_copied.ensures.front c.len-count.ensures.lawful.distinct entries c.requires.known c.as_mut_slice.result.now ins c.change.new.self.draft added
    (same_entries b added c.in_ok-ins.ins.items ins (sym c.as_mut_slice-2.ensures.value) c.in_ok-ins.ensures.entries) c.in_ok-change.ensures.draft)

use Rattle.std.proofs.Common.{◌≡◌, ◌++◌, ◌∙◌, OnOk, append-nil, subst, sym, ap}
use Rattle.std.specs.List.{filter_map}
use Rattle.qs_store.specs.inner.Entries.{entry_of}
use Rattle.qs_update_entries.proofs.Removing.{none_are_fresh}
use Rattle.qs_update_entries.proofs.removed.put_removed_of.Goals as goal

pub put_removed-requires : goal.put_removed-requires
put_removed-requires c = (c.in-Some.ensures c.args.draft.now.store.now.draft.known 0 0 (none_are_fresh 0) c.requires).0

pub returns-in-None : goal.returns-in-None
returns-in-None c =
    let known = c.args.draft.now.store.now.draft.known in
    let old = c.args.entries.now.items in
    sym (ap (λ l. old ++ filter_map (entry_of known) l) (c.in-None.ensures known 0 0 (none_are_fresh 0) c.requires) ∙ append-nil old)

pub returns-in-Some : goal.returns-in-Some
returns-in-Some c =
    let known = c.args.draft.now.store.now.draft.known in
    subst (λ l. OnOk c.put_removed.result (c.put_removed.new.entries.items ≡ c.args.entries.now.items ++ filter_map (entry_of known) l)) (sym (c.in-Some.ensures known 0 0 (none_are_fresh 0) c.requires).1) c.put_removed.ensures

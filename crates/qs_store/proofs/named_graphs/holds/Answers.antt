use Rattle.std.proofs.Common.{refl}
use Rattle.qs_store.proofs.Out.{added_holds, four_of_added, holds_added, removal}
use Rattle.qs_store.proofs.named_graphs.holds.Goals as goal

pub are_out-requires-clause-removal : goal.are_out-requires-clause-removal
are_out-requires-clause-removal c =
    let a = c.args in
    removal a.index.now.entries a.removed.now.entries a.added.now.entries c.requires.draft

pub has-requires : goal.has-requires
has-requires c =
    let a = c.args in
    record { four = four_of_added a.index.now.entries a.removed.now.entries a.added.now.entries c.requires.four }

pub returns-then-are_out-clause-held : goal.returns-then-are_out-clause-held
returns-then-are_out-clause-held c =
    let a = c.args in
    λ h. holds_added a.graph a.index.now.entries a.removed.now.entries a.added.now.entries (c.has.ensures.held h)

pub returns-then-are_out-clause-empty : goal.returns-then-are_out-clause-empty
returns-then-are_out-clause-empty c =
    let a = c.args in
    λ h. c.has.ensures.empty (added_holds a.graph a.index.now.entries a.removed.now.entries a.added.now.entries (c.if-are_out.ensures refl) h)

use Rattle.std.proofs.Common.{[]}
use Rattle.qs_store.specs.Change.{IsChanged}
use Rattle.qs_store.specs.inner.Entries.{said, AreEntries}
use Rattle.qs_store.proofs.Copied.{done_so, changed_said, entries_changed}
use Rattle.qs_store.proofs.Members.{nothing}
use Rattle.qs_store.proofs.whole_graphs.remove.Goals as goal

pub returns-clause-quads : goal.returns-clause-quads
returns-clause-quads c =
    let terms = c.args.dict.now.terms in
    let old = c.args.layers.now.draft in
    let outs = c.args.outs.now in
    let new = c.change.new.self.draft in
    done_so (IsChanged old outs [] new) (IsChanged (said terms old) (said terms outs) [] (said terms new)) c.change.result
    (λ w. changed_said terms c.len-count.ensures.lawful.distinct old outs [] new c.requires.known c.requires.outs w) c.change.ensures.draft

pub returns-clause-entries : goal.returns-clause-entries
returns-clause-entries c =
    let terms = c.args.dict.now.terms in
    let old = c.args.layers.now.draft in
    let outs = c.args.outs.now in
    let new = c.change.new.self.draft in
    done_so (IsChanged old outs [] new) (AreEntries terms new) c.change.result
    (λ w. entries_changed terms old outs [] new c.requires.known (λ x m. absurd (nothing x m)) w) c.change.ensures.draft

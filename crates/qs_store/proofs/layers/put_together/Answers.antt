use Rattle.std.proofs.Common.{◌≡◌, [], sym, subst, arith}
use Rattle.std.proofs.lemmas.List.{nil_from_length}
use Rattle.qs_index.specs.inner.Entries.{IsUnion}
use Rattle.qs_store.specs.Change.{IsChanged}
use Rattle.qs_store.specs.inner.Layers.{drafted}
use Rattle.qs_store.proofs.Loaded.{settled_alone, settled_with}
use Rattle.qs_store.proofs.layers.put_together.Goals as goal

pub returns-then-len-eq0-2-clause-changed : goal.returns-then-len-eq0-2-clause-changed
returns-then-len-eq0-2-clause-changed c =
    let index = c.args.index.now.entries in
    let added = c.args.added.now.entries in
    let new = c.set.new.slot.entries in
    let none : index ≡ [] = nil_from_length index (omega (arith, c.if-len-eq0.true, c.len.ensures.count)) in
    let no_more : added ≡ [] = nil_from_length added (omega (arith, c.if-len-eq0-2.true, c.len-then-len-eq0.ensures.count)) in
    settled_alone index new c.args.removed.now.entries added c.args.entries.now none no_more
    (subst (λ i. IsUnion [] c.args.entries.now i.entries) (sym c.set.ensures) c.in_ok-made.ensures.union)

pub returns-clause-changed : goal.returns-clause-changed
returns-clause-changed c =
    subst (λ i. IsChanged (drafted i c.args.removed.now.entries c.args.added.now.entries) [] c.args.entries.now c.insert_all.new.self.entries) c.reserve.ensures.entries
    (settled_with c.reserve.new.index.entries c.take_all.new.index.entries c.put_all.new.index.entries c.insert_all.new.self.entries c.args.removed.now.entries c.args.added.now.entries c.args.entries.now
    c.take_all.ensures.difference c.put_all.ensures.union c.insert_all.ensures.union)

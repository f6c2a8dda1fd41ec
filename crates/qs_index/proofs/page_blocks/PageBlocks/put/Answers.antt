use Rattle.std.proofs.Common.{◌≡◌, ◌<◌, ◌≤◌, length, ap, sym, subst}
use Rattle.std.specs.List.{insert}
use Rattle.qs_index.specs.inner.PageBlocks.{flat}
use Rattle.qs_index.proofs.Blocks.{held_page, written}
use Rattle.qs_index.proofs.page_blocks.PageBlocks.put.Goals as goal

pub put-requires-clause-at : goal.put-requires-clause-at
put-requires-clause-at c =
    let blocks = c.self.inside.blocks.items in
    let items = c.args.self.now.items in
    let same : flat blocks ≡ items = ap (λ s. s.items) c.self.view_is in
    let held = held_page blocks items c.index_mut-block.result.now c.args.page c.self.inside.count c.self.invariant same c.requires.page c.index_mut-block.ensures.value in
    subst (λ r. c.args.at ≤ length r) (sym held) c.requires.at

pub put-requires-clause-room : goal.put-requires-clause-room
put-requires-clause-room c =
    let blocks = c.self.inside.blocks.items in
    let items = c.args.self.now.items in
    let same : flat blocks ≡ items = ap (λ s. s.items) c.self.view_is in
    let held = held_page blocks items c.index_mut-block.result.now c.args.page c.self.inside.count c.self.invariant same c.requires.page c.index_mut-block.ensures.value in
    subst (λ r. length r < 256) (sym held) c.requires.room

pub invariant_of-self : goal.invariant_of-self
invariant_of-self c =
    let blocks = c.self.inside.blocks.items in
    let items = c.args.self.now.items in
    let same : flat blocks ≡ items = ap (λ s. s.items) c.self.view_is in
    (written blocks items c.index_mut-block.result.now c.put.new.self c.args.page c.self.inside.count (λ r. insert r c.args.at c.args.entry) c.self.invariant same c.requires.page c.index_mut-block.ensures.value c.put.ensures).tiered

pub returns-clause-items : goal.returns-clause-items
returns-clause-items c =
    let blocks = c.self.inside.blocks.items in
    let items = c.args.self.now.items in
    let same : flat blocks ≡ items = ap (λ s. s.items) c.self.view_is in
    (written blocks items c.index_mut-block.result.now c.put.new.self c.args.page c.self.inside.count (λ r. insert r c.args.at c.args.entry) c.self.invariant same c.requires.page c.index_mut-block.ensures.value c.put.ensures).is

use Rattle.std.proofs.Common.{◌≡◌, length, take, drop, ap, sym, ◌∙◌, subst}
use Rattle.qs_index.specs.inner.PageBlocks.{flat}
use Rattle.qs_index.proofs.Blocks.{held_page, written}
use Rattle.qs_index.proofs.page_blocks.PageBlocks.split_into.Goals as goal

pub split_into-requires-clause-full : goal.split_into-requires-clause-full
split_into-requires-clause-full c =
    let blocks = c.self.inside.blocks.items in
    let items = c.args.self.now.items in
    let same : flat blocks ≡ items = ap (λ s. s.items) c.self.view_is in
    let held = held_page blocks items c.index_mut-block.result.now c.args.page c.self.inside.count c.self.invariant same c.requires.page c.index_mut-block.ensures.value in
    subst (λ r. length r ≡ 256) (sym held) c.requires.full

pub invariant_of-self : goal.invariant_of-self
invariant_of-self c =
    let blocks = c.self.inside.blocks.items in
    let items = c.args.self.now.items in
    let same : flat blocks ≡ items = ap (λ s. s.items) c.self.view_is in
    (written blocks items c.index_mut-block.result.now c.split_into.new.self c.args.page c.self.inside.count (take 128) c.self.invariant same c.requires.page c.index_mut-block.ensures.value c.split_into.ensures.lower).tiered

pub returns-clause-lower : goal.returns-clause-lower
returns-clause-lower c =
    let blocks = c.self.inside.blocks.items in
    let items = c.args.self.now.items in
    let same : flat blocks ≡ items = ap (λ s. s.items) c.self.view_is in
    (written blocks items c.index_mut-block.result.now c.split_into.new.self c.args.page c.self.inside.count (take 128) c.self.invariant same c.requires.page c.index_mut-block.ensures.value c.split_into.ensures.lower).is

pub returns-clause-upper : goal.returns-clause-upper
returns-clause-upper c =
    let blocks = c.self.inside.blocks.items in
    let items = c.args.self.now.items in
    let same : flat blocks ≡ items = ap (λ s. s.items) c.self.view_is in
    let held = held_page blocks items c.index_mut-block.result.now c.args.page c.self.inside.count c.self.invariant same c.requires.page c.index_mut-block.ensures.value in
    c.split_into.ensures.upper ∙ ap (drop 128) held

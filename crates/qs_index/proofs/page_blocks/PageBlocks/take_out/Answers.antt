use Rattle.std.proofs.Common.{◌≡◌, ◌<◌, length, ap, sym, subst}
use Rattle.std.specs.List.{remove}
use Rattle.qs_index.specs.inner.PageBlocks.{flat}
use Rattle.qs_index.proofs.Blocks.{held_page, written}
use Rattle.qs_index.proofs.page_blocks.PageBlocks.take_out.Goals as goal

pub take_out-requires-clause-at : goal.take_out-requires-clause-at
take_out-requires-clause-at c =
    let blocks = c.self.inside.blocks.items in
    let items = c.args.self.now.items in
    let same : flat blocks ≡ items = ap (λ s. s.items) c.self.view_is in
    let held = held_page blocks items c.index_mut-block.result.now c.args.page c.self.inside.count c.self.invariant same c.requires.page c.index_mut-block.ensures.value in
    subst (λ r. c.args.at < length r) (sym held) c.requires.at

pub invariant_of-self : goal.invariant_of-self
invariant_of-self c =
    let blocks = c.self.inside.blocks.items in
    let items = c.args.self.now.items in
    let same : flat blocks ≡ items = ap (λ s. s.items) c.self.view_is in
    (written blocks items c.index_mut-block.result.now c.take_out.new.self c.args.page c.self.inside.count (λ r. remove r c.args.at) c.self.invariant same c.requires.page c.index_mut-block.ensures.value c.take_out.ensures).tiered

pub returns-clause-items : goal.returns-clause-items
returns-clause-items c =
    let blocks = c.self.inside.blocks.items in
    let items = c.args.self.now.items in
    let same : flat blocks ≡ items = ap (λ s. s.items) c.self.view_is in
    (written blocks items c.index_mut-block.result.now c.take_out.new.self c.args.page c.self.inside.count (λ r. remove r c.args.at) c.self.invariant same c.requires.page c.index_mut-block.ensures.value c.take_out.ensures).is

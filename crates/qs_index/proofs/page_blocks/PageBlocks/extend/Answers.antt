use Rattle.std.proofs.Common.{◌≡◌, ap, ◌∙◌}
use Rattle.qs_index.specs.inner.Extending.{extended, taken_in}
use Rattle.qs_index.specs.inner.PageBlocks.{flat}
use Rattle.qs_index.proofs.Blocks.{held_page, written}
use Rattle.qs_index.proofs.page_blocks.PageBlocks.extend.Goals as goal

pub invariant_of-self : goal.invariant_of-self
invariant_of-self c =
    let blocks = c.self.inside.blocks.items in
    let items = c.args.self.now.items in
    let same : flat blocks ≡ items = ap (λ s. s.items) c.self.view_is in
    (written blocks items c.index_mut-block.result.now c.extend.new.self c.args.page c.self.inside.count (λ r. extended c.args.last.now r c.args.entries.now) c.self.invariant same c.requires c.index_mut-block.ensures.value c.extend.ensures.items).tiered

pub returns-clause-taken : goal.returns-clause-taken
returns-clause-taken c =
    let blocks = c.self.inside.blocks.items in
    let items = c.args.self.now.items in
    let same : flat blocks ≡ items = ap (λ s. s.items) c.self.view_is in
    let held = held_page blocks items c.index_mut-block.result.now c.args.page c.self.inside.count c.self.invariant same c.requires c.index_mut-block.ensures.value in
    c.extend.ensures.taken ∙ ap (λ r. taken_in c.args.last.now r c.args.entries.now) held

pub returns-clause-items : goal.returns-clause-items
returns-clause-items c =
    let blocks = c.self.inside.blocks.items in
    let items = c.args.self.now.items in
    let same : flat blocks ≡ items = ap (λ s. s.items) c.self.view_is in
    (written blocks items c.index_mut-block.result.now c.extend.new.self c.args.page c.self.inside.count (λ r. extended c.args.last.now r c.args.entries.now) c.self.invariant same c.requires c.index_mut-block.ensures.value c.extend.ensures.items).is

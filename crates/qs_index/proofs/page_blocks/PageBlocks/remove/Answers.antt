use Rattle.std.proofs.Common.{◌≡◌, ◌*◌, ◌/◌, ◌≤◌, length, set, arith, ap, ◌∙◌}
use Rattle.std.proofs.lemmas.List.{length-set}
use Rattle.qs_index.specs.inner.PageBlocks.{flat}
use Rattle.qs_index.proofs.Blocks.{held_page, taken, closed}
use Rattle.qs_index.proofs.page_blocks.PageBlocks.remove.Goals as goal

pub close_gap-requires-clause-gap : goal.close_gap-requires-clause-gap
close_gap-requires-clause-gap c =
    let blocks = c.self.inside.blocks.items in
    let items = c.args.self.now.items in
    let same : flat blocks ≡ items = ap (λ s. s.items) c.self.view_is in
    let t = taken blocks items c.index_mut-block.result.now c.remove-page.new.self c.args.at c.self.inside.count c.self.invariant same c.requires c.index_mut-block.ensures.value c.remove-page.ensures.rest in
    t.gap

pub invariant_of-self : goal.invariant_of-self
invariant_of-self c =
    let blocks = c.self.inside.blocks.items in
    let items = c.args.self.now.items in
    let same : flat blocks ≡ items = ap (λ s. s.items) c.self.view_is in
    let t = taken blocks items c.index_mut-block.result.now c.remove-page.new.self c.args.at c.self.inside.count c.self.invariant same c.requires c.index_mut-block.ensures.value c.remove-page.ensures.rest in
    let before = set blocks (c.args.at / 256) c.remove-page.new.self in
    let counted : c.self.inside.count ≡ length items = c.self.invariant.counted ∙ ap length same in
    let size = length-set blocks (c.args.at / 256) c.remove-page.new.self in
    let fits : c.self.inside.count ≤ 256 * length before = omega (arith, c.self.invariant.fits) in
    (closed c.close_gap.new.blocks.items before items c.args.at c.self.inside.count c.close_gap.ensures.filled c.close_gap.ensures.same t.is counted c.requires c.close_gap.ensures.count fits).tiered

pub returns-clause-items : goal.returns-clause-items
returns-clause-items c =
    let blocks = c.self.inside.blocks.items in
    let items = c.args.self.now.items in
    let same : flat blocks ≡ items = ap (λ s. s.items) c.self.view_is in
    let t = taken blocks items c.index_mut-block.result.now c.remove-page.new.self c.args.at c.self.inside.count c.self.invariant same c.requires c.index_mut-block.ensures.value c.remove-page.ensures.rest in
    let before = set blocks (c.args.at / 256) c.remove-page.new.self in
    let counted : c.self.inside.count ≡ length items = c.self.invariant.counted ∙ ap length same in
    let size = length-set blocks (c.args.at / 256) c.remove-page.new.self in
    let fits : c.self.inside.count ≤ 256 * length before = omega (arith, c.self.invariant.fits) in
    (closed c.close_gap.new.blocks.items before items c.args.at c.self.inside.count c.close_gap.ensures.filled c.close_gap.ensures.same t.is counted c.requires c.close_gap.ensures.count fits).is

pub returns-clause-taken : goal.returns-clause-taken
returns-clause-taken c =
    let blocks = c.self.inside.blocks.items in
    let items = c.args.self.now.items in
    let same : flat blocks ≡ items = ap (λ s. s.items) c.self.view_is in
    rw (held_page blocks items c.index_mut-block.result.now c.args.at c.self.inside.count c.self.invariant same c.requires c.index_mut-block.ensures.value) at c.remove-page.ensures.taken

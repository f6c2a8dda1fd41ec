use Rattle.std.proofs.Common.{◌≡◌, ap, ◌∙◌}
use Rattle.qs_index.specs.inner.PageBlocks.{flat}
use Rattle.qs_index.proofs.Blocks.{located, held_page}
use Rattle.qs_index.proofs.page_blocks.PageBlocks.page.Goals as goal

pub returns : goal.returns
returns c =
    let blocks = c.self.inside.blocks.items in
    let same : flat blocks ≡ c.args.self.now.items = ap (λ s. s.items) c.self.view_is in
    let l = located blocks c.args.self.now.items c.args.page c.self.inside.count c.self.invariant same c.requires in
    c.page.ensures ∙ held_page blocks c.args.self.now.items c.index-block.result.now c.args.page c.self.inside.count c.self.invariant same c.requires c.index-block.ensures

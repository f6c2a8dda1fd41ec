use Rattle.std.proofs.Common.{◌≡◌, ◌*◌, ◌<◌, ◌≤◌, length, arith, ap, ◌∙◌}
use Rattle.qs_index.specs.inner.PageBlocks.{flat}
use Rattle.qs_index.proofs.Blocks.{gap_room, inserted}
use Rattle.qs_index.proofs.page_blocks.PageBlocks.insert.Goals as goal

pub insert-requires-clause-room : goal.insert-requires-clause-room
insert-requires-clause-room c =
    let blocks = c.open_gap.new.blocks.items in
    let items = c.args.self.now.items in
    let before : flat c.self.inside.blocks.items ≡ items = ap (λ s. s.items) c.self.view_is in
    let has : 256 * length c.self.inside.blocks.items ≡ c.args.self.now.room = ap (λ s. s.room) c.self.view_is in
    let same : flat blocks ≡ items = c.open_gap.ensures.same ∙ before in
    let counted : c.self.inside.count ≡ length items = c.self.invariant.counted ∙ ap length before in
    let within : c.args.at ≤ c.self.inside.count = omega (arith, counted, c.requires.within) in
    let room : c.self.inside.count < 256 * length blocks = omega (arith, counted, has, c.requires.room, c.open_gap.ensures.count) in
    (gap_room blocks c.index_mut-block.result.now c.args.at c.self.inside.count c.open_gap.ensures.gap within room c.index_mut-block.ensures.value).0

pub insert-requires-clause-within : goal.insert-requires-clause-within
insert-requires-clause-within c =
    let blocks = c.open_gap.new.blocks.items in
    let items = c.args.self.now.items in
    let before : flat c.self.inside.blocks.items ≡ items = ap (λ s. s.items) c.self.view_is in
    let has : 256 * length c.self.inside.blocks.items ≡ c.args.self.now.room = ap (λ s. s.room) c.self.view_is in
    let same : flat blocks ≡ items = c.open_gap.ensures.same ∙ before in
    let counted : c.self.inside.count ≡ length items = c.self.invariant.counted ∙ ap length before in
    let within : c.args.at ≤ c.self.inside.count = omega (arith, counted, c.requires.within) in
    let room : c.self.inside.count < 256 * length blocks = omega (arith, counted, has, c.requires.room, c.open_gap.ensures.count) in
    (gap_room blocks c.index_mut-block.result.now c.args.at c.self.inside.count c.open_gap.ensures.gap within room c.index_mut-block.ensures.value).1

pub invariant_of-self : goal.invariant_of-self
invariant_of-self c =
    let blocks = c.open_gap.new.blocks.items in
    let items = c.args.self.now.items in
    let before : flat c.self.inside.blocks.items ≡ items = ap (λ s. s.items) c.self.view_is in
    let has : 256 * length c.self.inside.blocks.items ≡ c.args.self.now.room = ap (λ s. s.room) c.self.view_is in
    let same : flat blocks ≡ items = c.open_gap.ensures.same ∙ before in
    let counted : c.self.inside.count ≡ length items = c.self.invariant.counted ∙ ap length before in
    let within : c.args.at ≤ c.self.inside.count = omega (arith, counted, c.requires.within) in
    let room : c.self.inside.count < 256 * length blocks = omega (arith, counted, has, c.requires.room, c.open_gap.ensures.count) in
    (inserted blocks items c.index_mut-block.result.now c.insert.new.self c.args.at c.self.inside.count c.args.page c.open_gap.ensures.gap same counted within room c.index_mut-block.ensures.value c.insert.ensures).tiered

pub returns-clause-items : goal.returns-clause-items
returns-clause-items c =
    let blocks = c.open_gap.new.blocks.items in
    let items = c.args.self.now.items in
    let before : flat c.self.inside.blocks.items ≡ items = ap (λ s. s.items) c.self.view_is in
    let has : 256 * length c.self.inside.blocks.items ≡ c.args.self.now.room = ap (λ s. s.room) c.self.view_is in
    let same : flat blocks ≡ items = c.open_gap.ensures.same ∙ before in
    let counted : c.self.inside.count ≡ length items = c.self.invariant.counted ∙ ap length before in
    let within : c.args.at ≤ c.self.inside.count = omega (arith, counted, c.requires.within) in
    let room : c.self.inside.count < 256 * length blocks = omega (arith, counted, has, c.requires.room, c.open_gap.ensures.count) in
    (inserted blocks items c.index_mut-block.result.now c.insert.new.self c.args.at c.self.inside.count c.args.page c.open_gap.ensures.gap same counted within room c.index_mut-block.ensures.value c.insert.ensures).is

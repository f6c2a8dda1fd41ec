use Rattle.std.proofs.Common.{◌≡◌, ◌≤◌, length, drop, ap, sym, ◌∙◌, subst}
use Rattle.qs_index.specs.inner.Leaving.{met, left_from}
use Rattle.qs_index.specs.inner.PageBlocks.{flat}
use Rattle.qs_index.proofs.Blocks.{held_page, written}
use Rattle.qs_index.proofs.page_blocks.PageBlocks.take_met.Goals as goal

pub take_met-requires-clause-from : goal.take_met-requires-clause-from
take_met-requires-clause-from c =
    let blocks = c.self.inside.blocks.items in
    let items = c.args.self.now.items in
    let same : flat blocks ≡ items = ap (λ s. s.items) c.self.view_is in
    let held = held_page blocks items c.index_mut-block.result.now c.args.page c.self.inside.count c.self.invariant same c.requires.page c.index_mut-block.ensures.value in
    subst (λ r. c.args.from ≤ length r) (sym held) c.requires.from

pub invariant_of-self : goal.invariant_of-self
invariant_of-self c =
    let blocks = c.self.inside.blocks.items in
    let items = c.args.self.now.items in
    let same : flat blocks ≡ items = ap (λ s. s.items) c.self.view_is in
    (written blocks items c.index_mut-block.result.now c.take_met.new.self c.args.page c.self.inside.count (λ r. left_from c.args.from r c.args.entries.now) c.self.invariant same c.requires.page c.index_mut-block.ensures.value c.take_met.ensures.left).tiered

pub returns-clause-met : goal.returns-clause-met
returns-clause-met c =
    let blocks = c.self.inside.blocks.items in
    let items = c.args.self.now.items in
    let same : flat blocks ≡ items = ap (λ s. s.items) c.self.view_is in
    let held = held_page blocks items c.index_mut-block.result.now c.args.page c.self.inside.count c.self.invariant same c.requires.page c.index_mut-block.ensures.value in
    c.take_met.ensures.met ∙ ap (λ r. met (drop c.args.from r) c.args.entries.now) held

pub returns-clause-items : goal.returns-clause-items
returns-clause-items c =
    let blocks = c.self.inside.blocks.items in
    let items = c.args.self.now.items in
    let same : flat blocks ≡ items = ap (λ s. s.items) c.self.view_is in
    (written blocks items c.index_mut-block.result.now c.take_met.new.self c.args.page c.self.inside.count (λ r. left_from c.args.from r c.args.entries.now) c.self.invariant same c.requires.page c.index_mut-block.ensures.value c.take_met.ensures.left).is

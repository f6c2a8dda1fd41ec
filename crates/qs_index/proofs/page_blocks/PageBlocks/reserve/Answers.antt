use Rattle.std.proofs.Common.{◌≡◌, ◌++◌, ◌∷◌, [], length, arith, ap, sym, ◌∙◌, subst, length-append}
use Rattle.qs_index.specs.inner.PageBlocks.{flat, IsTiered}
use Rattle.qs_index.proofs.Blocks.{IsTiered-push, flat_push, pushed_of_ok}
use Rattle.qs_index.proofs.page_blocks.PageBlocks.reserve.Goals as goal

pub loop-self-preserved : goal.loop-self-preserved
loop-self-preserved c =
    let i = c.loop-self.invariant in
    let blocks = c.loop-self.self-inside.blocks.items in
    let ok = c.push.ensures.succeeds (omega (arith, i.room, c.loop-self-test.true, c.len-in-loop-self.ensures)) in
    let made : c.push.new.self.items ≡ blocks ++ [] ∷ [] = pushed_of_ok c.push.result _ _ _ ok c.push.ensures.items ∙ ap (λ b. blocks ++ b ∷ []) c.in_ok-block.ensures in
    let n = ap length made ∙ length-append blocks ([] ∷ []) in
    record {
      tiered = subst (λ r. IsTiered r c.loop-self.self-inside.count) (sym made) (IsTiered-push blocks c.loop-self.self-inside.count i.tiered);
      same = ap flat made ∙ flat_push blocks ∙ i.same;
      more = omega (arith, i.more);
      room = omega (arith, i.room, c.push.ensures.capacity);
      total = i.total;
    }

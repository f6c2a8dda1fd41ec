use Rattle.std.proofs.Common.{◌<◌, length, arith, [], sym, ap, ◌∙◌, subst}
use Rattle.std.proofs.lemmas.List.{length-set, get_or-set_same}
use Rattle.std.proofs.lemmas.List.Elements.{All-set}
use Rattle.qs_index.specs.inner.Layout.{HasPageSizes, IsPageSize, page_at, over}
use Rattle.qs_index.specs.inner.Extending.{extended}
use Rattle.qs_index.proofs.Extending.{length-extended}
use Rattle.qs_index.proofs.Spares.{over_few, over-set}
use Rattle.qs_index.proofs.pages.Pages.extend.Goals as goal

pub overflow_add-self : goal.overflow_add-self
overflow_add-self c =
    let f = over_few c.self.inside.pages.items c.self.invariant.sizes in omega (arith, c.self.invariant.above, c.self.invariant.room_aside, c.self.inside.spares.small, c.above_half-after.ensures.small)

pub overflow_sub-self : goal.overflow_sub-self
overflow_sub-self c =
    let i = c.self.invariant in
    let pages = c.self.inside.pages.items in
    let m = c.args.page in
    let same = ap (λ s. s.pages) c.self.view_is in
    let within : m < length pages = subst (λ r. m < length r) (sym same) c.requires in
    let new = extended c.args.last.now (page_at pages m) c.args.entries.now in
    let made = c.extend-read.ensures.items in
    let before = ap length c.page-held.ensures in
    let after = ap length (c.page-held-2.ensures ∙ ap (λ r. page_at r m) made ∙ get_or-set_same pages m new [] within) in
    let o = over-set pages m new within in
    omega (arith, i.above, c.above_half-before.ensures.above, c.above_half-after.ensures.above)

pub invariant_of-self : goal.invariant_of-self
invariant_of-self c =
    let i = c.self.invariant in
    let pages = c.self.inside.pages.items in
    let m = c.args.page in
    let same = ap (λ s. s.pages) c.self.view_is in
    let within : m < length pages = subst (λ r. m < length r) (sym same) c.requires in
    let new = extended c.args.last.now (page_at pages m) c.args.entries.now in
    let made = c.extend-read.ensures.items in
    let before = ap length c.page-held.ensures in
    let after = ap length (c.page-held-2.ensures ∙ ap (λ r. page_at r m) made ∙ get_or-set_same pages m new [] within) in
    let size : IsPageSize (page_at pages m) = i.sizes m [] within in
    let longer = length-extended c.args.last.now (page_at pages m) c.args.entries.now size.1 in
    let n = ap length made ∙ length-set pages m new in
    let o = over-set pages m new within in
    let p = ap over made in
    record {
      sizes = subst HasPageSizes (sym made) (All-set IsPageSize pages m new (omega (arith, size.0, longer.0), longer.1) i.sizes);
      empty = i.empty;
      room_in_use = omega (arith, i.room_in_use, c.extend-read.ensures.room);
      room_aside = omega (arith, i.room_aside);
      above = omega (arith, i.above, c.above_half-before.ensures.above, c.above_half-after.ensures.above);
    }

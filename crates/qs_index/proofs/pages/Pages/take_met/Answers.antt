use Rattle.std.proofs.Common.{◌≡◌, ◌<◌, ◌≤◌, length, arith, [], sym, ap, ◌∙◌, subst}
use Rattle.std.specs.List.{All, remove}
use Rattle.std.proofs.lemmas.List.{length-set, get_or-set_same, nil_from_length}
use Rattle.std.proofs.lemmas.List.Edits.{length-remove}
use Rattle.std.proofs.lemmas.List.Elements.{All-set}
use Rattle.qs_index.specs.inner.Layout.{HasPageSizes, IsPageSize, page_at, over}
use Rattle.qs_index.specs.inner.Leaving.{left_from, with_page}
use Rattle.qs_index.proofs.Leaving.{length-left, over_without, with_none}
use Rattle.qs_index.proofs.Spares.{over_few, over-set}
use Rattle.qs_index.proofs.PageEdits.{HasPageSizes-remove, remove-set, insert_empty}
use Rattle.qs_index.proofs.pages.Pages.take_met.Goals as goal

pub invariant_of-self : goal.invariant_of-self
invariant_of-self c =
    let i = c.self.invariant in
    let pages = c.self.inside.pages.items in
    let m = c.args.from.page in
    let k = c.args.from.at in
    let es = c.args.entries.now in
    let same = ap (λ s. s.pages) c.self.view_is in
    let within : m < length pages = subst (λ r. m < length r) (sym same) c.requires.page in
    let new = left_from k (page_at pages m) es in
    let made = c.take_met-met.ensures.items in
    let before = ap length c.page-held.ensures in
    let after = ap length (c.page-held-2.ensures ∙ ap (λ r. page_at r m) made ∙ get_or-set_same pages m new [] within) in
    let fewer = length-left k (page_at pages m) es in
    let o = over-set pages m new within in
    let none : new ≡ [] = nil_from_length new (sym after ∙ sym c.len-none.ensures.len ∙ c.if-none.true) in
    let out : c.remove.new.self.items ≡ remove pages m = c.remove.ensures.items ∙ ap (λ r. remove r m) made ∙ remove-set pages m new in
    let page : c.in-Some.page ≡ [] = c.in-Some.ensures.taken ∙ ap (λ r. page_at r m) made ∙ get_or-set_same pages m new [] within ∙ none in
    let less = ap length out in
    let n = length-remove pages m within in
    record {
      sizes = subst HasPageSizes (sym out) (HasPageSizes-remove pages m i.sizes);
      empty = subst (All (λ page. page ≡ [])) (sym c.add_page.ensures.items) (insert_empty c.self.inside.spares.items c.len-aside.result _ page i.empty);
      room_in_use = omega (arith, i.room_in_use, c.add_page.ensures.longer, c.remove.ensures.room, c.take_met-met.ensures.room);
      room_aside = omega (arith, i.room_aside, c.add_page.ensures.longer, c.add_page.ensures.capacity);
      above = let q = ap over out in let z = ap length none in let k = over_without pages m within in omega (arith, i.above, c.above_half-before.ensures.above, c.above_half-after.ensures.above);
    }

pub invariant_of-self-else-none : goal.invariant_of-self-else-none
invariant_of-self-else-none c =
    let i = c.self.invariant in
    let pages = c.self.inside.pages.items in
    let m = c.args.from.page in
    let k = c.args.from.at in
    let es = c.args.entries.now in
    let same = ap (λ s. s.pages) c.self.view_is in
    let within : m < length pages = subst (λ r. m < length r) (sym same) c.requires.page in
    let new = left_from k (page_at pages m) es in
    let made = c.take_met-met.ensures.items in
    let before = ap length c.page-held.ensures in
    let after = ap length (c.page-held-2.ensures ∙ ap (λ r. page_at r m) made ∙ get_or-set_same pages m new [] within) in
    let fewer = length-left k (page_at pages m) es in
    let o = over-set pages m new within in
    let whole : length (page_at pages m) ≤ 256 = (i.sizes m [] within).1 in
    let n = ap length made ∙ length-set pages m new in
    let p = ap over made in
    record {
      sizes = subst HasPageSizes (sym made) (All-set IsPageSize pages m new (omega (arith, c.if-none.false, c.len-none.ensures.len), omega arith) i.sizes);
      empty = i.empty;
      room_in_use = omega (arith, i.room_in_use, c.take_met-met.ensures.room);
      room_aside = omega (arith, i.room_aside);
      above = omega (arith, i.above, c.above_half-before.ensures.above, c.above_half-after.ensures.above);
    }

pub overflow_add-self : goal.overflow_add-self
overflow_add-self c =
    let f = over_few c.self.inside.pages.items c.self.invariant.sizes in omega (arith, c.self.invariant.above, c.self.invariant.room_aside, c.self.inside.spares.small, c.above_half-after.ensures.small)

pub overflow_sub-self : goal.overflow_sub-self
overflow_sub-self c =
    let i = c.self.invariant in
    let pages = c.self.inside.pages.items in
    let m = c.args.from.page in
    let k = c.args.from.at in
    let es = c.args.entries.now in
    let same = ap (λ s. s.pages) c.self.view_is in
    let within : m < length pages = subst (λ r. m < length r) (sym same) c.requires.page in
    let new = left_from k (page_at pages m) es in
    let made = c.take_met-met.ensures.items in
    let before = ap length c.page-held.ensures in
    let after = ap length (c.page-held-2.ensures ∙ ap (λ r. page_at r m) made ∙ get_or-set_same pages m new [] within) in
    let fewer = length-left k (page_at pages m) es in
    let o = over-set pages m new within in
    omega (arith, c.self.invariant.above, c.above_half-before.ensures.above, c.above_half-after.ensures.above)

pub returns-in-Some-clause-pages : goal.returns-in-Some-clause-pages
returns-in-Some-clause-pages c =
    let i = c.self.invariant in
    let pages = c.self.inside.pages.items in
    let m = c.args.from.page in
    let k = c.args.from.at in
    let es = c.args.entries.now in
    let same = ap (λ s. s.pages) c.self.view_is in
    let within : m < length pages = subst (λ r. m < length r) (sym same) c.requires.page in
    let new = left_from k (page_at pages m) es in
    let made = c.take_met-met.ensures.items in
    let before = ap length c.page-held.ensures in
    let after = ap length (c.page-held-2.ensures ∙ ap (λ r. page_at r m) made ∙ get_or-set_same pages m new [] within) in
    let fewer = length-left k (page_at pages m) es in
    let o = over-set pages m new within in
    let none : new ≡ [] = nil_from_length new (sym after ∙ sym c.len-none.ensures.len ∙ c.if-none.true) in
    let out : c.remove.new.self.items ≡ remove pages m = c.remove.ensures.items ∙ ap (λ r. remove r m) made ∙ remove-set pages m new in
    out ∙ sym (with_none pages m new none) ∙ ap (λ r. with_page r m (left_from k (page_at r m) es)) same

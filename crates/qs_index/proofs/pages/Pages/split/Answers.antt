use Rattle.std.proofs.Common.{◌≡◌, ◌+◌, ◌<◌, length, set, take, drop, arith, [], Some, sym, ap, ◌∙◌, subst}
use Rattle.std.specs.List.{insert}
use Rattle.std.proofs.lemmas.List.Elements.{All-pop}
use Rattle.qs_index.specs.inner.Layout.{page_at, over, split_at}
use Rattle.qs_index.proofs.Spares.{over-split, length-split}
use Rattle.qs_index.proofs.PageEdits.{insert-set, split_sizes, lengths_pop}
use Rattle.qs_index.proofs.pages.Pages.split.Goals as goal

pub invariant_of-self : goal.invariant_of-self
invariant_of-self c =
    let i = c.self.invariant in
    let pages = c.self.inside.pages.items in
    let m = c.args.page in
    let same = ap (λ s. s.pages) c.self.view_is in
    let within : m < length pages = subst (λ r. m < length r) (sym same) c.requires.page in
    let whole : length (page_at pages m) ≡ 256 = ap (λ r. length (page_at r m)) same ∙ c.requires.full in
    let made : c.insert.new.self.items ≡ split_at pages m = c.insert.ensures.items ∙ ap (λ r. insert r (m + 1) c.split_into.new.upper) c.split_into.ensures.lower ∙ ap (λ u. insert (set pages m (take 128 (page_at pages m))) (m + 1) u) c.split_into.ensures.upper ∙ insert-set pages m (take 128 (page_at pages m)) (drop 128 (page_at pages m)) within in
    let fewer = lengths_pop _ _ _ c.in-Some.ensures.items in
    let longer = ap length made ∙ length-split pages m within in
    record {
      sizes = split_sizes _ _ _ made i.sizes whole;
      empty = (All-pop (λ page. page ≡ []) _ _ (Some c.in-Some.upper) c.in-Some.ensures.items i.empty).0;
      room_in_use = omega (arith, i.room_in_use, c.insert.ensures.room, c.split_into.ensures.room);
      room_aside = omega (arith, i.room_aside, c.in-Some.ensures.capacity);
      above = let o = ap over made in let f = over-split pages m within whole in omega (arith, i.above);
    }

pub overflow_sub-self : goal.overflow_sub-self
overflow_sub-self c =
    let i = c.self.invariant in
    let pages = c.self.inside.pages.items in
    let m = c.args.page in
    let same = ap (λ s. s.pages) c.self.view_is in
    let within : m < length pages = subst (λ r. m < length r) (sym same) c.requires.page in
    let whole : length (page_at pages m) ≡ 256 = ap (λ r. length (page_at r m)) same ∙ c.requires.full in
    let f = over-split pages m within whole in omega (arith, c.self.invariant.above)

pub returns-clause-pages : goal.returns-clause-pages
returns-clause-pages c =
    let i = c.self.invariant in
    let pages = c.self.inside.pages.items in
    let m = c.args.page in
    let same = ap (λ s. s.pages) c.self.view_is in
    let within : m < length pages = subst (λ r. m < length r) (sym same) c.requires.page in
    let whole : length (page_at pages m) ≡ 256 = ap (λ r. length (page_at r m)) same ∙ c.requires.full in
    let made : c.insert.new.self.items ≡ split_at pages m = c.insert.ensures.items ∙ ap (λ r. insert r (m + 1) c.split_into.new.upper) c.split_into.ensures.lower ∙ ap (λ u. insert (set pages m (take 128 (page_at pages m))) (m + 1) u) c.split_into.ensures.upper ∙ insert-set pages m (take 128 (page_at pages m)) (drop 128 (page_at pages m)) within in
    made ∙ ap (λ r. split_at r m) same

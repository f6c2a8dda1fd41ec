use Rattle.std.proofs.Common.{◌≡◌, ◌++◌, [], ◌∷◌, length, Some, arith, sym, ap, ◌∙◌, subst}
use Rattle.std.proofs.lemmas.List.{length_push}
use Rattle.std.proofs.lemmas.List.Elements.{All-append, All-cons, All-nil, All-pop}
use Rattle.qs_index.specs.inner.Layout.{IsPageSize, HasPageSizes, over}
use Rattle.qs_index.proofs.Filled.{insert_last}
use Rattle.qs_index.proofs.PageEdits.{lengths_pop}
use Rattle.qs_index.proofs.Spares.{over-append}
use Rattle.qs_index.proofs.pages.Pages.put_last.Goals as goal

pub invariant_of-self : goal.invariant_of-self
invariant_of-self c =
    let i = c.self.invariant in
    let pages = c.self.inside.pages.items in
    let x = c.args.entry in
    let fewer = lengths_pop _ _ _ c.in-Some.ensures.items in
    let none : c.in-Some.page ≡ [] = (All-pop (λ page. page ≡ []) _ _ (Some c.in-Some.page) c.in-Some.ensures.items i.empty).1 in
    let one : c.insert.new.self ≡ x ∷ [] = c.insert.ensures ∙ ap (λ r. x ∷ r) none in
    let made : c.insert-2.new.self.items ≡ pages ++ (x ∷ []) ∷ [] = c.insert-2.ensures.items ∙ insert_last pages c.len-end.result c.insert.new.self c.len-end.ensures ∙ ap (λ r. pages ++ r ∷ []) one in
    let longer = ap length made ∙ length_push pages (x ∷ []) in
    let o = ap over made ∙ over-append pages ((x ∷ []) ∷ []) in
    record {
      sizes = subst HasPageSizes (sym made) (All-append IsPageSize pages ((x ∷ []) ∷ []) i.sizes (All-cons IsPageSize (x ∷ []) [] (omega arith, omega arith) (All-nil IsPageSize)));
      empty = (All-pop (λ page. page ≡ []) _ _ (Some c.in-Some.page) c.in-Some.ensures.items i.empty).0;
      room_in_use = omega (arith, i.room_in_use, c.insert-2.ensures.room);
      room_aside = omega (arith, i.room_aside, c.in-Some.ensures.capacity);
      above = omega (arith, i.above);
    }

pub returns-clause-pages : goal.returns-clause-pages
returns-clause-pages c =
    let i = c.self.invariant in
    let pages = c.self.inside.pages.items in
    let x = c.args.entry in
    let none : c.in-Some.page ≡ [] = (All-pop (λ page. page ≡ []) _ _ (Some c.in-Some.page) c.in-Some.ensures.items i.empty).1 in
    let one : c.insert.new.self ≡ x ∷ [] = c.insert.ensures ∙ ap (λ r. x ∷ r) none in
    let made : c.insert-2.new.self.items ≡ pages ++ (x ∷ []) ∷ [] = c.insert-2.ensures.items ∙ insert_last pages c.len-end.result c.insert.new.self c.len-end.ensures ∙ ap (λ r. pages ++ r ∷ []) one in
    subst (λ s. c.insert-2.new.self.items ≡ s.pages ++ (x ∷ []) ∷ []) c.self.view_is made

use Rattle.std.proofs.Common.{◌≡◌, ◌+◌, [], ◌∷◌, ◌++◌, length, arith, rules, sym, ap, ◌∙◌, subst}
use Rattle.std.proofs.lemmas.List.{nil_from_length}
use Rattle.qs_index.specs.inner.Layout.{joined}
use Rattle.qs_index.specs.inner.Entries.{IsOrdered}
use Rattle.qs_index.specs.inner.Entry.{IsAscending, with_entry}
use Rattle.qs_index.proofs.EntryEdits.{IsAscending-with}
use Rattle.qs_index.proofs.Members.{not_first_if_missing, length-with}
use Rattle.qs_index.proofs.Places.{joined_le}
use Rattle.qs_index.proofs.Turned.{four_with, only_entry}
use Rattle.qs_index.proofs.order.Order.insert_from.Goals as goal

pub invariant_of-self : goal.invariant_of-self
invariant_of-self c =
    let four : length c.args.entry ≡ 4 = search rules in
    let none = nil_from_length c.self.inside.pages.pages (sym c.len-count.ensures.len ∙ c.if-count-eq0.true) in
    subst (λ r. IsOrdered (joined r) 1) (sym (c.put_last.ensures.pages ∙ ap (λ r. r ++ (c.args.entry ∷ []) ∷ []) none)) (only_entry c.args.entry four)

pub overflow_add-self : goal.overflow_add-self
overflow_add-self c =
    let b = joined_le c.self.inside.pages.pages c.len-count.ensures.sizes in omega (arith, c.self.invariant.counted, c.len-count.ensures.len, c.len-count.type_inv)

pub invariant_of-self-2 : goal.invariant_of-self-2
invariant_of-self-2 c =
    let made = c.put_before.ensures.entries ∙ ap (with_entry c.args.entry) c.make_room-free.ensures.entries in
    let old = joined c.self.inside.pages.pages in
    let four : length c.args.entry ≡ 4 = search rules in
    let n = length-with c.args.entry old in
    subst (λ r. IsOrdered r (c.self.inside.count + 1)) (sym made) record {
      ascending = IsAscending-with c.args.entry old c.self.invariant.ascending (not_first_if_missing c.args.entry old c.in-Err.ensures.missing.missing);
      four = four_with c.args.entry old four c.self.invariant.four;
      counted = omega (arith, c.self.invariant.counted);
    }

pub returns-clause-ascending : goal.returns-clause-ascending
returns-clause-ascending c =
    let made = c.put_before.ensures.entries ∙ ap (with_entry c.args.entry) c.make_room-free.ensures.entries in
    subst IsAscending (sym made) (IsAscending-with c.args.entry (joined c.self.inside.pages.pages) c.self.invariant.ascending (not_first_if_missing c.args.entry (joined c.self.inside.pages.pages) c.in-Err.ensures.missing.missing))

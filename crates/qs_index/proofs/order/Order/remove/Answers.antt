use Rattle.std.proofs.Common.{◌-◌, ◌≤◌, arith, sym, ap, ◌∙◌, subst}
use Rattle.qs_index.specs.inner.Layout.{joined, room_of}
use Rattle.qs_index.specs.inner.Entries.{IsOrdered}
use Rattle.qs_index.specs.inner.Entry.{IsAscending, without_entry}
use Rattle.qs_index.proofs.EntryEdits.{IsAscending-without}
use Rattle.qs_index.proofs.Members.{member_of_without, length-without}
use Rattle.qs_index.proofs.Removals.{taken_entries, taken_room}
use Rattle.qs_index.proofs.order.Order.remove.Goals as goal

pub overflow_sub-self : goal.overflow_sub-self
overflow_sub-self c =
    let old = joined c.self.inside.pages.pages in
    let n = length-without c.args.entry old c.self.invariant.ascending c.in-Ok.ensures.found.stands in omega (arith, c.self.invariant.counted)

pub invariant_of-self : goal.invariant_of-self
invariant_of-self c =
    let p = c.in-Ok.ensures.found in
    let old = joined c.self.inside.pages.pages in
    let made = taken_entries c.args.entry c.self.inside.pages.pages _ _ _ p.page_in p.at_in p.before c.take_out.ensures.pages in
    let n = length-without c.args.entry old c.self.invariant.ascending p.stands in
    subst (λ r. IsOrdered r (c.self.inside.count - 1)) (sym made) record {
      ascending = IsAscending-without c.args.entry old c.self.invariant.ascending;
      four = λ x m. c.self.invariant.four x (member_of_without c.args.entry x old m);
      counted = omega (arith, c.self.invariant.counted);
    }

pub returns-clause-taken : goal.returns-clause-taken
returns-clause-taken c =
    let p = c.in-Ok.ensures.found in
    taken_entries c.args.entry c.self.inside.pages.pages _ _ _ p.page_in p.at_in p.before c.take_out.ensures.pages ∙ ap (λ s. without_entry c.args.entry s.entries) c.self.view_is

pub returns-clause-spare : goal.returns-clause-spare
returns-clause-spare c =
    let p = c.in-Ok.ensures.found in
    subst (λ s. s.spare ≤ room_of c.take_out.new.self.pages c.take_out.new.self.spare) c.self.view_is (taken_room c.self.inside.pages.pages _ _ _ _ _ p.page_in p.at_in c.take_out.ensures.pages c.take_out.ensures.spare)

pub returns-clause-ascending : goal.returns-clause-ascending
returns-clause-ascending c =
    let p = c.in-Ok.ensures.found in
    let made = taken_entries c.args.entry c.self.inside.pages.pages _ _ _ p.page_in p.at_in p.before c.take_out.ensures.pages in
    subst IsAscending (sym made) (IsAscending-without c.args.entry (joined c.self.inside.pages.pages) c.self.invariant.ascending)

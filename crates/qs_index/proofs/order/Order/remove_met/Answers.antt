use Rattle.std.proofs.Common.{◌≤◌, [], length, take, drop, get_or, arith, refl, sym, subst}
use Rattle.qs_index.specs.inner.Layout.{joined, page_at, room_of}
use Rattle.qs_index.specs.inner.Entries.{IsDifference}
use Rattle.qs_index.specs.inner.Leaving.{left_from, with_page}
use Rattle.qs_index.proofs.Leaving.{left_count, left_difference, left_room, length-left, met_at_place, met_few}
use Rattle.qs_index.proofs.order.Order.remove_met.Goals as goal

pub overflow_sub-self : goal.overflow_sub-self
overflow_sub-self c =
    let p = c.in-Ok.ensures.found in
    let n = left_count c.self.inside.pages.pages _ _ _ c.args.entries.now p.page_in (omega (arith, p.at_in)) c.take_met-met.ensures.pages in
    omega (arith, c.self.invariant.counted, c.take_met-met.ensures.met)

pub invariant_of-self : goal.invariant_of-self
invariant_of-self c =
    let p = c.in-Ok.ensures.found in
    let at : c.in-Ok.place.at ≤ length (page_at c.self.inside.pages.pages c.in-Ok.place.page) = omega (arith, p.at_in) in
    let u = left_difference c.self.inside.pages.pages _ _ _ c.args.entries.now p.page_in at c.self.invariant.ascending c.take_met-met.ensures.pages in
    let n = left_count c.self.inside.pages.pages _ _ _ c.args.entries.now p.page_in at c.take_met-met.ensures.pages in
    record {
      ascending = u.ascending;
      four = λ x m. c.self.invariant.four x (u.only x m);
      counted = omega (arith, c.self.invariant.counted, c.take_met-met.ensures.met);
    }

pub returns-clause-some : goal.returns-clause-some
returns-clause-some c =
    let p = c.in-Ok.ensures.found in
    let s = met_at_place c.self.inside.pages.pages _ _ (get_or c.args.entries.now 0 []) c.args.entries.now c.self.invariant.ascending p refl c.requires in
    omega (arith, c.take_met-met.ensures.met)

pub returns-clause-within : goal.returns-clause-within
returns-clause-within c =
    let f = met_few (drop c.in-Ok.place.at (page_at c.self.inside.pages.pages c.in-Ok.place.page)) c.args.entries.now in
    omega (arith, c.take_met-met.ensures.met)

pub returns-clause-difference : goal.returns-clause-difference
returns-clause-difference c =
    let p = c.in-Ok.ensures.found in
    let u = left_difference c.self.inside.pages.pages _ _ _ c.args.entries.now p.page_in (omega (arith, p.at_in)) c.self.invariant.ascending c.take_met-met.ensures.pages in
    subst (λ s. IsDifference s.entries (take c.take_met-met.result c.args.entries.now) (joined c.take_met-met.new.self.pages)) c.self.view_is
    (subst (λ n. IsDifference (joined c.self.inside.pages.pages) (take n c.args.entries.now) (joined c.take_met-met.new.self.pages)) (sym c.take_met-met.ensures.met) u)

pub returns-clause-spare : goal.returns-clause-spare
returns-clause-spare c =
    let p = c.in-Ok.ensures.found in
    let pages = c.self.inside.pages.pages in
    let page = left_from c.in-Ok.place.at (page_at pages c.in-Ok.place.page) c.args.entries.now in
    let n = length-left c.in-Ok.place.at (page_at pages c.in-Ok.place.page) c.args.entries.now in
    let r = left_room pages page c.self.inside.pages.spare c.in-Ok.place.page p.page_in (omega arith) in
    subst (λ s. s.spare ≤ room_of c.take_met-met.new.self.pages c.take_met-met.new.self.spare) c.self.view_is
    (subst (λ k. room_of pages c.self.inside.pages.spare ≤ room_of k c.take_met-met.new.self.spare) (sym c.take_met-met.ensures.pages)
    (subst (λ k. room_of pages c.self.inside.pages.spare ≤ room_of (with_page pages c.in-Ok.place.page page) k) (sym c.take_met-met.ensures.spare) r))

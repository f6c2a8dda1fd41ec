use Rattle.std.proofs.Common.{◌≡◌, ◌+◌, ◌≤◌, None, Some, length, refl, ap, sym, ◌∙◌, subst, arith}
use Rattle.qs_index.specs.inner.Entry.{run_of, skip_before}
use Rattle.qs_index.specs.inner.OrderScan.{left_from, StartsBefore}
use Rattle.qs_index.proofs.Looks.{counts_fit, looks_fit}
use Rattle.qs_index.proofs.ScanSteps.{run_at_end, sound_skipped}
use Rattle.qs_index.proofs.Seeking.{seek_left, seek_none, stands_before, fewer_left}
use Rattle.qs_index.proofs.order_scan.OrderScan.seek.Goals as goal

pub overflow_add-self : goal.overflow_add-self
overflow_add-self c =
    let s = c.self.inside in
    let fit = counts_fit s.reader.pages s.handed s.skips (length (left_from s.reader.pages s.prefix s.page s.at)) c.self.invariant.sizes (omega (arith, c.len-held.ensures.len, c.len-held.type_inv)) c.self.invariant.most in omega arith

pub find_after-requires-clause-page : goal.find_after-requires-clause-page
find_after-requires-clause-page c =
    let s = c.self.inside in
    let starts : StartsBefore c.args.to.now (left_from s.reader.pages s.prefix s.page s.at) = subst (λ v. StartsBefore c.args.to.now v.rest) (sym c.self.view_is) c.requires.next in
    (stands_before s.reader.pages s.prefix c.args.to.now s.page s.at c.self.invariant.within starts).page_in

pub find_after-requires-clause-at : goal.find_after-requires-clause-at
find_after-requires-clause-at c =
    let s = c.self.inside in
    let starts : StartsBefore c.args.to.now (left_from s.reader.pages s.prefix s.page s.at) = subst (λ v. StartsBefore c.args.to.now v.rest) (sym c.self.view_is) c.requires.next in
    (stands_before s.reader.pages s.prefix c.args.to.now s.page s.at c.self.invariant.within starts).at_in

pub find_after-requires-clause-passed : goal.find_after-requires-clause-passed
find_after-requires-clause-passed c =
    let s = c.self.inside in
    let starts : StartsBefore c.args.to.now (left_from s.reader.pages s.prefix s.page s.at) = subst (λ v. StartsBefore c.args.to.now v.rest) (sym c.self.view_is) c.requires.next in
    (stands_before s.reader.pages s.prefix c.args.to.now s.page s.at c.self.invariant.within starts).before

pub find_after-requires-clause-countable : goal.find_after-requires-clause-countable
find_after-requires-clause-countable c =
    let s = c.self.inside in
    looks_fit s.reader.pages s.handed s.skips (length (left_from s.reader.pages s.prefix s.page s.at)) s.reader.looked c.self.invariant.sizes (omega (arith, c.len-held.ensures.len, c.len-held.type_inv)) c.self.invariant.most c.self.invariant.few

pub invariant_of-self : goal.invariant_of-self
invariant_of-self c =
    let s = c.self.inside in
    let pages = s.reader.pages in
    let to = c.args.to.now in
    let starts : StartsBefore to (left_from pages s.prefix s.page s.at) = subst (λ v. StartsBefore to v.rest) (sym c.self.view_is) c.requires.next in
    let here = stands_before pages s.prefix to s.page s.at c.self.invariant.within starts in
    let end : left_from pages s.prefix c.len-held.result 0 ≡ skip_before to (left_from pages s.prefix s.page s.at) =
    run_at_end s.prefix pages c.len-held.result 0 (omega (arith, c.len-held.ensures.len)) ∙ seek_none pages s.prefix to s.page s.at c.self.invariant.ascending here.page_in here.at_in here.begun here.before c.in_default.ensures.none in
    rw c.find_after.ensures.pages (sound_skipped pages s.prefix s.page s.at c.len-held.result 0 s.handed s.skips s.reader.looked c.find_after.new.reader.looked s.head None c.self.invariant (λ h. absurd (omega (arith, h, c.len-held.ensures.len))) tt (fewer_left to (left_from pages s.prefix s.page s.at) (left_from pages s.prefix c.len-held.result 0) end starts) c.find_after.ensures.looked c.find_after.ensures.counted (λ h. absurd (omega (arith, h, c.len-held.ensures.len))))

pub returns-in_default-clause-rest : goal.returns-in_default-clause-rest
returns-in_default-clause-rest c =
    let s = c.self.inside in
    let pages = s.reader.pages in
    let to = c.args.to.now in
    let starts : StartsBefore to (left_from pages s.prefix s.page s.at) = subst (λ v. StartsBefore to v.rest) (sym c.self.view_is) c.requires.next in
    let here = stands_before pages s.prefix to s.page s.at c.self.invariant.within starts in
    let none = seek_none pages s.prefix to s.page s.at c.self.invariant.ascending here.page_in here.at_in here.begun here.before c.in_default.ensures.none in
    rw c.find_after.ensures.pages (run_at_end s.prefix pages c.len-held.result 0 (omega (arith, c.len-held.ensures.len)) ∙ none ∙ ap (λ v. skip_before to v.rest) c.self.view_is)

pub invariant_of-self-2 : goal.invariant_of-self-2
invariant_of-self-2 c =
    let s = c.self.inside in
    let pages = s.reader.pages in
    let to = c.args.to.now in
    let found = c.in-Some.found in
    let f = c.in-Some.ensures.some in
    let starts : StartsBefore to (left_from pages s.prefix s.page s.at) = subst (λ v. StartsBefore to v.rest) (sym c.self.view_is) c.requires.next in
    let here = stands_before pages s.prefix to s.page s.at c.self.invariant.within starts in
    let left : left_from pages s.prefix found.place.page found.place.at ≡ skip_before to (left_from pages s.prefix s.page s.at) =
    ap (run_of s.prefix) f.before ∙ seek_left pages s.prefix to s.page s.at c.self.invariant.ascending here.page_in here.at_in here.begun here.before in
    rw c.find_after.ensures.pages (sound_skipped pages s.prefix s.page s.at found.place.page found.place.at s.handed s.skips s.reader.looked c.find_after.new.reader.looked s.head (Some found.entry) c.self.invariant (λ _. f.at_in) f.entry_is (fewer_left to (left_from pages s.prefix s.page s.at) (left_from pages s.prefix found.place.page found.place.at) left starts) c.find_after.ensures.looked c.find_after.ensures.counted (λ _. refl))

pub returns-clause-rest : goal.returns-clause-rest
returns-clause-rest c =
    let s = c.self.inside in
    let pages = s.reader.pages in
    let to = c.args.to.now in
    let f = c.in-Some.ensures.some in
    let starts : StartsBefore to (left_from pages s.prefix s.page s.at) = subst (λ v. StartsBefore to v.rest) (sym c.self.view_is) c.requires.next in
    let here = stands_before pages s.prefix to s.page s.at c.self.invariant.within starts in
    let seek = seek_left pages s.prefix to s.page s.at c.self.invariant.ascending here.page_in here.at_in here.begun here.before in
    rw c.find_after.ensures.pages (ap (run_of s.prefix) f.before ∙ seek ∙ ap (λ v. skip_before to v.rest) c.self.view_is)

pub returns-clause-fewer : goal.returns-clause-fewer
returns-clause-fewer c =
    let s = c.self.inside in
    let pages = s.reader.pages in
    let to = c.args.to.now in
    let found = c.in-Some.found in
    let f = c.in-Some.ensures.some in
    let starts : StartsBefore to (left_from pages s.prefix s.page s.at) = subst (λ v. StartsBefore to v.rest) (sym c.self.view_is) c.requires.next in
    let here = stands_before pages s.prefix to s.page s.at c.self.invariant.within starts in
    let left : left_from pages s.prefix found.place.page found.place.at ≡ skip_before to (left_from pages s.prefix s.page s.at) =
    ap (run_of s.prefix) f.before ∙ seek_left pages s.prefix to s.page s.at c.self.invariant.ascending here.page_in here.at_in here.begun here.before in
    let few = fewer_left to (left_from pages s.prefix s.page s.at) (left_from pages s.prefix found.place.page found.place.at) left starts in
    rw c.find_after.ensures.pages (subst (λ v. length (left_from pages s.prefix found.place.page found.place.at) + 1 ≤ length v.rest) c.self.view_is few)

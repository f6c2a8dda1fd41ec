use Rattle.std.proofs.Common.{◌≡◌, ◌+◌, ◌-◌, ◌/◌, [], get_or, refl, arith, ap, sym, ◌∙◌}
use Rattle.qs_index.specs.inner.Entry.{is_before}
use Rattle.qs_index.specs.inner.Layout.{page_at}
use Rattle.qs_index.proofs.DigitLaws.{digits_left, digits_right, middle_below}
use Rattle.qs_index.proofs.Places.{skip_in_page, skip_done}
use Rattle.qs_index.proofs.search.first_in_page.Goals as goal

pub loop-low-init : goal.loop-low-init
loop-low-init c = record {
  ordered = c.requires.ordered;
  within = c.requires.reached.at_in;
  skips = c.requires.passed;
  entry_is = c.requires.reached.entry_is;
  reached = c.requires.reached.reached;
  looked = omega arith;
  few = omega arith;
  same = refl;
}

pub look-entry-requires-clause-countable : goal.look-entry-requires-clause-countable
look-entry-requires-clause-countable c =
    let h = digits_left c.loop-low.low c.loop-low.high c.loop-low-test.true in
    omega (arith, c.loop-low.invariant.few, c.requires.countable)

pub loop-low-preserved-then-is_after : goal.loop-low-preserved-then-is_after
loop-low-preserved-then-is_after c =
    let i = c.loop-low.invariant in
    let pages = c.args.reader.now.pages in
    let middle = c.loop-low.low + (c.loop-low.high - c.loop-low.low) / 2 in
    let h = digits_right c.loop-low.low c.loop-low.high c.loop-low-test.true in
    let m = middle_below c.loop-low.low c.loop-low.high c.loop-low-test.true in
    let read : c.look-entry.result ≡ get_or (page_at pages c.args.page) middle [] = c.look-entry.ensures.entry ∙ ap (λ r. get_or (page_at r c.args.page) middle []) i.same in
    record {
      ordered = omega arith;
      within = i.within;
      skips = skip_in_page c.args.prefix.now pages c.args.page middle c.requires.ascending c.requires.page_in (omega (arith, i.within)) (ap (λ r. is_before r c.args.prefix.now) (sym read) ∙ sym c.is_after.ensures ∙ c.if-is_after.true);
      entry_is = i.entry_is;
      reached = i.reached;
      looked = omega (arith, i.looked, c.look-entry.ensures.counted);
      few = omega (arith, i.few, c.look-entry.ensures.counted);
      same = c.look-entry.ensures.pages ∙ i.same;
    }

pub loop-low-preserved : goal.loop-low-preserved
loop-low-preserved c =
    let i = c.loop-low.invariant in
    let pages = c.args.reader.now.pages in
    let middle = c.loop-low.low + (c.loop-low.high - c.loop-low.low) / 2 in
    let h = digits_left c.loop-low.low c.loop-low.high c.loop-low-test.true in
    let m = middle_below c.loop-low.low c.loop-low.high c.loop-low-test.true in
    let read : c.look-entry.result ≡ get_or (page_at pages c.args.page) middle [] = c.look-entry.ensures.entry ∙ ap (λ r. get_or (page_at r c.args.page) middle []) i.same in
    record {
      ordered = omega arith;
      within = omega (arith, i.within);
      skips = i.skips;
      entry_is = read;
      reached = sym c.is_after.ensures ∙ c.if-is_after.false;
      looked = omega (arith, i.looked, c.look-entry.ensures.counted);
      few = omega (arith, i.few, c.look-entry.ensures.counted);
      same = c.look-entry.ensures.pages ∙ i.same;
    }

pub returns-clause-skips : goal.returns-clause-skips
returns-clause-skips c =
    let i = c.loop-low.invariant in
    let pages = c.args.reader.now.pages in
    let end : c.loop-low.high ≡ c.loop-low.low = omega (arith, i.ordered, c.loop-low-test.false) in
    i.skips ∙ skip_done c.args.prefix.now pages c.args.page c.loop-low.low c.requires.page_in (omega (arith, i.within)) (ap (λ r. is_before r c.args.prefix.now) (sym (i.entry_is ∙ ap (λ k. get_or (page_at pages c.args.page) k []) end)) ∙ i.reached)

pub returns-clause-entry : goal.returns-clause-entry
returns-clause-entry c =
    let i = c.loop-low.invariant in
    let end : c.loop-low.high ≡ c.loop-low.low = omega (arith, i.ordered, c.loop-low-test.false) in
    i.entry_is ∙ ap (λ k. get_or (page_at c.args.reader.now.pages c.args.page) k []) end

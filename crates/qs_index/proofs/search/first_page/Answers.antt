use Rattle.std.proofs.Common.{◌≡◌, ◌+◌, ◌-◌, ◌/◌, [], length, get_or, arith, ap, sym, ◌∙◌}
use Rattle.qs_index.specs.inner.Entry.{is_before}
use Rattle.qs_index.specs.inner.Layout.{page_at}
use Rattle.qs_index.proofs.DigitLaws.{digits_left, digits_right, middle_below}
use Rattle.qs_index.proofs.Places.{skip_page}
use Rattle.qs_index.proofs.search.first_page.Goals as goal

pub look_last-entry-requires-clause-countable : goal.look_last-entry-requires-clause-countable
look_last-entry-requires-clause-countable c =
    let h = digits_left c.loop-low.low c.loop-low.high c.loop-low-test.true in
    omega (arith, c.loop-low.invariant.few, c.requires.countable)

pub loop-low-preserved-then-is_after : goal.loop-low-preserved-then-is_after
loop-low-preserved-then-is_after c =
    let i = c.loop-low.invariant in
    let pages = c.args.reader.now.pages in
    let middle = c.loop-low.low + (c.loop-low.high - c.loop-low.low) / 2 in
    let h = digits_right c.loop-low.low c.loop-low.high c.loop-low-test.true in
    let m = middle_below c.loop-low.low c.loop-low.high c.loop-low-test.true in
    let read : c.look_last-entry.result ≡ get_or (page_at pages middle) (length (page_at pages middle) - 1) [] = c.look_last-entry.ensures.entry ∙ ap (λ r. get_or (page_at r middle) (length (page_at r middle) - 1) []) i.same in
    record {
      ordered = omega arith;
      within = i.within;
      skips = skip_page c.args.prefix.now pages 0 middle c.len-high.ensures.sizes c.requires.ascending (omega (arith, i.within)) (ap (λ r. is_before r c.args.prefix.now) (sym read) ∙ sym c.is_after.ensures ∙ c.if-is_after.true);
      reached = i.reached;
      looked = λ b. omega (arith, i.looked b, c.look_last-entry.ensures.counted);
      rising = omega (arith, i.rising, c.look_last-entry.ensures.counted);
      few = omega (arith, i.few, c.look_last-entry.ensures.counted);
      same = c.look_last-entry.ensures.pages ∙ i.same;
    }

pub loop-low-preserved : goal.loop-low-preserved
loop-low-preserved c =
    let i = c.loop-low.invariant in
    let pages = c.args.reader.now.pages in
    let middle = c.loop-low.low + (c.loop-low.high - c.loop-low.low) / 2 in
    let h = digits_left c.loop-low.low c.loop-low.high c.loop-low-test.true in
    let m = middle_below c.loop-low.low c.loop-low.high c.loop-low-test.true in
    let read : c.look_last-entry.result ≡ get_or (page_at pages middle) (length (page_at pages middle) - 1) [] = c.look_last-entry.ensures.entry ∙ ap (λ r. get_or (page_at r middle) (length (page_at r middle) - 1) []) i.same in
    record {
      ordered = omega arith;
      within = omega (arith, i.within);
      skips = i.skips;
      reached = λ _. record { at_in = omega (arith, (c.len-high.ensures.sizes middle [] (omega (arith, i.within))).0); entry_is = read; reached = sym c.is_after.ensures ∙ c.if-is_after.false };
      looked = λ _. omega (arith, i.rising, c.look_last-entry.ensures.counted);
      rising = omega (arith, i.rising, c.look_last-entry.ensures.counted);
      few = omega (arith, i.few, c.look_last-entry.ensures.counted);
      same = c.look_last-entry.ensures.pages ∙ i.same;
    }

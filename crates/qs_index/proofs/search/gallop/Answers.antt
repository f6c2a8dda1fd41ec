use Rattle.std.proofs.Common.{◌≡◌, ◌+◌, ◌-◌, [], length, get_or, refl, arith, ap, sym, ◌∙◌}
use Rattle.qs_index.specs.inner.Entry.{is_before}
use Rattle.qs_index.specs.inner.Layout.{page_at}
use Rattle.qs_index.proofs.DigitLaws.{digits_half, digits_doubled, digits-le}
use Rattle.qs_index.proofs.Places.{skip_in_page}
use Rattle.qs_index.proofs.search.gallop.Goals as goal

pub loop-low-init : goal.loop-low-init
loop-low-init c =
    let one = digits_half 1 0 (omega arith) (omega arith) in
    record {
      ordered = c.requires.ordered;
      some = omega arith;
      grown = refl;
      skips = c.requires.passed;
      looked = omega arith;
      few = omega arith;
      same = refl;
    }

pub overflow_sub-at : goal.overflow_sub-at
overflow_sub-at c = omega (arith, c.loop-low.invariant.some)

pub look-entry-requires-clause-countable : goal.look-entry-requires-clause-countable
look-entry-requires-clause-countable c =
    let i = c.loop-low.invariant in
    let few = digits-le c.loop-low.step (length (page_at c.args.reader.now.pages c.args.page)) (omega (arith, i.grown, c.loop-low-test.true, c.requires.reached.at_in)) in
    omega (arith, i.few, c.requires.countable)

pub returns-then-not-is_after-clause-ordered : goal.returns-then-not-is_after-clause-ordered
returns-then-not-is_after-clause-ordered c = omega (arith, c.loop-low.invariant.some)

pub returns-then-not-is_after-clause-counted : goal.returns-then-not-is_after-clause-counted
returns-then-not-is_after-clause-counted c =
    let i = c.loop-low.invariant in
    let len = length (page_at c.args.reader.now.pages c.args.page) in
    let step = digits-le c.loop-low.step len (omega (arith, i.grown, c.loop-low-test.true, c.requires.reached.at_in)) in
    let part = digits-le (c.loop-low.low + c.loop-low.step - 1 - c.loop-low.low) len (omega (arith, i.grown, c.loop-low-test.true, c.requires.reached.at_in)) in
    omega (arith, i.few, c.look-entry.ensures.counted)

pub loop-low-smaller : goal.loop-low-smaller
loop-low-smaller c = omega (arith, c.loop-low.invariant.some, c.loop-low-test.true)

pub loop-low-preserved : goal.loop-low-preserved
loop-low-preserved c =
    let i = c.loop-low.invariant in
    let pages = c.args.reader.now.pages in
    let at = c.loop-low.low + c.loop-low.step - 1 in
    let twice = digits_doubled c.loop-low.step i.some in
    let read : c.look-entry.result ≡ get_or (page_at pages c.args.page) at [] = c.look-entry.ensures.entry ∙ ap (λ r. get_or (page_at r c.args.page) at []) i.same in
    record {
      ordered = omega (arith, i.some, c.loop-low-test.true);
      some = omega (arith, i.some);
      grown = omega (arith, i.some, i.grown);
      skips = skip_in_page c.args.prefix.now pages c.args.page at c.requires.ascending c.requires.page_in (omega (arith, i.some, c.loop-low-test.true, c.requires.reached.at_in)) (ap (λ r. is_before r c.args.prefix.now) (sym read) ∙ sym c.is_after.ensures ∙ c.if-not-is_after.false);
      looked = omega (arith, i.looked, c.look-entry.ensures.counted);
      few = omega (arith, i.few, c.look-entry.ensures.counted);
      same = c.look-entry.ensures.pages ∙ i.same;
    }

pub returns-clause-counted : goal.returns-clause-counted
returns-clause-counted c =
    let i = c.loop-low.invariant in
    let len = length (page_at c.args.reader.now.pages c.args.page) in
    let step = digits-le c.loop-low.step len (omega (arith, i.grown, i.ordered, c.requires.reached.at_in)) in
    let part = digits-le (c.args.last.at - c.loop-low.low) len (omega (arith, c.requires.reached.at_in)) in
    omega (arith, i.few)

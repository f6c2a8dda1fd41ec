use Rattle.std.proofs.Common.{◌≡◌, ◌+◌, ◌-◌, true, [], get_or, arith, ap, sym, ◌∙◌}
use Rattle.qs_index.specs.inner.Entry.{is_before, skip_before}
use Rattle.qs_index.specs.inner.Layout.{joined, page_at, rest_at}
use Rattle.qs_index.proofs.Places.{skip_place, skip_done}
use Rattle.qs_index.proofs.search.find_before.Goals as goal

pub returns-then-is_after-clause-some : goal.returns-then-is_after-clause-some
returns-then-is_after-clause-some c =
    let p = c.args.prefix.now in
    let pages = c.args.reader.now.pages in
    let m = c.args.from.place.page in
    let k = c.args.from.place.at in
    let r = c.requires.reached in
    let some : k - 1 + 1 ≡ k = omega (arith, c.if-place-eq0.false) in
    let front : is_before (get_or (page_at pages m) (k - 1) []) p ≡ true = ap (λ e. is_before e p) (sym c.look-front.ensures.entry) ∙ sym c.is_after.ensures ∙ c.if-is_after.true in
    let passed : skip_before p (joined pages) ≡ skip_before p (rest_at pages m k) = skip_place p pages m (k - 1) c.requires.ascending c.requires.page (omega (arith, r.at_in)) front ∙ ap (λ j. skip_before p (rest_at pages m j)) some in
    record {
      page_in = c.requires.page;
      at_in = r.at_in;
      before = sym (passed ∙ skip_done p pages m k c.requires.page r.at_in (ap (λ e. is_before e p) (sym r.entry_is) ∙ r.reached));
      entry_is = r.entry_is;
    }

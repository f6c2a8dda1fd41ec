use Rattle.std.proofs.Common.{◌≡◌, ◌+◌, length, arith, ap, sym, ◌∙◌}
use Rattle.std.proofs.lemmas.Bool.{eqb-true}
use Rattle.qs_index.specs.inner.Entry.{run_of}
use Rattle.qs_index.proofs.Places.{rest_end, rest_next_page}
use Rattle.qs_index.proofs.Prefixes.{whole_ends}
use Rattle.qs_index.proofs.order_scan.step.Goals as goal

pub returns-then-is_whole-clause-run : goal.returns-then-is_whole-clause-run
returns-then-is_whole-clause-run c =
    let p = c.args.prefix.now in
    let pages = c.args.reader.now.pages in
    let whole : length p ≡ 4 = eqb-true _ _ (sym c.is_whole.ensures ∙ c.if-is_whole.true) in
    ap (run_of p) (rest_end pages c.len-held.result 0 (omega (arith, c.len-held.ensures.len))) ∙ sym (whole_ends p pages c.args.place.page c.args.place.at whole c.requires.page c.requires.at c.requires.ascending c.requires.entries c.requires.begins)

pub returns-clause-run : goal.returns-clause-run
returns-clause-run c =
    let pages = c.args.reader.now.pages in
    ap (run_of c.args.prefix.now) (sym (rest_next_page pages c.args.place.page (c.args.place.at + 1) c.requires.page (omega (arith, c.page_len.ensures.len, c.requires.at))))

pub returns-clause-within : goal.returns-clause-within
returns-clause-within c = λ h. (c.len-held.ensures.sizes (c.args.place.page + 1) _ h).0

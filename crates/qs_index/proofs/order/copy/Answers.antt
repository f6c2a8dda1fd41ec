use Rattle.std.proofs.Common.{◌+◌, ◌-◌, ◌<◌, ◌++◌, length, take, drop, arith, sym, ap, ◌∙◌, append_assoc, length-append, length-drop}
use Rattle.std.proofs.lemmas.List.{length-take-le, take_rest}
use borrow.Rule.Slice.PartMut.{post_of, same_len_mid}
use Rattle.qs_index.specs.inner.Entry.{run_of}
use Rattle.qs_index.specs.inner.Layout.{page_at, rest_at}
use Rattle.qs_index.proofs.Runs.{copied_part, rest_of_page, run_more, run_part, run_whole}
use Rattle.qs_index.proofs.order.copy.Goals as goal

pub copy_run-run-requires-clause-batch : goal.copy_run-run-requires-clause-batch
copy_run-run-requires-clause-batch c =
    let pages = c.args.pages.now.pages in
    let m = c.loop-page.page in
    let k = c.loop-page.at in
    let p = c.args.prefix.now in
    let batch = c.loop-page.batch in
    let count = c.loop-page.count in
    let in_page : m < length pages = omega (arith, c.loop-page-test.true, c.len.ensures.len) in
    let split = ap (λ r. length (run_of p r)) (rest_of_page pages m k in_page (c.loop-page.invariant.at_in in_page)) in
    let more = run_more p (drop k (page_at pages m)) (rest_at pages (m + 1) 0) in
    let whole = ap length c.loop-page.invariant.done in
    let both = length-append (take count batch) (run_of p (rest_at pages m k)) in
    let front = length-take-le count batch c.loop-page.invariant.within in
    let rest = ap length (take_rest batch count) in
    let n = length-drop count batch in
    omega (arith, split, more, whole, both, front, rest, n, c.requires.batch, c.loop-page.invariant.long)

pub returns-then-run-left-clause-entries : goal.returns-then-run-left-clause-entries
returns-then-run-left-clause-entries c =
    let pages = c.args.pages.now.pages in
    let m = c.loop-page.page in
    let k = c.loop-page.at in
    let p = c.args.prefix.now in
    let batch = c.loop-page.batch in
    let count = c.loop-page.count in
    let in_page : m < length pages = omega (arith, c.loop-page-test.true, c.len.ensures.len) in
    let part = drop k (page_at pages m) in
    let n = length-drop k (page_at pages m) in
    let split = ap (run_of p) (rest_of_page pages m k in_page (c.loop-page.invariant.at_in in_page)) in
    let stops = run_part p part (rest_at pages (m + 1) 0) (omega (arith, n, c.if-run-left.true, c.copy_run-run.ensures.count, c.page_len.ensures.len)) in
    copied_part batch (run_of p part) _ (post_of count (length batch - count) batch) c.copy_run-run.new.batch count c.copy_run-run.result c.copy_run-run.ensures.entries c.copy_run-run.ensures.count c.loop-page.invariant.within
    ∙ ap (λ r. take count batch ++ r) (sym (split ∙ stops)) ∙ c.loop-page.invariant.done

pub loop-page-preserved : goal.loop-page-preserved
loop-page-preserved c =
    let pages = c.args.pages.now.pages in
    let m = c.loop-page.page in
    let k = c.loop-page.at in
    let p = c.args.prefix.now in
    let batch = c.loop-page.batch in
    let count = c.loop-page.count in
    let in_page : m < length pages = omega (arith, c.loop-page-test.true, c.len.ensures.len) in
    let part = drop k (page_at pages m) in
    let next = run_of p (rest_at pages (m + 1) 0) in
    let n = length-drop k (page_at pages m) in
    let split = ap (run_of p) (rest_of_page pages m k in_page (c.loop-page.invariant.at_in in_page)) in
    let goes = run_whole p part (rest_at pages (m + 1) 0) (omega (arith, n, c.if-run-left.false, c.copy_run-run.ensures.count, c.page_len.ensures.len)) in
    let copied = copied_part batch (run_of p part) _ (post_of count (length batch - count) batch) c.copy_run-run.new.batch count c.copy_run-run.result c.copy_run-run.ensures.entries c.copy_run-run.ensures.count c.loop-page.invariant.within in
    let done = ap (λ r. r ++ next) copied ∙ append_assoc (take count batch) (run_of p part) next ∙ ap (λ r. take count batch ++ r) (sym (split ∙ goes)) ∙ c.loop-page.invariant.done in
    let same = same_len_mid count (length batch - count) batch c.copy_run-run.new.batch c.copy_run-run.auto.batch in
    let whole = ap length c.loop-page.invariant.done in
    let both = length-append (take count batch) (run_of p (rest_at pages m k)) in
    let both_parts = ap length (split ∙ goes) in
    let parts = length-append (run_of p part) next in
    let front = length-take-le count batch c.loop-page.invariant.within in
    record {
      at_in = λ _. omega arith;
      done = done;
      within = omega (arith, same, whole, both, both_parts, parts, front, c.copy_run-run.ensures.count, c.requires.batch, c.loop-page.invariant.long);
      long = same ∙ c.loop-page.invariant.long;
      looks = omega (arith, c.copy_run-run.ensures.counted, c.loop-page.invariant.looks);
    }

use Rattle.std.proofs.Common.{◌≡◌, ◌+◌, ◌-◌, [], ◌∷◌, length, arith, sym, ap, ◌∙◌}
use Rattle.std.specs.List.{insert}
use Rattle.std.proofs.lemmas.List.{length-set, length_push}
use Rattle.qs_index.specs.inner.Layout.{joined, page_at, rest_at}
use Rattle.qs_index.proofs.EntryEdits.{put_in_order}
use Rattle.qs_index.proofs.Filled.{with_behind, rest_last, used_put, filled_put, joined_open, used_open, filled_open}
use Rattle.qs_index.proofs.fill.append.Goals as goal

pub returns-then-at-lt-PAGE-clause-some : goal.returns-then-at-lt-PAGE-clause-some
returns-then-at-lt-PAGE-clause-some c =
    let pages = c.args.pages.now.pages in
    let n = length-set pages (c.len-page.result - 1) (insert (page_at pages (c.len-page.result - 1)) c.page_len-at.result c.args.entry) in
    rw c.put.ensures.pages (omega (arith, c.requires.some))

pub returns-then-at-lt-PAGE-clause-entries : goal.returns-then-at-lt-PAGE-clause-entries
returns-then-at-lt-PAGE-clause-entries c =
    let pages = c.args.pages.now.pages in
    let m = c.len-page.result - 1 in
    let last : m + 1 ≡ length pages = omega (arith, c.len-page.ensures.len, c.requires.some) in
    let rest : rest_at pages m c.page_len-at.result ≡ _ = ap (rest_at pages m) c.page_len-at.ensures.len ∙ rest_last pages m last ∙ sym c.requires.behind in
    ap joined c.put.ensures.pages ∙ put_in_order c.args.entry pages m c.page_len-at.result (omega arith) (omega (arith, c.page_len-at.ensures.len)) rest

pub returns-then-at-lt-PAGE-clause-used : goal.returns-then-at-lt-PAGE-clause-used
returns-then-at-lt-PAGE-clause-used c =
    rw c.put.ensures.pages (used_put c.args.pages.now.pages (c.len-page.result - 1) c.page_len-at.result c.args.entry (omega (arith, c.len-page.ensures.len, c.requires.some)) (omega (arith, c.page_len-at.ensures.len)))

pub returns-then-at-lt-PAGE-clause-filled : goal.returns-then-at-lt-PAGE-clause-filled
returns-then-at-lt-PAGE-clause-filled c =
    rw c.put.ensures.pages (filled_put c.args.pages.now.pages (c.len-page.result - 1) c.page_len-at.result c.args.entry (omega (arith, c.len-page.ensures.len, c.requires.some)) (omega (arith, c.page_len-at.ensures.len)))

pub returns-then-at-lt-PAGE-clause-all : goal.returns-then-at-lt-PAGE-clause-all
returns-then-at-lt-PAGE-clause-all c =
    let pages = c.args.pages.now.pages in
    let n = length-set pages (c.len-page.result - 1) (insert (page_at pages (c.len-page.result - 1)) c.page_len-at.result c.args.entry) in
    rw c.put.ensures.pages (omega (arith, c.put.ensures.spare))

pub put_last-requires : goal.put_last-requires
put_last-requires c =
    let pages = c.args.pages.now.pages in
    let same : length pages - 1 ≡ c.len-page.result - 1 = omega (arith, c.len-page.ensures.len) in
    let full = ap (λ k. length (page_at pages k)) same in
    c.requires.spare (omega (arith, c.if-at-lt-PAGE.false, c.page_len-at.ensures.len))

pub returns-clause-some : goal.returns-clause-some
returns-clause-some c =
    let n = length_push c.args.pages.now.pages (c.args.entry ∷ []) in
    rw c.put_last.ensures.pages (omega arith)

pub returns-clause-entries : goal.returns-clause-entries
returns-clause-entries c =
    ap joined c.put_last.ensures.pages ∙ joined_open c.args.pages.now.pages c.args.entry ∙ sym (with_behind c.args.entry (joined c.args.pages.now.pages) c.requires.behind)

pub returns-clause-used : goal.returns-clause-used
returns-clause-used c =
    let pages = c.args.pages.now.pages in
    let same : length pages - 1 ≡ c.len-page.result - 1 = omega (arith, c.len-page.ensures.len) in
    let full = ap (λ k. length (page_at pages k)) same in
    rw c.put_last.ensures.pages (used_open pages c.args.entry (omega (arith, c.if-at-lt-PAGE.false, c.page_len-at.ensures.len)))

pub returns-clause-filled : goal.returns-clause-filled
returns-clause-filled c =
    let pages = c.args.pages.now.pages in
    let same : length pages - 1 ≡ c.len-page.result - 1 = omega (arith, c.len-page.ensures.len) in
    let full = ap (λ k. length (page_at pages k)) same in
    rw c.put_last.ensures.pages (filled_open pages c.args.entry c.requires.some (omega (arith, c.if-at-lt-PAGE.false, c.page_len-at.ensures.len)))

pub returns-clause-all : goal.returns-clause-all
returns-clause-all c =
    let n = length_push c.args.pages.now.pages (c.args.entry ∷ []) in
    rw c.put_last.ensures.pages (omega (arith, c.put_last.ensures.spare))

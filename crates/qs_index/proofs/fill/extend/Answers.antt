use Rattle.std.proofs.Common.{◌≡◌, ◌-◌, ◌<◌, [], length, arith, ap, ◌∙◌}
use Rattle.std.proofs.lemmas.List.{get_or-set_same}
use Rattle.qs_index.specs.inner.Layout.{page_at}
use Rattle.qs_index.specs.inner.Extending.{extended}
use Rattle.qs_index.proofs.Extending.{length-extended}
use Rattle.qs_index.proofs.fill.extend.Goals as goal

pub overflow_sub-count : goal.overflow_sub-count
overflow_sub-count c =
    let pages = c.args.pages.now.pages in
    let m = c.len-page.result - 1 in
    let within : m < length pages = omega (arith, c.len-page.ensures.len, c.requires) in
    let new = extended c.args.last.now (page_at pages m) c.args.entries.now in
    let longer = length-extended c.args.last.now (page_at pages m) c.args.entries.now (c.len-page.ensures.sizes m [] within).1 in
    let after = ap length (ap (λ r. page_at r m) c.extend-read.ensures.pages ∙ get_or-set_same pages m new [] within) in
    omega (arith, longer.0, after, c.page_len-before.ensures.len, c.page_len-after.ensures.len)

pub returns-clause-count : goal.returns-clause-count
returns-clause-count c =
    let pages = c.args.pages.now.pages in
    let m = c.len-page.result - 1 in
    let within : m < length pages = omega (arith, c.len-page.ensures.len, c.requires) in
    let new = extended c.args.last.now (page_at pages m) c.args.entries.now in
    let longer = length-extended c.args.last.now (page_at pages m) c.args.entries.now (c.len-page.ensures.sizes m [] within).1 in
    let after = ap length (ap (λ r. page_at r m) c.extend-read.ensures.pages ∙ get_or-set_same pages m new [] within) in
    let place : length pages - 1 ≡ m = omega (arith, c.len-page.ensures.len) in
    let old = ap (λ k. length (page_at pages k)) place in
    let grown = ap (λ k. length (extended c.args.last.now (page_at pages k) c.args.entries.now)) place in
    omega (arith, longer.0, after, old, grown, c.page_len-before.ensures.len, c.page_len-after.ensures.len)

use Rattle.std.proofs.Common.{◌≡◌, ◌-◌, ◌++◌, length, take, drop, arith, ap, ◌∙◌, length-take}
use Rattle.std.proofs.lemmas.List.{take_rest}
use Rattle.qs_index.specs.inner.Entry.{run_of}
use Rattle.qs_index.specs.inner.Layout.{page_at}
use Rattle.qs_index.proofs.Runs.{run_short, run_take}
use Rattle.qs_index.proofs.pages.Pages.copy_run.Goals as goal

pub slice_bounds-copy_from_slice-end-3 : goal.slice_bounds-copy_from_slice-end-3
slice_bounds-copy_from_slice-end-3 c =
    let es = c.entries.result.now in
    let part = take (length es - c.args.place.at) (drop c.args.place.at es) in
    let short = run_short c.args.prefix.now part in
    let n = length-take c.run_len-count.result part in
    omega (arith, short, n, c.run_len-count.ensures)

pub copy_from_slice-requires : goal.copy_from_slice-requires
copy_from_slice-requires c =
    let es = c.entries.result.now in
    let part = take (length es - c.args.place.at) (drop c.args.place.at es) in
    let short = run_short c.args.prefix.now part in
    let n = length-take c.run_len-count.result part in
    let m = length-take c.run_len-count.result c.args.batch.now in
    let whole : part ≡ drop c.args.place.at (page_at c.args.self.now.pages c.args.place.page) = take_rest es c.args.place.at ∙ ap (drop c.args.place.at) c.entries.ensures in
    let room = ap (λ r. length (run_of c.args.prefix.now r)) whole in
    omega (arith, short, n, m, room, c.run_len-count.ensures, c.requires.batch)

pub returns-clause-entries : goal.returns-clause-entries
returns-clause-entries c =
    let es = c.entries.result.now in
    let part = take (length es - c.args.place.at) (drop c.args.place.at es) in
    let whole : part ≡ drop c.args.place.at (page_at c.args.self.now.pages c.args.place.page) = take_rest es c.args.place.at ∙ ap (drop c.args.place.at) c.entries.ensures in
    ap (λ r. r ++ drop c.run_len-count.result c.args.batch.now)
    (c.copy_from_slice.ensures.after ∙ (ap (λ n. take n part) c.run_len-count.ensures ∙ (run_take c.args.prefix.now part ∙ ap (run_of c.args.prefix.now) whole)))

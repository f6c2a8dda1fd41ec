use Rattle.std.proofs.Common.{◌≡◌, length, sym, ap, ◌∙◌, arith, rules}
use Rattle.std.proofs.lemmas.Bool.{false≢true}
use Rattle.std.proofs.lemmas.List.{take_all}
use Rattle.std.specs.Cmp.Lexicographic.{bytes_decides}
use Rattle.qs_index.specs.inner.Layout.{joined}
use Rattle.qs_index.specs.inner.Entry.{skip_before}
use Rattle.qs_index.proofs.Looks.{start_fits_later}
use Rattle.qs_index.proofs.Places.{rest_end}
use Rattle.qs_index.proofs.FoundPlaces.{place_at_end, place_of_other, place_of_it}
use Rattle.qs_index.proofs.search.locate_in.Goals as goal

pub find_from-requires-clause-countable : goal.find_from-requires-clause-countable
find_from-requires-clause-countable c =
    let f = start_fits_later c.args.reader.pages c.len-count.ensures.sizes (omega (arith, c.len-count.ensures.len, c.len-count.type_inv)) in omega (arith, c.requires.unread)

pub returns-in_default-clause-missing : goal.returns-in_default-clause-missing
returns-in_default-clause-missing c =
    let pages = c.args.reader.pages in
    let four : length c.args.entry.now ≡ 4 = search rules in
    let whole : c.new-whole.result ≡ c.args.entry.now = c.new-whole.ensures ∙ take_all 4 c.args.entry.now (omega arith) in
    let none = ap (λ r. skip_before r (joined pages)) (sym whole) ∙ c.in_default.ensures.none in
    rw (c.page_len-at.ensures.len, c.find_from.ensures.pages, c.len-count.ensures.len) (place_at_end c.args.entry.now pages (length pages) 0 c.requires.ascending c.requires.some (omega arith) (rest_end pages (length pages) 0 (omega arith) ∙ sym none))

pub returns-then-is_same-clause-found : goal.returns-then-is_same-clause-found
returns-then-is_same-clause-found c =
    let four : length c.args.entry.now ≡ 4 = search rules in
    let whole : c.new-whole.result ≡ c.args.entry.now = c.new-whole.ensures ∙ take_all 4 c.args.entry.now (omega arith) in
    let f = c.in-Some.ensures.some in
    place_of_it c.args.entry.now c.args.reader.pages c.in-Some.found.place.page c.in-Some.found.place.at f.page_in f.at_in (f.before ∙ ap (λ r. skip_before r (joined c.args.reader.pages)) whole) (sym f.entry_is ∙ (bytes_decides c.in-Some.found.entry c.args.entry.now).0 (sym c.if-is_same.ensures))

pub returns-clause-missing : goal.returns-clause-missing
returns-clause-missing c =
    let four : length c.args.entry.now ≡ 4 = search rules in
    let whole : c.new-whole.result ≡ c.args.entry.now = c.new-whole.ensures ∙ take_all 4 c.args.entry.now (omega arith) in
    let f = c.in-Some.ensures.some in
    place_of_other c.args.entry.now c.args.reader.pages c.in-Some.found.place.page c.in-Some.found.place.at c.requires.ascending f.page_in f.at_in (f.before ∙ ap (λ r. skip_before r (joined c.args.reader.pages)) whole) (λ s. false≢true (c.if-is_same.ensures ∙ (bytes_decides c.in-Some.found.entry c.args.entry.now).1 (f.entry_is ∙ s)))

use Rattle.std.proofs.Common.{refl, arith, Some, None}
use Rattle.qs_index.proofs.Looks.{start_fits_later}
use Rattle.qs_index.proofs.ScanSteps.{begin_at, begin_none, sound_begin}
use Rattle.qs_index.proofs.order_scan.OrderScan.new.Goals as goal

pub find_from-requires-clause-countable : goal.find_from-requires-clause-countable
find_from-requires-clause-countable c =
    let f = start_fits_later c.args.reader.pages c.len-held.ensures.sizes (omega (arith, c.len-held.ensures.len, c.len-held.type_inv)) in omega (arith, c.requires.unread)

pub invariant_of-result : goal.invariant_of-result
invariant_of-result c =
    let pages = c.args.reader.pages in
    rw c.find_from.ensures.pages (sound_begin pages c.args.prefix c.len-held.result 0 c.find_from.new.reader.looked None c.len-held.ensures.sizes c.requires.ascending c.requires.entries (λ h. absurd (omega (arith, h, c.len-held.ensures.len))) tt (omega arith) (omega (arith, c.find_from.ensures.counted, c.requires.unread)) (λ h. absurd (omega (arith, h, c.len-held.ensures.len))))

pub returns-in_default-clause-rest : goal.returns-in_default-clause-rest
returns-in_default-clause-rest c =
    rw c.find_from.ensures.pages (begin_none c.args.prefix c.args.reader.pages c.len-held.result c.requires.ascending c.len-held.ensures.len c.in_default.ensures.none)

pub invariant_of-result-2 : goal.invariant_of-result-2
invariant_of-result-2 c =
    let pages = c.args.reader.pages in
    let f = c.in-Some.ensures.some in
    let found = c.in-Some.found in
    rw c.find_from.ensures.pages (sound_begin pages c.args.prefix found.place.page found.place.at c.find_from.new.reader.looked (Some found.entry) c.len-held.ensures.sizes c.requires.ascending c.requires.entries (λ _. f.at_in) f.entry_is (omega (arith, c.in-Some.ensures.looked, c.requires.unread)) (omega (arith, c.find_from.ensures.counted, c.requires.unread)) (λ _. refl))

pub returns-clause-rest : goal.returns-clause-rest
returns-clause-rest c =
    rw c.find_from.ensures.pages (begin_at c.args.prefix c.args.reader.pages c.in-Some.found.place.page c.in-Some.found.place.at c.in-Some.found.entry c.requires.ascending c.in-Some.ensures.some)

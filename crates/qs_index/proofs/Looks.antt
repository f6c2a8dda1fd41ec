-- How much a scan looks at.
use Rattle.std.proofs.Common.{ℕ, ◌+◌, ◌*◌, ◌^◌, ◌<◌, ◌≤◌, List, length, arith}
use Rattle.std.proofs.lemmas.Nat.{mul-le}
use Rattle.qs_index.specs.inner.Digits.{digits}
use Rattle.qs_index.specs.inner.Layout.{joined, page_at, HasPageSizes}
use Rattle.qs_index.specs.inner.Scan.{most_looks}
use Rattle.qs_index.proofs.DigitLaws.{digits-le, digits_least, digits_small}
use Rattle.qs_index.proofs.Places.{joined_le, pages_le, page_le}

few_looks : (handed skips d n looked : ℕ) → n < 2 ^ 72 → d ≤ 72 → handed + skips ≤ n → looked ≤ handed + skips * (2 * d + 1) + 2 * d + 2 → looked + 1 + 2 * d < 2 ^ 128
few_looks handed skips d n looked small few most l =
    let p = mul-le skips (2 * d + 1) n 145 (omega arith) (omega arith) in omega arith

-- another look, and a whole search, can be counted
pub looks_fit : (pages : List (List (List ℕ))) (handed skips rest looked : ℕ) → HasPageSizes pages → length pages < 2 ^ 64 → handed + skips + rest ≤ length (joined pages) → looked ≤ most_looks handed skips (length (joined pages)) → looked + 1 + 2 * digits (length (joined pages)) < 2 ^ 128
looks_fit pages handed skips rest looked sizes h most l =
    let b = joined_le pages sizes in
    let small : length (joined pages) < 2 ^ 72 = omega arith in few_looks handed skips (digits (length (joined pages))) (length (joined pages)) looked small (digits_least _ 72 small) (omega arith) l

-- so can another entry and another skip
pub counts_fit : (pages : List (List (List ℕ))) (handed skips rest : ℕ) → HasPageSizes pages → length pages < 2 ^ 64 → handed + skips + rest ≤ length (joined pages) → handed + skips + 1 < 2 ^ 128
counts_fit pages handed skips rest sizes h most = let b = joined_le pages sizes in omega arith

-- a search among the pages and one in a page
pub page_looks : (pages : List (List (List ℕ))) → HasPageSizes pages → digits (length pages) ≤ digits (length (joined pages))
page_looks pages sizes = digits-le _ _ (pages_le pages sizes)

pub entry_looks : (pages : List (List (List ℕ))) (m : ℕ) → m < length pages → digits (length (page_at pages m)) ≤ digits (length (joined pages))
entry_looks pages m h = digits-le _ _ (page_le pages m h)

pub start_fits : (pages : List (List (List ℕ))) → HasPageSizes pages → length pages < 2 ^ 64 → 0 + 2 * digits (length (joined pages)) < 2 ^ 128
start_fits pages sizes h =
    let b = joined_le pages sizes in
    let d = digits_small (length (joined pages)) in omega arith

-- the same where two entries are looked at before
pub start_fits_later : (pages : List (List (List ℕ))) → HasPageSizes pages → length pages < 2 ^ 64 → 2 + 2 * digits (length (joined pages)) < 2 ^ 128
start_fits_later pages sizes h =
    let b = joined_le pages sizes in
    let d = digits_small (length (joined pages)) in omega arith

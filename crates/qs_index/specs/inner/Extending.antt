-- Entries that a page takes after its last one.
use Rattle.std.specs.Prelude.{ℕ, ◌+◌, nat_lt, List, [], ◌∷◌, ◌++◌, length, if◌then◌else◌}
use Rattle.std.specs.Str.{bytes_eq}
use Rattle.qs_index.specs.inner.Entry.{is_before}

-- a page with entries after its last one, as far as there is room and they ascend, and equal ones
-- once
abbrev pub extended : List ℕ → List (List ℕ) → List (List ℕ) → List (List ℕ)
extended last page [] = page
extended last page (e ∷ entries) =
    if nat_lt (length page) 256 then (if is_before last e then extended e (page ++ e ∷ []) entries
    else (if bytes_eq e last then extended last page entries else page)) else page

-- how many of the entries were read then
abbrev pub taken_in : List ℕ → List (List ℕ) → List (List ℕ) → ℕ
taken_in last page [] = 0
taken_in last page (e ∷ entries) =
    if nat_lt (length page) 256
    then (if is_before last e then taken_in e (page ++ e ∷ []) entries + 1
    else (if bytes_eq e last then taken_in last page entries + 1 else 0)) else 0

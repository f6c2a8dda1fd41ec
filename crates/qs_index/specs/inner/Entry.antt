-- Entries: quads by the numbers of their terms, and their order. Graph 0 is the default graph.
use Rattle.std.specs.Prelude.{◌≡◌, ℕ, ◌+◌, ◌*◌, ◌<◌, ◌^◌, Bool, true, false, cond, nat_lt, ◌==◌}
use Rattle.std.specs.Prelude.{List, [], ◌∷◌, ◌++◌, drop, length, ◌≢◌, slice_index_or}
use Rattle.std.specs.List.{All, filter}

-- four numbers of 32 bits: graph, subject, predicate, object
pub record IsEntry (entry : List ℕ) : Type 0 where
  pub four : length entry ≡ 4
  pub fits : All (λ number. number < 2 ^ 32) entry

-- the entry as one number of 128 bits, of which its first number is the greatest part
abbrev pub number_of : List ℕ → ℕ
number_of entry = (slice_index_or entry 0 0 * 2 ^ 32 + slice_index_or entry 1 0) * 2 ^ 64
    + (slice_index_or entry 2 0 * 2 ^ 32 + slice_index_or entry 3 0)

-- whether `entry` stands before each list that begins with `prefix`; at a `prefix` of full length,
-- whether it is less
abbrev pub is_before : List ℕ → List ℕ → Bool
is_before entry [] = false
is_before [] (y ∷ ys) = true
is_before (x ∷ xs) (y ∷ ys) = cond (nat_lt x y) true (cond (x == y) (is_before xs ys) false)

-- whether `entry` begins with `prefix`
abbrev pub begins : List ℕ → List ℕ → Bool
begins [] entry = true
begins (y ∷ ys) [] = false
begins (y ∷ ys) (x ∷ xs) = cond (x == y) (begins ys xs) false

-- the entries that begin with `prefix`
abbrev pub beginning : List ℕ → List (List ℕ) → List (List ℕ)
beginning prefix entries = filter (begins prefix) entries

abbrev pub IsBeforeAll : List ℕ → List (List ℕ) → Type 0
IsBeforeAll x [] = Unit {0}
IsBeforeAll x (y ∷ ys) = (is_before x y ≡ true) × IsBeforeAll x ys

-- ascending, and so each entry once
abbrev pub IsAscending : List (List ℕ) → Type 0
IsAscending [] = Unit {0}
IsAscending (x ∷ xs) = IsBeforeAll x xs × IsAscending xs

-- what is left once the entries before `prefix` are gone
abbrev pub skip_before : List ℕ → List (List ℕ) → List (List ℕ)
skip_before prefix [] = []
skip_before prefix (x ∷ xs) = cond (is_before x prefix) (skip_before prefix xs) (x ∷ xs)

-- the entries at the front that begin with `prefix`
abbrev pub run_of : List ℕ → List (List ℕ) → List (List ℕ)
run_of prefix [] = []
run_of prefix (x ∷ xs) = cond (begins prefix x) (x ∷ run_of prefix xs) []

-- the entries before x
abbrev pub keep_before : List ℕ → List (List ℕ) → List (List ℕ)
keep_before x [] = []
keep_before x (y ∷ ys) = cond (is_before y x) (y ∷ keep_before x ys) []

-- the list with x in its place
abbrev pub with_entry : List ℕ → List (List ℕ) → List (List ℕ)
with_entry x xs = keep_before x xs ++ x ∷ skip_before x xs

-- the list without its first entry that isn't before x
abbrev pub without_entry : List ℕ → List (List ℕ) → List (List ℕ)
without_entry x xs = keep_before x xs ++ drop 1 (skip_before x xs)

-- the first of a list isn't x
abbrev pub IsNotFirst : List ℕ → List (List ℕ) → Type 0
IsNotFirst x [] = Unit {0}
IsNotFirst x (y ∷ ys) = y ≢ x

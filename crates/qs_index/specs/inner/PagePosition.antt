use Rattle.std.specs.Prelude.{◌≡◌, ℕ, ◌<◌, ◌≤◌, List, [], length, false, slice_index_or}
use Rattle.std.specs.List.{Contains}
use Rattle.qs_index.specs.inner.Layout.{joined, page_at, rest_at}
use Rattle.qs_index.specs.inner.Entry.{is_before, skip_before}

-- a place where x, which isn't among the entries, has to be put: those from there on are the ones
-- that aren't before it
pub record IsPlaceFor (x : List ℕ) (pages : List (List (List ℕ))) (page at : ℕ) : Type 0 where
  pub page_in : page < length pages
  pub at_in : at ≤ length (page_at pages page)
  pub before : rest_at pages page at ≡ skip_before x (joined pages)
  pub missing : ¬ Contains (joined pages) x

-- a place where x stands
pub record IsPlaceOf (x : List ℕ) (pages : List (List (List ℕ))) (page at : ℕ) : Type 0 where
  pub page_in : page < length pages
  pub at_in : at < length (page_at pages page)
  pub before : rest_at pages page at ≡ skip_before x (joined pages)
  pub stands : Contains (joined pages) x

-- an entry of a page, which isn't before the prefix
pub record IsReached (prefix : List ℕ) (pages : List (List (List ℕ))) (page at : ℕ)
    (entry : List ℕ) : Type 0 where
  pub at_in : at < length (page_at pages page)
  pub entry_is : entry ≡ slice_index_or (page_at pages page) at []
  pub reached : is_before entry prefix ≡ false

-- the first entry that isn't before the prefix, and where it stands
pub record IsFound (prefix : List ℕ) (pages : List (List (List ℕ))) (page at : ℕ)
    (entry : List ℕ) : Type 0 where
  pub page_in : page < length pages
  pub at_in : at < length (page_at pages page)
  pub before : rest_at pages page at ≡ skip_before prefix (joined pages)
  pub entry_is : entry ≡ slice_index_or (page_at pages page) at []

-- The index of kept rows: each row is in a bucket by the hash of its cells at the variables of a
-- key. What can't be compatible with a row is passed over.
use Rattle.std.specs.Prelude.{◌≡◌, ℕ, ◌+◌, ◌*◌, ◌/◌, ◌%◌, ◌^◌, ◌<◌, ◌≤◌, List, [], ◌∷◌, Option}
use Rattle.std.specs.Prelude.{None, Some, length, drop, slice_index_or, bit_and, bit_xor}
use Rattle.std.specs.Option.{option_map, option_and_then}
use Rattle.qs_expr.specs.declared.cell.Cell.{Cell}
use Rattle.qs_expr.specs.declared.cell.Cell.TheVariants.{Known, Scratch}
use Rattle.qs_ops_tables.specs.declared.index.Link.{Link}
use Rattle.qs_expr.specs.inner.Cell.{Cells, cell_at}
use Rattle.qs_ops_tables.specs.inner.Tables.{partners}

-- ---- hashes

-- the number by which a cell is hashed
abbrev pub number : Cell → ℕ
number (Known n) = n
number (Scratch k) = k

-- the hash of what a hash and a number say
unfoldable pub mix : ℕ → ℕ → ℕ
mix hash n = bit_xor hash n * 11400714819323198485 % 2 ^ 64

abbrev pub mix_cell : ℕ → Option Cell → Option ℕ
mix_cell hash None = None
mix_cell hash (Some c) = Some (mix hash (number c))

-- the hash that goes on over the row's cells at the variables; none where one of them is not bound
abbrev pub hash_from : ℕ → List ℕ → Cells → Option ℕ
hash_from hash [] m = Some hash
hash_from hash (v ∷ key) m = option_and_then (λ h. hash_from h key m) (mix_cell hash (cell_at m v))

-- the upper half of a hash
abbrev pub upper : ℕ → ℕ
upper hash = hash / 2 ^ 32

-- the hash of the row's cells at the variables of a key
abbrev pub key_hash : List ℕ → Cells → Option ℕ
key_hash key m = option_map upper (hash_from 0 key m)

-- the row's hash is this one, if there is one
abbrev pub IsHashOf : List ℕ → Option ℕ → Cells → Type 0
IsHashOf key None m = Unit {0}
IsHashOf key (Some hash) m = key_hash key m ≡ Some hash

-- ---- what is passed over

-- no row between the two places is compatible with one of this hash
pub record Passes (key : List ℕ) (hash : Option ℕ) (rows : List Cells) (from to : ℕ) : Type 0 where
  pub forward : from ≤ to
  pub same : (m : Cells) → IsHashOf key hash m → partners (drop from rows) m ≡ partners
      (drop to rows) m

-- nor with one whose hash is in this bucket
pub record Skips (key : List ℕ) (mask bucket : ℕ) (rows : List Cells) (from to : ℕ) : Type 0 where
  pub forward : from ≤ to
  pub same : (m : Cells) (hash : ℕ) → key_hash key m ≡ Some hash → bit_and hash mask ≡ bucket
      → partners (drop from rows) m ≡ partners (drop to rows) m

-- ---- buckets

abbrev pub no_link : Link
no_link = record { hash = 0; next = 0 }

abbrev pub link_at : List Link → ℕ → Link
link_at links k = slice_index_or links k no_link

abbrev pub row_at : List Cells → ℕ → Cells
row_at rows k = slice_index_or rows k []

abbrev pub head_at : List ℕ → ℕ → ℕ
head_at heads b = slice_index_or heads b 0

-- the link at k has the hash of the row, and leads to the next row of its bucket
pub record IsLink (key : List ℕ) (mask : ℕ) (rows : List Cells) (links : List Link) (k : ℕ) : Type
    0 where
  pub hash : key_hash key (row_at rows k) ≡ Some (link_at links k).hash
  pub next : Skips key mask (bit_and (link_at links k).hash mask) rows (k + 1)
      (link_at links k).next

-- from this place on: where each bucket begins, and the links of the rows
pub record IsIndexFrom (key : List ℕ) (mask : ℕ) (rows : List Cells) (heads : List ℕ)
    (links : List Link) (i : ℕ) : Type 0 where
  pub within : i ≤ length rows
  pub buckets : length heads ≡ mask + 1
  pub links_all : length links ≡ length rows
  pub heads_skip : (b : ℕ) → b < length heads → Skips key mask b rows i (head_at heads b)
  pub each_link : (k : ℕ) → i ≤ k → k < length rows → IsLink key mask rows links k

-- the same of all rows, as far as there are buckets and links
pub record IsIndex (key : List ℕ) (mask : ℕ) (rows : List Cells) (heads : List ℕ)
    (links : List Link) : Type 0 where
  pub heads_skip : (b : ℕ) → b < length heads → Skips key mask b rows 0 (head_at heads b)
  pub each_link : (k : ℕ) → k < length links → k < length rows → IsLink key mask rows links k

-- ---- what a row meets

-- no row from here on is compatible
pub record MeetsNone (key : List ℕ) (hash : Option ℕ) (rows : List Cells) (at : ℕ) : Type 0 where
  pub none : (m : Cells) → IsHashOf key hash m → partners (drop at rows) m ≡ []

-- the first row from here on that may be compatible is r, and the others are those from another
-- place on
pub record Meets (key : List ℕ) (hash : Option ℕ) (rows : List Cells) (at : ℕ) (r : Cells)
    (to : ℕ) : Type 0 where
  pub within : at < length rows
  pub forward : at < to
  pub same : (m : Cells) → IsHashOf key hash m → partners (drop at rows) m ≡ partners
      (r ∷ drop to rows) m

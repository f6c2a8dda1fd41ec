-- The pages of an order in blocks.
use Rattle.std.specs.Prelude.{min, ℕ, ◌≡◌, ◌+◌, ◌-◌, ◌*◌, ◌≤◌, zero, suc, List, [], ◌∷◌, ◌++◌}
use Rattle.std.specs.Prelude.{length, slice_index_or}

-- a list of pages, and how many it has room for
pub record PageBlock : Type 0 where
  pub items : List (List (List ℕ))
  pub room : ℕ

-- the pages of all blocks, one block after another
abbrev pub flat : List (List (List (List ℕ))) → List (List (List ℕ))
flat [] = []
flat (block ∷ blocks) = block ++ flat blocks

abbrev pub block_at : List (List (List (List ℕ))) → ℕ → List (List (List ℕ))
block_at blocks k = slice_index_or blocks k []

-- what holds of the list of a block, and of its room
pub record IsBlock (pages : List (List (List ℕ))) (capacity : ℕ) : Type 0 where
  pub most : length pages ≤ 256
  pub room : 256 ≤ capacity

-- one where the numbers are equal, as block k has a gap
abbrev pub gap_at : ℕ → ℕ → ℕ
gap_at zero zero = 1
gap_at zero (suc k) = 0
gap_at (suc j) zero = 0
gap_at (suc j) (suc k) = gap_at j k

-- n pages fill one block after another, where one page more stands in block k
abbrev pub HasGap : List (List (List (List ℕ))) → ℕ → ℕ → Type 0
HasGap blocks k n = (j : ℕ) → length (block_at blocks j) + gap_at j k ≡ min 256 (n - 256 * j)

-- what holds of the blocks and of the count of their pages: each block is full but the last with
-- pages
pub record IsTiered (blocks : List (List (List (List ℕ)))) (count : ℕ) : Type 0 where
  pub filled : (j : ℕ) → length (block_at blocks j) ≡ min 256 (count - 256 * j)
  pub counted : count ≡ length (flat blocks)
  pub fits : count ≤ 256 * length blocks

-- Values in the order of their hashes, and where these are equal in their own.
use Rattle.std.specs.Prelude.{ℕ, List}
use Rattle.std.specs.List.{fold}
use Rattle.std.specs.Hash.FoldHasher as folding

-- the hash of what a value gives to a hasher, piece by piece
unfoldable pub hash_of : List (List ℕ) → ℕ
hash_of pieces = folding.finish (fold folding.write folding.initial pieces)

-- How many places of an order come first, up to the last one that is given.
use Rattle.std.specs.Prelude.{ℕ, ◌+◌, Option, Some, None}
use Rattle.qs_index.specs.declared.permutation.Permutation.{Permutation}
use Rattle.qs_index.specs.declared.permutation.Permutation.TheVariants.{Gspo, Gpos, Gosp, Spog}
use Rattle.qs_index.specs.declared.permutation.Permutation.TheVariants.{Posg, Ospg}

-- how many of three places come first, up to the last one that is given
abbrev pub depth_of : Option ℕ → Option ℕ → Option ℕ → ℕ
depth_of first second (Some n) = 3
depth_of first (Some n) None = 2
depth_of (Some n) None None = 1
depth_of None None None = 0

-- how many places of an order come first, up to the last of the subject, predicate and object that
-- are given
abbrev pub depth : Permutation → Option ℕ → Option ℕ → Option ℕ → ℕ
depth Gspo subject predicate object = 1 + depth_of subject predicate object
depth Gpos subject predicate object = 1 + depth_of predicate object subject
depth Gosp subject predicate object = 1 + depth_of object subject predicate
depth Spog subject predicate object = depth_of subject predicate object
depth Posg subject predicate object = depth_of predicate object subject
depth Ospg subject predicate object = depth_of object subject predicate

-- Labels with their numbers, whichever map has them.
use Rattle.std.specs.Prelude.{ℕ, List}
use Rattle.qs_nquads.specs.declared.label_map.LabelMap.{LabelMap}
use Rattle.qs_nquads.specs.declared.label_map.LabelMap.TheVariants.{Hashed, Ordered}

abbrev pub numbers_of : LabelMap → List (List ℕ × ℕ)
numbers_of (Hashed es) = es
numbers_of (Ordered es) = es

-- Lists read as sets, as the layers above speak of what is stored.
use Rattle.std.specs.Prelude.{List, ◌↔◌}
use Rattle.std.specs.List.{Contains}

-- the same elements stand in both
abbrev pub SameSet : {X : Type 0} → List X → List X → Type 0
SameSet {X} xs ys = (x : X) → Contains xs x ↔ Contains ys x

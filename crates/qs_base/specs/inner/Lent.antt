-- Lists of borrowed values.
use Rattle.std.specs.Prelude.{List, map}
use Rattle.std.specs.Borrow.{Bor}

-- the values that are borrowed
abbrev pub lent : {X : Type 0} → List (Bor X) → List X
lent xs = map (λ x. x.now) xs

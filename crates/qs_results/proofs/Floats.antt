-- What is written has no float.
use Rattle.std.proofs.Common.{◌≡◌, ℕ, List, [], ◌∷◌, false, map, refl}
use Rattle.serde_json.specs.Data.{string}
use Rattle.serde_json.specs.View.{items_of}
use Rattle.serde_json.specs.Written.{items_have_float}

pub names_without_float : (names : List (List ℕ)) → items_have_float (items_of (map string names)) ≡ false
names_without_float [] = refl
names_without_float (name ∷ names) = names_without_float names

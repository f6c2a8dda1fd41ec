-- Words over those of `Trees`, for proofs and the layers between.
use Rattle.std.specs.Prelude.{List, [], ◌∷◌, map}

abbrev pub singles : {A : Type 0} → List A → List (List A)
singles xs = map (λ x. x ∷ []) xs

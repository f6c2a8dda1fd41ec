-- Outcomes whose items are taken up one by one into what was made before.
use Rattle.std.specs.Prelude.{List, [], ◌∷◌, ◌++◌, fold, Option, Some, None, Ok}
use Rattle.std.specs.List.{filter_map, flat_map}
use Rattle.qs_syntax_grammar.specs.inner.Reading.{Outcome, and_then}

-- the items taken up into what was made before
abbrev pub into : {T A B : Type 0} → (B → A → B) → B → Outcome T (List A) → Outcome T B
into f made o = and_then o (λ xs s. Ok (fold f made xs, s))

-- an item put after the others
abbrev pub push : {A : Type 0} → List A → A → List A
push found x = found ++ x ∷ []

-- an item that is there put after the others
abbrev pub keep : {A : Type 0} → List A → Option A → List A
keep found None = found
keep found (Some x) = found ++ x ∷ []

-- those that are there
abbrev pub kept : {A : Type 0} → List (Option A) → List A
kept xs = filter_map (λ x. x) xs

abbrev pub joined : {A : Type 0} → List (List A) → List A
joined xs = flat_map (λ x. x) xs

-- Elements at the front of a list that are skipped.
use Rattle.std.specs.Prelude.{◌≡◌, ℕ, true, List, ◌++◌, Option}
use Rattle.std.specs.List.{AllByRecursion}
use Rattle.qs_index.specs.inner.Agreeing.{agrees_anywhere}

-- some elements at the front are skipped, of all of which P holds, and no other one
pub record IsSkipped {X : Type 0} (P : X → Type 0) (old new : List X) : Type 0 where
  pub skipped : List X
  pub are : old ≡ skipped ++ new
  pub each : AllByRecursion P skipped

-- the entries that are skipped have the subject, predicate and object that are given
abbrev pub SkipsAgreeing :
    Option ℕ → Option ℕ → Option ℕ → List (List ℕ) → List (List ℕ) → Type 0
SkipsAgreeing subject predicate object old new =
    IsSkipped (λ x. agrees_anywhere subject predicate object x ≡ true) old new

-- What a step of an endpoint does to the replies that stand.
use Rattle.std.specs.Prelude.{◌≡◌, ◌≢◌, ℕ, List, Option, Some}

-- each reply that stands stays
pub record KeepsReplies (old new : ℕ → Option (List ℕ)) : Type 0 where
  pub kept : (k : ℕ) → (reply : List ℕ) → old k ≡ Some reply → new k ≡ Some reply

-- each reply that stands for another id stays
pub record KeepsOthers (id : ℕ) (old new : ℕ → Option (List ℕ)) : Type 0 where
  pub kept : (k : ℕ) → k ≢ id → (reply : List ℕ) → old k ≡ Some reply → new k ≡ Some reply

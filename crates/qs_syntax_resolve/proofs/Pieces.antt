-- Pieces that begin beyond the greatest number.
use Rattle.std.proofs.Common.{◌≡◌, ℕ, ◌-◌, ◌≤◌, ◌⊎◌, inl, inr, List, [], min, sym, arith}
use Rattle.std.proofs.Math.Nat.{min-eq_left, min-eq_right}
use Rattle.std.proofs.lemmas.Bool.Decides.{nat_tests}
use Rattle.qs_syntax_resolve.proofs.Either.{either}
use Rattle.qs_lex_escapes.specs.Piece.{piece}

-- nothing is from a place to one before it
empty : (text : List ℕ) (i j : ℕ) → j ≤ i → piece text i j ≡ []
unfolding piece
empty text i j h = let n : j - i ≡ 0 = omega arith in rw n grind (arith, nat_tests)

by_bound : (text : List ℕ) (i j bound : ℕ) → j ≤ bound → (i ≤ bound) ⊎ (bound ≤ i) → piece text (min i bound) j ≡ piece text i j
by_bound text i j bound h (inl l) = rw (min-eq_left l)
by_bound text i j bound h (inr l) = rw (min-eq_right l, empty text bound j h) (sym (empty text i j (omega arith)))

-- a start beyond the greatest number is as good as the greatest number
pub bounded : (text : List ℕ) (i j bound : ℕ) → j ≤ bound → piece text (min i bound) j ≡ piece text i j
bounded text i j bound h = by_bound text i j bound h (either i bound)

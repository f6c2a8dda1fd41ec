use Rattle.std.proofs.Common.{◌≡◌, ℕ, ◌+◌, zero, suc, None, [], ◌∷◌, ◌++◌, refl, ap, add-one, sym}
use Rattle.qs_algebra_solutions.specs.Solution.{unbound}

suc_more : (n : ℕ) → unbound n ++ None ∷ [] ≡ unbound (suc n)
suc_more zero = refl
suc_more (suc n) = ap (λ m. None ∷ m) (suc_more n)

-- one variable more
pub unbound_more : (n : ℕ) → unbound (n + 1) ≡ unbound n ++ None ∷ []
unbound_more n = rw add-one (sym (suc_more n))

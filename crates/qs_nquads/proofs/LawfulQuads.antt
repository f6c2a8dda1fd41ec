-- Quads up to a place, and one more.
use Rattle.std.proofs.Common.{◌≡◌, ℕ, zero, suc, ◌+◌, ◌<◌, List, [], ◌∷◌, length, take, get_or, sym, subst, arith}
use Rattle.qs_terms.specs.Statement.{Statement}
use Rattle.qs_nquads.specs.inner.Renumbered.{IsQuad, AreQuads}

pub one_more : (qs : List Statement) (i : ℕ) (d : Statement) → i < length qs → AreQuads (take i qs) → IsQuad (get_or qs i d) → AreQuads (take (i + 1) qs)
one_more [] i d h a q = absurd (omega arith)
one_more (r ∷ rs) zero d h a q = (q, tt)
one_more (r ∷ rs) (suc i) d h a q =
    let n : suc i + 1 ≡ suc (i + 1) = omega arith in subst (λ k. AreQuads (take k (r ∷ rs))) (sym n) (a.0, one_more rs i d (omega arith) a.1 q)

-- Maps from terms that are lent to their numbers, and links between numbers.
use Rattle.std.proofs.Common.{◌≡◌, ℕ, zero, suc, ◌+◌, ◌<◌, List, [], ◌∷◌, ◌++◌, length, get_or, set, ◌∙◌, ap, arith}
use Rattle.std.specs.Prelude.{Vec}
use Rattle.qs_paths_meaning.specs.inner.Links.{put_at, rows_of}

-- ---- pairs

-- rows of numbers
pub rows_put : {Z : Type 0} (next : List (Vec ℕ Z)) (at n : ℕ) (v w : Vec ℕ Z) → at < length next → v ≡ get_or next at v → w.items ≡ v.items ++ n ∷ [] → rows_of (set next at w) ≡ put_at (rows_of next) at n
rows_put [] at n v w lt is e = absurd (omega (arith, lt))
rows_put (u ∷ next) zero n v w lt is e = ap (λ l. l ∷ rows_of next) (e ∙ ap (λ (z : Vec ℕ _). z.items ++ n ∷ []) is)
rows_put (u ∷ next) (suc at) n v w lt is e = ap (λ l. u.items ∷ l) (rows_put next at n v w (omega (arith, lt)) is e)

pub row_is : {Z : Type 0} (next : List (Vec ℕ Z)) (at : ℕ) (v : Vec ℕ Z) → at < length next → v ≡ get_or next at v → v.items ≡ get_or (rows_of next) at []
row_is [] at v lt is = absurd (omega (arith, lt))
row_is (u ∷ next) zero v lt is = ap (λ (z : Vec ℕ _). z.items) is
row_is (u ∷ next) (suc at) v lt is = row_is next at v (omega (arith, lt)) is

-- One more place of a comparison.
use Rattle.std.proofs.Common.{◌≡◌, ℕ, ◌+◌, ◌<◌, ◌≤◌, true, false, cond, eqb, List, length, get_or, drop, refl}
use Rattle.std.proofs.lemmas.List.{drop_more, drop_all}
use Rattle.qs_index.specs.inner.Entry.{begins}

pub begins-more : (ys xs : List ℕ) (k : ℕ) → k < length xs → k < length ys → begins (drop k ys) (drop k xs) ≡ cond (eqb (get_or xs k 0) (get_or ys k 0)) (begins (drop (k + 1) ys) (drop (k + 1) xs)) false
begins-more ys xs k p q = rw (drop_more xs k 0 p, drop_more ys k 0 q) refl

pub begins-all : (ys xs : List ℕ) (k : ℕ) → length ys ≤ k → begins (drop k ys) (drop k xs) ≡ true
begins-all ys xs k p = rw (drop_all k ys p) refl

pub ruleset compare_steps = (begins-more, begins-all)

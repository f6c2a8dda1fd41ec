-- Lent elements, one more.
use Rattle.std.proofs.Common.{◌≡◌, ℕ, ◌+◌, ◌<◌, List, [], ◌∷◌, ◌++◌, length, take, get_or, map, sym, ◌∙◌, ap}
use Rattle.std.specs.Borrow.{Bor}
use Rattle.std.proofs.lemmas.List.{map-append, take_more}
use Rattle.qs_base.specs.inner.Lent.{lent}

pub lent_more : {X Y : Type 0} (f : X → Y) (xs ys : List (Bor X)) (x : Bor X) → ys ≡ xs ++ x ∷ [] → map f (lent ys) ≡ map f (lent xs) ++ f x.now ∷ []
lent_more {X} f xs ys x e =
    ap (λ l. map f (lent l)) e ∙ (ap (map f) (map-append (λ (r : Bor X). r.now) xs (x ∷ [])) ∙ map-append f (lent xs) (x.now ∷ []))

-- one element more
pub lent_taken_more : {X Y : Type 0} (f : X → Y) (xs : List (Bor X)) (i : ℕ) (x : Bor X) → i < length xs → x ≡ get_or xs i x → map f (lent (take (i + 1) xs)) ≡ map f (lent (take i xs)) ++ f x.now ∷ []
lent_taken_more f xs i x lt is = lent_more f (take i xs) (take (i + 1) xs) x (take_more xs i x lt ∙ ap (λ r. take i xs ++ r ∷ []) (sym is))

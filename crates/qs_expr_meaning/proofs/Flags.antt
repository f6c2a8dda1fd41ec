-- Where a part takes memory, the whole does.
use Rattle.std.proofs.Common.{◌≡◌, ℕ, zero, suc, ◌<◌, Bool, true, false, ◌||◌, List, [], ◌∷◌, map, length, get_or, refl, ap, sym, ◌∙◌, arith}
use Rattle.qs_expr_meaning.specs.inner.Makes.{some}

pub first_of_two : (a b : Bool) → a ≡ true → (a || b) ≡ true
first_of_two a b h = ap (λ x. x || b) h

pub second_of_two : (a b : Bool) → b ≡ true → (a || b) ≡ true
second_of_two true b h = refl
second_of_two false b h = h

pub some_at : {X : Type 0} (f : X → Bool) (xs : List X) (i : ℕ) (x : X) → i < length xs → x ≡ get_or xs i x → f x ≡ true → some (map f xs) ≡ true
some_at f [] i x l e h = absurd (omega arith)
some_at f (y ∷ ys) zero x l e h = first_of_two (f y) (some (map f ys)) (ap f (sym e) ∙ h)
some_at f (y ∷ ys) (suc i) x l e h = second_of_two (f y) (some (map f ys)) (some_at f ys i x (omega arith) e h)

-- Elements of which something is made or nothing, one more.
use Rattle.std.proofs.Common.{◌≡◌, ℕ, ◌+◌, ◌<◌, List, [], ◌∷◌, ◌++◌, length, take, get_or, Option, Some, None, refl, sym, ap, ◌∙◌}
use Rattle.std.specs.List.{filter_map, cons_option}
use Rattle.std.proofs.lemmas.List.{take_more, append-nil}

module _ {X Y : Type 0} (f : X → Option Y) where
  behind : (x : Option Y) (a b : List Y) → cons_option x (a ++ b) ≡ cons_option x a ++ b
  behind None a b = refl
  behind (Some y) a b = refl

  both : (xs ys : List X) → filter_map f (xs ++ ys) ≡ filter_map f xs ++ filter_map f ys
  both [] ys = refl
  both (x ∷ xs) ys = ap (cons_option (f x)) (both xs ys) ∙ behind (f x) (filter_map f xs) (filter_map f ys)

  more : (xs : List X) (i : ℕ) (x : X) → i < length xs → x ≡ get_or xs i x → filter_map f (take (i + 1) xs) ≡ filter_map f (take i xs) ++ cons_option (f x) []
  more xs i x lt is = ap (filter_map f) (take_more xs i x lt ∙ ap (λ y. take i xs ++ y ∷ []) (sym is)) ∙ both (take i xs) (x ∷ [])

  -- the next one makes something
  pub kept_more : (xs : List X) (i : ℕ) (x : X) (y : Y) → i < length xs → x ≡ get_or xs i x → Some y ≡ f x → filter_map f (take (i + 1) xs) ≡ filter_map f (take i xs) ++ y ∷ []
  kept_more xs i x y lt is h = more xs i x lt is ∙ ap (λ o. filter_map f (take i xs) ++ cons_option o []) (sym h)

  -- or nothing
  pub kept_less : (xs : List X) (i : ℕ) (x : X) → i < length xs → x ≡ get_or xs i x → None ≡ f x → filter_map f (take (i + 1) xs) ≡ filter_map f (take i xs)
  kept_less xs i x lt is h = more xs i x lt is ∙ (ap (λ o. filter_map f (take i xs) ++ cons_option o []) (sym h) ∙ append-nil (filter_map f (take i xs)))

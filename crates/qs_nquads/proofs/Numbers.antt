-- The map of the labels finds what contracts see of it, and keeps a new label last.
use Rattle.std.proofs.Common.{◌≡◌, ℕ, Bool, true, false, cond, List, [], ◌∷◌, ◌++◌, Option, Some, None, All, subst, sym, refl, ap, ◌∙◌, true≢false}
use Rattle.std.specs.Str.{bytes_eq}
use Rattle.std.specs.Map.{lookup, values_of}
use Rattle.std.proofs.lemmas.List.{map-append}
use Rattle.std.proofs.lemmas.List.Elements.{All-push}
use Rattle.std.proofs.lemmas.Slice.Eq.{bytes_eq-Decides}
use Rattle.qs_nquads.specs.inner.Entries.{seen}

pub looked_up : {K : Type 0} (bytes : K → List ℕ) (label : List ℕ) (es : List (K × ℕ)) → lookup (λ k. bytes_eq label (bytes k)) es ≡ lookup (bytes_eq label) (seen bytes es)
looked_up bytes label [] = refl
looked_up bytes label (e ∷ es) = rw (looked_up bytes label es) refl

pub seen_last : {K : Type 0} (bytes : K → List ℕ) (es : List (K × ℕ)) (k : K) (v : ℕ) → seen bytes (es ++ (k, v) ∷ []) ≡ seen bytes es ++ (bytes k, v) ∷ []
seen_last bytes es k v = map-append (λ e. (bytes e.0, e.1)) es ((k, v) ∷ [])

-- what holds of the numbers, and of one more, holds after it
pub values_last : (P : ℕ → Type 0) (es : List (List ℕ × ℕ)) (label : List ℕ) (v : ℕ) → All P (values_of es) → P v → All P (values_of (es ++ (label, v) ∷ []))
values_last P es label v h p = subst (All P) (sym (map-append (λ e. e.1) es ((label, v) ∷ []))) (All-push P (values_of es) v h p)

-- ---- what is found after a new key that is put last

swapped : (b : Bool) (q k e : List ℕ) (v w : ℕ) (rest : Option ℕ) → bytes_eq q e ≡ b → bytes_eq k e ≡ false → cond b (Some w) (cond (bytes_eq q k) (Some v) rest) ≡ cond (bytes_eq q k) (Some v) (cond b (Some w) rest)
swapped false q k e v w rest h n = refl
swapped true q k e v w rest h n = by (bytes_eq q k) refl where
  by : (c : Bool) → bytes_eq q k ≡ c → Some w ≡ cond c (Some v) (Some w)
  by true g = absurd (true≢false (sym (subst (λ z. bytes_eq z e ≡ true) ((bytes_eq-Decides q k).0 g) h) ∙ n))
  by false g = refl

head_new : (k : List ℕ) (e : List ℕ × ℕ) (es : List (List ℕ × ℕ)) (b : Bool) → bytes_eq k e.0 ≡ b → cond b (Some e.1) (lookup (bytes_eq k) es) ≡ None → (bytes_eq k e.0 ≡ false) × (lookup (bytes_eq k) es ≡ None)
head_new k e es true h n = cc
head_new k e es false h n = (h, n)

pub put_last : (es : List (List ℕ × ℕ)) (k : List ℕ) (v : ℕ) (q : List ℕ) → lookup (bytes_eq k) es ≡ None → lookup (bytes_eq q) (es ++ (k, v) ∷ []) ≡ cond (bytes_eq q k) (Some v) (lookup (bytes_eq q) es)
put_last [] k v q n = refl
put_last (e ∷ es) k v q n =
    let h = head_new k e es (bytes_eq k e.0) refl n in
    ap (λ z. cond (bytes_eq q e.0) (Some e.1) z) (put_last es k v q h.1) ∙ swapped (bytes_eq q e.0) q k e.0 v e.1 (lookup (bytes_eq q) es) refl h.0

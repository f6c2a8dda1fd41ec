-- Texts in UTF-8 stand in the order of their bytes as in that of their code points.
use Rattle.std.proofs.Common.{◌≡◌, ℕ, ◌+◌, ◌*◌, ◌/◌, ◌<◌, ◌≤◌, Bool, true, false, cond, eqb, ltb, ◌⊎◌, inl, inr, List, [], ◌∷◌, ◌++◌, refl, sym, ap, ◌∙◌, arith, ltb-true, ltb-false, lt-ltb, le-ltb}
use Rattle.std.specs.declared.cmp.Ordering.{Ordering}
use Rattle.std.specs.declared.cmp.Ordering.TheVariants.{Less, Equal, Greater}
use Rattle.std.specs.Ordering.{nat_cmp, ordering_then, ordering_reverse}
use Rattle.std.specs.Cmp.Lexicographic.{slice_cmp}
use Rattle.std.specs.Str.{IsUtf8, chars}
use Rattle.std.proofs.lemmas.Cmp.{nat_cmp_total, nat_list_cmp_total, tied_itself}
use Rattle.std.proofs.lemmas.Str.{encode_ascii, encodes-chars}
use lib.Utf8.{next, encode, encodes}

-- ---- the bytes of a character

abbrev Follows : ℕ → Type 0
Follows b = (128 ≤ b) × (b < 192)

-- the first byte says how many follow, and together they say the character
data Shape (c : ℕ) : Type 0 where
  of1 : c < 128 → encode c ≡ c ∷ [] → Shape c
  of2 : (a b : ℕ) → 128 ≤ c → 192 ≤ a → a < 224 → Follows b → c + 12416 ≡ a * 64 + b → encode c ≡ a ∷ b ∷ [] → Shape c
  of3 : (a b d : ℕ) → 2048 ≤ c → 224 ≤ a → a < 240 → Follows b → Follows d → c + 925824 ≡ a * 4096 + b * 64 + d → encode c ≡ a ∷ b ∷ d ∷ [] → Shape c
  of4 : (a b d e : ℕ) → 65536 ≤ c → 240 ≤ a → Follows b → Follows d → Follows e → c + 63447168 ≡ a * 262144 + b * 4096 + d * 64 + e → encode c ≡ a ∷ b ∷ d ∷ e ∷ [] → Shape c

follows : (x : ℕ) → Follows (next x)
follows x = (omega arith, omega arith)

taken : (m n : ℕ) (x y : List ℕ) → m < n → cond (ltb m n) x y ≡ x
taken m n x y h = ap (λ b. cond b x y) (lt-ltb m n h)

passed : (m n : ℕ) (x y : List ℕ) → n ≤ m → cond (ltb m n) x y ≡ y
passed m n x y h = ap (λ b. cond b x y) (le-ltb m n h)

two : (c : ℕ) → 128 ≤ c → c < 2048 → encode c ≡ (192 + c / 64) ∷ next c ∷ []
unfolding encode
two c l h = passed c 128 _ _ l ∙ taken c 2048 _ _ h

three : (c : ℕ) → 2048 ≤ c → c < 65536 → encode c ≡ (224 + c / 4096) ∷ next (c / 64) ∷ next c ∷ []
unfolding encode
three c l h = passed c 128 _ _ (omega arith) ∙ (passed c 2048 _ _ l ∙ taken c 65536 _ _ h)

four : (c : ℕ) → 65536 ≤ c → encode c ≡ (240 + c / 262144) ∷ next (c / 4096) ∷ next (c / 64) ∷ next c ∷ []
unfolding encode
four c l = passed c 128 _ _ (omega arith) ∙ (passed c 2048 _ _ (omega arith) ∙ passed c 65536 _ _ l)

side : (m n : ℕ) → (m < n) ⊎ (n ≤ m)
side m n = by (ltb m n) refl
  where
    by : (b : Bool) → ltb m n ≡ b → (m < n) ⊎ (n ≤ m)
    by true e = inl (ltb-true m n e)
    by false e = inr (ltb-false m n e)

shape : (c : ℕ) → Shape c
shape c = by (side c 128) (side c 2048) (side c 65536)
  where
    by : (c < 128) ⊎ (128 ≤ c) → (c < 2048) ⊎ (2048 ≤ c) → (c < 65536) ⊎ (65536 ≤ c) → Shape c
    by (inl h) _ _ = of1 h (encode_ascii c h)
    by (inr l) (inl h) _ = of2 (192 + c / 64) (next c) l (omega arith) (omega arith) (follows c) (omega arith) (two c l h)
    by (inr _) (inr l) (inl h) = of3 (224 + c / 4096) (next (c / 64)) (next c) l (omega arith) (omega arith) (follows (c / 64)) (follows c) (omega arith) (three c l h)
    by (inr _) (inr _) (inr l) = of4 (240 + c / 262144) (next (c / 4096)) (next (c / 64)) (next c) l (omega arith) (follows (c / 4096)) (follows (c / 64)) (follows c) (omega arith) (four c l)

-- ---- a smaller character has smaller bytes

abbrev order : List ℕ → List ℕ → Ordering
order = slice_cmp nat_cmp

abbrev Before : List ℕ → List ℕ → Type 0
Before x y = order x y ≡ Less

less : (a b : ℕ) → a < b → nat_cmp a b ≡ Less
less a b h = ap (λ t. cond t Less (cond (eqb a b) Equal Greater)) (lt-ltb a b h)

here : (a b : ℕ) (x y : List ℕ) → a < b → Before (a ∷ x) (b ∷ y)
here a b x y h = ap (λ o. ordering_then o (order x y)) (less a b h)

past : (a b : ℕ) (x y : List ℕ) → a ≡ b → Before x y → Before (a ∷ x) (b ∷ y)
past a b x y e h = ap (λ o. ordering_then o (order x y)) (ap (nat_cmp a) (sym e) ∙ tied_itself nat_cmp_total a) ∙ h

before2 : (a b c d : ℕ) (x y : List ℕ) → Follows b → Follows d → a * 64 + b < c * 64 + d → Before (a ∷ b ∷ x) (c ∷ d ∷ y)
before2 a b c d x y p q h = by (side a c)
  where
    by : (a < c) ⊎ (c ≤ a) → Before (a ∷ b ∷ x) (c ∷ d ∷ y)
    by (inl l) = here a c (b ∷ x) (d ∷ y) l
    by (inr l) = past a c (b ∷ x) (d ∷ y) (omega arith) (here b d x y (omega arith))

before3 : (a b e c d f : ℕ) (x y : List ℕ) → Follows b → Follows e → Follows d → Follows f → a * 4096 + b * 64 + e < c * 4096 + d * 64 + f → Before (a ∷ b ∷ e ∷ x) (c ∷ d ∷ f ∷ y)
before3 a b e c d f x y p q r s h = by (side a c)
  where
    by : (a < c) ⊎ (c ≤ a) → Before (a ∷ b ∷ e ∷ x) (c ∷ d ∷ f ∷ y)
    by (inl l) = here a c (b ∷ e ∷ x) (d ∷ f ∷ y) l
    by (inr l) = past a c (b ∷ e ∷ x) (d ∷ f ∷ y) (omega arith) (before2 b e d f x y q s (omega arith))

before4 : (a b e k c d f m : ℕ) (x y : List ℕ) → Follows b → Follows e → Follows k → Follows d → Follows f → Follows m → a * 262144 + b * 4096 + e * 64 + k < c * 262144 + d * 4096 + f * 64 + m → Before (a ∷ b ∷ e ∷ k ∷ x) (c ∷ d ∷ f ∷ m ∷ y)
before4 a b e k c d f m x y p q r s t u h = by (side a c)
  where
    by : (a < c) ⊎ (c ≤ a) → Before (a ∷ b ∷ e ∷ k ∷ x) (c ∷ d ∷ f ∷ m ∷ y)
    by (inl l) = here a c (b ∷ e ∷ k ∷ x) (d ∷ f ∷ m ∷ y) l
    by (inr l) = past a c (b ∷ e ∷ k ∷ x) (d ∷ f ∷ m ∷ y) (omega arith) (before3 b e k d f m x y q r t u (omega arith))

spelt : (c d : ℕ) (p q x y : List ℕ) → encode c ≡ p → encode d ≡ q → Before (p ++ x) (q ++ y) → Before (encode c ++ x) (encode d ++ y)
spelt c d p q x y e f h = (λ i. order (e i ++ x) (f i ++ y)) ∙ h

by_shapes : (c d : ℕ) (x y : List ℕ) → Shape c → Shape d → c < d → Before (encode c ++ x) (encode d ++ y)
by_shapes c d x y (of1 h e) (of1 k f) l = spelt c d _ _ x y e f (here c d x y l)
by_shapes c d x y (of1 h e) (of2 m n k lo hi p v f) l = spelt c d _ _ x y e f (here c m x (n ∷ y) (omega arith))
by_shapes c d x y (of1 h e) (of3 m n o k lo hi p q v f) l = spelt c d _ _ x y e f (here c m x (n ∷ o ∷ y) (omega arith))
by_shapes c d x y (of1 h e) (of4 m n o r k lo p q s v f) l = spelt c d _ _ x y e f (here c m x (n ∷ o ∷ r ∷ y) (omega arith))
by_shapes c d x y (of2 a b h lo hi p v e) (of1 k f) l = absurd (omega arith)
by_shapes c d x y (of2 a b h lo hi p v e) (of2 m n k lo' hi' p' v' f) l = spelt c d _ _ x y e f (before2 a b m n x y p p' (omega arith))
by_shapes c d x y (of2 a b h lo hi p v e) (of3 m n o k lo' hi' p' q' v' f) l = spelt c d _ _ x y e f (here a m (b ∷ x) (n ∷ o ∷ y) (omega arith))
by_shapes c d x y (of2 a b h lo hi p v e) (of4 m n o r k lo' p' q' s' v' f) l = spelt c d _ _ x y e f (here a m (b ∷ x) (n ∷ o ∷ r ∷ y) (omega arith))
by_shapes c d x y (of3 a b g h lo hi p q v e) (of1 k f) l = absurd (omega arith)
by_shapes c d x y (of3 a b g h lo hi p q v e) (of2 m n k lo' hi' p' v' f) l = absurd (omega arith)
by_shapes c d x y (of3 a b g h lo hi p q v e) (of3 m n o k lo' hi' p' q' v' f) l = spelt c d _ _ x y e f (before3 a b g m n o x y p q p' q' (omega arith))
by_shapes c d x y (of3 a b g h lo hi p q v e) (of4 m n o r k lo' p' q' s' v' f) l = spelt c d _ _ x y e f (here a m (b ∷ g ∷ x) (n ∷ o ∷ r ∷ y) (omega arith))
by_shapes c d x y (of4 a b g j h lo p q s v e) (of1 k f) l = absurd (omega arith)
by_shapes c d x y (of4 a b g j h lo p q s v e) (of2 m n k lo' hi' p' v' f) l = absurd (omega arith)
by_shapes c d x y (of4 a b g j h lo p q s v e) (of3 m n o k lo' hi' p' q' v' f) l = absurd (omega arith)
by_shapes c d x y (of4 a b g j h lo p q s v e) (of4 m n o r k lo' p' q' s' v' f) l = spelt c d _ _ x y e f (before4 a b g j m n o r x y p q s p' q' s' (omega arith))

before : (c d : ℕ) (x y : List ℕ) → c < d → Before (encode c ++ x) (encode d ++ y)
before c d x y l = by_shapes c d x y (shape c) (shape d) l

-- ---- texts

alike : (p x y : List ℕ) → order (p ++ x) (p ++ y) ≡ order x y
alike [] x y = refl
alike (c ∷ p) x y = ap (λ o. ordering_then o (order (p ++ x) (p ++ y))) (tied_itself nat_cmp_total c) ∙ alike p x y

one_more : (c d : ℕ) (x y : List ℕ) → order (encode c ++ x) (encode d ++ y) ≡ ordering_then (nat_cmp c d) (order x y)
one_more c d x y = by (side c d) (side d c)
  where
    by : (c < d) ⊎ (d ≤ c) → (d < c) ⊎ (c ≤ d) → order (encode c ++ x) (encode d ++ y) ≡ ordering_then (nat_cmp c d) (order x y)
    by (inl l) _ = before c d x y l ∙ sym (ap (λ o. ordering_then o (order x y)) (less c d l))
    by (inr _) (inl l) =
        nat_list_cmp_total.antisymm (encode c ++ x) (encode d ++ y)
        ∙ (ap ordering_reverse (before d c y x l)
        ∙ sym (ap (λ o. ordering_then o (order x y)) (nat_cmp_total.antisymm c d ∙ ap ordering_reverse (less d c l))))
    by (inr h) (inr l) =
        let same : c ≡ d = omega arith in
        ap (λ k. order (encode c ++ x) (encode k ++ y)) (sym same)
        ∙ (alike (encode c) x y ∙ sym (ap (λ o. ordering_then o (order x y)) (ap (nat_cmp c) (sym same) ∙ tied_itself nat_cmp_total c)))

none_before : (d : ℕ) (y : List ℕ) → Shape d → order [] (encode d ++ y) ≡ Less
none_before d y (of1 h e) = ap (λ l. order [] (l ++ y)) e
none_before d y (of2 a b h lo hi p v e) = ap (λ l. order [] (l ++ y)) e
none_before d y (of3 a b g h lo hi p q v e) = ap (λ l. order [] (l ++ y)) e
none_before d y (of4 a b g j h lo p q s v e) = ap (λ l. order [] (l ++ y)) e

order_of : (cs ds : List ℕ) → order (encodes cs) (encodes ds) ≡ order cs ds
order_of [] [] = refl
order_of [] (d ∷ ds) = none_before d (encodes ds) (shape d)
order_of (c ∷ cs) [] = nat_list_cmp_total.antisymm (encode c ++ encodes cs) [] ∙ ap ordering_reverse (none_before c (encodes cs) (shape c))
order_of (c ∷ cs) (d ∷ ds) = one_more c d (encodes cs) (encodes ds) ∙ ap (ordering_then (nat_cmp c d)) (order_of cs ds)

pub ordered : (s t : List ℕ) → IsUtf8 s → IsUtf8 t → slice_cmp nat_cmp s t ≡ slice_cmp nat_cmp (chars s) (chars t)
ordered s t us ut = (λ i. order (sym (encodes-chars s us) i) (sym (encodes-chars t ut) i)) ∙ order_of (chars s) (chars t)

-- Characters that pass a test, and their bytes.
use Rattle.std.proofs.Common.{◌≡◌, ℕ, suc, ◌<◌, ◌≤◌, Bool, true, false, ◌==◌, ◌||◌, not, List, [], ◌∷◌, ◌++◌, length, get_or, inl, inr, refl, sym, subst, ap, arith, append-nil, ne_eqb, ltb-true, nat_lt}
use Rattle.std.specs.Char.{len_utf8}
use Rattle.std.specs.List.{list_all, list_any}
use Rattle.std.proofs.lemmas.Bool.{and_parts, cases_lt, not-true, lt-ltb, agree_below, agree_below_at}
use Rattle.std.proofs.lemmas.Str.{encode_ascii, inside_one, length-encode, len_utf8_bounds}
use lib.Utf8.{encode, encodes}

-- ---- tests

-- a test that lets through what another does, looked at below 128
pub within : (p q : ℕ → Bool) → agree_below (λ c. not (p c) || q c) (λ c. true) 128 ≡ true → ((c : ℕ) → 128 ≤ c → q c ≡ true) → (c : ℕ) → p c ≡ true → q c ≡ true
within p q e high c h = elim (cases_lt c 128) [
  | inl low ↦ (let a : (not (p c) || q c) ≡ true = agree_below_at (λ c. not (p c) || q c) (λ c. true) 128 c e low in rw h at a)
  | inr big ↦ high c big
]

-- the tests that are failed at one character alone, below 128
pub other_than : (x : ℕ) → x < 128 → (b : ℕ) → 128 ≤ b → not (b == x) ≡ true
other_than x l b h = let n : (b == x) ≡ false = ne_eqb b x (λ e. omega arith) in rw n refl

-- ---- lists

pub all-append : (q : ℕ → Bool) (xs ys : List ℕ) → list_all q xs ≡ true → list_all q ys ≡ true → list_all q (xs ++ ys) ≡ true
all-append q [] ys a b = b
all-append q (x ∷ xs) ys a b = let h : (q x ≡ true) × (list_all q xs ≡ true) = and_parts _ _ a in rw h.0 (all-append q xs ys h.1 b)

pub none_any : (q : ℕ → Bool) (xs : List ℕ) → list_all (λ b. not (q b)) xs ≡ true → list_any q xs ≡ false
none_any q [] h = refl
none_any q (x ∷ xs) h =
    let p : (not (q x) ≡ true) × (list_all (λ b. not (q b)) xs ≡ true) = and_parts _ _ h in
    let n : q x ≡ false = not-true (q x) p.0 in rw n (none_any q xs p.1)

each : (q : ℕ → Bool) (xs : List ℕ) → ((k : ℕ) → k < length xs → q (get_or xs k 0) ≡ true) → list_all q xs ≡ true
each q [] h = refl
each q (x ∷ xs) h = let a : q x ≡ true = h 0 (omega arith) in rw a (each q xs (λ k l. h (suc k) (omega arith)))

-- ---- where a test lets through all numbers from 128 on, the bytes of a character that passes it pass it

module _ (q : ℕ → Bool) (high : (b : ℕ) → 128 ≤ b → q b ≡ true) where
  pub one_passes : (c : ℕ) → q c ≡ true → list_all q (encode c) ≡ true
  one_passes c h = each q (encode c) (λ k l. elim (cases_lt (get_or (encode c) k 0) 128) [
    | inl low ↦ subst (λ b. q b ≡ true) (inside_one c [] (encode c) k (sym (append-nil _)) l low) h
    | inr big ↦ high (get_or (encode c) k 0) big
  ])

  pub bytes_pass : (cs : List ℕ) → list_all q cs ≡ true → list_all q (encodes cs) ≡ true
  bytes_pass [] h = refl
  bytes_pass (c ∷ cs) h =
      let p : (q c ≡ true) × (list_all q cs ≡ true) = and_parts _ _ h in
      all-append q (encode c) (encodes cs) (one_passes c p.0) (bytes_pass cs p.1)

  first_of : (xs : List ℕ) → 0 < length xs → list_all q xs ≡ true → (b : ℕ) × (bs : List ℕ) × (xs ≡ b ∷ bs) × (q b ≡ true)
  first_of [] l h = absurd (omega arith)
  first_of (b ∷ bs) l h = let p : (q b ≡ true) × (list_all q bs ≡ true) = and_parts _ _ h in (b, bs, refl, p.0)

  -- and the first of them does
  pub first_byte : (c : ℕ) → q c ≡ true → (b : ℕ) × (bs : List ℕ) × (encode c ≡ b ∷ bs) × (q b ≡ true)
  first_byte c h =
      let n : length (encode c) ≡ len_utf8 c = length-encode c in
      let s : 1 ≤ len_utf8 c = (len_utf8_bounds c).0 in
      first_of (encode c) (omega (arith, n, s)) (one_passes c h)

-- ---- ASCII

pub is_small : ℕ → Bool
is_small c = nat_lt c 128

pub small_within : (p : ℕ → Bool) → ((c : ℕ) → p c ≡ true → c < 128) → (c : ℕ) → p c ≡ true → is_small c ≡ true
unfolding is_small
small_within p f c h = lt-ltb c 128 (f c h)

pub ascii_bytes : (cs : List ℕ) → list_all is_small cs ≡ true → encodes cs ≡ cs
unfolding is_small
ascii_bytes [] h = refl
ascii_bytes (c ∷ cs) h =
    let p : (is_small c ≡ true) × (list_all is_small cs ≡ true) = and_parts _ _ h in
    let l : c < 128 = ltb-true c 128 p.0 in rw (encode_ascii c l) (ap (λ z. c ∷ z) (ascii_bytes cs p.1))

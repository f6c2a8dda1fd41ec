-- `best` finds the longest front.
use Rattle.std.proofs.Common.{◌≡◌, ◌⊎◌, ◌≤◌, ℕ, ◌+◌, Bool, true, false, cond, List, [], ◌∷◌, ◌++◌, Option, Some, None, option_map, length, refl, sym, ap, ◌∙◌, subst, inl, inr, true≢false, encode_utf8_all, arith, length-append}
use Rattle.std.specs.Char.{len_utf8}
use Rattle.std.proofs.lemmas.Str.{length-encode}
use Rattle.qs_lex_regular.specs.Form.{Form, never, nothing, one, hexes, ◌⨾◌, ◌∣◌, many, Spells}
use Rattle.qs_lex_regular.specs.inner.Derivative.{derive, nullable}
use Rattle.qs_lex_regular.specs.Longest.{Table, IsFirst, HasNoFront, LongestFront}
use Rattle.qs_lex_regular.specs.inner.Best.{keep, advance, here, longer, best}
use Rattle.qs_lex_regular.proofs.Derivative.{derive-to, derive-from, nullable-to, nullable-from}

-- ---- `keep` and `advance`

keep-to : {K : Type 0} → (k : K) (r : Form) (fs : Table K) (j : K) (cs : List ℕ) → IsFirst (keep k r fs) j cs → IsFirst ((k, r) ∷ fs) j cs
keep-to k never fs j cs h = inr (λ f. f, h)
keep-to k nothing fs j cs h = h
keep-to k (one p) fs j cs h = h
keep-to k (hexes n v p) fs j cs h = h
keep-to k (r ⨾ s) fs j cs h = h
keep-to k (r ∣ s) fs j cs h = h
keep-to k (many r) fs j cs h = h

keep-from : {K : Type 0} → (k : K) (r : Form) (fs : Table K) (j : K) (cs : List ℕ) → IsFirst ((k, r) ∷ fs) j cs → IsFirst (keep k r fs) j cs
keep-from k never fs j cs h = elim h [ inl a ↦ absurd a.1 | inr b ↦ b.1 ]
keep-from k nothing fs j cs h = h
keep-from k (one p) fs j cs h = h
keep-from k (hexes n v p) fs j cs h = h
keep-from k (r ⨾ s) fs j cs h = h
keep-from k (r ∣ s) fs j cs h = h
keep-from k (many r) fs j cs h = h

pub advance-to : {K : Type 0} → (fs : Table K) (c : ℕ) (k : K) (cs : List ℕ) → IsFirst (advance fs c) k cs → IsFirst fs k (c ∷ cs)
advance-to [] c k cs h = h
advance-to (f ∷ fs) c k cs h =
    elim (keep-to f.0 (derive f.1 c) (advance fs c) k cs h) [
      | inl a ↦ inl (a.0, derive-to f.1 c cs a.1)
      | inr b ↦ inr (λ s. b.0 (derive-from f.1 c cs s), advance-to fs c k cs b.1)
    ]

pub advance-from : {K : Type 0} → (fs : Table K) (c : ℕ) (k : K) (cs : List ℕ) → IsFirst fs k (c ∷ cs) → IsFirst (advance fs c) k cs
advance-from [] c k cs h = h
advance-from (f ∷ fs) c k cs h =
    keep-from f.0 (derive f.1 c) (advance fs c) k cs (elim h [
      | inl a ↦ inl (a.0, derive-from f.1 c cs a.1)
      | inr b ↦ inr (λ s. b.0 (derive-to f.1 c cs s), advance-from fs c k cs b.1)
    ])

-- ---- `here`

here-to-by : {K : Type 0} → (f : K × Form) (fs : Table K) (k : K) (b : Bool) → nullable f.1 ≡ b → (here fs ≡ Some k → IsFirst fs k []) → cond b (Some f.0) (here fs) ≡ Some k → IsFirst (f ∷ fs) k []
here-to-by f fs k true n next e = inl (cc, nullable-to f.1 n)
here-to-by f fs k false n next e = inr (λ s. true≢false (sym (nullable-from f.1 s) ∙ n), next e)

here-to : {K : Type 0} → (fs : Table K) (k : K) → here fs ≡ Some k → IsFirst fs k []
here-to [] k e = cc
here-to (f ∷ fs) k e = here-to-by f fs k (nullable f.1) refl (here-to fs k) e

here-from-by : {K : Type 0} → (f : K × Form) (fs : Table K) (k : K) (b : Bool) → nullable f.1 ≡ b → (Spells f.1 [] → ⊥) → here fs ≡ Some k → cond b (Some f.0) (here fs) ≡ Some k
here-from-by f fs k true n h e = absurd (h (nullable-to f.1 n))
here-from-by f fs k false n h e = e

here-from : {K : Type 0} → (fs : Table K) (k : K) → IsFirst fs k [] → here fs ≡ Some k
here-from [] k h = absurd h
here-from (f ∷ fs) k h =
    elim h [
      | inl a ↦ (let n : nullable f.1 ≡ true = nullable-from f.1 a.1 in rw n (ap (λ z. Some z) a.0))
      | inr b ↦ here-from-by f fs k (nullable f.1) refl b.0 (here-from fs k b.1)
    ]

pub one_class : {K : Type 0} → (fs : Table K) (j k : K) (x : List ℕ) → IsFirst fs j x → IsFirst fs k x → j ≡ k
one_class [] j k x h i = absurd h
one_class (f ∷ fs) j k x h i =
    elim h [
      | inl a ↦ (elim i [ inl b ↦ (sym a.0 ∙ b.0) | inr b ↦ absurd (b.0 a.1) ])
      | inr a ↦ (elim i [ inl b ↦ absurd (a.0 b.1) | inr b ↦ one_class fs j k x a.1 b.1 ])
    ]

-- ---- `best`

at_start : {K : Type 0} → (fs : Table K) (c : ℕ) (cs : List ℕ) → HasNoFront (advance fs c) cs → (k : K) (u v : List ℕ) → c ∷ cs ≡ u ++ v → IsFirst fs k u → u ≡ []
at_start fs c cs none_later k [] v e h = refl
at_start fs c cs none_later k (d ∷ u) v e h =
    let same : d ≡ c = cc in let rest : cs ≡ u ++ v = cc in
    absurd (none_later k u v rest (advance-from fs c k u (subst (λ z. IsFirst fs k (z ∷ u)) same h)))

option_map-none : {A B : Type 0} (f : A → B) (o : Option A) → option_map f o ≡ None → o ≡ None
option_map-none f None e = refl
option_map-none f (Some x) e = cc

pub here-none : {K : Type 0} → (fs : Table K) (k : K) → here fs ≡ None → IsFirst fs k [] → ⊥
here-none fs k e h = let s : here fs ≡ Some k = here-from fs k h in cc

longer-none : {K : Type 0} → (c : ℕ) (o : Option (K × ℕ)) (k : Option K) → longer c o k ≡ None → (o ≡ None) × (k ≡ None)
longer-none c (Some t) k e = cc
longer-none {K} c None k e = (refl, option_map-none (λ (j : K). let t : K × ℕ = (j, 0) in t) k e)

pub best-none : {K : Type 0} → (fs : Table K) (cs : List ℕ) → best fs cs ≡ None → HasNoFront fs cs
best-none {K} fs [] e k [] v t h = here-none fs k (option_map-none (λ (j : K). let t : K × ℕ = (j, 0) in t) (here fs) e) h
best-none fs [] e k (d ∷ u) v t h = cc
best-none fs (c ∷ cs) e k u v t h =
    let both : (best (advance fs c) cs ≡ None) × (here fs ≡ None) = longer-none c (best (advance fs c) cs) (here fs) e in
    let empty : u ≡ [] = at_start fs c cs (best-none (advance fs c) cs both.0) k u v t h in
    here-none fs k both.1 (subst (λ z. IsFirst fs k z) empty h)

-- at the start or later
split_longer : {K : Type 0} → (c : ℕ) (o : Option (K × ℕ)) (h : Option K) (k : K) (n : ℕ) → longer c o h ≡ Some (k, n)
    → ((m : ℕ) × (o ≡ Some (k, m)) × (n ≡ len_utf8 c + m)) ⊎ ((o ≡ None) × (h ≡ Some k) × (n ≡ 0))
split_longer {K} c (Some t) h k n e =
    let p : (t.0, len_utf8 c + t.1) ≡ (k, n) = cc in
    let f : t.0 ≡ k = ap (λ (z : K × ℕ). z.0) p in
    let g : len_utf8 c + t.1 ≡ n = ap (λ (z : K × ℕ). z.1) p in
    inl (t.1, ap (λ (z : K). let w : K × ℕ = (z, t.1) in Some w) f, sym g)
split_longer c None None k n e = cc
split_longer {K} c None (Some j) k n e =
    let p : ◌≡◌ {A = K × ℕ} (j, 0) (k, n) = cc in
    inr (refl, ap (λ (z : K × ℕ). Some z.0) p, sym (ap (λ (z : K × ℕ). z.1) p))

longer_fronts : {K : Type 0} → (fs : Table K) (c : ℕ) (cs front : List ℕ) → ((j : K) (u v : List ℕ) → cs ≡ u ++ v → IsFirst (advance fs c) j u → length u ≤ length front)
    → (j : K) (u v : List ℕ) → c ∷ cs ≡ u ++ v → IsFirst fs j u → length u ≤ length (c ∷ front)
longer_fronts fs c cs front l j [] v e h = omega arith
longer_fronts fs c cs front l j (d ∷ u) v e h =
    let same : d ≡ c = cc in let rest : cs ≡ u ++ v = cc in
    let le : length u ≤ length front = l j u v rest (advance-from fs c j u (subst (λ z. IsFirst fs j (z ∷ u)) same h)) in
    omega arith

start_only : {K : Type 0} → (h : Option K) (k : K) (n : ℕ) → option_map (λ (j : K). let t : K × ℕ = (j, 0) in t) h ≡ Some (k, n) → (h ≡ Some k) × (n ≡ 0)
start_only None k n e = cc
start_only {K} (Some j) k n e =
    let p : ◌≡◌ {A = K × ℕ} (j, 0) (k, n) = cc in
    (ap (λ (z : K × ℕ). Some z.0) p, sym (ap (λ (z : K × ℕ). z.1) p))

nothing_longer : (u v : List ℕ) → [] ≡ u ++ v → length u ≤ 0
nothing_longer [] v e = omega arith
nothing_longer (c ∷ u) v e = cc

pub best-some : {K : Type 0} → (fs : Table K) (cs : List ℕ) (k : K) (n : ℕ) → best fs cs ≡ Some (k, n) → LongestFront fs cs k n
best-some fs [] k n e =
    let p : (here fs ≡ Some k) × (n ≡ 0) = start_only (here fs) k n e in record {
      front = [];
      rest = [];
      text = refl;
      token = here-to fs k p.0;
      bytes = p.1;
      longest = λ j u v t h. nothing_longer u v t;
    }
best-some fs (c ∷ cs) k n e =
    elim (split_longer c (best (advance fs c) cs) (here fs) k n e) [
      | inl a ↦ (let r : LongestFront (advance fs c) cs k a.0 = best-some (advance fs c) cs k a.0 a.1 in record {
        front = c ∷ r.front;
        rest = r.rest;
        text = ap (λ z. c ∷ z) r.text;
        token = advance-to fs c k r.front r.token;
        bytes = (let e₁ : n ≡ len_utf8 c + a.0 = a.2 in let e₂ : a.0 ≡ length (encode_utf8_all r.front) = r.bytes in
            simp (length-append, length-encode) (omega (arith, e₁, e₂)));
        longest = longer_fronts fs c cs r.front r.longest;
      })
      | inr b ↦ record {
        front = [];
        rest = c ∷ cs;
        text = refl;
        token = here-to fs k b.1;
        bytes = b.2;
        longest = λ j u v t h. (let e : u ≡ [] = at_start fs c cs (best-none (advance fs c) cs b.0) j u v t h in rw e (omega arith));
      }
    ]

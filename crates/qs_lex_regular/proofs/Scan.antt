-- The loop that finds the longest front.
use Rattle.std.proofs.Common.{◌≡◌, ℕ, ◌+◌, List, [], ◌∷◌, Option, Some, None, option_map, refl, sym, ap, ◌∙◌, add_assoc, add-zero, ◌++◌, length, IsUtf8, chars, encode_utf8, arith, length-append}
use Rattle.std.proofs.lemmas.Str.{chars_past_char, chars-nil, length-encode}
use Rattle.std.proofs.lemmas.List.{nil_from_length}
use Rattle.std.specs.Char.{len_utf8}
use Rattle.qs_lex_regular.specs.Longest.{Table}
use Rattle.qs_lex_regular.specs.inner.Best.{advance, here, longer, best}
use Rattle.qs_lex_regular.specs.inner.Scan.{hold, later}

pub best-dead : (K : Type 0) (cs : List ℕ) → best {K = K} [] cs ≡ None
best-dead K [] = refl
best-dead K (c ∷ cs) = rw (best-dead K cs) refl

later_here : {K : Type 0} → (h : Option K) (len : ℕ) (found : Option (K × ℕ)) → later (option_map (λ (k : K). let t : K × ℕ = (k, 0) in t) h) len found ≡ hold h len found
later_here None len found = refl
later_here (Some k) len found = rw (add-zero len) refl

pub at_end : {K : Type 0} → (fs : Table K) (len : ℕ) (found : Option (K × ℕ)) → later (best fs []) len found ≡ hold (here fs) len found
at_end fs len found = later_here (here fs) len found

pub at_dead : {K : Type 0} → (fs : Table K) (c : ℕ) (cs : List ℕ) (len : ℕ) (found : Option (K × ℕ)) → advance fs c ≡ [] → later (best fs (c ∷ cs)) len found ≡ hold (here fs) len found
at_dead {K} fs c cs len found e = rw (e, best-dead K cs) (later_here (here fs) len found)

step_by : {K : Type 0} → (c : ℕ) (o : Option (K × ℕ)) (h : Option K) (len : ℕ) (found : Option (K × ℕ)) → later (longer c o h) len found ≡ later o (len + len_utf8 c) (hold h len found)
step_by c None h len found = later_here h len found
step_by {K} c (Some t) h len found = ap (λ (n : ℕ). let w : K × ℕ = (t.0, n) in Some w) (sym (add_assoc len (len_utf8 c) t.1))

pub at_step : {K : Type 0} → (fs next : Table K) (c : ℕ) (cs : List ℕ) (len : ℕ) (found : Option (K × ℕ)) → advance fs c ≡ next
    → later (best fs (c ∷ cs)) len found ≡ later (best next cs) (len + len_utf8 c) (hold (here fs) len found)
at_step fs next c cs len found e = rw e (step_by c (best next cs) (here fs) len found)

first_by : {K : Type 0} → (c : ℕ) (o : Option (K × ℕ)) → longer c o None ≡ later o (len_utf8 c) None
first_by c None = refl
first_by c (Some t) = refl

pub at_first : {K : Type 0} → (fs next : Table K) (c : ℕ) (cs : List ℕ) → here fs ≡ None → advance fs c ≡ next → best fs (c ∷ cs) ≡ later (best next cs) (len_utf8 c) None
at_first fs next c cs h e = rw (e, h) (first_by c (best next cs))

pub at_no_start : {K : Type 0} → (fs : Table K) (c : ℕ) (cs : List ℕ) → here fs ≡ None → advance fs c ≡ [] → best fs (c ∷ cs) ≡ None
at_no_start {K} fs c cs h e = rw (e, h, best-dead K cs) refl

-- ---- the same over the bytes that are left

pub sizes_first : (text bs rest : List ℕ) (c : ℕ) → bs ≡ text → bs ≡ encode_utf8 c ++ rest → len_utf8 c + length rest ≡ length text
sizes_first text bs rest c e f = rw (← e, f) (sym (length-append (encode_utf8 c) rest ∙ ap (λ n. n + length rest) (length-encode c)))

pub sizes_step : (bs rest : List ℕ) (c len n : ℕ) → len + length bs ≡ n → bs ≡ encode_utf8 c ++ rest → len + len_utf8 c + length rest ≡ n
sizes_step bs rest c len n e f =
    let l : length bs ≡ len_utf8 c + length rest = ap length f ∙ (length-append (encode_utf8 c) rest ∙ ap (λ n. n + length rest) (length-encode c)) in
    omega (arith, l, e)

module _ {K : Type 0} (t : Option (K × ℕ)) (bs rest : List ℕ) (c : ℕ) (fs : Table K) (len : ℕ) (found : Option (K × ℕ)) (inv : t ≡ later (best fs (chars bs)) len found) where
  pub scan_dead : IsUtf8 bs → bs ≡ encode_utf8 c ++ rest → advance fs c ≡ [] → hold (here fs) len found ≡ t
  scan_dead u f d =
      let front : chars bs ≡ c ∷ chars rest = chars_past_char bs rest c u f in
      sym (inv ∙ (ap (λ z. later (best fs z) len found) front ∙ at_dead fs c (chars rest) len found d))

  pub scan_step : (next : Table K) → IsUtf8 bs → bs ≡ encode_utf8 c ++ rest → advance fs c ≡ next → t ≡ later (best next (chars rest)) (len + len_utf8 c) (hold (here fs) len found)
  scan_step next u f d =
      let front : chars bs ≡ c ∷ chars rest = chars_past_char bs rest c u f in
      inv ∙ (ap (λ z. later (best fs z) len found) front ∙ at_step fs next c (chars rest) len found d)

  pub scan_end : length bs ≡ 0 → hold (here fs) len found ≡ t
  scan_end z =
      let empty : chars bs ≡ [] = ap chars (nil_from_length bs z) ∙ chars-nil in
      sym (inv ∙ (ap (λ z. later (best fs z) len found) empty ∙ at_end fs len found))

-- Gaps, a character at a time.
use Rattle.std.proofs.Common.{◌≡◌, ◌≤◌, ℕ, Bool, true, false, List, [], ◌∷◌, ◌++◌, length, refl, sym, ap, ◌∙◌, encode_utf8, IsUtf8, chars, arith, length-append}
use Rattle.std.proofs.lemmas.Str.{chars-nil, chars_past_char}
use Rattle.std.proofs.lemmas.List.{nil_from_length}
use Rattle.qs_nquads.specs.Gap.{skip}

pub nothing_left : (bs : List ℕ) → length bs ≡ 0 → chars bs ≡ []
nothing_left bs z = ap chars (nil_from_length bs z) ∙ chars-nil

pub skip_step : (bs rest : List ℕ) (c : ℕ) (b next : Bool) (t : List ℕ) → IsUtf8 bs → bs ≡ encode_utf8 c ++ rest → ((cs : List ℕ) → skip b (c ∷ cs) ≡ skip next cs)
    → skip b (chars bs) ≡ t → skip next (chars rest) ≡ t
skip_step bs rest c b next t u f s e = sym (s (chars rest)) ∙ (ap (λ z. skip b z) (sym (chars_past_char bs rest c u f)) ∙ e)

pub skip_stop : (bs rest : List ℕ) (c : ℕ) (b : Bool) (t : List ℕ) → IsUtf8 bs → bs ≡ encode_utf8 c ++ rest → ((cs : List ℕ) → skip b (c ∷ cs) ≡ c ∷ cs)
    → skip b (chars bs) ≡ t → chars bs ≡ t
skip_stop bs rest c b t u f s e = let front : chars bs ≡ c ∷ chars rest = chars_past_char bs rest c u f in front ∙ (sym (s (chars rest)) ∙ (ap (λ z. skip b z) (sym front) ∙ e))

skip_nil : (b : Bool) → skip b [] ≡ []
skip_nil true = refl
skip_nil false = refl

pub skip_end : (b : Bool) (bs t : List ℕ) → length bs ≡ 0 → skip b (chars bs) ≡ t → chars bs ≡ t
skip_end b bs t z e = nothing_left bs z ∙ (sym (skip_nil b) ∙ (ap (λ w. skip b w) (sym (nothing_left bs z)) ∙ e))

pub shorter : (bs rest : List ℕ) (c : ℕ) → bs ≡ encode_utf8 c ++ rest → length rest ≤ length bs
shorter bs rest c f = omega (arith, ap length f, length-append (encode_utf8 c) rest)

-- A text may be cut after an escape.
use Rattle.std.proofs.Common.{◌≡◌, ℕ, zero, suc, ◌+◌, ◌*◌, ◌<◌, ◌==◌, Bool, true, false, cond, List, [], ◌∷◌, length, drop, slice_index, Option, Some, None, refl, sym, ap, subst, arith}
use Rattle.std.proofs.lemmas.Bool.Decides.{nat_tests}
use Rattle.std.proofs.lemmas.Str.{IsUtf8-drop, IsCharBoundary-after_ascii}
use Rattle.std.specs.Str.{IsUtf8, IsCharBoundary}
use Rattle.qs_lex_regular.specs.Character.{is_hex, hex_value, is_scalar}
use Rattle.qs_lex_escapes.specs.declared.escape.Escape.{Escape}
use Rattle.qs_lex_escapes.specs.declared.escape.Escapes.{Escapes}
use Rattle.qs_lex_escapes.specs.declared.escape.Escapes.TheVariants.{Codepoints, Strings}
use Rattle.qs_lex_escapes.specs.inner.Decoded.{length_of}
use Rattle.qs_lex_escapes.specs.Escape.{hex_number, escape_of, uchar, echar_of, string_escape}
use Rattle.qs_lex_escapes.specs.inner.Escape.{echar_or}
use Rattle.qs_lex_escapes.specs.inner.Escape.{escape}

-- the bytes have an ASCII byte at the place
abbrev HasAscii : List ℕ → ℕ → Type 0
HasAscii bs i = (i < length bs) × (slice_index bs i < 128)

hex_is_ascii : (c : ℕ) → is_hex c ≡ true → c < 128
unfolding is_hex
hex_is_ascii c h = grind (arith, nat_tests)

digits_at : (b : Bool) (n value v c : ℕ) (cs : List ℕ) → is_hex c ≡ b → ((w : ℕ) → hex_number (suc n) w cs ≡ Some v → HasAscii cs n) → hex_number (suc (suc n)) value (c ∷ cs) ≡ Some v → HasAscii (c ∷ cs) (suc n)
unfolding hex_number
digits_at true n value v c cs e more h = let m = more (value * 16 + hex_value c) (rw e at h) in (omega (arith, m.0), m.1)
digits_at false n value v c cs e more h = absurd (let k : None ≡ Some v = rw e at h in (cc))

one_at : (b : Bool) (value v c : ℕ) (cs : List ℕ) → is_hex c ≡ b → hex_number 1 value (c ∷ cs) ≡ Some v → HasAscii (c ∷ cs) 0
unfolding hex_number
one_at true value v c cs e h = (omega arith, hex_is_ascii c e)
one_at false value v c cs e h = absurd (let k : None ≡ Some v = rw e at h in (cc))

no_digits : (n value v : ℕ) → hex_number (suc n) value [] ≡ Some v → ⊥
unfolding hex_number
no_digits n value v h = cc

-- of as many digits as there should be, the last is there
last_digit : (n value v : ℕ) (cs : List ℕ) → hex_number (suc n) value cs ≡ Some v → HasAscii cs n
last_digit n value v [] h = absurd (no_digits n value v h)
last_digit zero value v (c ∷ cs) h = one_at (is_hex c) value v c cs refl h
last_digit (suc n) value v (c ∷ cs) h = digits_at (is_hex c) n value v c cs refl (λ w k. last_digit n w v cs k) h

-- ---- each kind of escape ends after an ASCII byte

escape_parts : (length : ℕ) (code : Option ℕ) (e : Escape) → escape_of length code ≡ Some e → (e.length ≡ length) × ((v : ℕ) × (code ≡ Some v))
escape_parts length None e h = absurd (cc)
escape_parts length (Some v) e h = (parts (is_scalar v) h, (v, refl))
  where
    parts : (b : Bool) → cond b (Some (record { character = v; length = length })) None ≡ Some e → e.length ≡ length
    parts true k = let m : record { character = v; length = length } ≡ e = cc in sym (ap (λ x. x.length) m)
    parts false k = absurd (cc)

cut : (bs : List ℕ) (n : ℕ) → IsUtf8 bs → HasAscii bs n → IsCharBoundary bs (n + 1)
cut bs n u h = IsCharBoundary-after_ascii bs n u h.0 h.1

named_by : (n c : ℕ) (cs : List ℕ) (e : Escape) → IsUtf8 (c ∷ cs) → escape_of (n + 2) (hex_number (suc n) 0 cs) ≡ Some e → IsCharBoundary (c ∷ cs) e.length
named_by n c cs e u h =
    let p = escape_parts (n + 2) (hex_number (suc n) 0 cs) e h in
    let last : HasAscii cs n = last_digit n 0 p.1.0 cs p.1.1 in
    let there : HasAscii (c ∷ cs) (suc n) = (omega (arith, last.0), last.1) in
    let here : suc n + 1 ≡ e.length = omega (arith, p.0) in
    subst (λ k. IsCharBoundary (c ∷ cs) k) here (cut (c ∷ cs) (suc n) u there)

uchar_at : (a b : Bool) (c : ℕ) (cs : List ℕ) (e : Escape) → IsUtf8 (c ∷ cs) → (c == 117) ≡ a → (c == 85) ≡ b → uchar (c ∷ cs) ≡ Some e → IsCharBoundary (c ∷ cs) e.length
uchar_at true b c cs e u s l h = named_by 3 c cs e u (rw s at h)
uchar_at false true c cs e u s l h = named_by 7 c cs e u (let k = rw s at h in rw l at k)
uchar_at false false c cs e u s l h = absurd (let k = rw s at h in let m : None ≡ Some e = rw l at k in (cc))

uchar_ends : (bs : List ℕ) (e : Escape) → IsUtf8 bs → uchar bs ≡ Some e → IsCharBoundary bs e.length
uchar_ends [] e u h = absurd (cc)
uchar_ends (c ∷ cs) e u h = uchar_at (c == 117) (c == 85) c cs e u refl refl h

letter_is_ascii : (c d : ℕ) → echar_of c ≡ Some d → c < 128
letter_is_ascii c d h = grind (arith, nat_tests)

string_at : (o : Option ℕ) (c : ℕ) (cs : List ℕ) (e : Escape) → IsUtf8 (c ∷ cs) → echar_of c ≡ o → echar_or o (uchar (c ∷ cs)) ≡ Some e → IsCharBoundary (c ∷ cs) e.length
string_at None c cs e u k h = uchar_ends (c ∷ cs) e u h
string_at (Some d) c cs e u k h =
    let m : record { character = d; length = 1 } ≡ e = cc in
    subst (λ (x : Escape). IsCharBoundary (c ∷ cs) x.length) m (cut (c ∷ cs) 0 u (omega arith, letter_is_ascii c d k))

string_ends : (bs : List ℕ) (e : Escape) → IsUtf8 bs → string_escape bs ≡ Some e → IsCharBoundary bs e.length
string_ends [] e u h = absurd (cc)
string_ends (c ∷ cs) e u h = string_at (echar_of c) c cs e u refl h

pub boundary : (kind : Escapes) (bs : List ℕ) (e : Escape) → IsUtf8 bs → escape kind bs ≡ Some e → IsCharBoundary bs e.length
boundary Codepoints bs e u h = uchar_ends bs e u h
boundary Strings bs e u h = string_ends bs e u h

rest_at : (o : Option Escape) (kind : Escapes) (bs : List ℕ) → IsUtf8 bs → escape kind bs ≡ o → IsUtf8 (drop (length_of o) bs)
rest_at None kind bs u h = u
rest_at (Some e) kind bs u h = IsUtf8-drop bs e.length u (boundary kind bs e u h)

-- what is after an escape is a text
pub rest_is_text : (kind : Escapes) (bs : List ℕ) → IsUtf8 bs → IsUtf8 (drop (length_of (escape kind bs)) bs)
rest_is_text kind bs u = rest_at (escape kind bs) kind bs u refl

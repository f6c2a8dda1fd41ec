-- Hexadecimal numbers, a digit at a time.
use Rattle.std.proofs.Common.{◌≡◌, ℕ, ◌+◌, ◌*◌, ◌<◌, ◌≤◌, true, false, List, [], ◌∷◌, length, drop, slice_index, Some, None, refl, add-one}
use Rattle.std.proofs.lemmas.List.{drop_all}
use Rattle.std.proofs.Math.Seq.{drop-cons}
use Rattle.qs_lex_regular.specs.Character.{is_hex, hex_value}
use Rattle.qs_lex_escapes.specs.Escape.{hex_number}

one_digit : (n value c : ℕ) (cs : List ℕ) → is_hex c ≡ true → hex_number (n + 1) value (c ∷ cs) ≡ hex_number n (value * 16 + hex_value c) cs
unfolding hex_number
one_digit n value c cs h = rw (add-one, h)

no_digit : (n value c : ℕ) (cs : List ℕ) → is_hex c ≡ false → hex_number (n + 1) value (c ∷ cs) ≡ None
unfolding hex_number
no_digit n value c cs h = rw (add-one, h)

none_left : (n value : ℕ) → hex_number (n + 1) value [] ≡ None
unfolding hex_number
none_left n value = rw (add-one)

all_digits : (value : ℕ) (cs : List ℕ) → hex_number 0 value cs ≡ Some value
unfolding hex_number
all_digits value cs = refl

from_here : (bytes : List ℕ) (i : ℕ) → i < length bytes → drop i bytes ≡ slice_index bytes i ∷ drop (i + 1) bytes
from_here bytes i l = rw (add-one, drop-cons bytes i 0)

-- a digit that isn't the last
pub digit : (bytes : List ℕ) (i after value next_after next_value : ℕ) → i < length bytes → is_hex (slice_index bytes i) ≡ true → after ≡ next_after + 1 → next_value ≡ value * 16 + hex_value (slice_index bytes i)
    → hex_number (next_after + 1) next_value (drop (i + 1) bytes) ≡ hex_number (after + 1) value (drop i bytes)
digit bytes i after value next_after next_value l h a v =
    rw (from_here bytes i l, one_digit after value (slice_index bytes i) (drop (i + 1) bytes) h, a, v)

-- the last one
pub whole : (bytes : List ℕ) (i after value all : ℕ) → i < length bytes → is_hex (slice_index bytes i) ≡ true → after ≡ 0 → all ≡ value * 16 + hex_value (slice_index bytes i)
    → hex_number (after + 1) value (drop i bytes) ≡ Some all
whole bytes i after value all l h a v =
    rw (from_here bytes i l, one_digit after value (slice_index bytes i) (drop (i + 1) bytes) h, a, v) (all_digits _ _)

pub other : (bytes : List ℕ) (i after value : ℕ) → i < length bytes → is_hex (slice_index bytes i) ≡ false → hex_number (after + 1) value (drop i bytes) ≡ None
other bytes i after value l h = rw (from_here bytes i l) (no_digit after value (slice_index bytes i) (drop (i + 1) bytes) h)

pub past : (bytes : List ℕ) (i after value : ℕ) → length bytes ≤ i → hex_number (after + 1) value (drop i bytes) ≡ None
past bytes i after value l = rw (drop_all i bytes l) (none_left after value)

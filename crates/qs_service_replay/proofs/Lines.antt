-- Lines and what they tell.
use Rattle.std.proofs.Common.{◌≡◌, ◌≢◌, ℕ, List, [], ◌∷◌, ◌++◌, codes, Ok, Option, None, Some, MatchOption, refl, sym, ◌∙◌, ap, subst, arith, get_or}
use Rattle.std.specs.List.{All}
use Rattle.std.specs.Str.{IsUtf8}
use Rattle.std.proofs.lemmas.Fmt.{IsAscii-from_digits}
use Rattle.std.proofs.lemmas.List.{append_cancel_left, get_or_default}
use Rattle.std.proofs.lemmas.List.Elements.{All-head, All-tail}
use Rattle.std.proofs.lemmas.Str.{IsUtf8-from_ascii}
use Rattle.std.proofs.lemmas.Str.Parse.{digit_at}
use Rattle.hex.specs.Hex.{decode_of}
use Rattle.qs_service_replay.specs.Script.{IsId}
use Rattle.qs_service_replay.specs.inner.Script.{TellsEvent}
use Rattle.qs_service_connections.specs.Step.{Join, Piece, End}
use Rattle.qs_service_replay.specs.inner.Told.{IsPiece}

-- digits are a text
pub no_text : (digits : List ℕ) → (¬ IsUtf8 digits) → (id : ℕ) → ¬ IsId digits id
no_text digits other id is = other (IsUtf8-from_ascii digits (IsAscii-from_digits digits is.0.1))

-- digits have no space in them
pub no_space : (digits : List ℕ) (id : ℕ) → IsId digits id → All (λ b. b ≢ 32) digits
no_space digits id is = λ k d below e.
    let range = digit_at digits k is.0.1 below in
    omega (arith, get_or_default digits k 0 d below ∙ e)

-- the byte at which a text is parted stands once where it is looked for
pub parted_once : (at : ℕ) (a b c d : List ℕ) → All (λ x. x ≢ at) a → All (λ x. x ≢ at) c → a ++ at ∷ b ≡ c ++ at ∷ d → a ≡ c
parted_once at [] b [] d free other e = refl
parted_once at [] b (y ∷ c) d free other e = absurd (All-head (λ x. x ≢ at) y c other (cc))
parted_once at (x ∷ a) b [] d free other e = absurd (All-head (λ x. x ≢ at) x a free (cc))
parted_once at (x ∷ a) b (y ∷ c) d free other e =
    let rest : a ++ at ∷ b ≡ c ++ at ∷ d = cc in
    let front : a ≡ c = parted_once at a b c d (All-tail (λ z. z ≢ at) x a free) (All-tail (λ z. z ≢ at) y c other) rest in
    cc

pub unparted : (at : ℕ) (a b c : List ℕ) → All (λ x. x ≢ at) c → c ≢ a ++ at ∷ b
unparted at [] b [] free e = cc
unparted at [] b (y ∷ c) free e = All-head (λ x. x ≢ at) y c free (cc)
unparted at (x ∷ a) b [] free e = cc
unparted at (x ∷ a) b (y ∷ c) free e = unparted at a b c (All-tail (λ z. z ≢ at) y c free) (cc)

pub no_parts : (rest : List ℕ) → All (λ b. b ≢ 32) rest → (id : ℕ) (bytes : List ℕ) → ¬ IsPiece rest id bytes
no_parts rest free id bytes is = unparted 32 is.0 is.1 rest free is.4

module _ (rest digits hex : List ℕ) (free : All (λ b. b ≢ 32) digits) (parts : rest ≡ digits ++ 32 ∷ hex) (id : ℕ) (bytes : List ℕ) where
  same_digits : (is : IsPiece rest id bytes) → is.0 ≡ digits
  same_digits is = parted_once 32 is.0 is.1 digits hex (no_space is.0 id is.2) free (sym is.4 ∙ parts)

  same_hex : (is : IsPiece rest id bytes) → is.1 ≡ hex
  same_hex is =
      let both : digits ++ 32 ∷ is.1 ≡ digits ++ 32 ∷ hex = subst (λ (l : List ℕ). l ++ 32 ∷ is.1 ≡ digits ++ 32 ∷ hex) (same_digits is) (sym is.4 ∙ parts) in
      let behind : 32 ∷ is.1 ≡ 32 ∷ hex = append_cancel_left digits (32 ∷ is.1) (32 ∷ hex) both in
      cc

  pub no_id : ((i : ℕ) → ¬ IsId digits i) → ¬ IsPiece rest id bytes
  no_id none is = none id (subst (λ (l : List ℕ). IsId l id) (same_digits is) is.2)

  pub no_hex : ((bs : List ℕ) → decode_of hex ≢ Ok bs) → ¬ IsPiece rest id bytes
  no_hex other is = other bytes (subst (λ (l : List ℕ). decode_of l ≡ Ok bytes) (same_hex is) is.3)

pub other_first : (a b : ℕ) (xs ys : List ℕ) → a ≢ b → a ∷ xs ≢ b ∷ ys
other_first a b xs ys other e = other (ap (λ (l : List ℕ). get_or l 0 0) e)

-- a line of a piece tells no other event
pub no_piece : (line rest : List ℕ) → line ≡ codes "piece " ++ rest → ((id : ℕ) (bytes : List ℕ) → ¬ IsPiece rest id bytes) → ¬ TellsEvent line
no_piece line rest is none (Join id, told) = other_first 112 106 _ _ (λ e. omega (arith, e)) (sym is ∙ told.2)
no_piece line rest is none (Piece id bytes, told) =
    none id bytes (told.0, told.1, told.2, told.3, append_cancel_left (codes "piece ") rest (told.0 ++ 32 ∷ told.1) (sym is ∙ told.4))
no_piece line rest is none (End id, told) = other_first 112 101 _ _ (λ e. omega (arith, e)) (sym is ∙ told.2)

-- what is known of none
pub of_none : {X : Type 0} (P : Type 0) (Q : X → Type 0) (o : Option X) → o ≡ None → MatchOption o P Q → P
of_none P Q None is h = h
of_none P Q (Some x) is h = absurd (cc)

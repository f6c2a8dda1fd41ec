-- Texts up to their first backslash, and after it.
use Rattle.std.proofs.Common.{◌≡◌, ℕ, zero, suc, ◌+◌, ◌<◌, slice_index, Bool, true, false, true≢false, not, ◌||◌, ◌==◌, List, [], ◌∷◌, ◌++◌, length, drop, filter, refl, ◌∙◌, sym, ap, arith, add-one, append_assoc}
use native.Mathlib.Numerals.{one-add}
use Rattle.std.proofs.lemmas.Bool.{eqb-true}
use Rattle.std.proofs.lemmas.List.Sums.{passes_at_first}
use Rattle.std.proofs.lemmas.Str.{IsUtf8-drop, IsCharBoundary-after_ascii}
use Rattle.std.specs.Str.{IsUtf8}
use Rattle.std.specs.List.{list_any, position_or_len, before_first, after_first}
use Rattle.std.specs.Prelude.{Option}
use Rattle.qs_lex_escapes.specs.declared.escape.Escape.{Escape}
use Rattle.qs_lex_escapes.specs.Decoded.{decoded_after}
use Rattle.qs_lex_escapes.specs.inner.Decoded.{stands_for, length_of}
use Rattle.qs_lex_escapes.specs.inner.Decoded.{is_backslash}

-- ---- a text that begins with what is looked for, or doesn't

before_hit : (p : ℕ → Bool) (c : ℕ) (cs : List ℕ) → p c ≡ true → before_first p (c ∷ cs) ≡ []
before_hit p c cs e = rw e

after_hit : (p : ℕ → Bool) (c : ℕ) (cs : List ℕ) → p c ≡ true → after_first p (c ∷ cs) ≡ cs
after_hit p c cs e = rw e

before_miss : (p : ℕ → Bool) (c : ℕ) (cs : List ℕ) → p c ≡ false → before_first p (c ∷ cs) ≡ c ∷ before_first p cs
before_miss p c cs e = rw (e, one-add)

after_miss : (p : ℕ → Bool) (c : ℕ) (cs : List ℕ) → p c ≡ false → after_first p (c ∷ cs) ≡ after_first p cs
after_miss p c cs e = rw (e, one-add, add-one) (ap (λ n. drop n cs) (sym (add-one (position_or_len p cs))))

found_later : (p : ℕ → Bool) (c : ℕ) (cs : List ℕ) → p c ≡ false → position_or_len p (c ∷ cs) < length (c ∷ cs) → position_or_len p cs < length cs
found_later p c cs e l = let m = rw e at l in omega arith

not_later : (p : ℕ → Bool) (c : ℕ) (cs : List ℕ) → p c ≡ false → position_or_len p (c ∷ cs) ≡ length (c ∷ cs) → position_or_len p cs ≡ length cs
not_later p c cs e l = let m = rw e at l in omega arith

not_here : (p : ℕ → Bool) (c : ℕ) (cs : List ℕ) → p c ≡ true → position_or_len p (c ∷ cs) ≡ length (c ∷ cs) → ⊥
not_here p c cs e l = let m = rw e at l in omega arith

-- ---- decoding

module _ (escape : List ℕ → Option Escape) where
  -- what an escape takes is passed over
  passed : (n : ℕ) (cs : List ℕ) → decoded_after escape n cs ≡ decoded_after escape 0 (drop n cs)
  unfolding decoded_after
  passed zero cs = refl
  passed (suc n) [] = refl
  passed (suc n) (c ∷ cs) = passed n cs

  escaped : (c : ℕ) (cs : List ℕ) → is_backslash c ≡ true → decoded_after escape 0 (c ∷ cs) ≡ stands_for (escape cs) ++ decoded_after escape (length_of (escape cs)) cs
  unfolding decoded_after
  escaped c cs e = rw e

  kept : (c : ℕ) (cs : List ℕ) → is_backslash c ≡ false → decoded_after escape 0 (c ∷ cs) ≡ c ∷ decoded_after escape 0 cs
  unfolding decoded_after
  kept c cs e = rw e

  nothing : decoded_after escape 0 [] ≡ []
  unfolding decoded_after
  nothing = refl

  abbrev rest_of : List ℕ → List ℕ
  rest_of cs = drop (length_of (escape cs)) cs

  -- up to the first backslash as it is written, then the escape, then the rest
  decoded_at : (b : Bool) (c : ℕ) (cs : List ℕ) → is_backslash c ≡ b
      → (position_or_len is_backslash cs < length cs → decoded_after escape 0 cs ≡ before_first is_backslash cs ++ (stands_for (escape (after_first is_backslash cs)) ++ decoded_after escape 0 (rest_of (after_first is_backslash cs))))
      → position_or_len is_backslash (c ∷ cs) < length (c ∷ cs)
      → decoded_after escape 0 (c ∷ cs) ≡ before_first is_backslash (c ∷ cs) ++ (stands_for (escape (after_first is_backslash (c ∷ cs))) ++ decoded_after escape 0 (rest_of (after_first is_backslash (c ∷ cs))))
  decoded_at true c cs e more l = rw (before_hit is_backslash c cs e, after_hit is_backslash c cs e, escaped c cs e, passed (length_of (escape cs)) cs)
  decoded_at false c cs e more l = rw (before_miss is_backslash c cs e, after_miss is_backslash c cs e, kept c cs e) (ap (λ xs. c ∷ xs) (more (found_later is_backslash c cs e l)))

  pub decoded_step : (text : List ℕ) → position_or_len is_backslash text < length text
      → decoded_after escape 0 text ≡ before_first is_backslash text ++ (stands_for (escape (after_first is_backslash text)) ++ decoded_after escape 0 (rest_of (after_first is_backslash text)))
  decoded_step [] l = absurd (omega arith)
  decoded_step (c ∷ cs) l = decoded_at (is_backslash c) c cs refl (decoded_step cs) l

  plain_at : (b : Bool) (c : ℕ) (cs : List ℕ) → is_backslash c ≡ b → (position_or_len is_backslash cs ≡ length cs → decoded_after escape 0 cs ≡ cs)
      → position_or_len is_backslash (c ∷ cs) ≡ length (c ∷ cs) → decoded_after escape 0 (c ∷ cs) ≡ c ∷ cs
  plain_at true c cs e more l = absurd (not_here is_backslash c cs e l)
  plain_at false c cs e more l = rw (kept c cs e) (ap (λ xs. c ∷ xs) (more (not_later is_backslash c cs e l)))

  -- a text without a backslash denotes itself
  pub decoded_plain : (text : List ℕ) → position_or_len is_backslash text ≡ length text → decoded_after escape 0 text ≡ text
  decoded_plain [] l = nothing
  decoded_plain (c ∷ cs) l = plain_at (is_backslash c) c cs refl (decoded_plain cs) l

  free_at : (b : Bool) (c : ℕ) (cs : List ℕ) → is_backslash c ≡ b → (list_any is_backslash cs ≡ false → decoded_after escape 0 cs ≡ cs)
      → list_any is_backslash (c ∷ cs) ≡ false → decoded_after escape 0 (c ∷ cs) ≡ c ∷ cs
  free_at true c cs e more l = absurd (true≢false (sym (ap (λ x. x || list_any is_backslash cs) e) ∙ l))
  free_at false c cs e more l = rw (kept c cs e) (ap (λ xs. c ∷ xs) (more (sym (ap (λ x. x || list_any is_backslash cs) e) ∙ l)))

  pub decoded_free : (text : List ℕ) → list_any is_backslash text ≡ false → decoded_after escape 0 text ≡ text
  decoded_free [] l = nothing
  decoded_free (c ∷ cs) l = free_at (is_backslash c) c cs refl (decoded_free cs) l

  -- one turn: a run, and an escape after it
  pub turned : (before middle after left next run behind text : List ℕ) → before ++ decoded_after escape 0 left ≡ text → position_or_len is_backslash left < length left
      → run ≡ before_first is_backslash left → behind ≡ after_first is_backslash left → middle ≡ before ++ run → after ≡ middle ++ stands_for (escape behind) → next ≡ drop (length_of (escape behind)) behind
      → after ++ decoded_after escape 0 next ≡ text
  turned before middle after left next run behind text e l r b m a n =
      rw (a, n, m, b, r, append_assoc, append_assoc) (ap (λ xs. before ++ xs) (sym (decoded_step left l)) ∙ e)

-- ---- dropping backslashes

abbrev stays : ℕ → Bool
stays c = not (c == 92)

dropped_at : (b : Bool) (c : ℕ) (cs : List ℕ) → is_backslash c ≡ b
    → (position_or_len is_backslash cs < length cs → filter stays cs ≡ before_first is_backslash cs ++ filter stays (after_first is_backslash cs))
    → position_or_len is_backslash (c ∷ cs) < length (c ∷ cs)
    → filter stays (c ∷ cs) ≡ before_first is_backslash (c ∷ cs) ++ filter stays (after_first is_backslash (c ∷ cs))
dropped_at true c cs e more l = rw (before_hit is_backslash c cs e, after_hit is_backslash c cs e, e)
dropped_at false c cs e more l = rw (before_miss is_backslash c cs e, after_miss is_backslash c cs e, e) (ap (λ xs. c ∷ xs) (more (found_later is_backslash c cs e l)))

pub dropped_step : (text : List ℕ) → position_or_len is_backslash text < length text
    → filter stays text ≡ before_first is_backslash text ++ filter stays (after_first is_backslash text)
dropped_step [] l = absurd (omega arith)
dropped_step (c ∷ cs) l = dropped_at (is_backslash c) c cs refl (dropped_step cs) l

kept_at : (b : Bool) (c : ℕ) (cs : List ℕ) → is_backslash c ≡ b → (position_or_len is_backslash cs ≡ length cs → filter stays cs ≡ cs)
    → position_or_len is_backslash (c ∷ cs) ≡ length (c ∷ cs) → filter stays (c ∷ cs) ≡ c ∷ cs
kept_at true c cs e more l = absurd (not_here is_backslash c cs e l)
kept_at false c cs e more l = rw e (ap (λ xs. c ∷ xs) (more (not_later is_backslash c cs e l)))

pub dropped_plain : (text : List ℕ) → position_or_len is_backslash text ≡ length text → filter stays text ≡ text
dropped_plain [] l = refl
dropped_plain (c ∷ cs) l = kept_at (is_backslash c) c cs refl (dropped_plain cs) l

pub dropped_turn : (before after left run behind text : List ℕ) → before ++ filter stays left ≡ text → position_or_len is_backslash left < length left
    → run ≡ before_first is_backslash left → behind ≡ after_first is_backslash left → after ≡ before ++ run
    → after ++ filter stays behind ≡ text
dropped_turn before after left run behind text e l r b a =
    rw (a, b, r, append_assoc) (ap (λ xs. before ++ xs) (sym (dropped_step left l)) ∙ e)

-- ---- what is after a backslash is a text

pub behind_is_text : (text : List ℕ) → IsUtf8 text → position_or_len is_backslash text < length text → IsUtf8 (after_first is_backslash text)
behind_is_text text u l =
    let mark : slice_index text (position_or_len is_backslash text) ≡ 92 = eqb-true _ _ (passes_at_first is_backslash text 0 l) in
    IsUtf8-drop text (position_or_len is_backslash text + 1) u (IsCharBoundary-after_ascii text (position_or_len is_backslash text) u l (omega arith))

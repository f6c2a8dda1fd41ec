-- What one step of a lexer does.
use Rattle.std.proofs.Common.{◌≡◌, ◌≤◌, ◌<◌, ℕ, ◌-◌, false, List, [], ◌∷◌, ◌++◌, None, length, sym, ◌∙◌, subst, encode_utf8_all, chars, IsUtf8}
use Rattle.qs_lex_regular.specs.inner.Best.{best}
use Rattle.qs_lex_regular.proofs.Longest.{best-none}
use Rattle.qs_lex.specs.Lexes.{Lexeme, IsLongest, IsPlace, StopsAt, skip}
use Rattle.qs_lex.specs.Table.{table}
use Rattle.qs_lex.specs.inner.Unread.{Unread, HasRead, HasComeTo}
use Rattle.qs_lex.proofs.TokenList.{nothing_left, something_left, place_is, reads_snoc}

abbrev pub unread : List ℕ → List ℕ → Unread
unread text rest = record { bytes = text; rest = rest }

-- a token more was read
pub read_more : (old : Unread) (text rest after : List ℕ) (ts : List Lexeme) (t : Lexeme) (x more : List ℕ) → unread text rest ≡ old → HasRead ts old
    → skip false (chars rest) ≡ x ++ more → IsLongest t.class x more → t.text ≡ encode_utf8_all x → IsPlace (length text) (x ++ more) t.place → chars after ≡ more
    → HasRead (ts ++ t ∷ []) (unread text after)
read_more old text rest after ts t x more v h s l w p a =
    let before : HasRead ts (unread text rest) = subst (λ (u : Unread). HasRead ts u) (sym v) h in
    rw a (reads_snoc (length text) (chars text) ts (chars rest) t x more before s l w p)

-- nothing but a gap is left
pub read_all : (old : Unread) (text rest front : List ℕ) (ts : List Lexeme) → unread text rest ≡ old → HasRead ts old → chars front ≡ skip false (chars rest) → length front ≡ 0
    → HasComeTo ts None old
read_all old text rest front ts v h f z =
    let nothing : skip false (chars rest) ≡ [] = sym f ∙ nothing_left front z in
    (h, (chars old.rest, h, subst (λ (u : Unread). skip false (chars u.rest) ≡ []) v nothing))

-- no token begins after the gap
pub read_stops : (old : Unread) (text rest front : List ℕ) (ts : List Lexeme) → unread text rest ≡ old → HasRead ts old → chars front ≡ skip false (chars rest) → IsUtf8 front
    → 0 < length front → length front ≤ length text → best table (chars front) ≡ None → StopsAt old.bytes (length text - length front)
read_stops old text rest front ts v h f u some le none =
    let before : HasRead ts (unread text rest) = subst (λ (u : Unread). HasRead ts u) (sym v) h in
    subst (λ (u : Unread). StopsAt u.bytes (length text - length front)) v
    (ts, chars rest, before, subst (λ z. 0 < length z) f (something_left front u some), λ k x y t i. best-none table (chars front) none k x y (f ∙ t) i, place_is (length text) front (skip false (chars rest)) u le f)

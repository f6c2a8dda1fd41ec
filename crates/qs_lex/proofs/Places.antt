-- The tokens of a text are slices of it, one after another.
use Rattle.std.proofs.Common.{◌≡◌, ◌≤◌, ◌<◌, ℕ, ◌+◌, Bool, true, false, cond, not, ◌==◌, List, [], ◌∷◌, ◌++◌, length, take, drop, map, refl, sym, ap, ◌∙◌, subst, arith, encode_utf8_all, chars, IsUtf8, length-append, append_assoc, take_at, drop_at, All, AllPairs, get_or}
use Rattle.std.proofs.lemmas.List.Elements.{All-cons, All-nil}
use Rattle.std.proofs.lemmas.List.Kept.{AllPairs-cons}
use Rattle.std.proofs.lemmas.Str.{encodes-append, encodes-chars, length-le-encodes}
use Rattle.qs_lex.specs.Lexes.{Lexes, Reads, skip, is_blank, is_line_end}
use Rattle.qs_lex.specs.inner.Lexes.{lexeme}
use Rattle.qs_lex.specs.inner.Place.{IsSliceOf, StandsBefore}
use Rattle.qs_lex.specs.declared.token.Token.{Token}
use Rattle.qs_lex.proofs.TokenList.{nonempty}
use Rattle.qs_lex.proofs.Unique.{empty_token}
use Rattle.qs_lex.specs.inner.Table.{IsToken}

-- ---- white space and comments are a front

abbrev pub Gap : Bool → List ℕ → Type 0
Gap b cs = (g : List ℕ) × (cs ≡ g ++ skip b cs)

gap_by : (c : ℕ) (cs : List ℕ) (a b : Bool) → Gap false cs → Gap true cs → (g : List ℕ) × (c ∷ cs ≡ g ++ cond a (skip false cs) (cond b (skip true cs) (c ∷ cs)))
gap_by c cs true b f t = (c ∷ f.0, ap (λ z. c ∷ z) f.1)
gap_by c cs false true f t = (c ∷ t.0, ap (λ z. c ∷ z) t.1)
gap_by c cs false false f t = ([], refl)

pub gap : (b : Bool) (cs : List ℕ) → Gap b cs
gap true [] = ([], refl)
gap false [] = ([], refl)
gap true (c ∷ cs) = let r : Gap (not (is_line_end c)) cs = gap (not (is_line_end c)) cs in (c ∷ r.0, ap (λ z. c ∷ z) r.1)
gap false (c ∷ cs) = gap_by c cs (is_blank c) (c == 35) (gap false cs) (gap true cs)

-- ---- tokens after a place

pub record Placed (text : List ℕ) (at : ℕ) (ts : List Token) : Type 0 where
  pub behind : All (λ t. at ≤ t.place) ts
  pub slices : All (λ t. IsSliceOf text t) ts
  pub ordered : AllPairs StandsBefore ts

slice_at : (text before x after bytes : List ℕ) (place : ℕ) → text ≡ before ++ (x ++ after) → place ≡ length before → bytes ≡ x → bytes ≡ take (length bytes) (drop place text)
slice_at text before x after bytes place e p b =
    let behind : drop place text ≡ x ++ after = ap (drop place) e ∙ drop_at before (x ++ after) place (sym p) in
    b ∙ sym (ap (take (length bytes)) behind ∙ take_at x after (length bytes) (sym (ap length b)))

further : (at next : ℕ) (ts : List Token) → at ≤ next → All (λ t. next ≤ t.place) ts → All (λ t. at ≤ t.place) ts
further at next ts le h k d l = let g = h k d l in omega arith

pub placed : (text cs : List ℕ) (ts : List Token) (rest before : List ℕ) → text ≡ before ++ encode_utf8_all cs → Reads (length text) cs (map lexeme ts) rest → Placed text (length before) ts
placed text cs [] rest before e r = record { behind = All-nil _; slices = All-nil _; ordered = λ i j d lt h. absurd (omega arith) }
placed text cs (t ∷ ts) rest before e (x, more, s, l, w, p, r) =
    let g : Gap false cs = gap false cs in
    let start : List ℕ = before ++ encode_utf8_all g.0 in
    let split : encode_utf8_all cs ≡ encode_utf8_all g.0 ++ (encode_utf8_all x ++ encode_utf8_all more) =
    ap (λ z. encode_utf8_all z) (g.1 ∙ ap (λ z. g.0 ++ z) s) ∙ (encodes-append g.0 (x ++ more) ∙ ap (λ z. encode_utf8_all g.0 ++ z) (encodes-append x more)) in
    let whole : text ≡ start ++ (encode_utf8_all x ++ encode_utf8_all more) =
    e ∙ (ap (λ z. before ++ z) split ∙ sym (append_assoc before (encode_utf8_all g.0) (encode_utf8_all x ++ encode_utf8_all more))) in
    let sizes : length text ≡ length start + length (encode_utf8_all x ++ encode_utf8_all more) = ap length whole ∙ length-append start (encode_utf8_all x ++ encode_utf8_all more) in
    let tail : length (encode_utf8_all (x ++ more)) ≡ length (encode_utf8_all x ++ encode_utf8_all more) = ap length (encodes-append x more) in
    let place : t.place ≡ length start = omega (arith, sizes, tail, p) in
    let some : 0 < length x = nonempty x (λ z. empty_token t.class (subst (λ w. IsToken t.class w) z l.token)) in
    let size : length t.text.now ≡ length (encode_utf8_all x) = ap length w in
    let begin : length start ≡ length before + length (encode_utf8_all g.0) = length-append before (encode_utf8_all g.0) in
    let end : length (start ++ encode_utf8_all x) ≡ length start + length (encode_utf8_all x) = length-append start (encode_utf8_all x) in
    let next : Placed text (length (start ++ encode_utf8_all x)) ts =
    placed text more ts rest (start ++ encode_utf8_all x) (whole ∙ sym (append_assoc start (encode_utf8_all x) (encode_utf8_all more))) r in
    record {
      behind = All-cons (λ u. length before ≤ u.place) t ts (let le : length before ≤ t.place = omega (arith, place, begin) in le) (further (length before) (length (start ++ encode_utf8_all x)) ts (omega (arith, begin, end)) next.behind);
      slices = All-cons (λ u. IsSliceOf text u) t ts (slice_at text start (encode_utf8_all x) (encode_utf8_all more) t.text.now t.place whole place w) next.slices;
      ordered = AllPairs-cons StandsBefore t ts
          (λ k d lt. (let later : length (start ++ encode_utf8_all x) ≤ (get_or ts k d).place = next.behind k d lt in
          (omega (arith, later, end, place, size, some, length-le-encodes x), omega (arith, later, end, place, size)))) next.ordered;
    }

pub placed_whole : (text : List ℕ) (ts : List Token) → IsUtf8 text → Lexes text (map lexeme ts) → Placed text 0 ts
placed_whole text ts u (rest, r, e) = placed text (chars text) ts rest [] (sym (encodes-chars text u)) r

-- The places of a text's tokens ascend.
use Rattle.std.proofs.Common.{◌≡◌, ◌≤◌, ℕ, ◌+◌, Bool, true, false, cond, not, ◌==◌, List, [], ◌∷◌, ◌++◌, length, map, sym, ap, ◌∙◌, subst, arith, encode_utf8_all, length-append}
use Rattle.std.specs.List.{AllByRecursion}
use Rattle.std.proofs.lemmas.Str.{encodes-append}
use Rattle.qs_lex.specs.Lexes.{Lexeme, Reads, skip, is_blank, is_line_end}
use Rattle.qs_syntax.specs.Kinds.{token_of}
use Rattle.qs_syntax.specs.Text.{AreTokensOf}
use Rattle.qs_syntax_tree.specs.declared.token.Token.{Token}

size : List ℕ → ℕ
size cs = length (encode_utf8_all cs)

size_append : (xs ys : List ℕ) → size (xs ++ ys) ≡ size xs + size ys
unfolding size
size_append xs ys = ap length (encodes-append xs ys) ∙ length-append (encode_utf8_all xs) (encode_utf8_all ys)

-- white space and comments are passed over
skip_by : (c : ℕ) (cs : List ℕ) (a b : Bool) → size (skip false cs) ≤ size cs → size (skip true cs) ≤ size cs → size (cond a (skip false cs) (cond b (skip true cs) (c ∷ cs))) ≤ size (c ∷ cs)
skip_by c cs true b f t = let e = size_append (c ∷ []) cs in omega (arith, e, f)
skip_by c cs false true f t = let e = size_append (c ∷ []) cs in omega (arith, e, t)
skip_by c cs false false f t = omega arith

skip_shorter : (b : Bool) (cs : List ℕ) → size (skip b cs) ≤ size cs
skip_shorter true [] = omega arith
skip_shorter false [] = omega arith
skip_shorter true (c ∷ cs) = let e = size_append (c ∷ []) cs in let h = skip_shorter (not (is_line_end c)) cs in omega (arith, e, h)
skip_shorter false (c ∷ cs) = skip_by c cs (is_blank c) (c == 35) (skip_shorter false cs) (skip_shorter true cs)

-- each token begins in the last m bytes
abbrev Within : ℕ → ℕ → List Lexeme → Type 0
Within n m ts = AllByRecursion (λ (t : Lexeme). n ≤ t.place + m) ts

within : (n m : ℕ) (cs : List ℕ) (ts : List Lexeme) (rest : List ℕ) → size cs ≤ m → Reads n cs ts rest → Within n m ts
unfolding size
within n m cs [] rest le r = tt
within n m cs (t ∷ ts) rest le (x, more, s, l, w, p, r) =
    let shorter = skip_shorter false cs in
    let same : size (skip false cs) ≡ size (x ++ more) = ap size s in
    let parts = size_append x more in
    (omega (arith, le, shorter, same, p), within n m more ts rest (omega (arith, le, shorter, same, parts)) r)

abbrev pub Ascends : List Token → Type 0
Ascends [] = Unit {0}
Ascends (t ∷ ts) = AllByRecursion (λ (u : Token). t.span.start ≤ u.span.start) ts × Ascends ts

later : (n m place : ℕ) (ts : List Lexeme) → place + m ≡ n → Within n m ts → AllByRecursion (λ (u : Token). place ≤ u.span.start) (map token_of ts)
later n m place [] e h = tt
later n m place (t ∷ ts) e h = (let k = h.0 in omega (arith, e, k), later n m place ts e h.1)

ascend : (n : ℕ) (cs : List ℕ) (ts : List Lexeme) (rest : List ℕ) → Reads n cs ts rest → Ascends (map token_of ts)
unfolding size
ascend n cs [] rest r = tt
ascend n cs (t ∷ ts) rest (x, more, s, l, w, p, r) =
    let parts = size_append x more in
    (later n (size (x ++ more)) t.place ts p (within n (size (x ++ more)) more ts rest (omega (arith, parts)) r), ascend n more ts rest r)

pub tokens_ascend : (text : List ℕ) (tokens : List Token) → AreTokensOf text tokens → Ascends tokens
tokens_ascend text tokens a = subst Ascends (sym a.2) (ascend (length text) _ a.0 a.1.0 a.1.1)

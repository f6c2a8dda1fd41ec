-- The tokens of a text stand in it and are made of their parts.
use Rattle.std.proofs.Common.{◌≡◌, ℕ, ◌+◌, false, true, List, [], ◌∷◌, ◌++◌, length, refl, sym, ap, ◌∙◌, subst, arith, encode_utf8_all, chars, IsUtf8, length-append, append_assoc}
use Rattle.std.specs.List.{AllByRecursion}
use Rattle.std.specs.Str.{all_scalars}
use Rattle.std.proofs.lemmas.Str.{encodes-append, encodes-chars, scalars-chars}
use Rattle.qs_lex.specs.Lexes.{Lexeme, Lexes, Reads}
use Rattle.qs_lex.specs.inner.Parts.{IsSound, IsMadeOf}
use Rattle.qs_lex.proofs.Parts.{made_of, front_scalars, back_scalars}
use Rattle.qs_lex.proofs.Places.{Gap, gap}

sound : (text cs : List ℕ) (ts : List Lexeme) (rest before : List ℕ) → text ≡ before ++ encode_utf8_all cs → all_scalars cs ≡ true → Reads (length text) cs ts rest → AllByRecursion (IsSound text) ts
sound text cs [] rest before e ok r = tt
sound text cs (t ∷ ts) rest before e ok (x, more, s, l, w, p, r) =
    let g : Gap false cs = gap false cs in
    let split : cs ≡ g.0 ++ (x ++ more) = g.1 ∙ ap (λ z. g.0 ++ z) s in
    let inner : all_scalars (x ++ more) ≡ true = back_scalars g.0 (x ++ more) (subst (λ z. all_scalars z ≡ true) split ok) in
    let mine : all_scalars x ≡ true = front_scalars x more inner in
    let start : List ℕ = before ++ encode_utf8_all g.0 in
    let bytes : encode_utf8_all cs ≡ encode_utf8_all g.0 ++ (encode_utf8_all x ++ encode_utf8_all more) =
    ap (λ z. encode_utf8_all z) split ∙ (encodes-append g.0 (x ++ more) ∙ ap (λ z. encode_utf8_all g.0 ++ z) (encodes-append x more)) in
    let whole : text ≡ start ++ (encode_utf8_all x ++ encode_utf8_all more) =
    e ∙ (ap (λ z. before ++ z) bytes ∙ sym (append_assoc before (encode_utf8_all g.0) (encode_utf8_all x ++ encode_utf8_all more))) in
    let size : length text ≡ length start + length (encode_utf8_all x ++ encode_utf8_all more) = ap length whole ∙ length-append start (encode_utf8_all x ++ encode_utf8_all more) in
    let tail : length (encode_utf8_all (x ++ more)) ≡ length (encode_utf8_all x ++ encode_utf8_all more) = ap length (encodes-append x more) in (
      record {
        stands = record {
          before = start;
          after = encode_utf8_all more;
          whole = whole ∙ ap (λ z. start ++ (z ++ encode_utf8_all more)) (sym w);
          place = omega (arith, size, tail, p);
          utf8 = subst (λ z. IsUtf8 z) (sym w) (x, (mine, refl));
        };
        made = subst (IsMadeOf t.class) (sym w) (made_of t.class x mine l.token);
      },
      sound text more ts rest (start ++ encode_utf8_all x) (whole ∙ sym (append_assoc start (encode_utf8_all x) (encode_utf8_all more))) (back_scalars x more inner) r,
    )

pub sound_tokens : (text : List ℕ) (ts : List Lexeme) → IsUtf8 text → Lexes text ts → AllByRecursion (IsSound text) ts
sound_tokens text ts u (rest, r, e) = sound text (chars text) ts rest [] (sym (encodes-chars text u)) (scalars-chars text u) r

-- Each text has a token list, or a place at which no token begins.
use Rattle.std.proofs.Common.{◌≡◌, ◌⊎◌, inl, inr, ◌≤◌, ◌<◌, ℕ, zero, suc, ◌+◌, ◌-◌, false, List, [], ◌∷◌, ◌++◌, Option, Some, None, length, refl, sym, ap, ◌∙◌, subst, arith, encode_utf8_all, chars, IsUtf8, length-append}
use Rattle.std.proofs.lemmas.Str.{encodes-append, encodes-chars}
use Rattle.qs_lex_regular.specs.Longest.{LongestFront}
use Rattle.qs_lex_regular.specs.inner.Best.{best}
use Rattle.qs_lex_regular.proofs.Longest.{best-some, best-none}
use Rattle.qs_lex.specs.Lexes.{Lexeme, Lexes, StopsAt, Reads, IsPlace, IsLongest, skip}
use Rattle.qs_lex.specs.inner.Lexes.{HasNoToken}
use Rattle.qs_lex.specs.Table.{table}
use Rattle.qs_lex.specs.inner.Table.{IsToken}
use Rattle.qs_lex.specs.declared.token.Class.{Class}
use Rattle.qs_lex.proofs.Places.{Gap, gap}
use Rattle.qs_lex.proofs.TokenList.{nonempty}
use Rattle.qs_lex.proofs.Unique.{empty_token}

parts : (xs ys : List ℕ) → length (encode_utf8_all (xs ++ ys)) ≡ length (encode_utf8_all xs) + length (encode_utf8_all ys)
parts xs ys = ap length (encodes-append xs ys) ∙ length-append (encode_utf8_all xs) (encode_utf8_all ys)

-- of what is left of a text of n bytes
record Ends (n : ℕ) (cs : List ℕ) : Type 0 where
  tokens : List Lexeme
  rest : List ℕ
  reads : Reads n cs tokens rest
  empty : skip false rest ≡ []

record Stops (n : ℕ) (cs : List ℕ) : Type 0 where
  tokens : List Lexeme
  rest : List ℕ
  place : ℕ
  reads : Reads n cs tokens rest
  some : 0 < length (skip false rest)
  none : HasNoToken (skip false rest)
  is_place : IsPlace n (skip false rest) place

abbrev Something : ℕ → List ℕ → Type 0
Something n cs = Ends n cs ⊎ Stops n cs

record Fits (fuel n : ℕ) (cs : List ℕ) : Type 0 where
  short : length cs ≤ fuel
  bytes : length (encode_utf8_all cs) ≤ n

-- a gap takes nothing away but characters
behind : (fuel n : ℕ) (cs front : List ℕ) → skip false cs ≡ front → Fits fuel n cs → Fits fuel n front
behind fuel n cs front e f =
    let g : Gap false cs = gap false cs in
    let is : cs ≡ g.0 ++ front = g.1 ∙ ap (λ z. g.0 ++ z) e in
    let l : length cs ≡ length g.0 + length front = ap length is ∙ length-append g.0 front in
    let b : length (encode_utf8_all cs) ≡ length (encode_utf8_all g.0) + length (encode_utf8_all front) = ap (λ z. length (encode_utf8_all z)) is ∙ parts g.0 front in
    record { short = omega (arith, l, f.short); bytes = omega (arith, b, f.bytes) }

-- a token takes a character at least
past : (fuel n : ℕ) (x more : List ℕ) → 0 < length x → Fits (suc fuel) n (x ++ more) → Fits fuel n more
past fuel n x more s f =
    let l : length (x ++ more) ≡ length x + length more = length-append x more in
    let b : length (encode_utf8_all (x ++ more)) ≡ length (encode_utf8_all x) + length (encode_utf8_all more) = parts x more in
    record { short = omega (arith, l, s, f.short); bytes = omega (arith, b, f.bytes) }

module _ (n : ℕ) where
  at_end : (cs : List ℕ) → skip false cs ≡ [] → Something n cs
  at_end cs e = inl (record { tokens = []; rest = cs; reads = refl; empty = e })

  at_stop : (cs front : List ℕ) → skip false cs ≡ front → 0 < length front → length (encode_utf8_all front) ≤ n → best table front ≡ None → Something n cs
  at_stop cs front e s l b =
      let p : IsPlace n front (n - length (encode_utf8_all front)) = omega arith in
      inr (record {
        tokens = [];
        rest = cs;
        place = n - length (encode_utf8_all front);
        reads = refl;
        some = subst (λ z. 0 < length z) (sym e) s;
        none = subst (λ z. HasNoToken z) (sym e) (best-none table front b);
        is_place = subst (λ z. IsPlace n z (n - length (encode_utf8_all front))) (sym e) p;
      })

  -- one token more before the others
  record Next (cs : List ℕ) (t : Lexeme) (more : List ℕ) : Type 0 where
    characters : List ℕ
    split : skip false cs ≡ characters ++ more
    longest : IsLongest t.class characters more
    text : t.text ≡ encode_utf8_all characters
    place : IsPlace n (characters ++ more) t.place

  with_token : (cs : List ℕ) (t : Lexeme) (more : List ℕ) → Next cs t more → Something n more → Something n cs
  with_token cs t more x (inl e) = inl (record { tokens = t ∷ e.tokens; rest = e.rest; reads = (x.characters, more, x.split, x.longest, x.text, x.place, e.reads); empty = e.empty })
  with_token cs t more x (inr s) =
      inr (record { tokens = t ∷ s.tokens; rest = s.rest; place = s.place; reads = (x.characters, more, x.split, x.longest, x.text, x.place, s.reads); some = s.some; none = s.none; is_place = s.is_place })

  taken : (cs front : List ℕ) (k : Class) (m : ℕ) → skip false cs ≡ front → length (encode_utf8_all front) ≤ n → (f : LongestFront table front k m)
      → Next cs (record { class = k; place = n - length (encode_utf8_all front); text = encode_utf8_all f.front }) f.rest
  taken cs front k m e l f =
      let p : IsPlace n front (n - length (encode_utf8_all front)) = omega arith in record {
        characters = f.front;
        split = e ∙ f.text;
        longest = record { token = f.token; longest = λ j u v t h. f.longest j u v (f.text ∙ t) h };
        text = refl;
        place = subst (λ z. IsPlace n z (n - length (encode_utf8_all front))) f.text p;
      }

  read_front : (fuel : ℕ) (cs front : List ℕ) → skip false cs ≡ front → Fits fuel n front → (o : Option (Class × ℕ)) → best table front ≡ o → Something n cs
  read_front fuel cs [] e f o b = at_end cs e
  read_front fuel cs (c ∷ ds) e f None b = at_stop cs (c ∷ ds) e (omega arith) f.bytes b
  read_front zero cs (c ∷ ds) e f (Some k) b = absurd (omega (arith, f.short))
  read_front (suc fuel) cs (c ∷ ds) e f (Some k) b =
      let t : LongestFront table (c ∷ ds) k.0 k.1 = best-some table (c ∷ ds) k.0 k.1 b in
      let s : 0 < length t.front = nonempty t.front (λ z. empty_token k.0 (subst (λ w. IsToken k.0 w) z t.token)) in
      let next : Fits fuel n t.rest = past fuel n t.front t.rest s (subst (Fits (suc fuel) n) t.text f) in
      let more : Something n t.rest = read_front fuel t.rest (skip false t.rest) refl (behind fuel n t.rest (skip false t.rest) refl next) (best table (skip false t.rest)) refl in
      with_token cs _ t.rest (taken cs (c ∷ ds) k.0 k.1 e f.bytes t) more

pub some_reading : (text : List ℕ) → IsUtf8 text → ((ts : List Lexeme) × Lexes text ts) ⊎ ((place : ℕ) × StopsAt text place)
some_reading text u =
    let cs : List ℕ = chars text in
    let size : length (encode_utf8_all cs) ≡ length text = ap length (encodes-chars text u) in
    let f : Fits (length cs) (length text) cs = record { short = omega arith; bytes = omega (arith, size) } in
    elim (read_front (length text) (length cs) cs (skip false cs) refl (behind (length cs) (length text) cs (skip false cs) refl f) (best table (skip false cs)) refl) [
      | inl e ↦ inl (e.tokens, (e.rest, e.reads, e.empty))
      | inr s ↦ inr (s.place, (s.tokens, s.rest, s.reads, s.some, s.none, s.is_place))
    ]

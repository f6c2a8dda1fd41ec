-- The tokens of a text are what the layers above take for granted.
use Rattle.std.proofs.Common.{◌≡◌, ◌⊎◌, inl, inr, ℕ, ◌+◌, ◌-◌, Bool, true, false, not, ◌==◌, List, [], ◌∷◌, ◌++◌, length, take, drop, map, refl, sym, ap, ◌∙◌, subst, arith, append_assoc, append-nil, length-append, take_at, drop_at, true≢false, IsUtf8, ne_eqb}
use Rattle.std.specs.Prelude.{nat_eq, codes, if◌then◌else◌}
use Rattle.std.specs.Str.{bytes_eq, str_eq_ignore_ascii_case}
use Rattle.std.specs.List.{AllByRecursion, list_all, list_any, position_or_len, before_first, after_first}
use Rattle.std.proofs.lemmas.Bool.{and_parts, or_parts, not-true, eqb-false}
use Rattle.qs_lex_escapes.specs.Decoded.{decoded, unescaped}
use Rattle.qs_lex_escapes.specs.Escape.{uchar, string_escape}
use Rattle.qs_lex_escapes.specs.Piece.{piece}
use Rattle.qs_lex_escapes.specs.inner.Backslashes.{escapes_begin}
use Rattle.qs_lex_escapes.proofs.PiecesBetween.{piece_between}
use Rattle.qs_lex.specs.Lexes.{Lexeme, Lexes}
use Rattle.qs_lex.specs.inner.Parts as parts
use Rattle.qs_lex.specs.inner.Parts.{StandsIn, IsSound, IsMadeOf, begins_with}
use Rattle.qs_lex.specs.declared.token.Class.{Class}
use Rattle.qs_lex.specs.declared.token.Class.TheVariants as class
use Rattle.qs_syntax_resolve.specs.Names.{marks}
use Rattle.qs_syntax_resolve.specs.inner.Names.{is_colon}
use Rattle.qs_terms.specs.Iri.{is_excluded}
use Rattle.qs_terms.specs.Tag.{is_tag}
use Rattle.qs_syntax_tree.specs.Words.{word_kind, mark_kind, find_kind, keywords}
use Rattle.qs_syntax_tree.specs.Words as words
use Rattle.qs_syntax_tree.specs.declared.kind.Kind.{Kind}
use Rattle.qs_syntax_tree.specs.declared.kind.Kind.TheVariants as k
use Rattle.qs_syntax_tree.specs.declared.token.Span.{Span}
use Rattle.qs_syntax_tree.specs.declared.token.Token.{Token}
use Rattle.qs_syntax.specs.inner.Granted.{IsIri, IsName, IsPrefix, IsVariable, IsLabel, IsLangTag, IsString, IsGranted, IsGrantedToken, ends}
use Rattle.qs_syntax.specs.Kinds.{kind_of, token_of}
use Rattle.qs_syntax.specs.Text.{AreTokensOf}

-- ---- up to the first colon

at_colon : (xs ys : List ℕ) → list_any (λ c. c == 58) xs ≡ false → position_or_len is_colon (xs ++ 58 ∷ ys) ≡ length xs
at_colon [] ys h = refl
at_colon (c ∷ xs) ys h =
    let p : ((c == 58) ≡ false) × (list_any (λ c. c == 58) xs ≡ false) = or_parts (c == 58) (list_any (λ c. c == 58) xs) h in
    let n : (c == 58) ≡ false = p.0 in
    let rest : position_or_len is_colon (xs ++ 58 ∷ ys) ≡ length xs = at_colon xs ys p.1 in rw n (omega (arith, rest))

before_colon : (xs ys : List ℕ) → list_any (λ c. c == 58) xs ≡ false → before_first is_colon (xs ++ 58 ∷ ys) ≡ xs
before_colon xs ys h = ap (λ n. take n (xs ++ 58 ∷ ys)) (at_colon xs ys h) ∙ take_at xs (58 ∷ ys) (length xs) refl

after_colon : (xs ys : List ℕ) → list_any (λ c. c == 58) xs ≡ false → after_first is_colon (xs ++ 58 ∷ ys) ≡ ys
after_colon xs ys h =
    let size : length (xs ++ 58 ∷ []) ≡ length xs + 1 = length-append xs (58 ∷ []) in
    ap (λ n. drop (n + 1) (xs ++ 58 ∷ ys)) (at_colon xs ys h) ∙ (ap (drop (length xs + 1)) (sym (append_assoc xs (58 ∷ []) ys)) ∙ drop_at (xs ++ 58 ∷ []) ys (length xs + 1) size)

-- ---- quotation marks

marks_long : (q : ℕ) (xs : List ℕ) → (q ≡ 34) ⊎ (q ≡ 39) → marks (q ∷ q ∷ q ∷ xs) ≡ 3
marks_long q xs (inl e) = subst (λ z. marks (z ∷ z ∷ z ∷ xs) ≡ 3) (sym e) refl
marks_long q xs (inr e) = subst (λ z. marks (z ∷ z ∷ z ∷ xs) ≡ 3) (sym e) refl

turned : (c q : ℕ) → (c == q) ≡ false → nat_eq q c ≡ false
turned c q h = ne_eqb q c (λ e. eqb-false c q h (sym e))

marks_double : (xs : List ℕ) → begins_with 34 xs ≡ false → marks (34 ∷ (xs ++ 34 ∷ [])) ≡ 1
marks_double [] h = refl
marks_double (c ∷ xs) h = let n : nat_eq 34 c ≡ false = turned c 34 h in rw n refl

marks_single : (xs : List ℕ) → begins_with 39 xs ≡ false → marks (39 ∷ (xs ++ 39 ∷ [])) ≡ 1
marks_single [] h = refl
marks_single (c ∷ xs) h = let n : nat_eq 39 c ≡ false = turned c 39 h in rw n refl

marks_short : (q : ℕ) (xs : List ℕ) → (q ≡ 34) ⊎ (q ≡ 39) → begins_with q xs ≡ false → marks (q ∷ (xs ++ q ∷ [])) ≡ 1
marks_short q xs (inl e) h = subst (λ z. marks (z ∷ (xs ++ z ∷ [])) ≡ 1) (sym e) (marks_double xs (subst (λ z. begins_with z xs ≡ false) e h))
marks_short q xs (inr e) h = subst (λ z. marks (z ∷ (xs ++ z ∷ [])) ≡ 1) (sym e) (marks_single xs (subst (λ z. begins_with z xs ≡ false) e h))

-- ---- pieces of a token that stands in the text

module _ (text : List ℕ) (u : IsUtf8 text) (t : Lexeme) (s : StandsIn text t) where
  abbrev span : Span
  span = record { start = t.place; end = t.place + length t.text }

  whole : piece text span.start span.end ≡ t.text
  whole = piece_between text s.before t.text s.after t.place (t.place + length t.text) u s.utf8 s.whole s.place refl

  inner : (a m b : List ℕ) → t.text ≡ a ++ (m ++ b) → IsUtf8 m → (i j : ℕ) → i ≡ t.place + length a → j ≡ t.place + length t.text - length b → piece text i j ≡ m
  inner a m b e v i j p q =
      let front : length (s.before ++ a) ≡ length s.before + length a = length-append s.before a in
      let size : length t.text ≡ length a + length (m ++ b) = ap length e ∙ length-append a (m ++ b) in
      let rest : length (m ++ b) ≡ length m + length b = length-append m b in
      let split : text ≡ (s.before ++ a) ++ (m ++ (b ++ s.after)) =
      s.whole ∙ (ap (λ z. s.before ++ (z ++ s.after)) e ∙ (ap (λ z. s.before ++ z) (append_assoc a (m ++ b) s.after ∙ ap (λ z. a ++ z) (append_assoc m b s.after))
      ∙ sym (append_assoc s.before a (m ++ (b ++ s.after))))) in
      piece_between text (s.before ++ a) m (b ++ s.after) i j u v split (omega (arith, front, p, s.place)) (omega (arith, size, rest, p, q))

  iri : parts.IsIri t.text → IsIri text span
  iri x =
      let m : piece text (span.start + 1) (span.end - 1) ≡ x.iri = inner (60 ∷ []) x.iri (62 ∷ []) x.text x.utf8 (span.start + 1) (span.end - 1) (omega arith) (omega arith) in record {
        whole = whole ∙ (x.text ∙ ap (λ z. 60 ∷ (z ++ 62 ∷ [])) (sym m));
        escapes = ap (λ z. escapes_begin uchar z) m ∙ x.escapes;
        lawful = ap (λ z. list_any is_excluded (decoded uchar z)) m ∙ x.lawful;
      }

  name : parts.IsName t.text → IsName text span
  name x =
      let is : piece text span.start span.end ≡ x.prefix ++ 58 ∷ x.local = whole ∙ x.text in
      let before : before_first is_colon (piece text span.start span.end) ≡ x.prefix = ap (before_first is_colon) is ∙ before_colon x.prefix x.local x.no_colon in
      let after : after_first is_colon (piece text span.start span.end) ≡ x.local = ap (after_first is_colon) is ∙ after_colon x.prefix x.local x.no_colon in record {
        whole = is ∙ (ap (λ z. z ++ 58 ∷ x.local) (sym before) ∙ ap (λ z. before_first is_colon (piece text span.start span.end) ++ 58 ∷ z) (sym after));
        lawful = ap (λ z. list_any is_excluded (unescaped z)) after ∙ x.lawful;
      }

  prefix : parts.IsPrefix t.text → IsPrefix text span
  prefix x =
      let is : t.text ≡ x.name.prefix ++ 58 ∷ [] = x.name.text ∙ ap (λ z. x.name.prefix ++ 58 ∷ z) x.empty in
      let m : piece text span.start (span.end - 1) ≡ x.name.prefix = inner [] x.name.prefix (58 ∷ []) is x.name.utf8 span.start (span.end - 1) (omega arith) (omega arith) in
      record { name = name x.name; whole = whole ∙ (is ∙ ap (λ z. z ++ 58 ∷ []) (sym m)) }

  behind : (a m : List ℕ) → t.text ≡ a ++ m → IsUtf8 m → (i : ℕ) → i ≡ t.place + length a → piece text i span.end ≡ m
  behind a m e v i p = inner a m [] (e ∙ ap (λ z. a ++ z) (sym (append-nil m))) v i span.end p (omega arith)

  variable : parts.IsVariable t.text → IsVariable text span
  variable x =
      let m : piece text (span.start + 1) span.end ≡ x.behind.rest = behind (x.mark ∷ []) x.behind.rest x.behind.text x.behind.utf8 (span.start + 1) (omega arith) in
      record { mark = x.mark; whole = whole ∙ (x.behind.text ∙ ap (λ z. x.mark ∷ z) (sym m)) }

  label : parts.IsBehind (95 ∷ 58 ∷ []) t.text → IsLabel text span
  label x =
      let m : piece text (span.start + 2) span.end ≡ x.rest = behind (95 ∷ 58 ∷ []) x.rest x.text x.utf8 (span.start + 2) (omega arith) in
      record { whole = whole ∙ (x.text ∙ ap (λ z. 95 ∷ 58 ∷ z) (sym m)) }

  tag : parts.IsLangTag t.text → IsLangTag text span
  tag x =
      let m : piece text (span.start + 1) span.end ≡ x.behind.rest = behind (64 ∷ []) x.behind.rest x.behind.text x.behind.utf8 (span.start + 1) (omega arith) in
      record { whole = whole ∙ (x.behind.text ∙ ap (λ z. 64 ∷ z) (sym m)); lawful = ap is_tag m ∙ x.lawful }

  quoted : (qs written : List ℕ) → t.text ≡ qs ++ (written ++ qs) → IsUtf8 written → escapes_begin string_escape written ≡ true → marks t.text ≡ length qs → IsString text span
  quoted qs written e v escapes n =
      let count : ends text span ≡ length qs = ap marks whole ∙ n in
      let m : piece text (span.start + ends text span) (span.end - ends text span) ≡ written =
      inner qs written qs e v (span.start + ends text span) (span.end - ends text span) (ap (λ k. span.start + k) count) (ap (λ k. span.end - k) count) in record {
        quotes = qs;
        whole = whole ∙ (e ∙ ap (λ z. qs ++ (z ++ qs)) (sym m));
        escapes = ap (λ z. escapes_begin string_escape z) m ∙ escapes;
      }

  string : parts.IsString t.text → IsString text span
  string x = elim x.text [
    | inl a ↦ quoted (x.mark ∷ []) x.written a.0 x.utf8 x.escapes (ap marks a.0 ∙ marks_short x.mark x.written x.is_mark a.1)
    | inr b ↦ quoted (x.mark ∷ x.mark ∷ x.mark ∷ []) x.written b x.utf8 x.escapes (ap marks b ∙ marks_long x.mark (x.written ++ x.mark ∷ x.mark ∷ x.mark ∷ []) x.is_mark)
  ]

-- ---- kinds of words and marks are no kinds of the other classes

abbrev is_asked : Kind → Bool
is_asked k.IriRef = true
is_asked k.PnameLn = true
is_asked k.PnameNs = true
is_asked k.BlankLabel = true
is_asked k.Var = true
is_asked k.String = true
is_asked k.LangTag = true
is_asked other = false

nothing_asked : (text : List ℕ) (kind : Kind) (s : Span) → is_asked kind ≡ false → IsGranted text kind s
nothing_asked text k.IriRef s h = absurd (true≢false h)
nothing_asked text k.PnameLn s h = absurd (true≢false h)
nothing_asked text k.PnameNs s h = absurd (true≢false h)
nothing_asked text k.BlankLabel s h = absurd (true≢false h)
nothing_asked text k.Var s h = absurd (true≢false h)
nothing_asked text k.String s h = absurd (true≢false h)
nothing_asked text k.LangTag s h = absurd (true≢false h)
nothing_asked text other s h = tt

chosen : (b : Bool) (x y : Kind) → is_asked x ≡ false → is_asked y ≡ false → is_asked (if b then x else y) ≡ false
chosen true x y p q = p
chosen false x y p q = q

found : (like : List ℕ → List ℕ → Bool) (none : Kind) (rows : List (List ℕ × Kind)) (text : List ℕ) → is_asked none ≡ false → list_all (λ (r : List ℕ × Kind). not (is_asked r.1)) rows ≡ true
    → is_asked (find_kind like none rows text) ≡ false
found like none [] text n h = n
found like none (r ∷ rs) text n h =
    let p : (not (is_asked r.1) ≡ true) × (list_all (λ (r : List ℕ × Kind). not (is_asked r.1)) rs ≡ true) = and_parts _ _ h in
    chosen (like text r.0) r.1 (find_kind like none rs text) (not-true (is_asked r.1) p.0) (found like none rs text n p.1)

word_asks : (text : List ℕ) → is_asked (word_kind text) ≡ false
unfolding word_kind
word_asks text = chosen (bytes_eq text (codes "a")) k.A (find_kind str_eq_ignore_ascii_case k.Word keywords text) refl (found str_eq_ignore_ascii_case k.Word keywords text refl refl)

mark_asks : (text : List ℕ) → is_asked (mark_kind text) ≡ false
unfolding mark_kind
mark_asks text = found bytes_eq k.Word words.marks text refl refl

-- ---- the whole

by_class : (text : List ℕ) (u : IsUtf8 text) (t : Lexeme) (s : StandsIn text t) (c : Class) → IsMadeOf c t.text → IsGranted text (kind_of c t.text) (token_of t).span
by_class text u t s class.IriRef m = iri text u t s m
by_class text u t s class.PnameNs m = prefix text u t s m
by_class text u t s class.PnameLn m = name text u t s m
by_class text u t s class.BlankLabel m = label text u t s m
by_class text u t s class.Var m = variable text u t s m
by_class text u t s class.String m = string text u t s m
by_class text u t s class.LangTag m = tag text u t s m
by_class text u t s class.Integer m = tt
by_class text u t s class.Signed m = tt
by_class text u t s class.Decimal m = tt
by_class text u t s class.Double m = tt
by_class text u t s class.Word m = nothing_asked text (word_kind t.text) (token_of t).span (word_asks t.text)
by_class text u t s class.Mark m = nothing_asked text (mark_kind t.text) (token_of t).span (mark_asks t.text)

each_granted : (text : List ℕ) → IsUtf8 text → (ts : List Lexeme) → AllByRecursion (IsSound text) ts → AllByRecursion (IsGrantedToken text) (map token_of ts)
each_granted text u [] h = tt
each_granted text u (t ∷ ts) h = (by_class text u t h.0.stands t.class h.0.made, each_granted text u ts h.1)

each_piece : (text : List ℕ) → IsUtf8 text → (ts : List Lexeme) → AllByRecursion (IsSound text) ts → AllByRecursion (λ t. piece text (token_of t).span.start (token_of t).span.end ≡ t.text) ts
each_piece text u [] h = tt
each_piece text u (t ∷ ts) h = (whole text u t h.0.stands, each_piece text u ts h.1)

module _ (sound : (text : List ℕ) (ts : List Lexeme) → IsUtf8 text → Lexes text ts → AllByRecursion (IsSound text) ts) where
  pub pieces : (text : List ℕ) (ts : List Lexeme) → IsUtf8 text → Lexes text ts → AllByRecursion (λ t. piece text (token_of t).span.start (token_of t).span.end ≡ t.text) ts
  pieces text ts u l = each_piece text u ts (sound text ts u l)

  pub granted : (text : List ℕ) (tokens : List Token) → IsUtf8 text → AreTokensOf text tokens → AllByRecursion (IsGrantedToken text) tokens
  granted text tokens u a = subst (AllByRecursion (IsGrantedToken text)) (sym a.2) (each_granted text u a.0 (sound text a.0 u a.1))

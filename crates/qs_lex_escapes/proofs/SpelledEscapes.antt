-- Characters and escapes, and what they denote.
use Rattle.std.proofs.Common.{◌≡◌, ℕ, zero, suc, ◌+◌, ◌*◌, ◌<◌, ◌≤◌, Bool, true, false, ◌||◌, ◌==◌, not, List, [], ◌∷◌, ◌++◌, length, Option, Some, None, inl, inr, refl, sym, ap, ap₂, ◌∙◌, subst, arith, append_assoc, append-nil, true≢false, eqb-true}
use Rattle.std.specs.List.{list_all, list_any}
use Rattle.std.specs.Option.{is_some}
use Rattle.std.proofs.lemmas.Bool.{and_parts, not-true, agree_below_at}
use Rattle.std.proofs.lemmas.Bool.Decides.{nat_tests}
use Rattle.std.proofs.lemmas.Str.{encode_ascii, encodes-append}
use lib.Utf8.{encode, encodes}
use Rattle.qs_lex_regular.specs.Character.{is_iri_char, is_iri_scalar, is_escaped, is_hex, hex_value, is_scalar}
use Rattle.qs_lex_regular.specs.Form as form
use Rattle.qs_lex_regular.specs.Form.{Form, Spells, Pieces, AreHexes, none, more, one, many, char, ◌⨾◌, ◌∣◌}
use Rattle.qs_terms.specs.Iri.{is_excluded}
use Rattle.qs_lex_escapes.specs.Decoded.{decoded, decoded_after}
use Rattle.qs_lex_escapes.specs.Escape.{uchar, string_escape, hex_number, escape_of, echar_of}
use Rattle.qs_lex_escapes.specs.inner.Escape.{echar_or}
use Rattle.qs_lex_escapes.specs.declared.escape.Escape.{Escape}
use Rattle.qs_lex_escapes.specs.inner.Backslashes.{begins_behind, escapes_begin}
use Rattle.qs_lex_escapes.specs.inner.StandsFor.{StandsFor}
use Rattle.qs_lex_escapes.proofs.Bytes.{within, other_than, all-append, none_any, one_passes, bytes_pass}

-- ---- hexadecimal digits

hex_small : (c : ℕ) → is_hex c ≡ true → c < 128
unfolding is_hex
hex_small c h = grind (arith, nat_tests)

-- digits that name a number which passes the test
record Names (n v : ℕ) (p : ℕ → Bool) (ds : List ℕ) : Type 0 where
  value : ℕ
  passes : p value ≡ true
  count : length ds ≡ n
  bytes : encodes ds ≡ ds
  number : (r : List ℕ) → hex_number n v (ds ++ r) ≡ Some value

names : (n v : ℕ) (p : ℕ → Bool) (ds : List ℕ) → AreHexes n v p ds → Names n v p ds
unfolding hex_number
names zero v p ds h = subst (λ z. Names zero v p z) (sym h.0) (record { value = v; passes = h.1; count = refl; bytes = refl; number = λ r. refl })
names (suc n) v p ds h =
    let c : ℕ = h.0 in let es : List ℕ = h.1 in let hex : is_hex c ≡ true = h.3 in
    let rest : Names n (v * 16 + hex_value c) p es = names n (v * 16 + hex_value c) p es h.4 in
    let made : Names (suc n) v p (c ∷ es) = record {
      value = rest.value;
      passes = rest.passes;
      count = ap suc rest.count;
      bytes = ap₂ (λ (a b : List ℕ). a ++ b) (encode_ascii c (hex_small c hex)) rest.bytes;
      number = λ r. rw hex (rest.number r);
    } in subst (λ z. Names (suc n) v p z) (sym h.2) made

-- ---- a text that goes on

no_slash : (c : ℕ) → (c == 92) ≡ false → list_all (λ c. not (c == 92)) (encode c) ≡ true
no_slash c n = one_passes (λ c. not (c == 92)) (other_than 92 (omega arith)) c (rw n refl)

pub this_char : (c : ℕ) (x : List ℕ) → Spells (char c) x → x ≡ c ∷ []
this_char c x s = s.2 ∙ ap (λ d. d ∷ []) (eqb-true s.0 c s.1)

module _ (escape : List ℕ → Option Escape) where
  passed : (xs r : List ℕ) → begins_behind escape (length xs) (xs ++ r) ≡ begins_behind escape 0 r
  unfolding begins_behind
  passed [] r = refl
  passed (x ∷ xs) r = passed xs r

  passed_over : (xs r : List ℕ) → decoded_after escape (length xs) (xs ++ r) ≡ decoded_after escape 0 r
  unfolding decoded_after
  passed_over [] r = refl
  passed_over (x ∷ xs) r = passed_over xs r

  took : (bs : List ℕ) (e : Escape) → escape bs ≡ Some e → begins_behind escape 0 (92 ∷ bs) ≡ begins_behind escape e.length bs
  unfolding begins_behind
  took bs e h = rw h refl

  gave : (bs : List ℕ) (e : Escape) → escape bs ≡ Some e → decoded_after escape 0 (92 ∷ bs) ≡ encode e.character ++ decoded_after escape e.length bs
  unfolding decoded_after
  gave bs e h = rw h refl

  plain : (xs r : List ℕ) → list_all (λ c. not (c == 92)) xs ≡ true → begins_behind escape 0 (xs ++ r) ≡ begins_behind escape 0 r
  unfolding begins_behind
  plain [] r h = refl
  plain (x ∷ xs) r h =
      let q : (not (x == 92) ≡ true) × (list_all (λ c. not (c == 92)) xs ≡ true) = and_parts _ _ h in
      let n : (x == 92) ≡ false = not-true (x == 92) q.0 in rw n (plain xs r q.1)

  kept : (xs r : List ℕ) → list_all (λ c. not (c == 92)) xs ≡ true → decoded_after escape 0 (xs ++ r) ≡ xs ++ decoded_after escape 0 r
  unfolding decoded_after
  kept [] r h = refl
  kept (x ∷ xs) r h =
      let q : (not (x == 92) ≡ true) × (list_all (λ c. not (c == 92)) xs ≡ true) = and_parts _ _ h in
      let n : (x == 92) ≡ false = not-true (x == 92) q.0 in rw n (ap (λ z. x ∷ z) (kept xs r q.1))

  -- ---- what denotes what

  pub nothing_stands : StandsFor escape [] []
  nothing_stands = record { begins = λ r. refl; decodes = λ r. refl }

  -- a character for itself
  pub character_stands : (c : ℕ) → (c == 92) ≡ false → StandsFor escape (c ∷ []) (c ∷ [])
  character_stands c n =
      let bytes : encodes (c ∷ []) ≡ encode c = append-nil (encode c) in record {
        begins = λ r. ap (λ z. begins_behind escape 0 (z ++ r)) bytes ∙ plain (encode c) r (no_slash c n);
        decodes = λ r. ap (λ z. decoded_after escape 0 (z ++ r)) bytes ∙ (kept (encode c) r (no_slash c n) ∙ ap (λ z. z ++ decoded_after escape 0 r) (sym bytes));
      }

  pub joined_stand : (x y u v : List ℕ) → StandsFor escape x y → StandsFor escape u v → StandsFor escape (x ++ u) (y ++ v)
  joined_stand x y u v a b = record {
    begins = λ r. ap (λ z. begins_behind escape 0 z) (ap (λ z. z ++ r) (encodes-append x u) ∙ append_assoc (encodes x) (encodes u) r) ∙ (a.begins (encodes u ++ r) ∙ b.begins r);
    decodes = λ r. ap (λ z. decoded_after escape 0 z) (ap (λ z. z ++ r) (encodes-append x u) ∙ append_assoc (encodes x) (encodes u) r)
        ∙ (a.decodes (encodes u ++ r) ∙ (ap (λ z. encodes y ++ z) (b.decodes r)
        ∙ sym (ap (λ z. z ++ decoded_after escape 0 r) (encodes-append y v) ∙ append_assoc (encodes y) (encodes v) (decoded_after escape 0 r))));
  }

  -- characters that pass a test
  pub record Stands (q : ℕ → Bool) (x : List ℕ) : Type 0 where
    pub characters : List ℕ
    pub pass : list_all q characters ≡ true
    pub stand : StandsFor escape x characters

  pub pieces_stand : (q : ℕ → Bool) (P : List ℕ → Type 0) → ((x : List ℕ) → P x → Stands q x) → (x : List ℕ) → Pieces P x → Stands q x
  pieces_stand q P f _ none = record { characters = []; pass = refl; stand = nothing_stands }
  pieces_stand q P f _ (more u v s ps) =
      let a : Stands q u = f u s in let b : Stands q v = pieces_stand q P f v ps in
      record { characters = a.characters ++ b.characters; pass = all-append q a.characters b.characters a.pass b.pass; stand = joined_stand u a.characters v b.characters a.stand b.stand }

  pub one_stands : (q p : ℕ → Bool) → ((c : ℕ) → p c ≡ true → (c == 92) ≡ false) → ((c : ℕ) → p c ≡ true → q c ≡ true) → (x : List ℕ) → Spells (one p) x → Stands q x
  one_stands q p f w x s =
      let passes : q s.0 ≡ true = w s.0 s.1 in
      subst (Stands q) (sym s.2) (record { characters = s.0 ∷ []; pass = rw passes refl; stand = character_stands s.0 (f s.0 s.1) })

  -- a codepoint escape of so many digits, after its letter
  hexes_stand : (q p : ℕ → Bool) (c n : ℕ) (ds : List ℕ) → ((v : ℕ) → p v ≡ true → is_scalar v ≡ true) → ((v : ℕ) → p v ≡ true → q v ≡ true) → c < 128 → AreHexes n 0 p ds
      → ((r : List ℕ) → escape (c ∷ (ds ++ r)) ≡ escape_of (suc n) (hex_number n 0 (ds ++ r))) → Stands q (92 ∷ c ∷ ds)
  unfolding begins_behind decoded_after
  hexes_stand q p c n ds scalar w small h is =
      let d : Names n 0 p ds = names n 0 p ds h in
      let ok : is_scalar d.value ≡ true = scalar d.value d.passes in
      let passes : q d.value ≡ true = w d.value d.passes in
      let e : Escape = record { character = d.value; length = suc n } in
      let named : escape_of (suc n) (Some d.value) ≡ Some e = rw ok refl in
      let found : (r : List ℕ) → escape (c ∷ (ds ++ r)) ≡ Some e = λ r. is r ∙ (ap (λ z. escape_of (suc n) z) (d.number r) ∙ named) in
      let bytes : encodes (92 ∷ c ∷ ds) ≡ 92 ∷ c ∷ ds =
      ap₂ (λ (a b : List ℕ). a ++ b) (encode_ascii 92 (omega arith)) (ap₂ (λ (a b : List ℕ). a ++ b) (encode_ascii c small) d.bytes) in
      record {
        characters = d.value ∷ [];
        pass = rw passes refl;
        stand = record {
          begins = λ r. ap (λ z. begins_behind escape 0 (z ++ r)) bytes ∙ (took (c ∷ (ds ++ r)) e (found r) ∙ (ap (λ m. begins_behind escape m (ds ++ r)) (sym d.count) ∙ passed ds r));
          decodes = λ r. ap (λ z. decoded_after escape 0 (z ++ r)) bytes
              ∙ (gave (c ∷ (ds ++ r)) e (found r) ∙ (ap (λ m. encode d.value ++ decoded_after escape m (ds ++ r)) (sym d.count)
              ∙ (ap (λ z. encode d.value ++ z) (passed_over ds r) ∙ ap (λ z. z ++ decoded_after escape 0 r) (sym (append-nil (encode d.value))))));
        };
      }

  pub codepoint_stands : (q p : ℕ → Bool) → ((v : ℕ) → p v ≡ true → is_scalar v ≡ true) → ((v : ℕ) → p v ≡ true → q v ≡ true)
      → ((cs : List ℕ) → escape (117 ∷ cs) ≡ escape_of 5 (hex_number 4 0 cs)) → ((cs : List ℕ) → escape (85 ∷ cs) ≡ escape_of 9 (hex_number 8 0 cs))
      → (x : List ℕ) → Spells (form.uchar p) x → Stands q x
  codepoint_stands q p scalar w short long x s =
      let slash : s.0 ≡ 92 ∷ [] = this_char 92 s.0 s.2 in
      elim s.3 [
        | inl a ↦
            (let is : x ≡ 92 ∷ 117 ∷ a.1 = s.4 ∙ ap₂ (λ (u v : List ℕ). u ++ v) slash (a.4 ∙ ap (λ z. z ++ a.1) (this_char 117 a.0 a.2)) in
            subst (Stands q) (sym is) (hexes_stand q p 117 4 a.1 scalar w (omega arith) a.3 (λ r. short (a.1 ++ r))))
        | inr a ↦
            (let is : x ≡ 92 ∷ 85 ∷ a.1 = s.4 ∙ ap₂ (λ (u v : List ℕ). u ++ v) slash (a.4 ∙ ap (λ z. z ++ a.1) (this_char 85 a.0 a.2)) in
            subst (Stands q) (sym is) (hexes_stand q p 85 8 a.1 scalar w (omega arith) a.3 (λ r. long (a.1 ++ r))))
      ]

  -- ---- the whole

  pub escapes_stand : (x y : List ℕ) → StandsFor escape x y → escapes_begin escape (encodes x) ≡ true
  unfolding begins_behind
  escapes_stand x y s = ap (λ z. begins_behind escape 0 z) (sym (append-nil (encodes x))) ∙ s.begins []

  pub decoded_stands : (x y : List ℕ) → StandsFor escape x y → decoded escape (encodes x) ≡ encodes y
  unfolding decoded_after
  decoded_stands x y s = ap (λ z. decoded_after escape 0 z) (sym (append-nil (encodes x))) ∙ (s.decodes [] ∙ append-nil (encodes y))

-- ---- escapes of strings

pub any : ℕ → Bool
any c = true

pub all_any : (c : ℕ) → any c ≡ true
unfolding any
all_any c = refl

escaped_small : (c : ℕ) → is_escaped c ≡ true → c < 128
unfolding is_escaped
escaped_small c h = grind (arith, nat_tests)

escaped_some : (c : ℕ) → is_escaped c ≡ true → is_some (echar_of c) ≡ true
unfolding is_escaped
escaped_some c h = let a : (not (is_escaped c) || is_some (echar_of c)) ≡ true = agree_below_at (λ c. not (is_escaped c) || is_some (echar_of c)) (λ c. true) 128 c refl (escaped_small c h) in rw h at a

value_of : Option ℕ → ℕ
value_of None = 0
value_of (Some v) = v

echar_value : (o : Option ℕ) (other : Option Escape) → is_some o ≡ true → echar_or o other ≡ Some (record { character = value_of o; length = 1 })
unfolding value_of
echar_value None other h = absurd (true≢false (sym h))
echar_value (Some v) other h = refl

pub echar_stands : (x : List ℕ) → Spells form.echar x → Stands string_escape any x
unfolding begins_behind decoded_after any
echar_stands x s =
    let c : ℕ = s.3.0 in let h : is_escaped c ≡ true = s.3.1 in
    let is : x ≡ 92 ∷ c ∷ [] = s.4 ∙ ap₂ (λ (u v : List ℕ). u ++ v) (this_char 92 s.0 s.2) s.3.2 in
    let bytes : encodes (92 ∷ c ∷ []) ≡ 92 ∷ c ∷ [] =
    ap₂ (λ (a b : List ℕ). a ++ b) (encode_ascii 92 (omega arith)) (append-nil (encode c) ∙ encode_ascii c (escaped_small c h)) in
    let v : ℕ = value_of (echar_of c) in
    let e : Escape = record { character = v; length = 1 } in
    let found : (r : List ℕ) → string_escape (c ∷ r) ≡ Some e = λ r. echar_value (echar_of c) (uchar (c ∷ r)) (escaped_some c h) in
    subst (Stands string_escape any) (sym is) (record {
      characters = v ∷ [];
      pass = refl;
      stand = record {
        begins = λ r. ap (λ z. begins_behind string_escape 0 (z ++ r)) bytes ∙ took string_escape (c ∷ r) e (found r);
        decodes = λ r. ap (λ z. decoded_after string_escape 0 (z ++ r)) bytes
            ∙ (gave string_escape (c ∷ r) e (found r) ∙ ap (λ z. z ++ decoded_after string_escape 0 r) (sym (append-nil (encode v))));
      };
    })

pub string_codepoint : (x : List ℕ) → Spells (form.uchar is_scalar) x → Stands string_escape any x
string_codepoint = codepoint_stands string_escape any is_scalar (λ v h. h) (λ v h. all_any v) (λ cs. refl) (λ cs. refl)

pub string_character : (p : ℕ → Bool) → ((c : ℕ) → p c ≡ true → (c == 92) ≡ false) → (x : List ℕ) → Spells (one p) x → Stands string_escape any x
string_character p f = one_stands string_escape any p f (λ c h. all_any c)

-- ---- IRIs

iri_slash : (c : ℕ) → is_iri_char c ≡ true → (c == 92) ≡ false
unfolding is_iri_char
iri_slash c h = not-true (c == 92) (within is_iri_char (λ c. not (c == 92)) refl (other_than 92 (omega arith)) c h)

pub iri_stands : (q p : ℕ → Bool) → ((v : ℕ) → p v ≡ true → is_scalar v ≡ true) → ((v : ℕ) → p v ≡ true → q v ≡ true) → ((c : ℕ) → is_iri_char c ≡ true → q c ≡ true)
    → (x : List ℕ) → Spells (many (one is_iri_char ∣ form.uchar p)) x → Stands uchar q x
iri_stands q p scalar w v = pieces_stand uchar q (Spells (one is_iri_char ∣ form.uchar p)) (λ x s. elim s [
  | inl a ↦ one_stands uchar q is_iri_char iri_slash v x a
  | inr b ↦ codepoint_stands uchar q p scalar w (λ cs. refl) (λ cs. refl) x b
])

-- ---- what IRIs exclude

high_free : (b : ℕ) → 128 ≤ b → not (is_excluded b) ≡ true
high_free b h = grind (arith, nat_tests)

pub iri_free : (c : ℕ) → is_iri_char c ≡ true → not (is_excluded c) ≡ true
unfolding is_iri_char
iri_free = within is_iri_char (λ b. not (is_excluded b)) refl high_free

iri_scalar_parts : (v : ℕ) → is_iri_scalar v ≡ true → (is_scalar v ≡ true) × (is_iri_char v ≡ true)
unfolding is_iri_scalar
iri_scalar_parts v h = and_parts (is_scalar v) (is_iri_char v) h

pub free_bytes : (cs : List ℕ) → list_all (λ b. not (is_excluded b)) cs ≡ true → list_any is_excluded (encodes cs) ≡ false
free_bytes cs h = none_any is_excluded (encodes cs) (bytes_pass (λ b. not (is_excluded b)) high_free cs h)

-- with escapes for characters of IRIs alone: an escape begins at each backslash, and nothing decoded is excluded
pub lawful_iri : (x : List ℕ) → Spells (many (one is_iri_char ∣ form.uchar is_iri_scalar)) x → (escapes_begin uchar (encodes x) ≡ true) × (list_any is_excluded (decoded uchar (encodes x)) ≡ false)
lawful_iri x s =
    let t : Stands uchar (λ b. not (is_excluded b)) x = iri_stands (λ b. not (is_excluded b)) is_iri_scalar (λ v h. (iri_scalar_parts v h).0) (λ v h. iri_free v (iri_scalar_parts v h).1) iri_free x s in
    (escapes_stand uchar x t.characters t.stand, ap (λ z. list_any is_excluded z) (decoded_stands uchar x t.characters t.stand) ∙ free_bytes t.characters t.pass)

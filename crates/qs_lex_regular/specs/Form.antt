-- Regular forms over characters, and which characters spell one.
use Rattle.std.specs.Prelude.{◌≡◌, ◌⊎◌, ℕ, zero, suc, ◌+◌, ◌*◌, Bool, true, ◌==◌, List, [], ◌∷◌}
use Rattle.std.specs.Prelude.{◌++◌, codes}
use Prim.Native.String.{String}
use Rattle.qs_lex_regular.specs.Character.{is_hex, hex_value, is_escaped, is_letter}
use Rattle.qs_lex_regular.specs.Character.{is_letter_or_digit}

infixr 7 ◌⨾◌
infixr 6 ◌∣◌
pub data Form : Type 0 where
  -- no characters
  never : Form
  -- the empty list of characters
  nothing : Form
  -- one character that passes the test
  one : (ℕ → Bool) → Form
  -- so many hexadecimal digits, which after digits of this value name a number that passes the test
  hexes : ℕ → ℕ → (ℕ → Bool) → Form
  -- one form, then another
  ◌⨾◌ : Form → Form → Form
  -- one form or another
  ◌∣◌ : Form → Form → Form
  -- a form any number of times
  many : Form → Form

-- n hexadecimal digits, which after digits of the value v name a number that passes the test
abbrev pub AreHexes : ℕ → ℕ → (ℕ → Bool) → List ℕ → Type 0
AreHexes zero v p cs = (cs ≡ []) × (p v ≡ true)
AreHexes (suc n) v p cs = (c : ℕ) × (ds : List ℕ) × (cs ≡ c ∷ ds) × (is_hex c ≡ true)
    × AreHexes n (v * 16 + hex_value c) p ds

-- pieces of the language, one after another
pub data Pieces (P : List ℕ → Type 0) : List ℕ → Type 0 where
  none : Pieces P []
  more : (x y : List ℕ) → P x → Pieces P y → Pieces P (x ++ y)

-- the form is spelled by these characters
abbrev pub Spells : Form → List ℕ → Type 0
Spells never cs = ⊥
Spells nothing cs = cs ≡ []
Spells (one p) cs = (c : ℕ) × (p c ≡ true) × (cs ≡ c ∷ [])
Spells (hexes n v p) cs = AreHexes n v p cs
Spells (r ⨾ s) cs = (x : List ℕ) × (y : List ℕ) × Spells r x × Spells s y × (cs ≡ x ++ y)
Spells (r ∣ s) cs = Spells r cs ⊎ Spells s cs
Spells (many r) cs = Pieces (Spells r) cs

-- ---- how forms are written

abbrev pub maybe : Form → Form
maybe r = r ∣ nothing

abbrev pub plus : Form → Form
plus r = r ⨾ many r

abbrev pub char : ℕ → Form
char c = one (λ d. d == c)

abbrev pub spelled : List ℕ → Form
spelled [] = nothing
spelled (c ∷ []) = char c
spelled (c ∷ d ∷ cs) = char c ⨾ spelled (d ∷ cs)

-- these very characters
abbrev pub literal : String → Form
literal s = spelled (codes s)

-- LANGTAG (SPARQL 1.1 Query, 19.8, [145]; RDF 1.1 N-Quads, [144s]): `@`, letters, then any number
-- of `-` with letters and digits
abbrev pub lang_tag : Form
lang_tag = char 64 ⨾ plus (one is_letter) ⨾ many (char 45 ⨾ plus (one is_letter_or_digit))

-- ---- escapes

-- ECHAR (SPARQL 1.1 Query, 19.8, [160]): `\` and one of t b n r f " ' \
abbrev pub echar : Form
echar = char 92 ⨾ one is_escaped

-- UCHAR (RDF 1.1 N-Quads, 4): `\u` with 4 or `\U` with 8 hexadecimal digits, which name a character
-- that passes the test
abbrev pub uchar : (ℕ → Bool) → Form
uchar p = char 92 ⨾ (char 117 ⨾ hexes 4 0 p ∣ char 85 ⨾ hexes 8 0 p)

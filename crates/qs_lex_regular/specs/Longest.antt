-- Tables of classes with forms, and the longest front of a text that is of a class. `K` is the
-- type of the classes. Where two classes spell the same characters, the first of the table has
-- them.
use Rattle.std.specs.Prelude.{◌≡◌, ◌≤◌, ◌⊎◌, ℕ, List, [], ◌∷◌, ◌++◌, length}
use Rattle.std.specs.Str.{encode_utf8_all}
use Rattle.qs_lex_regular.specs.Form.{Form, Spells}

-- a table: each class with the form of its tokens
abbrev pub Table : Type 0 → Type 0
Table K = List (K × Form)

-- the first class of the table that has these characters
abbrev pub IsFirst : {K : Type 0} → Table K → K → List ℕ → Type 0
IsFirst [] k x = ⊥
IsFirst (f ∷ fs) k x = ((f.0 ≡ k) × Spells f.1 x) ⊎ ((Spells f.1 x → ⊥) × IsFirst fs k x)

-- no front of cs is of a class of fs
abbrev pub HasNoFront : {K : Type 0} → Table K → List ℕ → Type 0
HasNoFront {K} fs cs = (k : K) (u v : List ℕ) → cs ≡ u ++ v → IsFirst fs k u → ⊥

-- cs begins with a token of the class k that takes n bytes of UTF-8, and no longer front of cs is
-- of a class of fs
pub record LongestFront {K : Type 0} (fs : Table K) (cs : List ℕ) (k : K) (n : ℕ) : Type 0 where
  pub front : List ℕ
  pub rest : List ℕ
  pub text : cs ≡ front ++ rest
  pub token : IsFirst fs k front
  pub bytes : n ≡ length (encode_utf8_all front)
  pub longest : (j : K) (u v : List ℕ) → cs ≡ u ++ v → IsFirst fs j u → length u ≤ length front

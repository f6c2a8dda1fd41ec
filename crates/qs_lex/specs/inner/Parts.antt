-- What tokens are made of, by their classes (SPARQL 1.1 Query, 19.8): what the layers above take
-- for granted of them.
use Rattle.std.specs.Prelude.{◌≡◌, ◌⊎◌, ℕ, Bool, false, ◌==◌, List, [], ◌∷◌, ◌++◌, length, IsTrue}
use Rattle.std.specs.List.{list_any}
use Rattle.std.specs.Str.{IsUtf8}
use Rattle.qs_lex_escapes.specs.Decoded.{decoded, unescaped}
use Rattle.qs_lex_escapes.specs.Escape.{uchar, string_escape}
use Rattle.qs_lex_escapes.specs.inner.Backslashes.{escapes_begin}
use Rattle.qs_terms.specs.Iri.{is_excluded}
use Rattle.qs_terms.specs.Tag.{is_tag}
use Rattle.qs_lex.specs.Lexes.{Lexeme}
use Rattle.qs_lex.specs.declared.token.Class.{Class}
use Rattle.qs_lex.specs.declared.token.Class.TheVariants as class

-- the token stands in the text at its place
pub record StandsIn (text : List ℕ) (t : Lexeme) : Type 0 where
  pub before : List ℕ
  pub after : List ℕ
  pub whole : text ≡ before ++ (t.text ++ after)
  pub place : t.place ≡ length before
  pub utf8 : IsUtf8 t.text

-- an IRI between `<` and `>`: an escape begins at each backslash, and nothing decoded is a
-- character that IRIs exclude
pub record IsIri (token : List ℕ) : Type 0 where
  pub iri : List ℕ
  pub text : token ≡ 60 ∷ (iri ++ 62 ∷ [])
  pub utf8 : IsUtf8 iri
  pub escapes : IsTrue (escapes_begin uchar iri)
  pub lawful : list_any is_excluded (decoded uchar iri) ≡ false

-- a prefix, in which is no colon, a colon, and a local name: without its backslashes it has no
-- character that IRIs exclude
pub record IsName (token : List ℕ) : Type 0 where
  pub prefix : List ℕ
  pub local : List ℕ
  pub text : token ≡ prefix ++ 58 ∷ local
  pub utf8 : IsUtf8 prefix
  pub no_colon : list_any (λ c. c == 58) prefix ≡ false
  pub lawful : list_any is_excluded (unescaped local) ≡ false

-- the same without a local name
pub record IsPrefix (token : List ℕ) : Type 0 where
  pub name : IsName token
  pub empty : name.local ≡ []

-- after a mark
pub record IsBehind (mark token : List ℕ) : Type 0 where
  pub rest : List ℕ
  pub text : token ≡ mark ++ rest
  pub utf8 : IsUtf8 rest

pub record IsVariable (token : List ℕ) : Type 0 where
  pub mark : ℕ
  pub is_mark : (mark ≡ 63) ⊎ (mark ≡ 36)
  pub behind : IsBehind (mark ∷ []) token

pub record IsLangTag (token : List ℕ) : Type 0 where
  pub behind : IsBehind (64 ∷ []) token
  pub lawful : IsTrue (is_tag behind.rest)

abbrev pub begins_with : ℕ → List ℕ → Bool
begins_with q [] = false
begins_with q (c ∷ cs) = c == q

-- a string between quotation marks: one at each end, and none at its beginning; or three. An escape
-- begins at each backslash.
pub record IsString (token : List ℕ) : Type 0 where
  pub mark : ℕ
  pub is_mark : (mark ≡ 34) ⊎ (mark ≡ 39)
  pub written : List ℕ
  pub text : ((token ≡ mark ∷ (written ++ mark ∷ [])) × (begins_with mark written ≡ false))
      ⊎ (token ≡ mark ∷ mark ∷ mark ∷ (written ++ mark ∷ mark ∷ mark ∷ []))
  pub utf8 : IsUtf8 written
  pub escapes : IsTrue (escapes_begin string_escape written)

-- what a token of a class is, by its bytes
abbrev pub IsMadeOf : Class → List ℕ → Type 0
IsMadeOf class.IriRef token = IsIri token
IsMadeOf class.PnameNs token = IsPrefix token
IsMadeOf class.PnameLn token = IsName token
IsMadeOf class.BlankLabel token = IsBehind (95 ∷ 58 ∷ []) token
IsMadeOf class.Var token = IsVariable token
IsMadeOf class.String token = IsString token
IsMadeOf class.LangTag token = IsLangTag token
IsMadeOf class.Integer token = Unit {0}
IsMadeOf class.Signed token = Unit {0}
IsMadeOf class.Decimal token = Unit {0}
IsMadeOf class.Double token = Unit {0}
IsMadeOf class.Word token = Unit {0}
IsMadeOf class.Mark token = Unit {0}

-- the token stands in the text, and is made of the parts of its class
pub record IsSound (text : List ℕ) (t : Lexeme) : Type 0 where
  pub stands : StandsIn text t
  pub made : IsMadeOf t.class t.text

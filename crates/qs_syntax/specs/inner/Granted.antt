-- What the layers above take for granted of the tokens of a text, by their kinds: what they read of
-- a token is a piece of the text, and is lawful (SPARQL 1.1 Query, 19.8).
use Rattle.std.specs.Prelude.{◌≡◌, ℕ, ◌+◌, ◌-◌, false, List, [], ◌∷◌, ◌++◌, IsTrue}
use Rattle.std.specs.List.{list_any, before_first, after_first}
use Rattle.qs_lex_escapes.specs.Decoded.{decoded, unescaped}
use Rattle.qs_lex_escapes.specs.Escape.{uchar, string_escape}
use Rattle.qs_lex_escapes.specs.Piece.{piece}
use Rattle.qs_lex_escapes.specs.inner.Backslashes.{escapes_begin}
use Rattle.qs_syntax_resolve.specs.Names.{marks}
use Rattle.qs_syntax_resolve.specs.inner.Names.{is_colon}
use Rattle.qs_terms.specs.Iri.{is_excluded}
use Rattle.qs_terms.specs.Tag.{is_tag}
use Rattle.qs_syntax_tree.specs.declared.kind.Kind.{Kind}
use Rattle.qs_syntax_tree.specs.declared.kind.Kind.TheVariants as k
use Rattle.qs_syntax_tree.specs.declared.token.Span.{Span}
use Rattle.qs_syntax_tree.specs.declared.token.Token.{Token}

-- between `<` and `>`: an escape begins at each backslash, and nothing decoded is a character that
-- IRIs exclude
pub record IsIri (text : List ℕ) (s : Span) : Type 0 where
  pub whole : piece text s.start s.end ≡ 60 ∷ (piece text (s.start + 1) (s.end - 1) ++ 62 ∷ [])
  pub escapes : IsTrue (escapes_begin uchar (piece text (s.start + 1) (s.end - 1)))
  pub lawful : list_any is_excluded (decoded uchar (piece text (s.start + 1) (s.end - 1))) ≡ false

-- a prefix, a colon and a local name, which without its backslashes has no character that IRIs
-- exclude
pub record IsName (text : List ℕ) (s : Span) : Type 0 where
  pub whole : piece text s.start s.end ≡ before_first is_colon (piece text s.start s.end) ++ 58
      ∷ after_first is_colon (piece text s.start s.end)
  pub lawful : list_any is_excluded (unescaped (after_first is_colon (piece text s.start s.end)))
      ≡ false

-- the same without a local name
pub record IsPrefix (text : List ℕ) (s : Span) : Type 0 where
  pub name : IsName text s
  pub whole : piece text s.start s.end ≡ piece text s.start (s.end - 1) ++ 58 ∷ []

-- `?` or `$`, and the variable's name
pub record IsVariable (text : List ℕ) (s : Span) : Type 0 where
  pub mark : ℕ
  pub whole : piece text s.start s.end ≡ mark ∷ piece text (s.start + 1) s.end

-- `_:`, and the label
pub record IsLabel (text : List ℕ) (s : Span) : Type 0 where
  pub whole : piece text s.start s.end ≡ 95 ∷ 58 ∷ piece text (s.start + 2) s.end

-- `@`, and a tag in the eyes of the terms
pub record IsLangTag (text : List ℕ) (s : Span) : Type 0 where
  pub whole : piece text s.start s.end ≡ 64 ∷ piece text (s.start + 1) s.end
  pub lawful : IsTrue (is_tag (piece text (s.start + 1) s.end))

-- between quotation marks, one or three at each end: an escape begins at each backslash
abbrev pub ends : List ℕ → Span → ℕ
ends text s = marks (piece text s.start s.end)

pub record IsString (text : List ℕ) (s : Span) : Type 0 where
  pub quotes : List ℕ
  pub whole : piece text s.start s.end ≡ quotes
      ++ (piece text (s.start + ends text s) (s.end - ends text s) ++ quotes)
  pub escapes : IsTrue
      (escapes_begin string_escape (piece text (s.start + ends text s) (s.end - ends text s)))

-- by the kind; of words, numbers and marks nothing is asked
abbrev pub IsGranted : List ℕ → Kind → Span → Type 0
IsGranted text k.IriRef s = IsIri text s
IsGranted text k.PnameLn s = IsName text s
IsGranted text k.PnameNs s = IsPrefix text s
IsGranted text k.BlankLabel s = IsLabel text s
IsGranted text k.Var s = IsVariable text s
IsGranted text k.String s = IsString text s
IsGranted text k.LangTag s = IsLangTag text s
IsGranted text other s = Unit {0}

abbrev pub IsGrantedToken : List ℕ → Token → Type 0
IsGrantedToken text t = IsGranted text t.kind t.span

-- The tables of kinds, row by row.
use Rattle.std.proofs.Common.{◌≡◌, ℕ, Bool, true, false, List, [], ◌∷◌, map, Option, Some, codes, refl, sym, ap, subst, ◌∙◌}
use Rattle.std.proofs.lemmas.Slice.Eq.{bytes_eq-Decides}
use Rattle.std.specs.Str.{bytes_eq, str_eq_ignore_ascii_case}
use Rattle.qs_lex.specs.declared.token.Class.{Class}
use Rattle.qs_lex.specs.declared.token.Class.TheVariants as class
use Rattle.qs_syntax.specs.Kinds.{kind_of}
use Rattle.qs_syntax_tree.specs.Words.{find_kind, keywords, marks, word_kind, mark_kind}
use Rattle.qs_syntax_tree.specs.declared.kind.Kind.{Kind}
use Rattle.qs_syntax_tree.specs.declared.kind.Kind.TheVariants as k
use Rattle.qs_syntax_laws.specs.inner.Spelling.{word_of, mark_of}

same_text : (t text : List ℕ) → Some t ≡ Some text → t ≡ text
same_text t text h = cc

word : (kind : Kind) (t : List ℕ) → word_kind t ≡ kind → (text : List ℕ) → Some t ≡ Some text → word_kind text ≡ kind
word kind t e text h = subst (λ z. word_kind z ≡ kind) (same_text t text h) e

mark : (kind : Kind) (t : List ℕ) → mark_kind t ≡ kind → (text : List ℕ) → Some t ≡ Some text → mark_kind text ≡ kind
mark kind t e text h = subst (λ z. mark_kind z ≡ kind) (same_text t text h) e

pub words : (kind : Kind) (text : List ℕ) → word_of kind ≡ Some text → word_kind text ≡ kind
unfolding word_kind
words k.IriRef text h = absurd (cc)
words k.PnameLn text h = absurd (cc)
words k.PnameNs text h = absurd (cc)
words k.BlankLabel text h = absurd (cc)
words k.Var text h = absurd (cc)
words k.Integer text h = absurd (cc)
words k.Signed text h = absurd (cc)
words k.Decimal text h = absurd (cc)
words k.Double text h = absurd (cc)
words k.String text h = absurd (cc)
words k.LangTag text h = absurd (cc)
words k.Word text h = absurd (cc)
words k.LeftBrace text h = absurd (cc)
words k.RightBrace text h = absurd (cc)
words k.LeftParen text h = absurd (cc)
words k.RightParen text h = absurd (cc)
words k.LeftBracket text h = absurd (cc)
words k.RightBracket text h = absurd (cc)
words k.Dot text h = absurd (cc)
words k.Comma text h = absurd (cc)
words k.Semicolon text h = absurd (cc)
words k.Star text h = absurd (cc)
words k.Slash text h = absurd (cc)
words k.Plus text h = absurd (cc)
words k.Hyphen text h = absurd (cc)
words k.Bar text h = absurd (cc)
words k.OrOr text h = absurd (cc)
words k.Caret text h = absurd (cc)
words k.CaretCaret text h = absurd (cc)
words k.Question text h = absurd (cc)
words k.Bang text h = absurd (cc)
words k.BangEqual text h = absurd (cc)
words k.Equal text h = absurd (cc)
words k.Less text h = absurd (cc)
words k.Greater text h = absurd (cc)
words k.LessOrEqual text h = absurd (cc)
words k.GreaterOrEqual text h = absurd (cc)
words k.AndAnd text h = absurd (cc)
words k.Prefix text h = word k.Prefix (codes "prefix") refl text h
words k.Select text h = word k.Select (codes "select") refl text h
words k.Distinct text h = word k.Distinct (codes "distinct") refl text h
words k.Reduced text h = word k.Reduced (codes "reduced") refl text h
words k.As text h = word k.As (codes "as") refl text h
words k.Construct text h = word k.Construct (codes "construct") refl text h
words k.Where text h = word k.Where (codes "where") refl text h
words k.Ask text h = word k.Ask (codes "ask") refl text h
words k.Order text h = word k.Order (codes "order") refl text h
words k.By text h = word k.By (codes "by") refl text h
words k.Asc text h = word k.Asc (codes "asc") refl text h
words k.Desc text h = word k.Desc (codes "desc") refl text h
words k.Limit text h = word k.Limit (codes "limit") refl text h
words k.Offset text h = word k.Offset (codes "offset") refl text h
words k.Union text h = word k.Union (codes "union") refl text h
words k.Optional text h = word k.Optional (codes "optional") refl text h
words k.Minus text h = word k.Minus (codes "minus") refl text h
words k.Graph text h = word k.Graph (codes "graph") refl text h
words k.Filter text h = word k.Filter (codes "filter") refl text h
words k.Bind text h = word k.Bind (codes "bind") refl text h
words k.Values text h = word k.Values (codes "values") refl text h
words k.Undef text h = word k.Undef (codes "undef") refl text h
words k.Not text h = word k.Not (codes "not") refl text h
words k.In text h = word k.In (codes "in") refl text h
words k.True text h = word k.True (codes "true") refl text h
words k.False text h = word k.False (codes "false") refl text h
words k.Insert text h = word k.Insert (codes "insert") refl text h
words k.Delete text h = word k.Delete (codes "delete") refl text h
words k.Data text h = word k.Data (codes "data") refl text h
words k.With text h = word k.With (codes "with") refl text h
words k.Clear text h = word k.Clear (codes "clear") refl text h
words k.Drop text h = word k.Drop (codes "drop") refl text h
words k.Silent text h = word k.Silent (codes "silent") refl text h
words k.Default text h = word k.Default (codes "default") refl text h
words k.Named text h = word k.Named (codes "named") refl text h
words k.All text h = word k.All (codes "all") refl text h
words k.Create text h = word k.Create (codes "create") refl text h
words k.Add text h = word k.Add (codes "add") refl text h
words k.Move text h = word k.Move (codes "move") refl text h
words k.Copy text h = word k.Copy (codes "copy") refl text h
words k.To text h = word k.To (codes "to") refl text h
words k.A text h = word k.A (codes "a") refl text h
words k.Bound text h = word k.Bound (codes "bound") refl text h
words k.If text h = word k.If (codes "if") refl text h
words k.Coalesce text h = word k.Coalesce (codes "coalesce") refl text h
words k.Concat text h = word k.Concat (codes "concat") refl text h
words k.SameTerm text h = word k.SameTerm (codes "sameterm") refl text h
words k.IsIri text h = word k.IsIri (codes "isiri") refl text h
words k.IsUri text h = word k.IsUri (codes "isuri") refl text h
words k.IsBlank text h = word k.IsBlank (codes "isblank") refl text h
words k.IsLiteral text h = word k.IsLiteral (codes "isliteral") refl text h
words k.IsNumeric text h = word k.IsNumeric (codes "isnumeric") refl text h
words k.Str text h = word k.Str (codes "str") refl text h
words k.Lang text h = word k.Lang (codes "lang") refl text h
words k.Datatype text h = word k.Datatype (codes "datatype") refl text h
words k.LangMatches text h = word k.LangMatches (codes "langmatches") refl text h
words k.StrLen text h = word k.StrLen (codes "strlen") refl text h
words k.Contains text h = word k.Contains (codes "contains") refl text h
words k.StrStarts text h = word k.StrStarts (codes "strstarts") refl text h
words k.StrEnds text h = word k.StrEnds (codes "strends") refl text h

pub mark_texts : (kind : Kind) (text : List ℕ) → mark_of kind ≡ Some text → mark_kind text ≡ kind
unfolding mark_kind
mark_texts k.IriRef text h = absurd (cc)
mark_texts k.PnameLn text h = absurd (cc)
mark_texts k.PnameNs text h = absurd (cc)
mark_texts k.BlankLabel text h = absurd (cc)
mark_texts k.Var text h = absurd (cc)
mark_texts k.Integer text h = absurd (cc)
mark_texts k.Signed text h = absurd (cc)
mark_texts k.Decimal text h = absurd (cc)
mark_texts k.Double text h = absurd (cc)
mark_texts k.String text h = absurd (cc)
mark_texts k.LangTag text h = absurd (cc)
mark_texts k.Word text h = absurd (cc)
mark_texts k.LeftBrace text h = mark k.LeftBrace (codes "{") refl text h
mark_texts k.RightBrace text h = mark k.RightBrace (codes "}") refl text h
mark_texts k.LeftParen text h = mark k.LeftParen (codes "(") refl text h
mark_texts k.RightParen text h = mark k.RightParen (codes ")") refl text h
mark_texts k.LeftBracket text h = mark k.LeftBracket (codes "[") refl text h
mark_texts k.RightBracket text h = mark k.RightBracket (codes "]") refl text h
mark_texts k.Dot text h = mark k.Dot (codes ".") refl text h
mark_texts k.Comma text h = mark k.Comma (codes ",") refl text h
mark_texts k.Semicolon text h = mark k.Semicolon (codes ";") refl text h
mark_texts k.Star text h = mark k.Star (codes "*") refl text h
mark_texts k.Slash text h = mark k.Slash (codes "/") refl text h
mark_texts k.Plus text h = mark k.Plus (codes "+") refl text h
mark_texts k.Hyphen text h = mark k.Hyphen (codes "-") refl text h
mark_texts k.Bar text h = mark k.Bar (codes "|") refl text h
mark_texts k.OrOr text h = mark k.OrOr (codes "||") refl text h
mark_texts k.Caret text h = mark k.Caret (codes "^") refl text h
mark_texts k.CaretCaret text h = mark k.CaretCaret (codes "^^") refl text h
mark_texts k.Question text h = mark k.Question (codes "?") refl text h
mark_texts k.Bang text h = mark k.Bang (codes "!") refl text h
mark_texts k.BangEqual text h = mark k.BangEqual (codes "!=") refl text h
mark_texts k.Equal text h = mark k.Equal (codes "=") refl text h
mark_texts k.Less text h = mark k.Less (codes "<") refl text h
mark_texts k.Greater text h = mark k.Greater (codes ">") refl text h
mark_texts k.LessOrEqual text h = mark k.LessOrEqual (codes "<=") refl text h
mark_texts k.GreaterOrEqual text h = mark k.GreaterOrEqual (codes ">=") refl text h
mark_texts k.AndAnd text h = mark k.AndAnd (codes "&&") refl text h
mark_texts k.Prefix text h = absurd (cc)
mark_texts k.Select text h = absurd (cc)
mark_texts k.Distinct text h = absurd (cc)
mark_texts k.Reduced text h = absurd (cc)
mark_texts k.As text h = absurd (cc)
mark_texts k.Construct text h = absurd (cc)
mark_texts k.Where text h = absurd (cc)
mark_texts k.Ask text h = absurd (cc)
mark_texts k.Order text h = absurd (cc)
mark_texts k.By text h = absurd (cc)
mark_texts k.Asc text h = absurd (cc)
mark_texts k.Desc text h = absurd (cc)
mark_texts k.Limit text h = absurd (cc)
mark_texts k.Offset text h = absurd (cc)
mark_texts k.Union text h = absurd (cc)
mark_texts k.Optional text h = absurd (cc)
mark_texts k.Minus text h = absurd (cc)
mark_texts k.Graph text h = absurd (cc)
mark_texts k.Filter text h = absurd (cc)
mark_texts k.Bind text h = absurd (cc)
mark_texts k.Values text h = absurd (cc)
mark_texts k.Undef text h = absurd (cc)
mark_texts k.Not text h = absurd (cc)
mark_texts k.In text h = absurd (cc)
mark_texts k.True text h = absurd (cc)
mark_texts k.False text h = absurd (cc)
mark_texts k.Insert text h = absurd (cc)
mark_texts k.Delete text h = absurd (cc)
mark_texts k.Data text h = absurd (cc)
mark_texts k.With text h = absurd (cc)
mark_texts k.Clear text h = absurd (cc)
mark_texts k.Drop text h = absurd (cc)
mark_texts k.Silent text h = absurd (cc)
mark_texts k.Default text h = absurd (cc)
mark_texts k.Named text h = absurd (cc)
mark_texts k.All text h = absurd (cc)
mark_texts k.Create text h = absurd (cc)
mark_texts k.Add text h = absurd (cc)
mark_texts k.Move text h = absurd (cc)
mark_texts k.Copy text h = absurd (cc)
mark_texts k.To text h = absurd (cc)
mark_texts k.A text h = absurd (cc)
mark_texts k.Bound text h = absurd (cc)
mark_texts k.If text h = absurd (cc)
mark_texts k.Coalesce text h = absurd (cc)
mark_texts k.Concat text h = absurd (cc)
mark_texts k.SameTerm text h = absurd (cc)
mark_texts k.IsIri text h = absurd (cc)
mark_texts k.IsUri text h = absurd (cc)
mark_texts k.IsBlank text h = absurd (cc)
mark_texts k.IsLiteral text h = absurd (cc)
mark_texts k.IsNumeric text h = absurd (cc)
mark_texts k.Str text h = absurd (cc)
mark_texts k.Lang text h = absurd (cc)
mark_texts k.Datatype text h = absurd (cc)
mark_texts k.LangMatches text h = absurd (cc)
mark_texts k.StrLen text h = absurd (cc)
mark_texts k.Contains text h = absurd (cc)
mark_texts k.StrStarts text h = absurd (cc)
mark_texts k.StrEnds text h = absurd (cc)

-- each kind is that of some token
abbrev pub HasToken : Kind → Type 0
HasToken kind = (class : Class) × (text : List ℕ) × (kind_of class text ≡ kind)

pub has_token : (kind : Kind) → HasToken kind
unfolding word_kind mark_kind
has_token k.IriRef = (class.IriRef, [], refl)
has_token k.PnameLn = (class.PnameLn, [], refl)
has_token k.PnameNs = (class.PnameNs, [], refl)
has_token k.BlankLabel = (class.BlankLabel, [], refl)
has_token k.Var = (class.Var, [], refl)
has_token k.Integer = (class.Integer, [], refl)
has_token k.Signed = (class.Signed, [], refl)
has_token k.Decimal = (class.Decimal, [], refl)
has_token k.Double = (class.Double, [], refl)
has_token k.String = (class.String, [], refl)
has_token k.LangTag = (class.LangTag, [], refl)
has_token k.Word = (class.Word, codes "z", refl)
has_token k.LeftBrace = (class.Mark, codes "{", refl)
has_token k.RightBrace = (class.Mark, codes "}", refl)
has_token k.LeftParen = (class.Mark, codes "(", refl)
has_token k.RightParen = (class.Mark, codes ")", refl)
has_token k.LeftBracket = (class.Mark, codes "[", refl)
has_token k.RightBracket = (class.Mark, codes "]", refl)
has_token k.Dot = (class.Mark, codes ".", refl)
has_token k.Comma = (class.Mark, codes ",", refl)
has_token k.Semicolon = (class.Mark, codes ";", refl)
has_token k.Star = (class.Mark, codes "*", refl)
has_token k.Slash = (class.Mark, codes "/", refl)
has_token k.Plus = (class.Mark, codes "+", refl)
has_token k.Hyphen = (class.Mark, codes "-", refl)
has_token k.Bar = (class.Mark, codes "|", refl)
has_token k.OrOr = (class.Mark, codes "||", refl)
has_token k.Caret = (class.Mark, codes "^", refl)
has_token k.CaretCaret = (class.Mark, codes "^^", refl)
has_token k.Question = (class.Mark, codes "?", refl)
has_token k.Bang = (class.Mark, codes "!", refl)
has_token k.BangEqual = (class.Mark, codes "!=", refl)
has_token k.Equal = (class.Mark, codes "=", refl)
has_token k.Less = (class.Mark, codes "<", refl)
has_token k.Greater = (class.Mark, codes ">", refl)
has_token k.LessOrEqual = (class.Mark, codes "<=", refl)
has_token k.GreaterOrEqual = (class.Mark, codes ">=", refl)
has_token k.AndAnd = (class.Mark, codes "&&", refl)
has_token k.Prefix = (class.Word, codes "prefix", refl)
has_token k.Select = (class.Word, codes "select", refl)
has_token k.Distinct = (class.Word, codes "distinct", refl)
has_token k.Reduced = (class.Word, codes "reduced", refl)
has_token k.As = (class.Word, codes "as", refl)
has_token k.Construct = (class.Word, codes "construct", refl)
has_token k.Where = (class.Word, codes "where", refl)
has_token k.Ask = (class.Word, codes "ask", refl)
has_token k.Order = (class.Word, codes "order", refl)
has_token k.By = (class.Word, codes "by", refl)
has_token k.Asc = (class.Word, codes "asc", refl)
has_token k.Desc = (class.Word, codes "desc", refl)
has_token k.Limit = (class.Word, codes "limit", refl)
has_token k.Offset = (class.Word, codes "offset", refl)
has_token k.Union = (class.Word, codes "union", refl)
has_token k.Optional = (class.Word, codes "optional", refl)
has_token k.Minus = (class.Word, codes "minus", refl)
has_token k.Graph = (class.Word, codes "graph", refl)
has_token k.Filter = (class.Word, codes "filter", refl)
has_token k.Bind = (class.Word, codes "bind", refl)
has_token k.Values = (class.Word, codes "values", refl)
has_token k.Undef = (class.Word, codes "undef", refl)
has_token k.Not = (class.Word, codes "not", refl)
has_token k.In = (class.Word, codes "in", refl)
has_token k.True = (class.Word, codes "true", refl)
has_token k.False = (class.Word, codes "false", refl)
has_token k.Insert = (class.Word, codes "insert", refl)
has_token k.Delete = (class.Word, codes "delete", refl)
has_token k.Data = (class.Word, codes "data", refl)
has_token k.With = (class.Word, codes "with", refl)
has_token k.Clear = (class.Word, codes "clear", refl)
has_token k.Drop = (class.Word, codes "drop", refl)
has_token k.Silent = (class.Word, codes "silent", refl)
has_token k.Default = (class.Word, codes "default", refl)
has_token k.Named = (class.Word, codes "named", refl)
has_token k.All = (class.Word, codes "all", refl)
has_token k.Create = (class.Word, codes "create", refl)
has_token k.Add = (class.Word, codes "add", refl)
has_token k.Move = (class.Word, codes "move", refl)
has_token k.Copy = (class.Word, codes "copy", refl)
has_token k.To = (class.Word, codes "to", refl)
has_token k.A = (class.Word, codes "a", refl)
has_token k.Bound = (class.Word, codes "bound", refl)
has_token k.If = (class.Word, codes "if", refl)
has_token k.Coalesce = (class.Word, codes "coalesce", refl)
has_token k.Concat = (class.Word, codes "concat", refl)
has_token k.SameTerm = (class.Word, codes "sameterm", refl)
has_token k.IsIri = (class.Word, codes "isiri", refl)
has_token k.IsUri = (class.Word, codes "isuri", refl)
has_token k.IsBlank = (class.Word, codes "isblank", refl)
has_token k.IsLiteral = (class.Word, codes "isliteral", refl)
has_token k.IsNumeric = (class.Word, codes "isnumeric", refl)
has_token k.Str = (class.Word, codes "str", refl)
has_token k.Lang = (class.Word, codes "lang", refl)
has_token k.Datatype = (class.Word, codes "datatype", refl)
has_token k.LangMatches = (class.Word, codes "langmatches", refl)
has_token k.StrLen = (class.Word, codes "strlen", refl)
has_token k.Contains = (class.Word, codes "contains", refl)
has_token k.StrStarts = (class.Word, codes "strstarts", refl)
has_token k.StrEnds = (class.Word, codes "strends", refl)

-- what is found in a table stands there beside a text that is like this one
module _ (like : List ℕ → List ℕ → Bool) (of : Kind → Option (List ℕ)) (text : List ℕ) where
  abbrev pub Found : Kind → Type 0
  Found kind = (t : List ℕ) × (of kind ≡ Some t) × (like text t ≡ true)

  head : (a b : Option (List ℕ)) (xs ys : List (Option (List ℕ))) → (a ∷ xs) ≡ (b ∷ ys) → a ≡ b
  head a b xs ys h = cc

  tail : (a b : Option (List ℕ)) (xs ys : List (Option (List ℕ))) → (a ∷ xs) ≡ (b ∷ ys) → xs ≡ ys
  tail a b xs ys h = cc

  pub found : (rows : List (List ℕ × Kind)) → map (λ row. of row.1) rows ≡ map (λ row. Some row.0) rows → (find_kind like k.Word rows text ≡ k.Word → ⊥) → Found (find_kind like k.Word rows text)
  found [] e n = absurd (n refl)
  found (row ∷ rows) e n = by (like text row.0) refl (λ m. found rows (tail _ _ _ _ e) m)
    where
      by : (b : Bool) → like text row.0 ≡ b → ((find_kind like k.Word rows text ≡ k.Word → ⊥) → Found (find_kind like k.Word rows text)) → Found (find_kind like k.Word (row ∷ rows) text)
      by true h rest = subst Found (rw h refl) (row.0, head _ _ _ _ e, h)
      by false h rest = subst Found (rw h refl) (rest (λ m. n (rw h m)))

-- equal bytes are one text
equal : (text t : List ℕ) → bytes_eq text t ≡ true → text ≡ t
equal text t h = (bytes_eq-Decides text t).0 h

abbrev AWord : List ℕ → Kind → Type 0
AWord text kind = Found str_eq_ignore_ascii_case word_of text kind

pub other_word : (text : List ℕ) → (word_kind text ≡ k.Word → ⊥) → AWord text (word_kind text)
unfolding word_kind
other_word text n = by (bytes_eq text (codes "a")) refl
  where
    by : (b : Bool) → bytes_eq text (codes "a") ≡ b → AWord text (word_kind text)
    by true h = let e : word_kind text ≡ k.A = rw h refl in subst (AWord text) (sym e) (codes "a", refl, subst (λ z. str_eq_ignore_ascii_case z (codes "a") ≡ true) (sym (equal text (codes "a") h)) refl)
    by false h = let e : word_kind text ≡ find_kind str_eq_ignore_ascii_case k.Word keywords text = rw h refl in subst (AWord text) (sym e) (found str_eq_ignore_ascii_case word_of text keywords refl (λ m. n (e ∙ m)))

pub other_mark : (text : List ℕ) → (mark_kind text ≡ k.Word → ⊥) → mark_of (mark_kind text) ≡ Some text
unfolding mark_kind
other_mark text n = let f = found bytes_eq mark_of text marks refl n in f.1 ∙ ap Some (sym (equal text f.0 f.2))

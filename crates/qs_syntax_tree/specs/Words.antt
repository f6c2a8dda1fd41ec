-- The kinds of keywords and marks, by two tables (SPARQL 1.1 Query, 19.8).
use Rattle.std.specs.Prelude.{ℕ, Bool, List, [], ◌∷◌, codes, if◌then◌else◌}
use Rattle.std.specs.Str.{bytes_eq, str_eq_ignore_ascii_case}
use Rattle.qs_syntax_tree.specs.declared.kind.Kind.{Kind}
use Rattle.qs_syntax_tree.specs.declared.kind.Kind.TheVariants as k

-- the kind beside the first text that is like this one
abbrev pub find_kind : (List ℕ → List ℕ → Bool) → Kind → List (List ℕ × Kind) → List ℕ → Kind
find_kind like none [] t = none
find_kind like none (row ∷ rows) t = if like t row.0 then row.1 else find_kind like none rows t

-- keywords, matched without regard to case
abbrev pub keywords : List (List ℕ × Kind)
keywords =
    (codes "prefix", k.Prefix) ∷ (codes "select", k.Select) ∷ (codes "distinct", k.Distinct) ∷
    (codes "reduced", k.Reduced) ∷ (codes "as", k.As) ∷ (codes "construct", k.Construct) ∷
    (codes "where", k.Where) ∷ (codes "ask", k.Ask) ∷ (codes "order", k.Order) ∷
    (codes "by", k.By) ∷ (codes "asc", k.Asc) ∷ (codes "desc", k.Desc) ∷ (codes "limit", k.Limit) ∷
    (codes "offset", k.Offset) ∷ (codes "union", k.Union) ∷ (codes "optional", k.Optional) ∷
    (codes "minus", k.Minus) ∷ (codes "graph", k.Graph) ∷ (codes "filter", k.Filter) ∷
    (codes "bind", k.Bind) ∷ (codes "values", k.Values) ∷ (codes "undef", k.Undef) ∷
    (codes "not", k.Not) ∷ (codes "in", k.In) ∷ (codes "true", k.True) ∷ (codes "false", k.False) ∷
    (codes "insert", k.Insert) ∷ (codes "delete", k.Delete) ∷ (codes "data", k.Data) ∷
    (codes "with", k.With) ∷ (codes "clear", k.Clear) ∷ (codes "drop", k.Drop) ∷
    (codes "silent", k.Silent) ∷ (codes "default", k.Default) ∷ (codes "named", k.Named) ∷
    (codes "all", k.All) ∷ (codes "create", k.Create) ∷ (codes "add", k.Add) ∷
    (codes "move", k.Move) ∷ (codes "copy", k.Copy) ∷ (codes "to", k.To) ∷
    (codes "bound", k.Bound) ∷ (codes "if", k.If) ∷ (codes "coalesce", k.Coalesce) ∷
    (codes "concat", k.Concat) ∷ (codes "sameterm", k.SameTerm) ∷ (codes "isiri", k.IsIri) ∷
    (codes "isuri", k.IsUri) ∷ (codes "isblank", k.IsBlank) ∷ (codes "isliteral", k.IsLiteral) ∷
    (codes "isnumeric", k.IsNumeric) ∷ (codes "str", k.Str) ∷ (codes "lang", k.Lang) ∷
    (codes "datatype", k.Datatype) ∷ (codes "langmatches", k.LangMatches) ∷
    (codes "strlen", k.StrLen) ∷ (codes "contains", k.Contains) ∷ (codes "strstarts", k.StrStarts) ∷
    (codes "strends", k.StrEnds) ∷ []

-- marks, matched as they are written
abbrev pub marks : List (List ℕ × Kind)
marks =
    (codes "{", k.LeftBrace) ∷ (codes "}", k.RightBrace) ∷ (codes "(", k.LeftParen) ∷
    (codes ")", k.RightParen) ∷ (codes "[", k.LeftBracket) ∷ (codes "]", k.RightBracket) ∷
    (codes ".", k.Dot) ∷ (codes ",", k.Comma) ∷ (codes ";", k.Semicolon) ∷ (codes "*", k.Star) ∷
    (codes "/", k.Slash) ∷ (codes "+", k.Plus) ∷ (codes "-", k.Hyphen) ∷ (codes "|", k.Bar) ∷
    (codes "||", k.OrOr) ∷ (codes "^", k.Caret) ∷ (codes "^^", k.CaretCaret) ∷
    (codes "?", k.Question) ∷ (codes "!", k.Bang) ∷ (codes "!=", k.BangEqual) ∷
    (codes "=", k.Equal) ∷ (codes "<", k.Less) ∷ (codes ">", k.Greater) ∷
    (codes "<=", k.LessOrEqual) ∷ (codes ">=", k.GreaterOrEqual) ∷ (codes "&&", k.AndAnd) ∷ []

-- `a` is the one word that counts as written
unfoldable pub word_kind : List ℕ → Kind
word_kind text = if bytes_eq text (codes "a") then k.A else find_kind str_eq_ignore_ascii_case
    k.Word keywords text

-- of a mark of the table of tokens
unfoldable pub mark_kind : List ℕ → Kind
mark_kind text = find_kind bytes_eq k.Word marks text

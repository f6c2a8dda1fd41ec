-- The place at which too many brackets are open: the profile allows 64 at once, and the standard
-- has no such limit.
use Rattle.std.specs.Prelude.{ℕ, ◌+◌, ◌-◌, List, [], ◌∷◌, Option, Some, None, nat_lt, if◌then◌else◌}
use Rattle.qs_syntax_tree.specs.declared.kind.Kind.{Kind}
use Rattle.qs_syntax_tree.specs.declared.kind.Kind.TheVariants.{LeftBrace, RightBrace, LeftParen}
use Rattle.qs_syntax_tree.specs.declared.kind.Kind.TheVariants.{RightParen, LeftBracket}
use Rattle.qs_syntax_tree.specs.declared.kind.Kind.TheVariants.{RightBracket}
use Rattle.qs_syntax_tree.specs.declared.token.Token.{Token}

-- the most brackets that may be open
abbrev pub limit : ℕ
limit = 64

-- how many are open after a token, by how many were before it: one that closes takes one away, of
-- whatever sort it is, or none where none is open
abbrev pub open_after : Kind → ℕ → ℕ
open_after LeftBrace count = count + 1
open_after LeftParen count = count + 1
open_after LeftBracket count = count + 1
open_after RightBrace count = count - 1
open_after RightParen count = count - 1
open_after RightBracket count = count - 1
open_after other count = count

-- of the tokens after some with which so many are open, the first with which there are too many
abbrev pub brackets_after : ℕ → List Token → Option ℕ
brackets_after count [] = None
brackets_after count (t ∷ ts) =
    if nat_lt limit (open_after t.kind count) then Some t.span.start
    else brackets_after (open_after t.kind count) ts

-- the place of the first token with which more brackets are open than may be
abbrev pub brackets : List Token → Option ℕ
brackets tokens = brackets_after 0 tokens

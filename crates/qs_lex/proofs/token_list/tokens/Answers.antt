use Rattle.std.proofs.Common.{List, ℕ, map, ◌∙◌, subst}
use Rattle.qs_lex.specs.Lexes.{Lexes}
use Rattle.qs_lex.specs.inner.Lexes.{lexeme}
use Rattle.qs_lex.proofs.Places.{Placed, placed_whole}
use Rattle.qs_lex.proofs.token_list.tokens.Goals as goal
use Rattle.qs_lex.proofs.token_list.tokens.Goals.{In-Ok-None}

placed : (c : In-Ok-None) → Placed c.args.text.now 0 c.tokens.tokens.items
placed c =
    let lexes = rw c.in-Ok-None.field-0-is at (c.in-Ok-None.ensures.next (map lexeme c.tokens.tokens.items) c.tokens.invariant.read) in
    placed_whole _ c.tokens.tokens.items c.utf8.text (subst (λ (z : List ℕ). Lexes z (map lexeme c.tokens.tokens.items)) (c.in-Ok-None.ensures.bytes ∙ c.tokens.invariant.bytes) lexes.1)

pub returns-in-Ok-None-clause-slices : goal.returns-in-Ok-None-clause-slices
returns-in-Ok-None-clause-slices c = (placed ((goal.at.returns-in-Ok-None-clause-slices c).In-Ok-None)).slices

pub returns-in-Ok-None-clause-ascending : goal.returns-in-Ok-None-clause-ascending
returns-in-Ok-None-clause-ascending c = (placed ((goal.at.returns-in-Ok-None-clause-ascending c).In-Ok-None)).ordered

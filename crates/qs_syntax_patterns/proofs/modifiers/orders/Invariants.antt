use Rattle.std.proofs.Common.{◌≡◌, ◌-◌, ◌∷◌, []}
use Rattle.qs_syntax_grammar.specs.inner.Reading.{loop}
use Rattle.qs_syntax_grammar.specs.inner.Repeated.{into, push}
use Rattle.qs_syntax_grammar.specs.inner.Grammar.{read}
use Rattle.qs_syntax_tree.specs.declared.kind.Kind.TheVariants as k
use Rattle.qs_syntax_tree.specs.Sparql.{sparql}
use Rattle.qs_syntax_tree.specs.inner.Table.{guided}
use Rattle.qs_syntax_tree.specs.inner.Procedures.{order, orders}
use Rattle.qs_syntax_patterns.proofs.modifiers.orders.Given as goal

abbrev pub invariant-loop-turn : goal.invariant-loop-turn
invariant-loop-turn l = read guided l.parser.depth orders l.fn.tokens ≡ into push l.found (loop sparql (l._turn-end - l._turn) (k.Asc ∷ k.Desc ∷ k.LeftParen ∷ k.Bound ∷ k.If ∷ k.Coalesce ∷ k.Concat ∷ k.IsIri ∷ k.IsUri ∷ k.IsBlank ∷ k.IsLiteral ∷ k.IsNumeric ∷ k.Str ∷ k.Lang ∷ k.Datatype ∷ k.StrLen ∷ k.SameTerm ∷ k.LangMatches ∷ k.Contains ∷ k.StrStarts ∷ k.StrEnds ∷ k.Var ∷ []) (read guided l.parser.depth order) l.tokens)

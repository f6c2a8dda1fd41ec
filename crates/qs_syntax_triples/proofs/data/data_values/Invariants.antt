use Rattle.std.proofs.Common.{◌≡◌, ◌-◌, ◌∷◌, []}
use Rattle.qs_syntax_grammar.specs.inner.Reading.{loop}
use Rattle.qs_syntax_grammar.specs.inner.Repeated.{into, push}
use Rattle.qs_syntax_grammar.specs.inner.Grammar.{read}
use Rattle.qs_syntax_tree.specs.declared.kind.Kind.TheVariants as k
use Rattle.qs_syntax_tree.specs.Sparql.{sparql}
use Rattle.qs_syntax_tree.specs.inner.Table.{guided}
use Rattle.qs_syntax_tree.specs.Rules.{data_value}
use Rattle.qs_syntax_tree.specs.inner.Procedures.{data_values}
use Rattle.qs_syntax_triples.proofs.data.data_values.Given as goal

abbrev pub invariant-loop-turn : goal.invariant-loop-turn
invariant-loop-turn l = read guided l.parser.depth data_values l.fn.tokens ≡ into push l.found (loop sparql (l._turn-end - l._turn) (k.IriRef ∷ k.PnameLn ∷ k.PnameNs ∷ k.String ∷ k.Integer ∷ k.Signed ∷ k.True ∷ k.False ∷ k.Undef ∷ []) (read guided l.parser.depth data_value) l.tokens)

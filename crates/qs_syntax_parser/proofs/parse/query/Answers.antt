use Rattle.std.proofs.Common.{◌≡◌, arith, ap, length, Ok, Err, inl, refl}
use Rattle.qs_syntax_grammar.specs.declared.fault.Fault.TheVariants.{Syntax}
use Rattle.qs_syntax_grammar.specs.inner.Grammar.{read, whole}
use Rattle.qs_syntax_grammar.proofs.Whole.{found_spelt, not_deep, is_due, at_most, none_spelt, one_tree}
use Rattle.qs_syntax_tree.specs.inner.Procedures as procedures
use Rattle.qs_syntax_tree.specs.Sparql.{sparql}
use Rattle.qs_syntax_tree.specs.inner.Table.{guided}
use Rattle.qs_syntax_tree.proofs.SameRules.{grammar_same, query_same}
use Rattle.qs_syntax_tree.proofs.Sure.{lawful, passes_each, examples, query_starts}
use Rattle.qs_syntax_parser.proofs.parse.query.Goals as goal
use Rattle.qs_syntax_parser.proofs.parse.query.Goals.{In-Err-Syntax}

fault_at : (c : In-Err-Syntax) → whole (read guided (length c.args.tokens.now) procedures.query c.args.tokens.now) ≡ Err (Syntax c.in-Err-Syntax.left)
fault_at c = (rw c.in-Err-Syntax.field-0-is at c.in-Err-Syntax.ensures) (λ m. cc)

pub overflow_sub-result : goal.overflow_sub-result
overflow_sub-result c = at_most sparql lawful guided passes_each 2 examples _ procedures.query query_starts (length c.args.tokens.now) c.args.tokens.now c.in-Err-Syntax.left (fault_at ((goal.at.overflow_sub-result c).In-Err-Syntax))

pub unreachable-requires : goal.unreachable-requires
unreachable-requires c = not_deep sparql lawful guided passes_each 2 examples _ procedures.query query_starts (length c.args.tokens.now) c.args.tokens.now (omega arith) ((rw c.in-Err-Deep.field-0-is at c.in-Err-Deep.ensures) (λ m. cc))

pub returns-in-Ok-clause-found : goal.returns-in-Ok-clause-found
returns-in-Ok-clause-found c = rw (grammar_same, query_same) (found_spelt sparql lawful guided passes_each 2 examples _ procedures.query query_starts (length c.args.tokens.now) c.args.tokens.now c.in-Ok.tree c.in-Ok.ensures)

pub returns-in-Ok-clause-only : goal.returns-in-Ok-clause-only
returns-in-Ok-clause-only c = rw (grammar_same, query_same) (λ tree s. inl (ap Ok (one_tree sparql lawful guided passes_each 2 examples _ procedures.query query_starts (length c.args.tokens.now) c.args.tokens.now c.in-Ok.tree tree (omega arith) c.in-Ok.ensures s)))

pub returns-in-Err-Syntax-clause-only : goal.returns-in-Err-Syntax-clause-only
returns-in-Err-Syntax-clause-only c =
    rw (grammar_same, query_same) (λ tree s.
    absurd (none_spelt sparql lawful guided passes_each 2 examples _ procedures.query query_starts (length c.args.tokens.now) c.args.tokens.now _ (omega arith) (fault_at ((goal.at.returns-in-Err-Syntax-clause-only c).In-Err-Syntax)) tree s))

pub returns-in-Err-Syntax-clause-fault : goal.returns-in-Err-Syntax-clause-fault
returns-in-Err-Syntax-clause-fault c =
    let e = fault_at ((goal.at.returns-in-Err-Syntax-clause-fault c).In-Err-Syntax) in rw (grammar_same, query_same) (
      none_spelt sparql lawful guided passes_each 2 examples _ procedures.query query_starts (length c.args.tokens.now) c.args.tokens.now _ (omega arith) e,
      is_due sparql lawful guided passes_each 2 examples _ procedures.query query_starts (length c.args.tokens.now) c.args.tokens.now c.in-Err-Syntax.left _ e refl,
    )

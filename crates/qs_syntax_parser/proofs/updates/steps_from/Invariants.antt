use Rattle.std.proofs.Common.{◌≡◌, ◌++◌, Ok, Some}
use Rattle.qs_syntax_grammar.specs.inner.Reading.{and_then}
use Rattle.qs_syntax_grammar.specs.inner.Grammar.{read}
use Rattle.qs_syntax_tree.specs.inner.Procedures.{operations_rule}
use Rattle.qs_syntax_tree.specs.inner.Table.{guided}
use Rattle.qs_syntax_tree.specs.Trees.{steps_of}
use Rattle.qs_syntax_parser.proofs.updates.steps_from.Given as goal

abbrev pub invariant-steps : goal.invariant-steps
invariant-steps l =
    and_then (read guided l.fn.parser.depth operations_rule l.fn.tokens) (λ x s. Ok (steps_of (l.initial.prologue, Some x), s))
    ≡ and_then (read guided l.inner.depth operations_rule l.tokens) (λ x s. Ok (l.found ++ steps_of (l.prologue, Some x), s))

abbrev pub decreases-steps : goal.decreases-steps
decreases-steps l = l.inner.depth

use Rattle.std.proofs.Common.{◌≡◌, ◌∙◌, IfOk, List, subst}
use Rattle.qs_syntax_ast.specs.declared.term.Variable.{Variable}
use Rattle.qs_algebra.specs.Translation as spec
use Rattle.qs_algebra.proofs.query.translate_where.Goals as goal

pub returns-clause-pattern : goal.returns-clause-pattern
returns-clause-pattern c =
    subst (λ (variables : List Variable). IfOk c.translate_where_with.result (λ p. p ≡ spec.translated_where variables c.args.group.now)) (c.as_slice.ensures ∙ c.in_ok-variables.ensures) c.translate_where_with.ensures.pattern

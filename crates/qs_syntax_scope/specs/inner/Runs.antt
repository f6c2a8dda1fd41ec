-- Definitions over those of `Runs`, for proofs and the layers between.
use Rattle.std.specs.Prelude.{List, map}
use Rattle.qs_syntax_scope.specs.Names.{Name, joined}
use Rattle.qs_syntax_ast.specs.declared.pattern.Group.{Group}
use Rattle.qs_syntax_ast.specs.declared.pattern.GraphPattern.{GraphPattern, fold-GraphPattern}
use Rattle.qs_syntax_scope.specs.Runs.{runs_level, runs}

-- the same of one pattern
abbrev pub pattern_runs : GraphPattern → List (List Name)
pattern_runs = fold-GraphPattern (List (List Name)) (List (List Name)) runs_level
    (λ group. joined group.patterns)

-- the patterns of a group, and the operands of a UNION
abbrev pub patterns_runs : List GraphPattern → List (List Name)
patterns_runs patterns = joined (map (λ p. pattern_runs p) patterns)

abbrev pub groups_runs : List Group → List (List Name)
groups_runs groups = joined (map (λ g. runs g) groups)

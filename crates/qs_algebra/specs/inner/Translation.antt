-- Definitions over those of `Translation`, for proofs and the layers between.
use Rattle.std.specs.Prelude.{ℕ, List}
use Rattle.qs_syntax_ast.specs.declared.pattern.GraphPattern.{GraphPattern, fold-GraphPattern}
use Rattle.qs_syntax_ast.specs.declared.term.Variable.{Variable}
use Rattle.qs_syntax_scope.specs.Firsts.{names_of}
use Rattle.qs_syntax_scope.specs.Names.{Name}
use Rattle.qs_syntax_scope.specs.Places.{place_of}
use Rattle.qs_algebra_patterns.specs.declared.named_pattern.Pattern.{Pattern}
use Rattle.qs_algebra_patterns.specs.declared.pattern.PatternNode.{PatternNode}
use Rattle.qs_algebra_patterns.specs.declared.pattern.Step.{Step}
use Rattle.qs_algebra.specs.declared.parts.GroupParts.{GroupParts}
use Rattle.qs_algebra.specs.Translation.{step_level, group_level}

-- the number of a variable
abbrev pub number_of : List Name → Variable → ℕ
number_of names v = place_of names v.name

-- a pattern with the names of its variables
abbrev pub named : List Variable → PatternNode → Pattern
named variables pattern = record { names = names_of variables; root = pattern }

-- the step that a part of a group is
abbrev pub step_of : List Name → GraphPattern → Step
step_of names = fold-GraphPattern Step GroupParts (step_level names) (group_level names)

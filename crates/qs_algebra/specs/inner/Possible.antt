-- Which variables the solutions of a pattern may bind (SPARQL 1.1 Query, 18.2.1). Of a text's group
-- they are those in scope, by the law
-- `qs_algebra_variables::laws::possible_variables_are_in_scope`.
use Rattle.std.specs.Prelude.{ℕ, Bool, false, ◌&&◌, ◌||◌, ◌==◌, length, nat_lt}
use Rattle.std.specs.List.{list_any}
use Rattle.qs_algebra_patterns.specs.inner.Basic.{occurs}
use Rattle.qs_algebra_patterns.specs.declared.pattern.Step.{Step, fold-Step}
use Rattle.qs_algebra_patterns.specs.declared.pattern.PatternNode.{PatternNode, fold-PatternNode}
use Rattle.qs_algebra_patterns.specs.declared.pattern.PatternNode.TheOpen.{PatternNode-F, Step-F}
use Rattle.qs_algebra_patterns.specs.declared.pattern.PatternNode.TheOpen.{Basic, Group, Union}
use Rattle.qs_algebra_patterns.specs.declared.pattern.PatternNode.TheOpen.{Graph, EachGraph, Values}
use Rattle.qs_algebra_patterns.specs.declared.pattern.PatternNode.TheOpen.{Join, LeftJoin, Minus}
use Rattle.qs_algebra_patterns.specs.declared.pattern.PatternNode.TheOpen.{Extend}
use Rattle.qs_algebra.specs.inner.Certain.{is_column}
use Rattle.qs_algebra_patterns.specs.declared.named_pattern.Pattern.{Pattern}

-- a step of a group, or a part of a union, may bind it, or GRAPH or BIND its variable, or a table
-- that has a column for it; what is taken away binds none
abbrev pub is_possible_level : ℕ → PatternNode-F (ℕ → Bool) (ℕ → Bool) → ℕ → Bool
is_possible_level width (Basic pattern) v = nat_lt v width && occurs pattern v
is_possible_level width (Group steps conditions) v = list_any (λ one. one v) steps
is_possible_level width (Union parts) v = list_any (λ part. part v) parts
is_possible_level width (Graph name part) v = part v
is_possible_level width (EachGraph w part) v = nat_lt v width && w == v || part v
is_possible_level width (Values table) v = nat_lt v width && is_column table v

abbrev pub is_possible_step_level : Step-F (ℕ → Bool) (ℕ → Bool) → ℕ → Bool
is_possible_step_level (Join part) v = part v
is_possible_step_level (LeftJoin part conditions) v = part v
is_possible_step_level (Minus part) v = false
is_possible_step_level (Extend w e) v = w == v

-- whether the variable may be bound in a solution of the pattern, of `width` named variables
abbrev pub is_possible : ℕ → PatternNode → ℕ → Bool
is_possible width =
    fold-PatternNode (ℕ → Bool) (ℕ → Bool) (is_possible_level width) is_possible_step_level

-- whether the step may bind it
abbrev pub is_possible_step : ℕ → Step → ℕ → Bool
is_possible_step width =
    fold-Step (ℕ → Bool) (ℕ → Bool) (is_possible_level width) is_possible_step_level

-- whether the variable may be bound in a solution of a pattern that knows its variables
abbrev pub possible_in : Pattern → ℕ → Bool
possible_in pattern = is_possible (length pattern.names) pattern.root

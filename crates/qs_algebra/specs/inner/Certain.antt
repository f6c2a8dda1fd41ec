-- Which variables each solution of a pattern binds (SPARQL 1.1 Query, 18.5), as far as the pattern
-- alone tells it.
use Rattle.std.specs.Prelude.{ℕ, Bool, false, ◌&&◌, ◌||◌, ◌==◌, length, nat_lt}
use Rattle.std.specs.List.{list_any, list_all}
use Rattle.std.specs.Option.{is_some}
use Rattle.qs_algebra_solutions.specs.Solution.{term_at}
use Rattle.qs_algebra_patterns.specs.inner.Basic.{occurs}
use Rattle.qs_algebra_patterns.specs.inner.Eval.{rows_of}
use Rattle.qs_algebra_patterns.specs.declared.table.Table.{Table}
use Rattle.qs_algebra_patterns.specs.declared.pattern.Step.{Step, fold-Step}
use Rattle.qs_algebra_patterns.specs.declared.pattern.PatternNode.{PatternNode, fold-PatternNode}
use Rattle.qs_algebra_patterns.specs.declared.pattern.PatternNode.TheOpen.{PatternNode-F, Step-F}
use Rattle.qs_algebra_patterns.specs.declared.pattern.PatternNode.TheOpen.{Basic, Group, Union}
use Rattle.qs_algebra_patterns.specs.declared.pattern.PatternNode.TheOpen.{Graph, EachGraph, Values}
use Rattle.qs_algebra_patterns.specs.declared.pattern.PatternNode.TheOpen.{Join, LeftJoin, Minus}
use Rattle.qs_algebra_patterns.specs.declared.pattern.PatternNode.TheOpen.{Extend}
use Rattle.qs_algebra_patterns.specs.declared.named_pattern.Pattern.{Pattern}

-- one of the table's variables
abbrev pub is_column : Table → ℕ → Bool
is_column table v = list_any (λ w. w == v) table.variables

-- no row of the table leaves the variable unbound
abbrev pub is_set : ℕ → Table → ℕ → Bool
is_set width table v = list_all (λ m. is_some (term_at m v)) (rows_of width table)

-- A basic graph pattern binds what stands in it, and GRAPH its variable. A step that is joined
-- binds it, or each part of a union, or a table that has no UNDEF for it. What is optional, and
-- what is taken away, binds none, nor does BIND, whose expression may err. Hidden variables are
-- taken away from solutions.
abbrev pub is_certain_level : ℕ → PatternNode-F (ℕ → Bool) (ℕ → Bool) → ℕ → Bool
is_certain_level width (Basic pattern) v = nat_lt v width && occurs pattern v
is_certain_level width (Group steps conditions) v = list_any (λ one. one v) steps
is_certain_level width (Union parts) v = list_all (λ part. part v) parts
is_certain_level width (Graph name part) v = part v
is_certain_level width (EachGraph w part) v = nat_lt v width && w == v || part v
is_certain_level width (Values table) v =
    nat_lt v width && (is_column table v && is_set width table v)

abbrev pub is_certain_step_level : Step-F (ℕ → Bool) (ℕ → Bool) → ℕ → Bool
is_certain_step_level (Join part) v = part v
is_certain_step_level (LeftJoin part conditions) v = false
is_certain_step_level (Minus part) v = false
is_certain_step_level (Extend w e) v = false

-- whether the variable is bound in each solution of the pattern, of `width` named variables
abbrev pub is_certain : ℕ → PatternNode → ℕ → Bool
is_certain width =
    fold-PatternNode (ℕ → Bool) (ℕ → Bool) (is_certain_level width) is_certain_step_level

-- whether the step binds it by itself
abbrev pub is_certain_step : ℕ → Step → ℕ → Bool
is_certain_step width =
    fold-Step (ℕ → Bool) (ℕ → Bool) (is_certain_level width) is_certain_step_level

-- whether the variable is bound in each solution of a pattern that knows its variables
abbrev pub certain_in : Pattern → ℕ → Bool
certain_in pattern = is_certain (length pattern.names) pattern.root

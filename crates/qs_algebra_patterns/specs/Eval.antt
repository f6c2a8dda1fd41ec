-- What a pattern means (SPARQL 1.1 Query, 18.5 and 18.6): its solutions over a dataset, where a
-- graph is active. By recursion on the pattern; each list is a bag.
use Rattle.std.specs.Prelude.{ℕ, Bool, List, [], ◌∷◌, map, Some, slice_set}
use Rattle.std.specs.Prelude.{if◌then◌else◌}
use Rattle.std.specs.Option.{option_map_or}
use Rattle.std.specs.List.{filter, flat_map, fold, list_any, list_all}
use Rattle.qs_terms.specs.Dataset.{graph_of, names_of}
use Rattle.qs_terms.specs.Statement.{Statement}
use Rattle.qs_terms.specs.Term.{same_term}
use Rattle.qs_terms.specs.declared.term.Term.{Term}
use Rattle.qs_algebra_solutions.specs.Solution.{Solution, unbound, binding}
use Rattle.qs_algebra_solutions.specs.Operators as of
use Rattle.qs_expr_meaning.specs.Meaning.{meaning, holds}
use Rattle.qs_expr_meaning.specs.declared.expr.Expr.{Expr}
use Rattle.qs_algebra_patterns.specs.Basic.{Graph as Triples, basic}
use Rattle.qs_algebra_patterns.specs.declared.pattern.PatternNode.{PatternNode, fold-PatternNode}
use Rattle.qs_algebra_patterns.specs.declared.pattern.PatternNode.TheOpen.{PatternNode-F, Step-F}
use Rattle.qs_algebra_patterns.specs.declared.pattern.PatternNode.TheOpen.{Basic, Group, Union}
use Rattle.qs_algebra_patterns.specs.declared.pattern.PatternNode.TheOpen.{Graph, EachGraph, Values}
use Rattle.qs_algebra_patterns.specs.declared.pattern.PatternNode.TheOpen.{Join, LeftJoin, Minus}
use Rattle.qs_algebra_patterns.specs.declared.pattern.PatternNode.TheOpen.{Extend}

-- the solutions of a pattern, by the active graph
abbrev pub Found : Type 0
Found = Triples → List Solution

-- what a step makes of the solutions before it
abbrev pub Stepped : Type 0
Stepped = Triples → List Solution → List Solution

-- all conditions are true in the solution; an error isn't true
abbrev pub all_hold : List Expr → Solution → Bool
all_hold conditions m = list_all (holds m) conditions

-- Extend: the solution with the variable bound to the value, or as it is where there is an error
abbrev pub extended : ℕ → Expr → Solution → Solution
extended v e m = option_map_or (λ t. slice_set m v (Some t)) (meaning m e) m

-- the steps from left to right, from the one solution of `width` variables that binds none
abbrev pub all_steps : ℕ → Triples → List Stepped → List Solution
all_steps width graph steps = fold (λ left one. one graph left) (unbound width ∷ []) steps

-- the solutions in the graph of this name, if there is one
abbrev pub in_named : List Statement → Term → Found → List Solution
in_named quads name part =
    if list_any (same_term name) (names_of quads) then part (graph_of quads (Some name)) else []

-- the solutions in each of these graphs, joined with the one that binds the variable to the graph's
-- name
abbrev pub in_each : ℕ → List Statement → ℕ → Found → List Term → List Solution
in_each width quads v part names =
    flat_map (λ name. of.join (part (graph_of quads (Some name)))
    (binding width (v ∷ []) (Some name ∷ []) ∷ [])) names

-- a group is filtered at its end; a union is the lists of its parts, one after another; a table has
-- a solution for each row
abbrev pub eval_level : ℕ → List Statement → PatternNode-F Found Stepped → Found
eval_level width quads (Basic pattern) graph = basic width pattern graph
eval_level width quads (Group steps cs) graph = filter (all_hold cs) (all_steps width graph steps)
eval_level width quads (Union parts) graph = flat_map (λ part. part graph) parts
eval_level width quads (Graph name part) graph = in_named quads name part
eval_level width quads (EachGraph v part) graph = in_each width quads v part (names_of quads)
eval_level width quads (Values table) graph = map (binding width table.variables) table.rows

-- the conditions of an optional step are looked at in the merged solution
abbrev pub step_level : Step-F Found Stepped → Stepped
step_level (Join part) graph left = of.join left (part graph)
step_level (LeftJoin part cs) graph left = of.left_join (all_hold cs) left (part graph)
step_level (Minus part) graph left = of.minus left (part graph)
step_level (Extend v e) graph left = map (extended v e) left

-- the solutions of a pattern, of `width` named variables
abbrev pub eval : ℕ → List Statement → PatternNode → Found
eval width quads = fold-PatternNode Found Stepped (eval_level width quads) step_level

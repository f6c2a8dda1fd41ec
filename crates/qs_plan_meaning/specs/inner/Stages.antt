-- What the stages of a plan mean (SPARQL 1.1 Query, 18.5), over terms alone. A row is a solution:
-- first the named variables of the query, and after them hidden variables and registers. Hidden
-- variables are the blank nodes of a basic graph pattern; a register holds the name of a graph. A
-- stage makes a list of rows of one row, and a group of stages is a list of them, one after
-- another.
use Rattle.std.specs.Prelude.{ℕ, Bool, true, false, not, List, [], ◌∷◌, ◌++◌, map, take, drop}
use Rattle.std.specs.Prelude.{Option, Some, None, if◌then◌else◌, length, slice_set}
use Rattle.std.specs.List.{filter, flat_map, list_any}
use Rattle.qs_terms.specs.Dataset.{graph_of, names_of}
use Rattle.qs_terms.specs.Statement.{Statement}
use Rattle.qs_terms.specs.Term.{same_term}
use Rattle.qs_terms.specs.declared.term.Term.{Term}
use Rattle.qs_algebra_solutions.specs.Solution.{Solution, term_at, unbound, binding}
use Rattle.qs_algebra_solutions.specs.Operators.{merges, or_alone, excludes}
use Rattle.qs_expr_meaning.specs.Meaning.{holds}
use Rattle.qs_algebra_patterns.specs.Basic.{Graph}
use Rattle.qs_algebra_patterns.specs.Eval.{all_hold, extended}
use Rattle.qs_algebra_patterns.specs.inner.Eval.{rows_of}
use Rattle.qs_plan_meaning.specs.declared.stage.Look.{Look}
use Rattle.qs_plan_meaning.specs.declared.stage.Look.TheVariants as look
use Rattle.qs_plan_meaning.specs.declared.stage.Stage.{Stage, fold-Stage}
use Rattle.qs_plan_meaning.specs.declared.stage.Stage.TheOpen.{Stage-F, Group-F, Triple, Path}
use Rattle.qs_plan_meaning.specs.declared.stage.Stage.TheOpen.{Exists, Names, Name, Filter, Bind}
use Rattle.qs_plan_meaning.specs.declared.stage.Stage.TheOpen.{Values, Union, Optional, Fed, Minus}
use Rattle.qs_plan_meaning.specs.declared.stage.Stage.TheOpen.{Apart}
use Rattle.qs_plan_meaning.specs.inner.Scans.{extensions, path_extensions}

-- what a stage, or a group of stages, makes of a row
abbrev pub Made : Type 0
Made = Solution → List Solution

-- ---- graphs

-- the graph of the name in a register; a register that holds none names no graph
abbrev pub graph_named : List Statement → Option Term → Graph
graph_named quads None = []
graph_named quads (Some name) = graph_of quads (Some name)

-- the graph in which a triple or a path looks for the row
abbrev pub looked : List Statement → Graph → Look → Solution → Graph
looked quads active look.Active m = active
looked quads active (look.Named name) m = graph_of quads (Some name)
looked quads active (look.Register r) m = graph_named quads (term_at m r)

-- the register in which is looked, if it is one
abbrev pub register_of : Look → Option ℕ
register_of look.Active = None
register_of (look.Named name) = None
register_of (look.Register r) = Some r

-- the row, if some quad names this graph
abbrev pub if_named : List Statement → Term → Solution → List Solution
if_named quads name m = if list_any (same_term name) (names_of quads) then m ∷ [] else []

-- the row with the register holding each name in turn
abbrev pub each_named : List Statement → ℕ → Solution → List Solution
each_named quads r m = map (λ name. slice_set m r (Some name)) (names_of quads)

-- ---- what a filter sees, and what a right side is

-- the row, if the condition is true of its named variables
abbrev pub kept_if : Bool → Solution → List Solution
kept_if true m = m ∷ []
kept_if false m = []

-- as many cells as the row has, of which none is bound but the register, which holds what the row's
-- holds
abbrev pub only : Option ℕ → Solution → Solution
only None m = unbound (length m)
only (Some r) m = slice_set (unbound (length m)) r (term_at m r)

-- the solutions of a group that is evaluated by itself: it sees of the row the register in which it
-- looks, and of its own rows the named variables are left
abbrev pub aside : ℕ → Option ℕ → Made → Solution → List Solution
aside width r group m = map (take width) (group (only r m))

-- the solutions of a group that is fed the row: of its rows the named variables are left
abbrev pub fed_rows : ℕ → Made → Made
fed_rows width group m = map (take width) (group m)

-- ---- stages

-- one after another
abbrev pub along : List Made → Made
along [] m = m ∷ []
along (f ∷ fs) m = flat_map (along fs) (f m)

-- what a stage makes of a row of which `width` variables are named; a filter, BIND and the
-- conditions of OPTIONAL see these alone
abbrev pub gives_level : ℕ → List Statement → Graph → Stage-F Made Made → Made
gives_level width quads active (Triple place p) m = extensions p (looked quads active place m) m
gives_level width quads active (Path place p) m = path_extensions p (looked quads active place m) m
gives_level width quads active (Exists name) m = if_named quads name m
gives_level width quads active (Names r) m = each_named quads r m
gives_level width quads active (Name v r) m =
    merges (binding width (v ∷ []) (term_at m r ∷ []) ∷ []) m
gives_level width quads active (Filter e) m = kept_if (holds (take width m) e) m
gives_level width quads active (Bind v e) m = (extended v e (take width m) ++ drop width m) ∷ []
gives_level width quads active (Values table) m = merges (rows_of width table) m
gives_level width quads active (Union branches) m = flat_map (λ (branch : Made). branch m) branches
gives_level width quads active (Optional r group conditions) m =
    or_alone m (filter (λ n. all_hold conditions (take width n)) (merges (aside width r group m) m))
gives_level width quads active (Fed group conditions) m =
    or_alone m
    (filter (λ n. all_hold conditions (take width n)) (merges (fed_rows width group m) m))
gives_level width quads active (Minus r group) m =
    kept_if (not (list_any (excludes (take width m)) (aside width r group m))) m
gives_level width quads active (Apart r group) m = merges (aside width r group m) m

abbrev pub group_level : Group-F Made Made → Made
group_level group = along group.stages

abbrev pub gives : ℕ → List Statement → Graph → Stage → Made
gives width quads active = fold-Stage Made Made (gives_level width quads active) group_level

-- what the stages of a group make of a row, one after another
abbrev pub through : ℕ → List Statement → Graph → List Stage → Made
through width quads active stages = along (map (gives width quads active) stages)

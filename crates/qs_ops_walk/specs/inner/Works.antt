-- What the places of a walk have prepared and keep.
use Rattle.std.specs.Prelude.{◌≡◌, ◌⊎◌, ◌<◌, ◌++◌, ◌∷◌, [], ℕ, Bool, true, List, Option, None, Some}
use Rattle.std.specs.Prelude.{map, take, length, get_or, slice_set, Vec}
use Rattle.std.specs.List.{AllByRecursion, list_any}
use Rattle.qs_terms.specs.Bag.{SameBag}
use Rattle.qs_terms.specs.Dataset.{names_of}
use Rattle.qs_terms.specs.Term.{same_term}
use Rattle.qs_terms.specs.declared.term.Term.{Term}
use Rattle.qs_algebra_solutions.specs.Solution.{Solution, unbound}
use Rattle.qs_algebra_patterns.specs.inner.Eval.{rows_of}
use Rattle.qs_algebra_patterns.specs.declared.table.Table.{Table}
use Rattle.qs_algebra_patterns.specs.declared.pattern.TriplePattern.{TriplePattern}
use Rattle.qs_algebra_patterns.specs.declared.pattern.PathPattern.{PathPattern}
use Rattle.qs_store.specs.inner.ActiveGraph.{active_graph}
use Rattle.qs_store.specs.inner.Graphs.{AreGraphs}
use Rattle.qs_store.specs.declared.active.Active.{Active}
use Rattle.qs_plan_meaning.specs.inner.Scans.{path_pairs}
use Rattle.qs_ops_scans.specs.inner.Paths.{row_ends, ArePairs, Serve}
use Rattle.qs_ops_walk.specs.declared.work.EndPairs.{EndPairs}
use Rattle.qs_ops_walk.specs.declared.work.KeptPairs.{KeptPairs}
use Rattle.qs_ops_walk.specs.declared.work.Trail.{Trail}
use Rattle.qs_ops_walk.specs.declared.work.Naming.{Naming}
use Rattle.qs_expr_meaning.specs.declared.expr.Expr.{Expr}
use Rattle.qs_expr.specs.inner.Cell.{Cells, cell_at, denoted_if, FitsIf}
use Rattle.qs_expr.specs.inner.Row.{no_cells}
use Rattle.qs_expr.specs.inner.Condition.{Prepared, IsPreparedFor}
use Rattle.qs_expr.specs.declared.cell.Cell.{Cell}
use Rattle.qs_plan_meaning.specs.declared.stage.Look.{Look}
use Rattle.qs_plan_meaning.specs.declared.stage.Stage.{Stage}
use Rattle.qs_plan_meaning.specs.declared.stage.Stage.TheVariants as stage
use Rattle.qs_plan.specs.inner.Parts.{IsFedAlike}
use Rattle.qs_ops_program.specs.inner.Flow.{Instruction, is_union}
use Rattle.qs_ops_program.specs.inner.Heights.{most, stage_height}
use Rattle.qs_ops_scans.specs.inner.Prepared.{IsGraphOf, prepared_look, prepared_triple}
use Rattle.qs_ops_scans.specs.declared.look.PreparedLook.{PreparedLook}
use Rattle.qs_ops_scans.specs.declared.pattern.PreparedTriple.{PreparedTriple}
use Rattle.qs_ops_tables.specs.inner.Tables.{KeptRows, FitRows, row_solutions}
use Rattle.qs_ops_walk.specs.declared.right.Aside.{Aside}
use Rattle.qs_ops_walk.specs.declared.work.Feed.{Feed}
use Rattle.qs_ops_walk.specs.declared.right.Right.{Right}
use Rattle.qs_ops_walk.specs.declared.work.Work.{Work}
use Rattle.qs_ops_walk.specs.declared.work.Work.TheVariants.{Triple, Path, Names, Exists, Name}
use Rattle.qs_ops_walk.specs.declared.work.Work.TheVariants.{Filter, Bind, Values, Union, Optional}
use Rattle.qs_ops_walk.specs.declared.work.Work.TheVariants.{Fed, Minus, Apart}
use Rattle.qs_ops_walk.specs.declared.work.Place.{Place}
use Rattle.qs_ops_walk.specs.inner.Setting.{Setting, known_of, through_in}

-- ---- right sides

-- the cell of the register in which a right side looks, for this row
abbrev pub name_at : Option ℕ → Cells → Option Cell
name_at None m = None
name_at (Some r) m = cell_at m r

-- n cells, of which none is bound but the register
abbrev pub only_at : Option ℕ → ℕ → Option Term → Solution
only_at None n x = unbound n
only_at (Some r) n x = slice_set (unbound n) r x

abbrev pub only_cells : Option ℕ → ℕ → Option Cell → Cells
only_cells None n name = no_cells n
only_cells (Some r) n name = slice_set (no_cells n) r name

-- the kept rows denote the solutions of the group for rows of so many cells whose register has this
-- name
pub record IsAside (s : Setting) (table : List Term) (register : Option ℕ) (stages : List Stage)
    (a : Aside) : Type 0 where
  pub rows : SameBag (row_solutions (known_of s) table a.kept.rows)
      (map (take s.width)
      (through_in s stages (only_at register a.cells (denoted_if (known_of s) table a.name))))
  pub fit : FitRows (known_of s) table a.kept.rows
  pub name : FitsIf (known_of s) table a.name

abbrev pub IsRight : Setting → List Term → Right → Type 0
IsRight s table right =
    AllByRecursion (IsAside s table right.register right.group.now.stages) right.kept.list.items

-- these rows are kept in the list, for rows of n cells whose register has the cell x
pub record Keeps (list : List Aside) (n : ℕ) (x : Option Cell) (k : KeptRows) : Type 0 where
  pub a : Aside
  pub at : ℕ
  pub inside : at < length list
  pub is : a ≡ get_or list at a
  pub cells : a.cells ≡ n
  pub name : a.name ≡ x
  pub kept : k ≡ a.kept

-- these rows are kept, for rows like m
abbrev pub Serves : Right → Cells → KeptRows → Type 0
Serves right m k = Keeps right.kept.list.items (length m) (name_at right.register m) k

-- the list with one more at its end, or that one alone
abbrev pub IsPut : List Aside → Aside → List Aside → Type 0
IsPut old a new = (new ≡ old ++ a ∷ []) ⊎ (new ≡ a ∷ [])

-- ---- works

pub record IsTriple (known : List Term) (i : Stage) (l : PreparedLook) (k : PreparedTriple) : Type
    0 where
  pub look : Look
  pub pattern : TriplePattern
  pub is : i ≡ stage.Triple look pattern
  pub looks : l ≡ prepared_look known look
  pub prepared : k ≡ prepared_triple known pattern

abbrev pub IfPairs : Setting → List Term → PathPattern → Option KeptPairs → Type 0
IfPairs s table pattern None = Unit {0}
IfPairs s table pattern (Some k) =
    ArePairs (known_of s) table k.pairs
    (path_pairs pattern (active_graph s.content s.default k.graph))

-- the pairs serve the rows with these cells at the ends
pub record AreEndPairs
    (s : Setting) (table : List Term) (pattern : PathPattern) (k : EndPairs) : Type 0 where
  pub subject : FitsIf (known_of s) table k.ends.subject
  pub object : FitsIf (known_of s) table k.ends.object
  pub serve :
      Serve (known_of s) table pattern (active_graph s.content s.default k.graph) k.ends k.pairs

abbrev pub IfEndPairs : Setting → List Term → PathPattern → Option EndPairs → Type 0
IfEndPairs s table pattern None = Unit {0}
IfEndPairs s table pattern (Some k) = AreEndPairs s table pattern k

pub record IsPath (s : Setting) (table : List Term) (i : Stage) (t : Trail) : Type 0 where
  pub place : Look
  pub is : i ≡ stage.Path place t.pattern.now
  pub looks : t.look ≡ prepared_look (known_of s) place
  pub pairs : IfPairs s table t.pattern.now t.kept
  pub last : IfEndPairs s table t.pattern.now t.last

-- the pairs serve m, in the graph in which the path looks for it
pub record ArePairsFor (s : Setting) (table : List Term) (t : Trail) (m : Cells)
    (pairs : List (Cell × Cell)) : Type 0 where
  pub graph : Active
  pub looks : IsGraphOf s.content s.default t.look m s.active graph
  pub serve :
      Serve (known_of s) table t.pattern.now (active_graph s.content s.default graph)
      (row_ends t.pattern.now m) pairs

-- the numbers are those of all graphs, where they are kept
abbrev pub IfGraphs : {Z : Type 0} → Setting → Option (Vec ℕ Z) → Type 0
IfGraphs s None = Unit {0}
IfGraphs s (Some numbers) = AreGraphs s.content numbers.items

pub record IsNaming (s : Setting) (i : Stage) (n : Naming) : Type 0 where
  pub is : i ≡ stage.Names n.register
  pub graphs : IfGraphs s n.numbers

pub record IsExists (s : Setting) (i : Stage) (found : Bool) : Type 0 where
  pub name : Term
  pub is : i ≡ stage.Exists name
  pub says : found ≡ list_any (same_term name) (names_of s.content.quads)

pub record IsFilter (known : List Term) (i : Stage) (c : Prepared) : Type 0 where
  pub is : i ≡ stage.Filter c.expr
  pub prepared : IsPreparedFor known c

-- the rows are those of the table
pub record AreValues (s : Setting) (table : List Term) (values : Table) (k : KeptRows) : Type
    0 where
  pub rows : row_solutions (known_of s) table k.rows ≡ rows_of s.width values
  pub fit : FitRows (known_of s) table k.rows

abbrev pub IfValues : Setting → List Term → Table → Option KeptRows → Type 0
IfValues s table values None = Unit {0}
IfValues s table values (Some k) = AreValues s table values k

pub record IsValues (s : Setting) (table : List Term) (i : Stage) (values : Table)
    (kept : Option KeptRows) : Type 0 where
  pub is : i ≡ stage.Values values
  pub rows : IfValues s table values kept

pub record IsFork (i : Instruction) (starts : List ℕ) : Type 0 where
  pub is : is_union i.stage ≡ true
  pub same : starts ≡ i.starts

abbrev pub expr_of : Prepared → Expr
expr_of c = c.expr

-- the stages look in no register, and a row has the same merges with what they make by themselves
-- as with what they make of the row
abbrev pub IsAlike : ℕ → Option ℕ → List Stage → Type 0
IsAlike width register stages = (register ≡ None) × IsFedAlike width stages

pub record IsOptional (s : Setting) (table : List Term) (i : Stage) (right : Right)
    (is_alike : Bool) (conditions : List Prepared) : Type 0 where
  pub is : i ≡ stage.Optional right.register right.group.now (map expr_of conditions)
  pub alike : is_alike ≡ true → IsAlike s.width right.register right.group.now.stages
  pub prepared : AllByRecursion (IsPreparedFor (known_of s)) conditions
  pub kept : IsRight s table right

pub record IsFed (s : Setting) (i : Stage) (feed : Feed) : Type 0 where
  pub is : i ≡ stage.Fed feed.group.now (map expr_of feed.conditions.list.items)
  pub prepared : AllByRecursion (IsPreparedFor (known_of s)) feed.conditions.list.items

pub record IsMinus (s : Setting) (table : List Term) (i : Stage) (right : Right) : Type 0 where
  pub is : i ≡ stage.Minus right.register right.group.now
  pub kept : IsRight s table right

pub record IsApart (s : Setting) (table : List Term) (i : Stage) (right : Right) : Type 0 where
  pub is : i ≡ stage.Apart right.register right.group.now
  pub kept : IsRight s table right

-- the work is that of the instruction
abbrev pub IsWork : Setting → List Term → Instruction → Work → Type 0
IsWork s table i (Triple look pattern) = IsTriple (known_of s) i.stage look pattern
IsWork s table i (Path t) = IsPath s table i.stage t
IsWork s table i (Names n) = IsNaming s i.stage n
IsWork s table i (Exists found) = IsExists s i.stage found
IsWork s table i (Name v r) = i.stage ≡ stage.Name v r
IsWork s table i (Filter c) = IsFilter (known_of s) i.stage c
IsWork s table i (Bind v e) = i.stage ≡ stage.Bind v e.now
IsWork s table i (Values v) = IsValues s table i.stage v.table.now v.kept
IsWork s table i (Union starts) = IsFork i starts.list.items
IsWork s table i (Optional c) =
    IsOptional s table i.stage c.right c.is_alike c.conditions.list.items
IsWork s table i (Fed feed) = IsFed s i.stage feed
IsWork s table i (Minus right) = IsMinus s table i.stage right
IsWork s table i (Apart right) = IsApart s table i.stage right

abbrev pub IsReady : Setting → List Term → Place → Type 0
IsReady s table p = IsWork s table p.instr p.work

abbrev pub AreReady : Setting → List Term → List Place → Type 0
AreReady s table ps = AllByRecursion (IsReady s table) ps

abbrev pub instr_of : Place → Instruction
instr_of p = p.instr

-- the program of these places
abbrev pub code_of : List Place → List Instruction
code_of ps = map instr_of ps

abbrev pub height_of : Place → ℕ
height_of p = stage_height p.instr.stage

-- how deep groups are nested in them that are evaluated by themselves
abbrev pub heights_of : List Place → ℕ
heights_of ps = most (map height_of ps)

-- Triple patterns and graphs by the numbers of their terms.
use Rattle.std.specs.Prelude.{◌≡◌, ℕ, List, Option, None, Some}
use Rattle.qs_terms.specs.declared.term.Term.{Term}
use Rattle.qs_dict.specs.inner.Dict.{number_of}
use Rattle.qs_store.specs.inner.ActiveGraph.{active_graph}
use Rattle.qs_store.specs.Content.{Content}
use Rattle.qs_store.specs.declared.active.Active.{Active}
use Rattle.qs_store.specs.declared.active.Active.TheVariants as active
use Rattle.qs_store.specs.declared.default_graph.DefaultGraph.{DefaultGraph}
use Rattle.qs_algebra_patterns.specs.declared.pattern.Slot.{Slot}
use Rattle.qs_algebra_patterns.specs.declared.pattern.Slot.TheVariants as slot
use Rattle.qs_algebra_patterns.specs.declared.pattern.TriplePattern.{TriplePattern}
use Rattle.qs_expr.specs.declared.cell.Cell.{Cell}
use Rattle.qs_expr.specs.declared.cell.Cell.TheVariants.{Known, Scratch}
use Rattle.qs_expr.specs.inner.Cell.{Cells, cell_at, row_solution, FitsRow}
use Rattle.qs_expr.specs.inner.Scratch.{IsTable}
use Rattle.qs_plan_meaning.specs.declared.stage.Look.{Look}
use Rattle.qs_plan_meaning.specs.declared.stage.Look.TheVariants as look
use Rattle.qs_plan_meaning.specs.inner.Stages.{looked}
use Rattle.qs_ops_scans.specs.declared.pattern.Place.{Place}
use Rattle.qs_ops_scans.specs.declared.pattern.Place.TheVariants as place
use Rattle.qs_ops_scans.specs.declared.pattern.PreparedTriple.{PreparedTriple}
use Rattle.qs_ops_scans.specs.declared.look.PreparedLook.{PreparedLook}
use Rattle.qs_ops_scans.specs.declared.look.PreparedLook.TheVariants as prepared

-- ---- triple patterns

abbrev pub number_place : Option ℕ → Place
number_place None = place.Absent
number_place (Some n) = place.Number n

abbrev pub place_of : List Term → Slot → Place
place_of known (slot.Term t) = number_place (number_of known t)
place_of known (slot.Variable v) = place.Variable v

-- the triple pattern by the numbers of its terms
abbrev pub prepared_triple : List Term → TriplePattern → PreparedTriple
prepared_triple known p = record {
  subject = place_of known p.subject;
  predicate = place_of known p.predicate;
  object = place_of known p.object;
}

-- ---- graphs

abbrev pub named_look : Option ℕ → PreparedLook
named_look None = prepared.Unknown
named_look (Some n) = prepared.Graph n

-- the graph that a stage looks in, by the number of its name
abbrev pub prepared_look : List Term → Look → PreparedLook
prepared_look known look.Active = prepared.Active
prepared_look known (look.Named name) = named_look (number_of known name)
prepared_look known (look.Register r) = prepared.Register r

-- a term that the dictionary lacks names no graph
abbrev pub graph_of_cell : Option Cell → Active
graph_of_cell None = active.Empty
graph_of_cell (Some (Known n)) = active.Graph n
graph_of_cell (Some (Scratch k)) = active.Empty

abbrev pub graph_by : PreparedLook → Cells → Active → Active
graph_by prepared.Active row graph = graph
graph_by (prepared.Graph n) row graph = active.Graph n
graph_by prepared.Unknown row graph = active.Empty
graph_by (prepared.Register r) row graph = graph_of_cell (cell_at row r)

-- its triples are those of the graph in which the stage looks for the row
abbrev pub IsGraphOf : Content → DefaultGraph → PreparedLook → Cells → Active → Active → Type 0
IsGraphOf c default prepared row graph result =
    (place : Look) (table : List Term) → prepared ≡ prepared_look c.known place
    → IsTable c.known table → FitsRow c.known table row
    → active_graph c default result ≡ looked c.quads (active_graph c default graph) place
    (row_solution c.known table row)

-- The graph in which a stage looks for a row.
use Rattle.std.proofs.Common.{◌≡◌, ℕ, zero, suc, Bool, true, false, cond, Option, Some, None, List, [], ◌∷◌, map, refl, sym, ◌∙◌, ap, subst}
use Rattle.std.specs.List.{Contains, filter}
use Rattle.qs_terms.specs.Bag.{SameBag}
use Rattle.qs_terms.specs.Dataset.{graph_of, triple_of}
use Rattle.qs_terms.specs.Statement.{Statement, same_graph}
use Rattle.qs_terms.specs.declared.term.Term.{Term}
use Rattle.qs_terms.proofs.SameStatement.{same_graph-Decides}
use Rattle.qs_dict.specs.inner.Dict.{number_of, term_at}
use Rattle.qs_dict.proofs.Numbers.{exact_number}
use Rattle.qs_store.specs.inner.ActiveGraph.{IsSeen, active_graph}
use Rattle.qs_store.specs.Content.{Content}
use Rattle.qs_store.specs.declared.active.Active.{Active}
use Rattle.qs_store.specs.declared.active.Active.TheVariants as active
use Rattle.qs_store.specs.declared.default_graph.DefaultGraph.{DefaultGraph}
use Rattle.qs_store.proofs.Members.{here, there}
use Rattle.qs_algebra_solutions.specs.Solution.{Solution}
use Rattle.qs_algebra_patterns.specs.Basic.{Graph}
use Rattle.qs_expr.specs.declared.cell.Cell.{Cell}
use Rattle.qs_expr.specs.declared.cell.Cell.TheVariants.{Known, Scratch}
use Rattle.qs_expr.specs.inner.Cell.{Cells, cell_at, denoted, denoted_if, row_solution, FitsRow}
use Rattle.qs_expr.specs.inner.Scratch.{IsTable}
use Rattle.qs_expr.proofs.Finding.{term_there}
use Rattle.qs_expr.proofs.RowTerms.{term_at_row}
use Rattle.qs_paths.proofs.Scanned.{number_there}
use Rattle.qs_plan_meaning.specs.declared.stage.Look.{Look}
use Rattle.qs_plan_meaning.specs.declared.stage.Look.TheVariants as look
use Rattle.qs_plan_meaning.specs.inner.Stages.{graph_named, looked}
use Rattle.qs_ops_scans.specs.inner.Makes.{AreMade}
use Rattle.qs_ops_scans.specs.inner.Prepared.{graph_by, graph_of_cell, named_look, prepared_look}
use Rattle.qs_ops_scans.specs.declared.look.PreparedLook.{PreparedLook}

-- a graph that no quad names is empty
empty_graph : (name : Term) (quads : List Statement) → ((q : Statement) → Contains quads q → (q.graph ≡ Some name → ⊥)) → graph_of quads (Some name) ≡ []
empty_graph name [] h = refl
empty_graph name (q ∷ quads) h = at (same_graph q.graph (Some name)) refl (empty_graph name quads (λ r k. h r (there q r quads k)))
  where
    at : (b : Bool) → same_graph q.graph (Some name) ≡ b → graph_of quads (Some name) ≡ [] → map triple_of (cond b (q ∷ filter (λ r. same_graph r.graph (Some name)) quads) (filter (λ r. same_graph r.graph (Some name)) quads)) ≡ []
    at true e i = absurd (h q (here q quads) ((same_graph-Decides q.graph (Some name)).0 e))
    at false e i = i

module _ (c : Content) (d : DefaultGraph) (seen : IsSeen c) where
  -- a term that is not known names no graph
  unknown_graph : (name : Term) → ((n : ℕ) → term_at c.known n ≡ Some name → ⊥) → graph_of c.quads (Some name) ≡ []
  unknown_graph name h =
      empty_graph name c.quads (λ q k e. let n = number_there c.known name ((seen.knows q k).graph name e) in h n.number n.is)

  -- the graph of a number is that of its term
  numbered : (n : ℕ) (name : Term) → term_at c.known n ≡ Some name → active_graph c d (active.Graph n) ≡ graph_of c.quads (Some name)
  numbered zero name e = absurd (let f : None ≡ Some name = e in cc)
  numbered (suc i) name e = rw e refl

  named_is : (o : Option ℕ) (name : Term) (m : Cells) (graph : Active) → number_of c.known name ≡ o → active_graph c d (graph_by (named_look o) m graph) ≡ graph_of c.quads (Some name)
  named_is None name m graph e = sym (unknown_graph name (λ n f. let g : None ≡ Some n = sym e ∙ (exact_number c.known name seen.lawful.terms_once n).1 f in cc))
  named_is (Some n) name m graph e = numbered n name ((exact_number c.known name seen.lawful.terms_once n).0 e)

  module _ (table : List Term) (is_table : IsTable c.known table) where
    cell_is : (o : Option Cell) → ((x : Cell) → o ≡ Some x → (t : Term) × (denoted c.known table x ≡ Some t)) → active_graph c d (graph_of_cell o) ≡ graph_named c.quads (denoted_if c.known table o)
    cell_is None h = refl
    cell_is (Some (Known n)) h = let t = h (Known n) refl in numbered n t.0 t.1 ∙ sym (ap (graph_named c.quads) t.1)
    cell_is (Some (Scratch k)) h =
        let t = h (Scratch k) refl in
        sym (ap (graph_named c.quads) t.1 ∙ unknown_graph t.0 (λ n e. let f : Scratch k ≡ Known n = is_table.one (Scratch k) (Known n) t.0 t.1 e in cc))

    looked_is : (place : Look) (m : Cells) (graph : Active) → FitsRow c.known table m → active_graph c d (graph_by (prepared_look c.known place) m graph) ≡ looked c.quads (active_graph c d graph) place (row_solution c.known table m)
    looked_is look.Active m graph h = refl
    looked_is (look.Named name) m graph h = named_is (number_of c.known name) name m graph refl
    looked_is (look.Register r) m graph h =
        cell_is (cell_at m r) (λ x e. term_there (denoted c.known table x) (h.each r x e)) ∙ sym (ap (graph_named c.quads) (term_at_row c.known table m r))

pub look_is : (c : Content) (d : DefaultGraph) → IsSeen c → (k : PreparedLook) (place : Look) (table : List Term) (m : Cells) (graph : Active) → k ≡ prepared_look c.known place → IsTable c.known table → FitsRow c.known table m
    → active_graph c d (graph_by k m graph) ≡ looked c.quads (active_graph c d graph) place (row_solution c.known table m)
look_is c d seen k place table m graph e is_table h =
    subst (λ (r : PreparedLook). active_graph c d (graph_by r m graph) ≡ looked c.quads (active_graph c d graph) place (row_solution c.known table m)) (sym e)
    (looked_is c d seen table is_table place m graph h)

-- what is made in that graph is what the stage makes
pub made_in : (c : Content) (table : List Term) (graph active : Graph) (place : Look) (f : Graph → Solution → List Solution) (m : Cells) (rows : List Cells) → graph ≡ looked c.quads active place (row_solution c.known table m)
    → AreMade c.known table (f graph) m rows → AreMade c.known table (λ r. f (looked c.quads active place r) r) m rows
made_in c table graph active place f m rows e h = record {
  same = subst (λ (g : Graph). SameBag (map (row_solution c.known table) rows) (f g (row_solution c.known table m))) e h.same;
  fit = h.fit;
}

-- Whether the term of a cell is a node of a graph.
use Rattle.std.proofs.Common.{◌≡◌, ℕ, ◌<◌, Bool, true, false, Option, List, length, sym, subst}
use Rattle.std.specs.Option.{is_some}
use Rattle.std.specs.Iterator.{YieldsFirst}
use Rattle.std.specs.List.{list_any}
use Rattle.std.specs.Prelude.{None, Some}
use Rattle.qs_terms.specs.Dataset.{Triple, nodes_of}
use Rattle.qs_terms.specs.Term.{same_term}
use Rattle.qs_terms.specs.declared.term.Term.{Term}
use Rattle.qs_terms.proofs.SameTerm.{same_term-Decides}
use Rattle.qs_dict.specs.inner.Dict.{term_at}
use Rattle.qs_store.specs.inner.ActiveGraph.{IsSeen, active_graph}
use Rattle.qs_store.specs.Content.{Content}
use Rattle.qs_store.specs.inner.Triples.{AreTriples}
use Rattle.qs_store.specs.declared.active.Active.{Active}
use Rattle.qs_store.specs.declared.default_graph.DefaultGraph.{DefaultGraph}
use Rattle.qs_paths_meaning.proofs.Members.{not_in}
use Rattle.qs_expr.specs.declared.cell.Cell.TheVariants.{Known, Scratch}
use Rattle.qs_expr.specs.inner.Scratch.{IsTable}
use Rattle.qs_paths.proofs.Naming.{name, naming}
use Rattle.qs_paths.proofs.Scanned.{node_number, tells_begin, tells_end}
use Rattle.qs_ops_scans.specs.inner.Given.{TellsNode}

module _ (c : Content) (d : DefaultGraph) (a : Active) (seen : IsSeen c) where
  abbrev graph : List Triple
  graph = active_graph c d a

  -- a term of the scratch table is none
  pub scratch_node : (k : ℕ) → TellsNode c.known graph (Scratch k) false
  scratch_node k table t one e =
      sym
      (not_in same_term same_term-Decides t (nodes_of graph) (λ m.
      let w = node_number c d a seen.lawful seen.knows t m in
      let f : Scratch k ≡ Known w.number = one.one (Scratch k) (Known w.number) t e w.is in
      absurd (cc)))

  module _ (few : length c.known < 4294967296) (n : ℕ) where
    called : (table : List Term) (one : IsTable c.known table) (t : Term) → term_at c.known n ≡ Some t → name c.known table one few n ≡ t
    called table one t is = (naming c.known table one few).own n t is

    pub begins_node : (from rest : List (List ℕ)) (o : Option (List ℕ)) (b : Bool) → AreTriples c d a (Some n) None None from → YieldsFirst (λ (l : List (List ℕ)). l) from o rest → b ≡ is_some o → b ≡ true
        → TellsNode c.known graph (Known n) true
    begins_node from rest o b l y e h table t one is =
        subst (λ (u : Term). true ≡ list_any (same_term u) (nodes_of graph)) (called table one t is)
        (tells_begin c d a seen.lawful seen.knows (name c.known table one few) (naming c.known table one few) n from rest o b l y e h)

    pub ends_node : (from rest to rest' : List (List ℕ)) (o p : Option (List ℕ)) (b e : Bool) → AreTriples c d a (Some n) None None from → AreTriples c d a None None (Some n) to
        → YieldsFirst (λ (l : List (List ℕ)). l) from o rest → YieldsFirst (λ (l : List (List ℕ)). l) to p rest' → b ≡ is_some o → e ≡ is_some p → b ≡ false
        → TellsNode c.known graph (Known n) e
    ends_node from rest to rest' o p b e l k y z f g h table t one is =
        subst (λ (u : Term). e ≡ list_any (same_term u) (nodes_of graph)) (called table one t is)
        (tells_end c d a seen.lawful seen.knows (name c.known table one few) (naming c.known table one few) n from rest to rest' o p b e l k y z f g h)

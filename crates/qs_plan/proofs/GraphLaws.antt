-- The graphs of quads.
use Rattle.std.proofs.Common.{◌≡◌, Bool, true, false, cond, List, [], ◌∷◌, map, Option, refl, sym, ◌∙◌}
use Rattle.std.specs.List.{filter, list_any}
use Rattle.qs_terms.specs.declared.term.Term.{Term}
use Rattle.qs_terms.specs.Statement.{Statement, same_graph, same_statement}
use Rattle.qs_terms.specs.Bag.{Distinct}
use Rattle.qs_terms.specs.Dataset.{same_triple, triple_of, graph_of}
use Rattle.qs_terms.proofs.FirstOnes.{or_left_false, or_right_false}
use Rattle.qs_terms.proofs.SameStatement.{same_graph-Decides}

none_in : (q : Statement) (name : Option Term) (quads : List Statement) → q.graph ≡ name → list_any (same_statement q) quads ≡ false → list_any (same_triple (triple_of q)) (graph_of quads name) ≡ false
none_in q name [] is h = refl
none_in q name (r ∷ quads) is h =
    at (same_graph r.graph name) refl (or_left_false (same_statement q r) (list_any (same_statement q) quads) h) (none_in q name quads is (or_right_false (same_statement q r) (list_any (same_statement q) quads) h))
  where
    at : (b : Bool) → same_graph r.graph name ≡ b → same_statement q r ≡ false → list_any (same_triple (triple_of q)) (graph_of quads name) ≡ false → list_any (same_triple (triple_of q)) (map triple_of (cond b (r ∷ filter (λ q. same_graph q.graph name) quads) (filter (λ q. same_graph q.graph name) quads))) ≡ false
    at false e s k = k
    at true e s k =
        let f : r.graph ≡ name = (same_graph-Decides r.graph name).0 e in
        let g : same_graph q.graph r.graph ≡ true = (same_graph-Decides q.graph r.graph).1 (is ∙ sym f) in
        let d : same_triple (triple_of q) (triple_of r) ≡ false = rw g at s in
        rw (d, k) refl

-- no triple stands twice in a graph, where no statement stands twice in the quads
pub graph_distinct : (name : Option Term) (quads : List Statement) → Distinct same_statement quads → Distinct same_triple (graph_of quads name)
graph_distinct name [] d = tt
graph_distinct name (q ∷ quads) d = at (same_graph q.graph name) refl (graph_distinct name quads d.1)
  where
    at : (b : Bool) → same_graph q.graph name ≡ b → Distinct same_triple (graph_of quads name) → Distinct same_triple (map triple_of (cond b (q ∷ filter (λ q. same_graph q.graph name) quads) (filter (λ q. same_graph q.graph name) quads)))
    at false e k = k
    at true e k = (none_in q name quads ((same_graph-Decides q.graph name).0 e) d.0, k)

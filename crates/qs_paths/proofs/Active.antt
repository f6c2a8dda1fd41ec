-- The triples of the graph that is read are those of its quads.
use Rattle.std.proofs.Common.{◌≡◌, ◌≢◌, ℕ, zero, suc, Bool, true, false, ◌&&◌, cond, Option, Some, None, List, [], ◌∷◌, map, refl, sym, ◌∙◌, ap, subst, arith}
use Rattle.std.specs.Bool.{Decides}
use Rattle.std.specs.List.{Contains, filter, list_any}
use Rattle.std.proofs.lemmas.Bool.Decides.{Decides-and, Decides-like}
use Rattle.qs_terms.specs.Bag.{Distinct}
use Rattle.qs_terms.specs.Dataset.{Triple, triple_of, same_triple, graph_of}
use Rattle.qs_terms.specs.Statement.{Statement, same_graph, same_statement}
use Rattle.qs_terms.specs.Term.{same_term}
use Rattle.qs_terms.specs.declared.term.Term.{Term}
use Rattle.qs_terms.proofs.FirstOnes.{once_distinct, or_left_false, or_right_false}
use Rattle.qs_terms.proofs.SameStatement.{same_graph-Decides}
use Rattle.qs_terms.proofs.SameTerm.{same_term-Decides}
use Rattle.qs_dict.specs.inner.Dict.{term_at}
use Rattle.qs_store.specs.Content.{Content}
use Rattle.qs_store.specs.inner.Content.{IsContent}
use Rattle.qs_store.specs.inner.Triples.{IsActive}
use Rattle.qs_store.specs.declared.active.Active.{Active}
use Rattle.qs_store.specs.declared.active.Active.TheVariants.{Default, Graph, Empty}
use Rattle.qs_store.specs.declared.default_graph.DefaultGraph.{DefaultGraph}
use Rattle.qs_store.specs.declared.default_graph.DefaultGraph.TheVariants.{Stored, Union}
use Rattle.qs_store.proofs.Members.{nothing, member_of_filter, filter_has}
use Rattle.qs_store.specs.inner.ActiveGraph.{is_named, named_graph, active_graph}
use Rattle.qs_paths.proofs.Lists.{map_has, member_of_map, once_has, once_only}

-- ---- triples that are the same

triple : Term → Term → Term → Triple
triple s p o = record { subject = s; predicate = p; object = o }

triple_from_parts : (a b : Triple) → a.subject ≡ b.subject → a.predicate ≡ b.predicate → a.object ≡ b.object → a ≡ b
unfolding triple
triple_from_parts a b s p o =
    ap (λ x. triple x a.predicate a.object) s ∙ (ap (λ x. triple b.subject x a.object) p ∙ ap (λ x. triple b.subject b.predicate x) o)

pub same_triple-Decides : (a b : Triple) → Decides (same_triple a b) (a ≡ b)
same_triple-Decides a b =
    Decides-like (same_triple a b) (λ p. triple_from_parts a b p.0 p.1.0 p.1.1)
    (λ (e : a ≡ b). (ap (λ (l : Triple). l.subject) e, (ap (λ (l : Triple). l.predicate) e, ap (λ (l : Triple). l.object) e)))
    (Decides-and (same_term a.subject b.subject) (same_term a.predicate b.predicate && same_term a.object b.object) (same_term-Decides a.subject b.subject)
    (Decides-and (same_term a.predicate b.predicate) (same_term a.object b.object) (same_term-Decides a.predicate b.predicate) (same_term-Decides a.object b.object)))

-- ---- the graph of a name

none_in : (q : Statement) (name : Option Term) (quads : List Statement) → q.graph ≡ name → list_any (same_statement q) quads ≡ false → list_any (same_triple (triple_of q)) (graph_of quads name) ≡ false
none_in q name [] is h = refl
none_in q name (r ∷ quads) is h =
    at (same_graph r.graph name) refl (or_left_false (same_statement q r) (list_any (same_statement q) quads) h) (none_in q name quads is (or_right_false (same_statement q r) (list_any (same_statement q) quads) h))
  where
    at : (b : Bool) → same_graph r.graph name ≡ b → same_statement q r ≡ false → list_any (same_triple (triple_of q)) (graph_of quads name) ≡ false → list_any (same_triple (triple_of q)) (map triple_of (cond b (r ∷ filter (λ q. same_graph q.graph name) quads) (filter (λ q. same_graph q.graph name) quads))) ≡ false
    at false e s k = k
    at true e s k =
        let f : r.graph ≡ name = (same_graph-Decides r.graph name).0 e in
        let g : same_graph q.graph r.graph ≡ true = (same_graph-Decides q.graph r.graph).1 (is ∙ sym f) in
        let d : same_triple (triple_of q) (triple_of r) ≡ false = rw g at s in
        rw (d, k) refl

-- no triple stands twice in a graph, where no statement stands twice in the quads
graph_distinct : (name : Option Term) (quads : List Statement) → Distinct same_statement quads → Distinct same_triple (graph_of quads name)
graph_distinct name [] d = tt
graph_distinct name (q ∷ quads) d = at (same_graph q.graph name) refl (graph_distinct name quads d.1)
  where
    at : (b : Bool) → same_graph q.graph name ≡ b → Distinct same_triple (graph_of quads name) → Distinct same_triple (map triple_of (cond b (q ∷ filter (λ q. same_graph q.graph name) quads) (filter (λ q. same_graph q.graph name) quads)))
    at false e k = k
    at true e k = (none_in q name quads ((same_graph-Decides q.graph name).0 e) d.0, k)

graph_has : (quads : List Statement) (name : Option Term) (q : Statement) → Contains quads q → q.graph ≡ name → Contains (graph_of quads name) (triple_of q)
graph_has quads name q c e =
    map_has triple_of q (filter (λ q. same_graph q.graph name) quads) (filter_has (λ q. same_graph q.graph name) q quads c ((same_graph-Decides q.graph name).1 e))

pub record InGraph (quads : List Statement) (P : Option Term → Type 0) (t : Triple) : Type 0 where
  pub quad : Statement
  pub stands : Contains quads quad
  pub read : P quad.graph
  pub is : triple_of quad ≡ t

graph_only : (quads : List Statement) (name : Option Term) (t : Triple) → Contains (graph_of quads name) t → InGraph quads (λ g. g ≡ name) t
graph_only quads name t c =
    let m = member_of_map triple_of t (filter (λ q. same_graph q.graph name) quads) c in
    let f = member_of_filter (λ q. same_graph q.graph name) m.of quads m.stands in
    record { quad = m.of; stands = f.0; read = (same_graph-Decides m.of.graph name).0 f.1; is = m.is }

named_has : (c : Content) (i : ℕ) (q : Statement) (g : Option Term) → g ≡ q.graph → Contains c.quads q → IsActive c.known Stored (Graph (suc i)) g → Contains (named_graph c.quads (term_at c.known (suc i))) (triple_of q)
named_has c i q None e k h = absurd (omega (arith, h))
named_has c i q (Some name) e k h =
    subst (λ (o : Option Term). Contains (named_graph c.quads o) (triple_of q)) (sym h) (graph_has c.quads (Some name) q k (sym e))

first_has : (c : Content) (q : Statement) (g : Option Term) → g ≡ q.graph → Contains c.quads q → IsActive c.known Stored (Graph zero) g → Contains (graph_of c.quads None) (triple_of q)
first_has c q None e k h = graph_has c.quads None q k (sym e)
first_has c q (Some name) e k h = let f : None ≡ Some name = h in cc

named_if : (g : Option Term) → g ≢ None → is_named g ≡ true
named_if None h = absurd (h refl)
named_if (Some name) h = refl

pub active_has : (c : Content) (d : DefaultGraph) (a : Active) (q : Statement) → Contains c.quads q → IsActive c.known d a q.graph → Contains (active_graph c d a) (triple_of q)
active_has c d (Graph zero) q k h = first_has c q q.graph refl k h
active_has c d (Graph (suc i)) q k h = named_has c i q q.graph refl k h
active_has c d Empty q k h = absurd h
active_has c Stored Default q k h = graph_has c.quads None q k h
active_has c Union Default q k h =
    once_has same_triple same_triple-Decides (triple_of q) (map triple_of (filter (λ q. is_named q.graph) c.quads)) (map_has triple_of q (filter (λ q. is_named q.graph) c.quads) (filter_has (λ q. is_named q.graph) q c.quads k (named_if q.graph h)))

is_name : (g : Option Term) → is_named g ≡ true → g ≢ None
is_name None h = let f : false ≡ true = h in cc
is_name (Some name) h = λ e. let f : Some name ≡ None = e in cc

named_only : (c : Content) (i : ℕ) (t : Triple) (o : Option Term) → o ≡ term_at c.known (suc i) → Contains (named_graph c.quads o) t → InGraph c.quads (IsActive c.known Stored (Graph (suc i))) t
named_only c i t None e k = absurd (nothing t k)
named_only c i t (Some name) e k =
    let g = graph_only c.quads (Some name) t k in
    record { quad = g.quad; stands = g.stands; read = subst (IsActive c.known Stored (Graph (suc i))) (sym g.read) (sym e); is = g.is }

pub active_only : (c : Content) (d : DefaultGraph) (a : Active) (t : Triple) → Contains (active_graph c d a) t → InGraph c.quads (IsActive c.known d a) t
active_only c d (Graph zero) t k =
    let g = graph_only c.quads None t k in
    record { quad = g.quad; stands = g.stands; read = subst (IsActive c.known d (Graph zero)) (sym g.read) refl; is = g.is }
active_only c d (Graph (suc i)) t k =
    let g = named_only c i t (term_at c.known (suc i)) refl k in
    record { quad = g.quad; stands = g.stands; read = g.read; is = g.is }
active_only c d Empty t k = absurd (nothing t k)
active_only c Stored Default t k =
    let g = graph_only c.quads None t k in
    record { quad = g.quad; stands = g.stands; read = g.read; is = g.is }
active_only c Union Default t k =
    let m = member_of_map triple_of t (filter (λ q. is_named q.graph) c.quads) (once_only same_triple same_triple-Decides t (map triple_of (filter (λ q. is_named q.graph) c.quads)) k) in
    let f = member_of_filter (λ q. is_named q.graph) m.of c.quads m.stands in
    record { quad = m.of; stands = f.0; read = is_name m.of.graph f.1; is = m.is }

named_once : (c : Content) → IsContent c → (o : Option Term) → Distinct same_triple (named_graph c.quads o)
named_once c s None = tt
named_once c s (Some name) = graph_distinct (Some name) c.quads s.quads_once

pub active_once : (c : Content) (d : DefaultGraph) (a : Active) → IsContent c → Distinct same_triple (active_graph c d a)
active_once c d (Graph zero) s = graph_distinct None c.quads s.quads_once
active_once c d (Graph (suc i)) s = named_once c s (term_at c.known (suc i))
active_once c d Empty s = tt
active_once c Stored Default s = graph_distinct None c.quads s.quads_once
active_once c Union Default s = once_distinct same_triple same_triple-Decides (map triple_of (filter (λ q. is_named q.graph) c.quads))

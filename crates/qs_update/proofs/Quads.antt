-- Predicates of quads, and the quads of graphs that CLEAR and DROP name.
use Rattle.std.proofs.Common.{◌≡◌, ◌↔◌, ℕ, Bool, true, false, ◌&&◌, List, [], ◌∷◌, Some, None, refl, sym, ap, ◌∙◌, IsTrue}
use Rattle.std.specs.List.{filter, Contains}
use Rattle.qs_terms.specs.Statement.{Statement, is_node, is_iri}
use Rattle.qs_terms.specs.inner.Dataset.{is_graph}
use Rattle.qs_terms.specs.declared.term.Term.{Term}
use Rattle.qs_terms.specs.declared.term.Term.TheVariants as value
use Rattle.qs_syntax_ast.specs.declared.update.GraphTarget.{GraphTarget}
use Rattle.qs_syntax_ast.specs.declared.update.GraphTarget.TheVariants.{All, Default, Graph, Named}
use Rattle.qs_update_laws.specs.inner.Below.{have_iri_predicates}
use Rattle.qs_store.specs.inner.Content.{AreLawful}
use Rattle.qs_update.specs.Graphs.{in_graph, is_named, is_target}

behind : (a b : Bool) → IsTrue (a && b) → IsTrue b
behind true b h = h
behind false b h = absurd (let e : false ≡ true = h in cc)

-- the predicates of lawful quads are IRIs
pub iris_of : ((quads : List Statement) → IsTrue (have_iri_predicates quads) ↔ ((q : Statement) → Contains quads q → IsTrue (is_iri q.predicate))) → (quads : List Statement) → AreLawful quads → IsTrue (have_iri_predicates quads)
iris_of law quads h = (law quads).1 (λ q m. behind (is_node q.subject) (is_iri q.predicate) (behind (is_graph q.graph) (is_node q.subject && is_iri q.predicate) (h q m)))

all_stay : (quads : List Statement) → filter (is_target All) quads ≡ quads
all_stay [] = refl
all_stay (q ∷ quads) = ap (λ l. q ∷ l) (all_stay quads)

pub all_targets : (target : GraphTarget) (quads : List Statement) → target ≡ All → quads ≡ filter (is_target target) quads
all_targets target quads e = sym (all_stay quads) ∙ ap (λ t. filter (is_target t) quads) (sym e)

-- the quads of one graph, of the default graph and of the named ones
pub graph_target : (target : GraphTarget) (i : List ℕ) (name : Term) (quads : List Statement) → target ≡ Graph i → name ≡ value.Iri i → in_graph (Some name) quads ≡ filter (is_target target) quads
graph_target target i name quads e n = ap (λ a. in_graph (Some a) quads) n ∙ ap (λ t. filter (is_target t) quads) (sym e)

pub default_target : (target : GraphTarget) (quads : List Statement) → target ≡ Default → in_graph None quads ≡ filter (is_target target) quads
default_target target quads e = ap (λ t. filter (is_target t) quads) (sym e)

pub named_target : (target : GraphTarget) (quads : List Statement) → target ≡ Named → filter is_named quads ≡ filter (is_target target) quads
named_target target quads e = ap (λ t. filter (is_target t) quads) (sym e)

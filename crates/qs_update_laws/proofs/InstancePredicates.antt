-- The predicates of the quads that a template makes.
use Rattle.std.proofs.Common.{◌≡◌, ℕ, ◌+◌, Bool, true, false, ◌&&◌, if◌then◌else◌, List, [], ◌∷◌, ◌++◌, Option, Some, None, refl, ◌∙◌}
use Rattle.std.specs.List.{flat_map}
use Rattle.std.proofs.lemmas.List.Folds.{list_all-append}
use Rattle.qs_terms.specs.Statement.{Statement, is_iri, is_node, fits_places}
use Rattle.qs_terms.specs.inner.Dataset.{is_graph}
use Rattle.qs_terms.specs.declared.term.Term.{Term}
use Rattle.qs_algebra_solutions.specs.Solution.{Solution}
use Rattle.qs_query_template.specs.Instances.{slot_term, graph_term, quad_of, instance, instances}
use Rattle.qs_query_template.specs.inner.Instances.{lawful, instances_under}
use Rattle.qs_query_template.specs.declared.template.QuadTemplate.{QuadTemplate}
use Rattle.qs_query_template.specs.declared.template.Template.{Template}
use Rattle.qs_update_laws.specs.inner.Below.{have_iri_predicates}
use Rattle.qs_update_laws.proofs.Lists.{both_hold, and_both}

append_iris : (a b : List Statement) → have_iri_predicates a ≡ true → have_iri_predicates b ≡ true → have_iri_predicates (a ++ b) ≡ true
append_iris a b h k = list_all-append (λ (q : Statement). is_iri q.predicate) a b ∙ and_both (have_iri_predicates a) (have_iri_predicates b) h k

lawful_iris : (g : Option Term) (s p o : Term) → have_iri_predicates (lawful g s p o) ≡ true
lawful_iris g s p o = by (fits_places g s p) refl
  where
    by : (b : Bool) → fits_places g s p ≡ b → have_iri_predicates (if b then record { graph = g; subject = s; predicate = p; object = o } ∷ [] else []) ≡ true
    by true e = and_both (is_iri p) true (both_hold (is_node s) (is_iri p) (both_hold (is_graph g) (is_node s && is_iri p) e).1).1 refl
    by false e = refl

quad_iris : (g : Option (Option Term)) (s p o : Option Term) → have_iri_predicates (quad_of g s p o) ≡ true
quad_iris None s p o = refl
quad_iris (Some g) None p o = refl
quad_iris (Some g) (Some s) None o = refl
quad_iris (Some g) (Some s) (Some p) None = refl
quad_iris (Some g) (Some s) (Some p) (Some o) = lawful_iris g s p o

row_iris : (blanks first : ℕ) (m : Solution) (qs : List QuadTemplate) → have_iri_predicates (flat_map (instance blanks first m) qs) ≡ true
row_iris blanks first m [] = refl
row_iris blanks first m (q ∷ qs) =
    append_iris (instance blanks first m q) (flat_map (instance blanks first m) qs)
    (quad_iris (graph_term blanks first m q.graph) (slot_term blanks first m q.subject) (slot_term blanks first m q.predicate) (slot_term blanks first m q.object)) (row_iris blanks first m qs)

pub each_iri : (t : Template) (next : ℕ) (rows : List Solution) → have_iri_predicates (instances t next rows) ≡ true
each_iri t next [] = refl
each_iri t next (m ∷ rows) = append_iris (instances_under t next m) (instances t (next + t.blanks) rows) (row_iris t.blanks next m t.quads) (each_iri t (next + t.blanks) rows)

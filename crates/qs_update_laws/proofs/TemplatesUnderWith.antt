-- WITH brings no blank node into a template: it names an IRI.
use Rattle.std.proofs.Common.{◌≡◌, ℕ, false, ◌||◌, List, [], ◌∷◌, map, Option, Some, None, refl, ap₂, ◌∙◌}
use Rattle.std.specs.List.{list_any}
use Rattle.std.specs.Option.{unwrap_or}
use Rattle.qs_terms.specs.declared.term.Term.TheVariants as value
use Rattle.qs_query_template.specs.inner.Fresh.{slot_is_blank, graph_is_blank, template_quad_has_blank, names_blank}
use Rattle.qs_query_template.specs.Template.{quad_in, template_in}
use Rattle.qs_query_template.specs.declared.template.Slot.{Slot}
use Rattle.qs_query_template.specs.declared.template.Slot.TheVariants as slot
use Rattle.qs_query_template.specs.declared.template.QuadTemplate.{QuadTemplate}
use Rattle.qs_query_template.specs.declared.template.Template.{Template}

module _ (n : ℕ) (iri : List ℕ) where
  abbrev name : Slot
  name = slot.Term (value.Iri iri)

  same_graph : (g : Option Slot) → graph_is_blank n (Some (unwrap_or g name)) ≡ graph_is_blank n g
  same_graph None = refl
  same_graph (Some s) = refl

  same_quads : (qs : List QuadTemplate) → list_any (template_quad_has_blank n) (map (quad_in name) qs) ≡ list_any (template_quad_has_blank n) qs
  same_quads [] = refl
  same_quads (q ∷ qs) = ap₂ (λ a b. (a || (slot_is_blank n q.subject || slot_is_blank n q.object)) || b) (same_graph q.graph) (same_quads qs)

pub none_more : (n : ℕ) (graph : Option (List ℕ)) (t : Template) → names_blank n t ≡ false → names_blank n (template_in graph t) ≡ false
none_more n None t h = h
none_more n (Some iri) t h = same_quads n iri t.quads ∙ h

-- Templates of quads with their variables and blank nodes as numbers (SPARQL 1.1 Query, 16.2;
-- SPARQL 1.1 Update, 3.1.3): a quad for each triple, in the order of the text, and how many blank
-- nodes there are. By the grammar no path stands as a verb in a template; a triple with one is left
-- out.
use Rattle.std.specs.Prelude.{ℕ, List, [], ◌∷◌, length, map, Option, Some, None}
use Rattle.std.specs.List.{flat_map}
use Rattle.std.specs.Option.{unwrap_or, option_map, option_to_list}
use Rattle.qs_terms.specs.declared.term.Term.TheVariants as value
use Rattle.qs_syntax_ast.specs.declared.pattern.Triple.{Triple}
use Rattle.qs_syntax_ast.specs.declared.pattern.Verb.{Verb}
use Rattle.qs_syntax_ast.specs.declared.pattern.Verb.TheVariants as verb
use Rattle.qs_syntax_ast.specs.declared.term.BlankNode.{BlankNode}
use Rattle.qs_syntax_ast.specs.declared.term.TermPattern.{TermPattern}
use Rattle.qs_syntax_ast.specs.declared.term.TermPattern.TheVariants as term
use Rattle.qs_syntax_ast.specs.declared.term.VarOrIri.{VarOrIri}
use Rattle.qs_syntax_ast.specs.declared.term.VarOrIri.TheVariants as name
use Rattle.qs_syntax_ast.specs.declared.update.QuadBlock.{QuadBlock}
use Rattle.qs_syntax_scope.specs.Names.{Name}
use Rattle.qs_syntax_scope.specs.Places.{place_of}
use Rattle.qs_query_template.specs.Blanks.{blanks_of, number_in}
use Rattle.qs_query_template.specs.declared.template.Slot.{Slot}
use Rattle.qs_query_template.specs.declared.template.Slot.TheVariants as slot
use Rattle.qs_query_template.specs.declared.template.QuadTemplate.{QuadTemplate}
use Rattle.qs_query_template.specs.declared.template.Template.{Template}

-- a blank node by its number among those of the template, of which it is one
abbrev pub term_slot : List Name → List BlankNode → TermPattern → Slot
term_slot names blanks (term.Variable v) = slot.Variable (place_of names v.name)
term_slot names blanks (term.Iri i) = slot.Term (value.Iri i)
term_slot names blanks (term.Literal l) = slot.Term (value.Literal l)
term_slot names blanks (term.Blank b) = slot.Blank (unwrap_or (number_in blanks b) (length blanks))

-- none for a path
abbrev pub verb_slot : List Name → Verb → Option Slot
verb_slot names (verb.Variable v) = Some (slot.Variable (place_of names v.name))
verb_slot names (verb.Iri i) = Some (slot.Term (value.Iri i))
verb_slot names (verb.Path p) = None

-- none for the default graph
abbrev pub graph_slot : List Name → Option VarOrIri → Option Slot
graph_slot names None = None
graph_slot names (Some (name.Variable v)) = Some (slot.Variable (place_of names v.name))
graph_slot names (Some (name.Iri i)) = Some (slot.Term (value.Iri i))

-- the quad of a triple in the graph
abbrev pub triple_quads : List Name → List BlankNode → Option Slot → Triple → List QuadTemplate
triple_quads names blanks graph t = let end = term_slot names blanks in option_to_list (option_map
    (λ p. record { graph = graph; subject = end t.subject; predicate = p; object = end t.object })
    (verb_slot names t.verb))

abbrev pub block_quads : List Name → List BlankNode → QuadBlock → List QuadTemplate
block_quads names bs b = flat_map (triple_quads names bs (graph_slot names b.graph)) b.triples

-- the template of an update
abbrev pub template_of_blocks : List Name → List QuadBlock → Template
template_of_blocks names blocks =
    let blanks = blanks_of blocks in
    record { quads = flat_map (block_quads names blanks) blocks; blanks = length blanks }

-- the template of a CONSTRUCT: one block, whose triples are of no named graph
abbrev pub template_of : List Name → List Triple → Template
template_of names triples =
    template_of_blocks names (record { graph = None; triples = triples } ∷ [])

-- ---- WITH: the graph of the quads that name none (SPARQL 1.1 Update, 3.1.3)

abbrev pub quad_in : Slot → QuadTemplate → QuadTemplate
quad_in name q = record q { graph = Some (unwrap_or q.graph name) }

-- the template, where the quads of the default graph stand in the graph of this IRI, if one is
-- given
abbrev pub template_in : Option (List ℕ) → Template → Template
template_in None t = t
template_in (Some iri) t = record t { quads = map (quad_in (slot.Term (value.Iri iri))) t.quads }

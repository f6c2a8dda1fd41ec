-- Definitions over those of `Template`, for proofs and the layers between.
use Rattle.std.specs.Prelude.{List, length, Option, None}
use Rattle.std.specs.List.{flat_map}
use Rattle.std.specs.Option.{unwrap_or, option_map, option_to_list}
use Rattle.qs_syntax_ast.specs.declared.pattern.Triple.{Triple}
use Rattle.qs_syntax_ast.specs.declared.term.BlankNode.{BlankNode}
use Rattle.qs_syntax_scope.specs.Names.{Name}
use Rattle.qs_query_template.specs.Blanks.{number_in}
use Rattle.qs_query_template.specs.inner.Blanks.{firsts}
use Rattle.qs_query_template.specs.inner.Blanks.{triples_blanks}
use Rattle.qs_query_template.specs.Template.{triple_quads}
use Rattle.qs_query_template.specs.declared.template.Slot.{Slot}
use Rattle.qs_query_template.specs.declared.template.Slot.TheVariants as slot
use Rattle.qs_query_template.specs.declared.template.QuadTemplate.{QuadTemplate}
use Rattle.qs_query_template.specs.declared.template.Template.{Template}

-- by the number among those of the template, of which it is one
abbrev pub blank_slot : List BlankNode → BlankNode → Slot
blank_slot blanks b = slot.Blank (unwrap_or (number_in blanks b) (length blanks))

abbrev pub quad_with : Option Slot → Slot → Slot → Option Slot → List QuadTemplate
quad_with graph subject object predicate = option_to_list (option_map
    (λ p. record { graph = graph; subject = subject; predicate = p; object = object }) predicate)

-- the template of a CONSTRUCT, by its triples
abbrev pub template_of_triples : List Name → List Triple → Template
template_of_triples names triples =
    let blanks = firsts (triples_blanks triples) in
    record { quads = flat_map (triple_quads names blanks None) triples; blanks = length blanks }

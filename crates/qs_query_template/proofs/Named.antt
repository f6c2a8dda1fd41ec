-- The terms of a template are no blank nodes.
use Rattle.std.proofs.Common.{◌≡◌, ℕ, false, List, [], ◌∷◌, Option, Some, None, refl, ◌∙◌}
use Rattle.std.specs.List.{list_any, flat_map}
use Rattle.std.proofs.lemmas.List.Folds.{list_any-append}
use Rattle.qs_syntax_ast.specs.declared.pattern.Triple.{Triple}
use Rattle.qs_syntax_ast.specs.declared.term.BlankNode.{BlankNode}
use Rattle.qs_syntax_ast.specs.declared.term.TermPattern.{TermPattern}
use Rattle.qs_syntax_ast.specs.declared.term.TermPattern.TheVariants as term
use Rattle.qs_syntax_ast.specs.declared.term.VarOrIri.{VarOrIri}
use Rattle.qs_syntax_ast.specs.declared.term.VarOrIri.TheVariants as name
use Rattle.qs_syntax_ast.specs.declared.update.QuadBlock.{QuadBlock}
use Rattle.qs_syntax_scope.specs.Names.{Name}
use Rattle.qs_query_template.specs.inner.Blanks.{blocks_blanks, firsts}
use Rattle.qs_query_template.specs.inner.Fresh.{slot_is_blank, graph_is_blank, template_quad_has_blank, names_blank}
use Rattle.qs_query_template.specs.Template.{term_slot, verb_slot, graph_slot, triple_quads, block_quads, template_of, template_of_blocks}
use Rattle.qs_query_template.specs.inner.Template.{quad_with}
use Rattle.qs_query_template.specs.declared.template.Slot.{Slot}

module _ (n : ℕ) (names : List Name) (blanks : List BlankNode) where
  no_term : (t : TermPattern) → slot_is_blank n (term_slot names blanks t) ≡ false
  no_term (term.Variable v) = refl
  no_term (term.Iri i) = refl
  no_term (term.Literal l) = refl
  no_term (term.Blank b) = refl

  no_graph : (g : Option VarOrIri) → graph_is_blank n (graph_slot names g) ≡ false
  no_graph None = refl
  no_graph (Some (name.Variable v)) = refl
  no_graph (Some (name.Iri i)) = refl

  no_quad : (g : Option Slot) (s o : Slot) (p : Option Slot) → graph_is_blank n g ≡ false → slot_is_blank n s ≡ false → slot_is_blank n o ≡ false
      → list_any (template_quad_has_blank n) (quad_with g s o p) ≡ false
  no_quad g s o None e f h = refl
  no_quad g s o (Some p) e f h = rw (e, f, h) refl

  no_triple : (g : Option Slot) → graph_is_blank n g ≡ false → (ts : List Triple) → list_any (template_quad_has_blank n) (flat_map (triple_quads names blanks g) ts) ≡ false
  no_triple g e [] = refl
  no_triple g e (t ∷ ts) =
      let first = no_quad g (term_slot names blanks t.subject) (term_slot names blanks t.object) (verb_slot names t.verb) e (no_term t.subject) (no_term t.object) in
      list_any-append (template_quad_has_blank n) (triple_quads names blanks g t) (flat_map (triple_quads names blanks g) ts) ∙ rw (first, no_triple g e ts) refl

  no_block : (bs : List QuadBlock) → list_any (template_quad_has_blank n) (flat_map (block_quads names blanks) bs) ≡ false
  no_block [] = refl
  no_block (b ∷ bs) =
      let first = no_triple (graph_slot names b.graph) (no_graph b.graph) b.triples in
      list_any-append (template_quad_has_blank n) (block_quads names blanks b) (flat_map (block_quads names blanks) bs) ∙ rw (first, no_block bs) refl

pub no_blocks : (names : List Name) (blocks : List QuadBlock) (n : ℕ) → names_blank n (template_of_blocks names blocks) ≡ false
no_blocks names blocks n = no_block n names (firsts (blocks_blanks blocks)) blocks

pub no_triples : (names : List Name) (triples : List Triple) (n : ℕ) → names_blank n (template_of names triples) ≡ false
no_triples names triples n = no_blocks names (record { graph = None; triples = triples } ∷ []) n

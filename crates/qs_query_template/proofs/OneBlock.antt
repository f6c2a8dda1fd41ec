-- The template of a CONSTRUCT is that of one block of no named graph.
use Rattle.std.proofs.Common.{◌≡◌, List, [], ◌∷◌, ◌++◌, length, None, sym, ◌∙◌, ap}
use Rattle.std.proofs.lemmas.List.{append-nil}
use Rattle.std.specs.List.{flat_map}
use Rattle.qs_syntax_ast.specs.declared.pattern.Triple.{Triple}
use Rattle.qs_syntax_ast.specs.declared.term.BlankNode.{BlankNode}
use Rattle.qs_syntax_scope.specs.Names.{Name}
use Rattle.qs_query_template.specs.inner.Blanks.{firsts}
use Rattle.qs_query_template.specs.inner.Blanks.{triples_blanks}
use Rattle.qs_query_template.specs.Template.{triple_quads, template_of}
use Rattle.qs_query_template.specs.inner.Template.{template_of_triples}
use Rattle.qs_query_template.specs.declared.template.QuadTemplate.{QuadTemplate}
use Rattle.qs_query_template.specs.declared.template.Template.{Template}

module _ (names : List Name) (triples : List Triple) where
  abbrev of_quads : List BlankNode → List QuadTemplate → Template
  of_quads blanks quads = record { quads = quads; blanks = length (firsts blanks) }

  abbrev of_blanks : List BlankNode → Template
  of_blanks blanks = of_quads blanks (flat_map (triple_quads names (firsts blanks) None) triples ++ [])

  pub one_block : template_of_triples names triples ≡ template_of names triples
  one_block =
      sym (ap (of_quads (triples_blanks triples)) (append-nil (flat_map (triple_quads names (firsts (triples_blanks triples)) None) triples)))
      ∙ sym (ap of_blanks (append-nil (triples_blanks triples)))

-- Definitions over those of `Blanks`, for proofs and the layers between.
use Rattle.std.specs.Prelude.{List, []}
use Rattle.std.specs.List.{flat_map, fold}
use Rattle.qs_syntax_ast.specs.declared.pattern.Triple.{Triple}
use Rattle.qs_syntax_ast.specs.declared.term.BlankNode.{BlankNode}
use Rattle.qs_syntax_ast.specs.declared.update.QuadBlock.{QuadBlock}
use Rattle.qs_query_template.specs.Blanks.{triple_blanks, add_blank}

abbrev pub triples_blanks : List Triple → List BlankNode
triples_blanks triples = flat_map triple_blanks triples

abbrev pub blocks_blanks : List QuadBlock → List BlankNode
blocks_blanks blocks = flat_map (λ (b : QuadBlock). triples_blanks b.triples) blocks

-- each once, in the order in which they first appear
abbrev pub firsts : List BlankNode → List BlankNode
firsts blanks = fold add_blank [] blanks

-- Definitions over those of `Labels`, for proofs and the layers between.
use Rattle.std.specs.Prelude.{Bool, ◌||◌, List}
use Rattle.std.specs.List.{flat_map, list_any}
use Rattle.qs_syntax_scope.specs.Names.{Name}
use Rattle.qs_syntax_scope.specs.Labels.{triple_labels, is_blank}
use Rattle.qs_syntax_ast.specs.declared.pattern.Triple.{Triple}
use Rattle.qs_syntax_ast.specs.declared.update.QuadBlock.{QuadBlock}

abbrev pub block_labels : QuadBlock → List Name
block_labels b = flat_map triple_labels b.triples

abbrev pub triple_has_blank : Triple → Bool
triple_has_blank t = is_blank t.subject || is_blank t.object

abbrev pub block_has_blank : QuadBlock → Bool
block_has_blank b = list_any triple_has_blank b.triples

-- Definitions over those of `Update`, for proofs and the layers between.
use Rattle.std.specs.Prelude.{ℕ, List, Option}
use Rattle.qs_syntax_tree.specs.declared.term.Iri.{Iri}
use Rattle.qs_syntax_tree.specs.declared.update.QuadElement.{QuadElement}
use Rattle.qs_syntax_tree.specs.declared.update.UpdateStep.{UpdateStep}
use Rattle.qs_syntax_ast.specs.declared.update.Operation.{Operation}
use Rattle.qs_syntax_ast.specs.declared.update.QuadBlock.{QuadBlock}
use Rattle.qs_syntax_resolve.specs.Leaves.{iri}
use Rattle.qs_syntax_resolve.specs.Resolving.{Resolving, in_turn, optional}
use Rattle.qs_syntax_resolve.specs.Update.{block, step}

abbrev pub block_of : QuadElement → Resolving QuadBlock
block_of e = block e.quads

abbrev pub with_graph : Option Iri → Resolving (Option (List ℕ))
with_graph i = optional iri i

abbrev pub steps : List Operation → List UpdateStep → Resolving (List Operation)
steps found us = in_turn step found us

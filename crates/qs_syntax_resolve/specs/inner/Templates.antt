-- The templates of a DELETE and INSERT with a WHERE, without the WHERE.
use Rattle.std.specs.Prelude.{ℕ, List, Option}
use Rattle.qs_syntax_tree.specs.declared.term.Iri.{Iri}
use Rattle.qs_syntax_tree.specs.declared.update.QuadPattern.{QuadPattern}
use Rattle.qs_syntax_ast.specs.declared.update.QuadBlock.{QuadBlock}
use Rattle.qs_syntax_resolve.specs.Resolving.{Resolving, pure, ◌>>=◌}
use Rattle.qs_syntax_resolve.specs.Update.{template}
use Rattle.qs_syntax_resolve.specs.inner.Update.{with_graph}

-- the graph of WITH, what is deleted, and what is inserted
unfoldable pub templates : Option Iri → Option QuadPattern → Option QuadPattern
    → Resolving ((Option (List ℕ) × List QuadBlock) × List QuadBlock)
templates with delete insert =
    with_graph with
    >>= (λ w. template delete >>= (λ d. template insert >>= (λ i. pure ((w, d), i))))

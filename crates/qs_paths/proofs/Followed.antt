-- The search along links, between two passes.
use Rattle.std.proofs.Common.{ℕ, List}
use Rattle.qs_terms.specs.declared.term.Term.{Term}
use Rattle.qs_syntax_tree.specs.declared.path.Repetition.{Repetition}
use Rattle.qs_syntax_ast.specs.declared.path.Path.{Path}
use Rattle.qs_paths_meaning.specs.Pairs.{pairs}
use Rattle.qs_paths_meaning.specs.Steps.{Graph}
use Rattle.qs_paths_meaning.proofs.Near.{tied}
use Rattle.qs_paths_meaning.proofs.Search.{Searching}
use Rattle.qs_paths.specs.inner.Links.{nodes_at}
use Rattle.qs_paths.specs.inner.Nodes.{IsNaming, names}

abbrev pub AreFollowed : List Term → Graph → Path → List ℕ → Repetition → ℕ → List ℕ → ℕ → Type 0
AreFollowed known graph p nodes repetition start ns at = (name : ℕ → Term) → IsNaming known name → Searching graph (pairs graph p) (tied graph p) (name start) repetition (names name (nodes_at start nodes ns)) at

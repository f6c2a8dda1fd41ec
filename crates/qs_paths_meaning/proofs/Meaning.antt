-- What a path means, by its variant.
use Rattle.std.proofs.Common.{◌≡◌, ℕ, List, map, ap, sym, ◌∙◌}
use Rattle.qs_syntax_tree.specs.declared.path.Repetition.{Repetition}
use Rattle.qs_syntax_ast.specs.declared.path.NegatedIri.{NegatedIri}
use Rattle.qs_syntax_ast.specs.declared.path.Path.{Path, Path-F, fold-roll-Path}
use Rattle.qs_syntax_ast.specs.declared.path.Path.TheVariants.{Iri, NegatedSet, Alternative, Sequence, Inverse, Repeated, rolls-Iri, rolls-NegatedSet, rolls-Alternative, rolls-Sequence, rolls-Inverse, rolls-Repeated}
use Rattle.qs_paths_meaning.specs.Steps.{Graph}
use Rattle.qs_paths_meaning.specs.Pairs.{AtEnds, pairs, pairs_level}

module _ (graph : Graph) where
  pub pairs_iri : (i : List ℕ) → pairs graph (Iri i) ≡ pairs_level graph (Path-F.Iri i)
  pairs_iri i = ap (pairs graph) (sym (rolls-Iri i)) ∙ fold-roll-Path AtEnds (pairs_level graph) (Path-F.Iri i)

  pub pairs_negated : (members : List NegatedIri) → pairs graph (NegatedSet members) ≡ pairs_level graph (Path-F.NegatedSet members)
  pairs_negated members = ap (pairs graph) (sym (rolls-NegatedSet members)) ∙ fold-roll-Path AtEnds (pairs_level graph) (Path-F.NegatedSet members)

  pub pairs_alternative : (parts : List Path) → pairs graph (Alternative parts) ≡ pairs_level graph (Path-F.Alternative (map (pairs graph) parts))
  pairs_alternative parts = ap (pairs graph) (sym (rolls-Alternative parts)) ∙ fold-roll-Path AtEnds (pairs_level graph) (Path-F.Alternative parts)

  pub pairs_sequence : (parts : List Path) → pairs graph (Sequence parts) ≡ pairs_level graph (Path-F.Sequence (map (pairs graph) parts))
  pairs_sequence parts = ap (pairs graph) (sym (rolls-Sequence parts)) ∙ fold-roll-Path AtEnds (pairs_level graph) (Path-F.Sequence parts)

  pub pairs_inverse : (p : Path) → pairs graph (Inverse p) ≡ pairs_level graph (Path-F.Inverse (pairs graph p))
  pairs_inverse p = ap (pairs graph) (sym (rolls-Inverse p)) ∙ fold-roll-Path AtEnds (pairs_level graph) (Path-F.Inverse p)

  pub pairs_repeated : (p : Path) (repetition : Repetition) → pairs graph (Repeated p repetition) ≡ pairs_level graph (Path-F.Repeated (pairs graph p) repetition)
  pairs_repeated p repetition = ap (pairs graph) (sym (rolls-Repeated p repetition)) ∙ fold-roll-Path AtEnds (pairs_level graph) (Path-F.Repeated p repetition)

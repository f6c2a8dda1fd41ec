-- Definitions over those of `Basic`, for proofs and the layers between.
use Rattle.std.specs.Prelude.{ℕ, Bool, false, ◌||◌, List, [], ◌∷◌}
use Rattle.qs_terms.specs.Statement.{Triple}
use Rattle.qs_terms.specs.declared.term.Term.{Term}
use Rattle.qs_algebra_patterns.specs.declared.pattern.PathPattern.{PathPattern}
use Rattle.qs_algebra_patterns.specs.declared.pattern.BasicPattern.{BasicPattern}
pub use Rattle.qs_paths_meaning.specs.Steps.{Graph}
use Rattle.qs_algebra_patterns.specs.Basic.{is_variable, mentions}

-- the variable stands at an end of a path pattern
abbrev pub is_end : List PathPattern → ℕ → Bool
is_end [] v = false
is_end (p ∷ ps) v = is_variable p.subject v || (is_variable p.object v || is_end ps v)

-- the variable stands in the basic graph pattern
abbrev pub occurs : BasicPattern → ℕ → Bool
occurs pattern v = mentions pattern.triples v || is_end pattern.paths v

abbrev pub terms_of_triple : Triple → List Term
terms_of_triple t = t.subject ∷ t.predicate ∷ t.object ∷ []

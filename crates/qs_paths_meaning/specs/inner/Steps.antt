-- Definitions over those of `Steps` and `Closure`, for proofs and the layers between.
use Rattle.std.specs.Prelude.{Bool, List, map, Option}
use Rattle.std.specs.List.{filter}
use Rattle.qs_terms.specs.declared.term.Term.{Term}
use Rattle.qs_terms.specs.Statement.{Triple}
use Rattle.qs_terms.specs.Term.{same_term}
use Rattle.qs_syntax_tree.specs.declared.path.Repetition.{Repetition}
use Rattle.qs_paths_meaning.specs.Pair.{Pair, pair, swapped}
use Rattle.qs_paths_meaning.specs.Steps.{Graph, AtEnds, along, agrees}
use Rattle.qs_paths_meaning.specs.Closure.{ends}

abbrev pub pair_of : Triple → Pair
pair_of t = pair t.subject t.object

-- the pairs against the direction of the triples
abbrev pub against : (Term → Bool) → Graph → AtEnds
against test graph left right = map swapped (along test graph right left)

abbrev pub from_pair : List Pair → Pair → List Pair
from_pair qs e = map (λ f. pair e.left f.right) (filter (λ f. same_term e.right f.left) qs)

abbrev pub from_start : Repetition → (Term → Term → Bool) → Graph → Option Term → Term → List Pair
from_start r step graph right x = map (pair x) (filter (agrees right) (ends r step graph x))

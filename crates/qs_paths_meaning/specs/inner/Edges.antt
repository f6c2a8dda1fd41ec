-- Triples found by their ends and their predicate.
use Rattle.std.specs.Prelude.{◌&&◌, Bool, Option}
use Rattle.std.specs.List.{filter}
use Rattle.qs_terms.specs.declared.term.Term.{Term}
use Rattle.qs_terms.specs.Dataset.{Triple}
use Rattle.qs_paths_meaning.specs.Steps.{Graph, agrees}

-- the triple has these ends and this predicate, as far as they are given
abbrev pub has : Option Term → Option Term → Option Term → Triple → Bool
has left predicate right t =
    agrees left t.subject && (agrees predicate t.predicate && agrees right t.object)

-- those of the triples that do
abbrev pub having : Option Term → Option Term → Option Term → Graph → Graph
having left predicate right graph = filter (has left predicate right) graph

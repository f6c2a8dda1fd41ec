-- Definitions over those of `Basic`, for proofs and the layers between.
use Rattle.std.specs.Prelude.{List}
use Rattle.std.specs.List.{filter_map}
use Rattle.qs_syntax_ast.specs.declared.pattern.Triple.{Triple}
use Rattle.qs_syntax_ast.specs.declared.path.Path.{Path}
use Rattle.qs_syntax_scope.specs.Names.{Name}
use Rattle.qs_algebra_patterns.specs.declared.pattern.Slot.{Slot}
use Rattle.qs_algebra_patterns.specs.declared.pattern.TriplePattern.{TriplePattern}
use Rattle.qs_algebra_patterns.specs.declared.pattern.PathPattern.{PathPattern}
use Rattle.qs_algebra_patterns.specs.declared.pattern.BasicPattern.{BasicPattern}
use Rattle.qs_algebra.specs.declared.hidden.Hidden.{Hidden}
use Rattle.qs_algebra.specs.Basic.{triple_pattern, path_pattern}
use Rattle.qs_algebra.specs.Numbers.{width}

abbrev pub triple_between : Slot → Slot → Slot → TriplePattern
triple_between subject object predicate =
    record { subject = subject; predicate = predicate; object = object }

abbrev pub path_between : Slot → Slot → Path → PathPattern
path_between subject object path = record { subject = subject; path = path; object = object }

-- the basic graph pattern of triples, of which these are the hidden variables
abbrev pub basic_of : List Name → Hidden → List Triple → BasicPattern
basic_of names hidden triples =
    record {
      triples = filter_map (triple_pattern names hidden) triples;
      paths = filter_map
          (path_pattern names hidden) triples;
      hidden = width hidden;
    }

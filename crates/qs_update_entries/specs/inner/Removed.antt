-- Entries of the quads that a template without blank nodes makes of a solution.
use Rattle.std.specs.Prelude.{ℕ, List}
use Rattle.std.specs.List.{filter_map, flat_map}
use Rattle.qs_terms.specs.declared.term.Term.{Term}
use Rattle.qs_algebra_solutions.specs.Solution.{Solution}
use Rattle.qs_store.specs.inner.Entries.{entry_of}
use Rattle.qs_query_template.specs.Instances.{instance}
use Rattle.qs_query_template.specs.declared.template.Template.{Template}

-- those of the quads whose terms are all known
abbrev pub entries_under : List Term → Template → Solution → List (List ℕ)
entries_under known t m = flat_map (λ q. filter_map (entry_of known) (instance 0 0 m q)) t.quads

-- Definitions over those of `Visible`, for proofs and the layers between.
use Rattle.std.specs.Prelude.{List}
use Rattle.qs_terms.specs.Bag.{once}
use Rattle.qs_terms.specs.Statement.{Statement, same_statement}
use Rattle.qs_store.specs.Content.{Content}
use Rattle.qs_store.specs.declared.default_graph.DefaultGraph.{DefaultGraph}
use Rattle.qs_store.specs.Visible.{visible}

-- those of a view, each once
abbrev pub visible_quads : Content → DefaultGraph → List Statement
visible_quads c default = once same_statement (visible default c.quads)

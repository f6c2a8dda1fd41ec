-- What queries see of what a store or a draft holds (SPARQL 1.1 Query, 13.1). A query, or the WHERE
-- of an update, is evaluated over the dataset of these quads.
use Rattle.std.specs.Prelude.{List, ◌++◌, map, None}
use Rattle.std.specs.List.{filter}
use Rattle.qs_terms.specs.Statement.{Statement}
use Rattle.qs_store.specs.WholeGraphs.{is_named, put_into}
use Rattle.qs_store.specs.declared.default_graph.DefaultGraph.{DefaultGraph}
use Rattle.qs_store.specs.declared.default_graph.DefaultGraph.TheVariants.{Stored, Union}

-- the quads as a query sees them: where the default graph is the union of the named ones, the quads
-- of these stand in it too, and those of the stored default graph don't; else the quads themselves
abbrev pub visible : DefaultGraph → List Statement → List Statement
visible Stored quads = quads
visible Union quads = filter is_named quads ++ map (put_into None) (filter is_named quads)

-- The steps to a service over the data of a file.
use Rattle.std.specs.Prelude.{◌≡◌, ℕ, List, Result, Ok, Err}
use Rattle.qs_store_load.specs.declared.fault.LoadFault.{LoadFault}
use Rattle.qs_store.specs.Content.{Held}
use Rattle.qs_store.specs.declared.default_graph.DefaultGraph.{DefaultGraph}
use Rattle.quads.specs.Due.{max_terms, IsLoaded}
use Rattle.quads.specs.inner.Refusal.{refusal_of}
use Rattle.quads.specs.inner.Service.{IsRefusalOf}

-- a store of the data with this default graph, or why there is none
abbrev pub BecomesStored : DefaultGraph → List ℕ → Result Held LoadFault → Type 0
BecomesStored choice file (Ok held) =
    IsLoaded file (Ok held.base) × (held.limit ≡ max_terms) × (held.default_graph ≡ choice)
BecomesStored choice file (Err f) = IsRefusalOf file (refusal_of f)

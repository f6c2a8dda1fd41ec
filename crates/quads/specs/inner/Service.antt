-- A service over the data of a file.
use Rattle.std.specs.Prelude.{◌≡◌, ◌≢◌, ℕ, List, Result, Ok, Err}
use Rattle.qs_terms.specs.declared.fault.QFault.TheVariants.{Memory}
use Rattle.qs_nquads.specs.Nquads.{IsFault}
use Rattle.qs_store.specs.Content.{Content}
use Rattle.qs_store.specs.declared.default_graph.DefaultGraph.{DefaultGraph}
use Rattle.qs_service.specs.State.{State}
use Rattle.quads.specs.Due.{IsLoaded, service_over}
use Rattle.quads.specs.declared.refusal.Refusal.{Refusal}
use Rattle.quads.specs.declared.refusal.Refusal.TheVariants.{Data, Script, Fault}

-- why the data aren't put into a store
abbrev pub IsRefusalOf : List ℕ → Refusal → Type 0
IsRefusalOf file (Data f) = IsFault file 0 f.kind f.line
IsRefusalOf file (Script n) = ⊥
IsRefusalOf file (Fault f) = f ≢ Memory → IsLoaded file (Err f)

-- a service over a store of the data with this default graph, or why there is none
abbrev pub BecomesService : DefaultGraph → List ℕ → Result State Refusal → Type 0
BecomesService choice file (Ok state) =
    (c : Content) × IsLoaded file (Ok c) × (state ≡ service_over choice c)
BecomesService choice file (Err refusal) = IsRefusalOf file refusal

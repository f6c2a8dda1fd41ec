-- What is stored, and what is fixed for requests, before and after one.
use Rattle.std.proofs.Common.{◌≡◌, ◌∙◌, ap, ℕ}
use Rattle.qs_store.specs.Content.{Content, Held}
use Rattle.qs_store.specs.declared.default_graph.DefaultGraph.{DefaultGraph}
use Rattle.qs_update.specs.Request.{Bounds, bounds_of}
use Rattle.qs_service.specs.State.{Stored, stored_of}

pub same_bounds : (max_rows : ℕ) (old new : Held) → new.limit ≡ old.limit → new.default_graph ≡ old.default_graph → bounds_of max_rows new ≡ bounds_of max_rows old
same_bounds max_rows old new limit default =
    ap (λ (n : ℕ). (let b : Bounds = record { terms = n; rows = max_rows; default_graph = new.default_graph } in b)) limit
    ∙ ap (λ (d : DefaultGraph). (let b : Bounds = record { terms = old.limit; rows = max_rows; default_graph = d } in b)) default

pub same_stored : (max_rows : ℕ) (old new : Held) → new.base ≡ old.base → new.limit ≡ old.limit → new.default_graph ≡ old.default_graph → stored_of max_rows new ≡ stored_of max_rows old
same_stored max_rows old new base limit default =
    ap (λ (c : Content). (let s : Stored = record { content = c; bounds = bounds_of max_rows new } in s)) base
    ∙ ap (λ (b : Bounds). (let s : Stored = record { content = old.base; bounds = b } in s)) (same_bounds max_rows old new limit default)

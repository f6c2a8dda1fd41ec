use Rattle.std.proofs.Common.{◌≡◌, ◌∷◌, map}
use Rattle.qs_store.specs.inner.Copied.{AreCopies}
use Rattle.qs_store.proofs.Copied.{found_so, copies_of_triples}
use Rattle.qs_store.proofs.layers.Layers.draft_copies.Goals as goal

pub returns : goal.returns
returns c =
    let entries = c.args.self.now.draft in
    let from = c.args.from in
    let to = c.args.to in
    let triples = c.scan_draft-triples.result in
    found_so (λ found. found.items ≡ map (λ t. to ∷ t) triples) (λ found. AreCopies entries from to found.items) c.put_into.result
    (λ found h. copies_of_triples entries triples found.items from to c.requires c.scan_draft-triples.ensures h) c.put_into.ensures

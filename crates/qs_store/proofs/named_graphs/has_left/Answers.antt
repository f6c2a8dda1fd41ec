use Rattle.qs_store.specs.inner.Layers.{drafted}
use Rattle.qs_store.proofs.Holding.{triple_tells, none_tells}
use Rattle.qs_store.proofs.named_graphs.has_left.Goals as goal

pub returns-in-None-clause-empty : goal.returns-in-None-clause-empty
returns-in-None-clause-empty c =
    let a = c.args in
    λ h. absurd (none_tells a.graph (drafted a.index.now.entries a.removed.now.entries a.added.now.entries) c.of_draft-triples.result c.requires.four c.of_draft-triples.ensures c.in-None.ensures.steps.0 h)

pub returns-in-Some-clause-held : goal.returns-in-Some-clause-held
returns-in-Some-clause-held c =
    let a = c.args in
    λ h. triple_tells a.graph (drafted a.index.now.entries a.removed.now.entries a.added.now.entries) c.of_draft-triples.result c.next.new.self c.in-Some.field-0 c.of_draft-triples.ensures c.in-Some.ensures.steps

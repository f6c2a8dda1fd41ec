use Rattle.qs_store.proofs.Holding.{triple_tells, none_tells}
use Rattle.qs_store.proofs.named_graphs.has.Goals as goal

pub returns-in-None-clause-empty : goal.returns-in-None-clause-empty
returns-in-None-clause-empty c =
    let a = c.args in
    λ h. absurd (none_tells a.graph a.index.now.entries c.of_store-triples.result c.requires.four c.of_store-triples.ensures c.in-None.ensures.steps.0 h)

pub returns-in-Some-clause-held : goal.returns-in-Some-clause-held
returns-in-Some-clause-held c =
    let a = c.args in
    λ h. triple_tells a.graph a.index.now.entries c.of_store-triples.result c.next.new.self c.in-Some.field-0 c.of_store-triples.ensures c.in-Some.ensures.steps

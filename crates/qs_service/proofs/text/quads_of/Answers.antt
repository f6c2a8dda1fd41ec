use Rattle.qs_service.proofs.text.quads_of.Goals as goal

pub returns-in-Ok : goal.returns-in-Ok
returns-in-Ok c =
    let law = c.same_set_is_an_equivalence.ensures in
    law.symmetric c.args.store.now.base.quads c.in-Ok.quads.items (law.of_bags c.args.store.now.base.quads c.in-Ok.quads.items c.in-Ok.ensures.same)

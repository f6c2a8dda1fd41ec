use Rattle.quads.proofs.result.check_result.Goals as goal

pub returns-in-Ok : goal.returns-in-Ok
returns-in-Ok c =
    let quads = c.in-Ok.quads.items in
    let next = c.in-Ok.field-0-1 in
    (next, c.in-Ok.ensures, c.quads_are_a_dataset.ensures quads next (c.next_number_is_fresh.ensures.above c.args.file.now 0 quads next c.in-Ok.ensures))

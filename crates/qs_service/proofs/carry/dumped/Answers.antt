use Rattle.std.proofs.Common.{◌≡◌, ◌∙◌, ◌+◌, length, drop, length-append, ap, arith}
use Rattle.qs_service.specs.Language.{sparql}
use Rattle.qs_service.proofs.Made.{after_room, dumped_reply}
use Rattle.qs_service.proofs.carry.dumped.Goals as goal

pub made-requires-clause-room : goal.made-requires-clause-room
made-requires-clause-room c =
    let room = c.in_ok-room.room.items in
    let written = c.in_ok-body.ensures in
    let parts : length c.in_ok-body.body.items ≡ length room + length written.0 = ap length written.2 ∙ length-append room written.0 in
    omega arith

pub returns : goal.returns
returns c =
    let room = c.in_ok-room.room.items in
    let body = c.in_ok-body.body.items in
    let written = c.in_ok-body.ensures in
    let many : length room ≡ 160 = omega arith in
    dumped_reply sparql c.args.store.now.base written.0 (drop 160 body) c.made.result written.1 (after_room 160 room written.0 body many written.2) c.made.ensures

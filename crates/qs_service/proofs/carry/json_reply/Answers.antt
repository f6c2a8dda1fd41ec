use Rattle.std.proofs.Common.{◌≡◌, ℕ, List, IfOk, length, subst, arith}
use Rattle.serde_json.specs.Written.{compact_text}
use Rattle.qs_http.specs.declared.media.Media.TheVariants.{Results}
use Rattle.qs_results.specs.Json.{json_of}
use Rattle.qs_service_connections.specs.Message.{message}
use Rattle.qs_service.proofs.Made.{after_room}
use Rattle.qs_service.proofs.carry.json_reply.Goals as goal

pub returns : goal.returns
returns c =
    let many : length c.in_ok-room.room.items ≡ 160 = omega arith in
    subst (λ (l : List ℕ). IfOk c.made.result (λ reply. reply ≡ message 200 Results l))
    (after_room 160 c.in_ok-room.room.items (compact_text (json_of c.args.answer.now)) c.in_ok-body.body.items many c.in_ok-body.ensures.text) c.made.ensures

use Rattle.std.proofs.Common.{◌≡◌, ◌∙◌, ◌++◌, ◌∷◌, [], ℕ, List, IfOk, length, ap, subst, append_assoc, arith}
use Rattle.qs_http.specs.declared.media.Media.TheVariants.{Text}
use Rattle.qs_results.specs.Lines.{fault_line}
use Rattle.qs_service_connections.specs.Message.{message}
use Rattle.qs_service.proofs.Made.{after_room}
use Rattle.qs_service.proofs.carry.refusal.Goals as goal

pub returns : goal.returns
returns c =
    let room = c.in_ok-body.body.items in
    let many : length room ≡ 160 = omega arith in
    let text : List ℕ = fault_line c.args.fault.now ++ 10 ∷ [] in
    let line : c.as_bytes.result.now ≡ fault_line c.args.fault.now = c.as_bytes.ensures.value ∙ c.in_ok-line.ensures in
    let whole : c.push.new.self.items ≡ room ++ text =
    c.in_ok-push.ensures.items
    ∙ ap (λ (l : List ℕ). l ++ 10 ∷ []) (c.in_ok-extend_from_slice.ensures.items ∙ ap (λ (l : List ℕ). room ++ l) line)
    ∙ append_assoc room (fault_line c.args.fault.now) (10 ∷ []) in
    subst (λ (s : ℕ). IfOk c.made.result (λ reply. reply ≡ message s Text text)) c.fault_status.ensures
    (subst (λ (l : List ℕ). IfOk c.made.result (λ reply. reply ≡ message c.fault_status.result Text l)) (after_room 160 room text c.push.new.self.items many whole) c.made.ensures)

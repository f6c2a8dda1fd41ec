use Rattle.std.proofs.Common.{◌≡◌, ◌≤◌, ◌∙◌, ap, subst, sym, ℕ, List, ◌++◌, [], length, arith}
use Rattle.qs_http.specs.Reply.{status_line, phrase_of, closing}
use Rattle.qs_http.specs.inner.Reply.{head_of}
use Rattle.qs_http.proofs.HeadLengths.{head_fits}
use Rattle.qs_http.proofs.Parts.{three_parts}
use Rattle.qs_http.proofs.replies.reply_head.Goals as goal

pub returns : goal.returns
unfolding head_of closing
returns c =
    let first : c.as_bytes.result.now ≡ status_line (c.args.status, phrase_of c.args.status) = c.as_bytes.ensures.value ∙ c.status_text.ensures in
    let head : c.put_body_fields.new.bytes.items ≡ head_of c.args.status c.args.media c.args.length = three_parts [] _ _ _ _ _ _
    (c.in_ok-extend_from_slice.ensures.items ∙ ap (λ (l : List ℕ). l ++ c.as_bytes.result.now) c.new-bytes.ensures.items ∙ first)
    c.in_ok-extend_from_slice-2.ensures.items c.in_ok-put_body_fields.ensures in
    let fits : length c.put_body_fields.new.bytes.items ≤ 160 =
    subst (λ (l : List ℕ). length l ≤ 160) (sym head) (head_fits c.args.status c.args.media c.args.length c.requires (omega arith)) in
    record { head = head; fits = omega arith }

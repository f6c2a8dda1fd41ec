use Rattle.std.proofs.Common.{◌∙◌, ap, ℕ, List, ◌++◌}
use Rattle.qs_http.proofs.Parts.{head_and_body}
use Rattle.qs_http.proofs.replies.reply.Goals as goal

pub returns : goal.returns
returns c =
    c.in_ok-extend_from_slice.ensures.items ∙ ap (λ (l : List ℕ). l ++ c.args.body.now) c.in_ok-bytes.ensures.head
    ∙ head_and_body c.args.status c.args.media c.args.body.now

use Rattle.std.proofs.Common.{◌≡◌, ◌∙◌, ap, ℕ, List, ◌++◌, codes}
use Rattle.std.specs.Fmt.{decimal}
use Rattle.qs_http.specs.Reply.{line, media_text}
use Rattle.qs_http.specs.inner.Reply.{body_fields}
use Rattle.qs_http.proofs.Parts.{three_parts}
use Rattle.qs_http.proofs.replies.put_body_fields.Goals as goal

pub returns : goal.returns
unfolding body_fields
returns c =
    let media : c.as_bytes.result.now ≡ media_text c.args.media = c.as_bytes.ensures.value ∙ c.text.ensures in
    let size : c.as_bytes-2.result.now ≡ decimal c.args.length = c.as_bytes-2.ensures.value ∙ c.in_ok-digits.ensures.ok in
    three_parts c.args.bytes.now.items _ _ _ _ _ _
    (c.in_ok-put_line.ensures ∙ ap (λ (l : List ℕ). c.args.bytes.now.items ++ line (codes "Content-Type: " ++ l)) media)
    (c.in_ok-put_line-2.ensures ∙ ap (λ (l : List ℕ). c.put_line.new.bytes.items ++ line (codes "Content-Length: " ++ l)) size)
    c.in_ok-extend_from_slice.ensures.items

use Rattle.std.proofs.Common.{◌≡◌, ◌≤◌, ◌∙◌, ◌-◌, ◌++◌, ap, ℕ, List, length, take, drop, length-drop, arith}
use Rattle.std.proofs.lemmas.List.{take_all, take-append-le}
use Rattle.qs_http.specs.inner.Reply.{head_of}
use Rattle.qs_http.proofs.Parts.{head_and_body}
use Rattle.qs_http.proofs.reply_buffer.ReplyBuffer.new.Goals as goal

-- a slice that was lent comes back with as many bytes
lent : (len : ℕ) (new rest : List ℕ) → len ≡ length new → take len (new ++ rest) ≡ new
lent len new rest is =
    let within : len ≤ length new = omega arith in
    take-append-le len new rest within ∙ take_all len new (omega arith)

pub returns : goal.returns
returns c =
    let items = c.args.buffer.items in
    let new = c.put_before.new.buffer in
    let head = c.as_slice.result.now in
    let from : 160 - c.len-2.result ≡ 160 - length head = omega arith in
    let size : c.len.result - 160 ≡ length (drop 160 items) = omega (arith, length-drop 160 items) in
    ap (drop (160 - c.len-2.result)) (lent c.args.buffer.len new (drop (length new) items) (omega arith))
    ∙ ap (λ (k : ℕ). drop k new) from
    ∙ c.put_before.ensures
    ∙ ap (λ (l : List ℕ). head ++ drop 160 l) c.as_mut_slice.ensures.value
    ∙ ap (λ (l : List ℕ). l ++ drop 160 items) (c.as_slice.ensures.value ∙ c.in_ok-head.ensures.head ∙ ap (head_of c.args.status c.args.media) size)
    ∙ head_and_body c.args.status c.args.media (drop 160 items)

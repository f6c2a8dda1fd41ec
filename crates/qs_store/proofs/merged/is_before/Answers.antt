use Rattle.std.proofs.Common.{◌≡◌, take, ap, ◌∙◌, arith}
use Rattle.std.proofs.lemmas.List.{take_all}
use Rattle.qs_index.specs.inner.Entry.{is_before}
use Rattle.qs_index.specs.inner.Permutation.{turned}
use Rattle.qs_store.proofs.merged.is_before.Goals as goal

pub returns : goal.returns
returns c =
    let four = c.turn.ensures.entry.four in
    let whole : take 4 c.turn.result ≡ turned c.args.order c.args.other = take_all 4 c.turn.result (omega arith) ∙ c.turn.ensures.turned in
    c.is_after.ensures
    ∙ ap (λ p. is_before c.turn-2.result p) (c.new-other.ensures ∙ whole)
    ∙ ap (λ e. is_before e (turned c.args.order c.args.other)) c.turn-2.ensures.turned

use Rattle.std.proofs.Common.{◌∙◌, ap, ℕ, List, take, ◌==◌}
use Rattle.std.specs.List.{position_or_len}
use Rattle.httparse.specs.Grammar.{trim_ows}
use Rattle.qs_http.proofs.head.Head.media.Goals as goal

pub returns : goal.returns
returns c =
    c.trim_ows.ensures
    ∙ ap (λ (k : ℕ). trim_ows (take k c.values.result.first.now)) c.place_of.ensures
    ∙ ap (λ (v : List ℕ). trim_ows (take (position_or_len (λ b. b == 59) v) v)) c.values.ensures.first

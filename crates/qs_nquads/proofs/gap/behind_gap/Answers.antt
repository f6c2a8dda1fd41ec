use Rattle.std.proofs.Common.{sym, ap, ◌∙◌, encode_utf8_all}
use Rattle.std.proofs.lemmas.Str.{encodes-chars}
use Rattle.qs_nquads.proofs.gap.behind_gap.Goals as goal

pub returns-clause-value : goal.returns-clause-value
returns-clause-value c = sym (encodes-chars _ c.after_gap.utf8) ∙ ap (λ z. encode_utf8_all z) c.after_gap.ensures.chars

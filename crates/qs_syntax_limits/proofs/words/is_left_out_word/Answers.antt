use Rattle.std.proofs.Common.{◌∙◌, ap, List, ℕ}
use Rattle.std.specs.List.{list_any}
use Rattle.std.specs.Str.{str_eq_ignore_ascii_case}
use Rattle.qs_syntax_limits.proofs.ByLength.{by_length}
use Rattle.qs_syntax_limits.proofs.words.is_left_out_word.Goals as goal

pub returns : goal.returns
returns c =
    let w = c.args.word.now in
    c.is_among.ensures ∙ ap (λ (rows : List (List ℕ)). list_any (str_eq_ignore_ascii_case w) rows) c.words_of.ensures ∙ by_length w

use Rattle.std.proofs.Common.{rules, ◌≡◌, ◌∙◌, ap, ℕ, List, false, codes}
use Rattle.std.specs.Str.{bytes_eq, str_eq_ignore_ascii_case}
use Rattle.qs_syntax_tree.specs.declared.kind.Kind.{Kind}
use Rattle.qs_syntax_tree.specs.declared.kind.Kind.TheVariants as k
use Rattle.qs_syntax_tree.specs.Words.{word_kind, find_kind}
use Rattle.qs_syntax_tree.proofs.ByLength.{by_length}
use Rattle.qs_syntax_tree.proofs.words.word_kind.Goals as goal

pub returns : goal.returns
unfolding word_kind
returns c =
    let w = c.args.word.now in
    let b : bytes_eq w (codes "a") ≡ false = search rules in
    rw b (c.find_keyword.ensures ∙ ap (λ (rows : List (List ℕ × Kind)). find_kind str_eq_ignore_ascii_case k.Word rows w) c.keywords_of.ensures ∙ by_length w)

-- Rows of the table of words.
use Rattle.std.proofs.Common.{◌≡◌, codes, refl}
use Rattle.qs_syntax_tree.specs.declared.kind.Kind.TheVariants as k
use Rattle.qs_syntax_tree.specs.Words.{word_kind, mark_kind}

mixed_case : word_kind (codes "SeLeCt") ≡ k.Select
unfolding word_kind
mixed_case = refl

verb_a : word_kind (codes "a") ≡ k.A
unfolding word_kind
verb_a = refl

capital_a : word_kind (codes "A") ≡ k.Word
unfolding word_kind
capital_a = refl

in_camel_case : word_kind (codes "sameTerm") ≡ k.SameTerm
unfolding word_kind
in_camel_case = refl

truth : word_kind (codes "TRUE") ≡ k.True
unfolding word_kind
truth = refl

longer_mark : mark_kind (codes "^^") ≡ k.CaretCaret
unfolding mark_kind
longer_mark = refl

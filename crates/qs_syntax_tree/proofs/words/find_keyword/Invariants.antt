use Rattle.std.proofs.Common.{◌≡◌, length, map}
use Rattle.std.specs.Str.{str_eq_ignore_ascii_case}
use Rattle.qs_syntax_tree.specs.declared.kind.Kind.TheVariants as k
use Rattle.qs_syntax_tree.specs.Words.{find_kind}
use Rattle.qs_syntax_tree.proofs.words.find_keyword.Given as goal

abbrev pub invariant-loop-table : goal.invariant-loop-table
invariant-loop-table l = find_kind str_eq_ignore_ascii_case k.Word (map (λ row. (row.0.now, row.1)) l.table) l.word ≡ find_kind str_eq_ignore_ascii_case k.Word (map (λ row. (row.0.now, row.1)) l.initial.table) l.word

abbrev pub decreases-loop-table : goal.decreases-loop-table
decreases-loop-table l = length l.table

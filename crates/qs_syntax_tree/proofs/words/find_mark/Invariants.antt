use Rattle.std.proofs.Common.{◌≡◌, length, map}
use Rattle.std.specs.Str.{bytes_eq}
use Rattle.qs_syntax_tree.specs.declared.kind.Kind.TheVariants as k
use Rattle.qs_syntax_tree.specs.Words.{find_kind}
use Rattle.qs_syntax_tree.proofs.words.find_mark.Given as goal

abbrev pub invariant-loop-table : goal.invariant-loop-table
invariant-loop-table l = find_kind bytes_eq k.Word (map (λ row. (row.0.now, row.1)) l.table) l.mark ≡ find_kind bytes_eq k.Word (map (λ row. (row.0.now, row.1)) l.initial.table) l.mark

abbrev pub decreases-loop-table : goal.decreases-loop-table
decreases-loop-table l = length l.table

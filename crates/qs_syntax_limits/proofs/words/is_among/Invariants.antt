use Rattle.std.proofs.Common.{◌≡◌, length, map}
use Rattle.std.specs.List.{list_any}
use Rattle.std.specs.Str.{str_eq_ignore_ascii_case}
use Rattle.qs_syntax_limits.proofs.words.is_among.Given as goal

abbrev pub invariant-loop-left : goal.invariant-loop-left
invariant-loop-left l =
    list_any (str_eq_ignore_ascii_case l.word) (map (λ row. row.now) l.left) ≡ list_any (str_eq_ignore_ascii_case l.word) (map (λ row. row.now) l.initial.left)

abbrev pub decreases-loop-left : goal.decreases-loop-left
decreases-loop-left l = length l.left

-- Where names stand in a list, by the first place and the last.
use Rattle.std.specs.Prelude.{ℕ, zero, suc, nat_eq, List, [], ◌∷◌, if◌then◌else◌}
use Rattle.std.specs.Cmp.Lexicographic.{pointwise}
use Rattle.qs_syntax_scope.specs.Names.{Name}

-- the place at which the name first stands, or the list's length where it doesn't
abbrev pub place_of : List Name → Name → ℕ
place_of [] name = zero
place_of (x ∷ xs) name = if pointwise nat_eq x name then zero else suc (place_of xs name)

-- What chains of `||` and `&&` say in words (SPARQL 1.1 Query, 17.2). That the tables make the same
-- of them is the law `laws::in_words`.
use Rattle.std.specs.Prelude.{Bool, true, false, List, Option, Some, None, if◌then◌else◌}
use Rattle.std.specs.List.{list_any}
use Rattle.std.specs.Option.{is_none}

abbrev pub is : Bool → Option Bool → Bool
is true (Some b) = b
is false (Some true) = false
is false (Some false) = true
is b None = false

-- `||`: true where one operand is true, else an error where one errs, else false
abbrev pub any_said : List (Option Bool) → Option Bool
any_said xs = if list_any (is true) xs then Some true
    else (if list_any is_none xs then None else Some false)

-- `&&`: false where one operand is false, else an error where one errs, else true
abbrev pub every_said : List (Option Bool) → Option Bool
every_said xs = if list_any (is false) xs then Some false
    else (if list_any is_none xs then None else Some true)

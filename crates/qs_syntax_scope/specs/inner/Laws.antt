-- What the tests of names say, in words that ask for no order.
use Rattle.std.specs.Prelude.{◌≡◌, ℕ, List, Some, IsTrue, slice_get, take}
use Rattle.std.specs.List.{flat_map}
use Rattle.qs_syntax_scope.specs.Names.{Name, contains}
use Rattle.qs_syntax_scope.specs.Firsts.{names_of}
use Rattle.qs_syntax_scope.specs.inner.Scope.{scope_of_pattern}
use Rattle.qs_syntax_ast.specs.declared.term.Variable.{Variable}
use Rattle.qs_syntax_ast.specs.declared.pattern.GraphPattern.{GraphPattern}

-- a name stands at one place at most
abbrev pub EachStandsOnce : List Name → Type 0
EachStandsOnce names = (i j : ℕ) (name : Name) → slice_get names i ≡ Some name
    → slice_get names j ≡ Some name → i ≡ j

-- a name stands in one of the lists at most
abbrev pub EachStandsInOne : List (List Name) → Type 0
EachStandsInOne runs =
    (i j : ℕ) (one two : List Name) (name : Name) → slice_get runs i ≡ Some one
    → slice_get runs j ≡ Some two → IsTrue (contains one name) → IsTrue (contains two name) → i ≡ j

-- each of the names is that of a variable of the list
abbrev pub AreListed : List Variable → List Name → Type 0
AreListed variables names =
    (name : Name) → IsTrue (contains names name) → IsTrue (contains (names_of variables) name)

-- each pattern of a group keeps the rules after those before it
abbrev pub EachFits : List GraphPattern → Type 0
EachFits patterns = (i : ℕ) (pattern : GraphPattern) → slice_get patterns i ≡ Some pattern
    → IsTrue ((scope_of_pattern pattern).keeps
    (flat_map (λ p. (scope_of_pattern p).names) (take i patterns)))

-- Names that come one after another, of which some must be new: for proofs and the layers between.
use Rattle.std.specs.Prelude.{ℕ, true, ◌&&◌, not, List, [], ◌∷◌, ◌++◌, take}
use Rattle.std.specs.List.{list_any}
use Rattle.qs_syntax_scope.specs.Names.{Name, contains}
use Rattle.qs_syntax_scope.specs.declared.met.Met.{Met}

-- the names of a front, all of which are fine
abbrev pub after : List Name → Met
after names = record { names = names; keeps = true }

-- one more name, which is fine where it is not among those before it
abbrev pub add_new : Met → Name → Met
add_new m name =
    record { names = m.names ++ name ∷ []; keeps = m.keeps && not (contains m.names name) }

-- one more list, which is fine where none of its names is in a list before it
abbrev pub add_run : Met → List Name → Met
add_run m run =
    record { names = m.names ++ run; keeps = m.keeps && not (list_any (contains m.names) run) }

-- one more name of the list that began at the place
abbrev pub add_label : ℕ → Met → Name → Met
add_label start before label =
    record {
      names = before.names ++ label ∷ [];
      keeps = before.keeps
          && not (contains (take start before.names) label);
    }

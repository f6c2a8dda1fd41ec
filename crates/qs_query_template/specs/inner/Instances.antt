-- Definitions over those of `Instances`, for proofs and the layers between.
use Rattle.std.specs.Prelude.{ℕ, ◌+◌, nat_lt, List, [], ◌∷◌, Option, Some, None, Ok, Err}
use Rattle.std.specs.Prelude.{if◌then◌else◌}
use Rattle.std.specs.List.{flat_map}
use Rattle.qs_terms.specs.Outcome.{Outcome}
use Rattle.qs_terms.specs.Statement.{Statement, fits_places}
use Rattle.qs_terms.specs.declared.fault.QFault.TheVariants.{Full}
use Rattle.qs_terms.specs.declared.term.Term.{Term}
use Rattle.qs_terms.specs.declared.term.Term.TheVariants as value
use Rattle.qs_algebra_solutions.specs.Solution.{Solution}
use Rattle.qs_query_template.specs.Instances.{instance}
use Rattle.qs_query_template.specs.declared.template.Template.{Template}

-- the k-th of so many fresh blank nodes, which have the numbers from the first one on; there are no
-- more
abbrev pub fresh : ℕ → ℕ → ℕ → Option Term
fresh blanks first k = if nat_lt k blanks then Some (value.Blank (first + k)) else None

-- the quad, where the terms may stand in their places
abbrev pub lawful : Option Term → Term → Term → Term → List Statement
lawful graph subject predicate object =
    if fits_places graph subject predicate
    then record { graph = graph; subject = subject; predicate = predicate; object = object } ∷ []
    else []

-- the instances of the template under a solution, whose fresh blank nodes have the numbers from
-- this one on
abbrev pub instances_under : Template → ℕ → Solution → List Statement
instances_under t first m = flat_map (instance t.blanks first m) t.quads

-- Full where the number is past the greatest one of 64 bits
abbrev pub within : {A : Type 0} → ℕ → A → Outcome A
within next made = if nat_lt 18446744073709551615 next then Err Full else Ok made

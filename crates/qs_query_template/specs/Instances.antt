-- The quads that a template makes of solutions (SPARQL 1.1 Query, 16.2 and 16.2.1; SPARQL 1.1
-- Update, 3.1.3). A blank node past those that a template counts has no term, so `instances` has no
-- `requires`. That no template of a text has one is a law.
use Rattle.std.specs.Prelude.{ℕ, ◌+◌, ◌*◌, nat_lt, List, [], ◌∷◌, ◌++◌, length, Option, Some, None}
use Rattle.std.specs.Prelude.{Ok, Err, if◌then◌else◌}
use Rattle.std.specs.List.{flat_map}
use Rattle.std.specs.Option.{option_map}
use Rattle.qs_terms.specs.Outcome.{Outcome}
use Rattle.qs_terms.specs.Statement.{Statement, fits_places}
use Rattle.qs_terms.specs.declared.fault.QFault.TheVariants.{Full}
use Rattle.qs_terms.specs.declared.term.Term.{Term}
use Rattle.qs_terms.specs.declared.term.Term.TheVariants as value
use Rattle.qs_algebra_solutions.specs.Solution.{Solution, term_at}
use Rattle.qs_query_template.specs.declared.template.Slot.{Slot}
use Rattle.qs_query_template.specs.declared.template.Slot.TheVariants as slot
use Rattle.qs_query_template.specs.declared.template.QuadTemplate.{QuadTemplate}
use Rattle.qs_query_template.specs.declared.template.Template.{Template}

-- the term of a slot under a solution, whose n fresh blank nodes have the numbers from the first
-- one on; none where its variable is unbound
abbrev pub slot_term : ℕ → ℕ → Solution → Slot → Option Term
slot_term n first m (slot.Variable v) = term_at m v
slot_term n first m (slot.Term t) = Some t
slot_term n first m (slot.Blank k) = if nat_lt k n then Some (value.Blank (first + k)) else None

-- the same of a graph's name, where no slot is the default graph
abbrev pub graph_term : ℕ → ℕ → Solution → Option Slot → Option (Option Term)
graph_term n first m None = Some None
graph_term n first m (Some s) = option_map Some (slot_term n first m s)

-- the quad, where each place has a term that may stand there
abbrev pub quad_of : Option (Option Term) → Option Term → Option Term → Option Term → List Statement
quad_of (Some g) (Some s) (Some p) (Some o) = if fits_places g s p
    then record { graph = g; subject = s; predicate = p; object = o } ∷ [] else []
quad_of graph subject predicate object = []

-- the instance of one quad under a solution, or none
abbrev pub instance : ℕ → ℕ → Solution → QuadTemplate → List Statement
instance n first m q =
    quad_of (graph_term n first m q.graph) (slot_term n first m q.subject)
    (slot_term n first m q.predicate) (slot_term n first m q.object)

-- those of the template under each solution, whose fresh blank nodes have the numbers from the next
-- one on; each takes numbers for all blank nodes of the template, whichever of its quads are left
-- out
abbrev pub instances : Template → ℕ → List Solution → List Statement
instances t next [] = []
instances t next (m ∷ ms) =
    flat_map (instance t.blanks next m) t.quads ++ instances t (next + t.blanks) ms

-- the number after those of all fresh blank nodes
abbrev pub next_after : Template → ℕ → ℕ → ℕ
next_after t next solutions = next + t.blanks * solutions

-- the instances, or Full where that number is past the greatest one of 64 bits
abbrev pub made : Template → ℕ → List Solution → Outcome (List Statement)
made t next rows = if nat_lt 18446744073709551615 (next_after t next (length rows)) then Err Full
    else Ok (instances t next rows)

-- Where blank nodes stand, and which of them are fresh. A blank node of an instance is one that the
-- solution binds, a term of the template, or of the solution's block of numbers
-- (`laws::blanks_are_fresh`).
use Rattle.std.specs.Prelude.{ℕ, ◌+◌, ◌<◌, ◌≤◌, Bool, true, false, ◌||◌, ◌&&◌, nat_eq, nat_lt}
use Rattle.std.specs.Prelude.{Option, Some, None}
use Rattle.std.specs.List.{list_all, list_any}
use Rattle.qs_terms.specs.Statement.{Statement}
use Rattle.qs_terms.specs.declared.term.Term.{Term}
use Rattle.qs_terms.specs.declared.term.Term.TheVariants as value
use Rattle.qs_algebra_solutions.specs.Solution.{Solution}
use Rattle.qs_query_template.specs.declared.template.Slot.{Slot}
use Rattle.qs_query_template.specs.declared.template.Slot.TheVariants as slot
use Rattle.qs_query_template.specs.declared.template.QuadTemplate.{QuadTemplate}
use Rattle.qs_query_template.specs.declared.template.Template.{Template}

-- whether the term is the blank node of this number
abbrev pub is_blank : ℕ → Term → Bool
is_blank n (value.Iri i) = false
is_blank n (value.Blank k) = nat_eq n k
is_blank n (value.Literal l) = false

abbrev pub cell_is_blank : ℕ → Option Term → Bool
cell_is_blank n None = false
cell_is_blank n (Some t) = is_blank n t

-- whether it stands in the quad, where a predicate is no blank node
abbrev pub quad_has_blank : ℕ → Statement → Bool
quad_has_blank n q = cell_is_blank n q.graph || (is_blank n q.subject || is_blank n q.object)

-- whether the solution binds a variable to it
abbrev pub binds_blank : ℕ → Solution → Bool
binds_blank n m = list_any (cell_is_blank n) m

abbrev pub slot_is_blank : ℕ → Slot → Bool
slot_is_blank n (slot.Variable v) = false
slot_is_blank n (slot.Term t) = is_blank n t
slot_is_blank n (slot.Blank k) = false

abbrev pub graph_is_blank : ℕ → Option Slot → Bool
graph_is_blank n None = false
graph_is_blank n (Some s) = slot_is_blank n s

-- whether it is itself a term of the template
abbrev pub template_quad_has_blank : ℕ → QuadTemplate → Bool
template_quad_has_blank n q =
    graph_is_blank n q.graph || (slot_is_blank n q.subject || slot_is_blank n q.object)

abbrev pub names_blank : ℕ → Template → Bool
names_blank n t = list_any (template_quad_has_blank n) t.quads

-- the number is one of the block of a solution, which begins with the first one
abbrev pub IsOfBlock : Template → ℕ → ℕ → Type 0
IsOfBlock t first n = (first ≤ n) × (n < first + t.blanks)

-- ---- slots for blank nodes

abbrev pub slot_is_numbered : ℕ → Slot → Bool
slot_is_numbered blanks (slot.Variable v) = true
slot_is_numbered blanks (slot.Term t) = true
slot_is_numbered blanks (slot.Blank k) = nat_lt k blanks

abbrev pub graph_is_numbered : ℕ → Option Slot → Bool
graph_is_numbered blanks None = true
graph_is_numbered blanks (Some s) = slot_is_numbered blanks s

-- each blank node of the quad is one of so many
abbrev pub quad_is_numbered : ℕ → QuadTemplate → Bool
quad_is_numbered blanks q =
    graph_is_numbered blanks q.graph
    && (slot_is_numbered blanks q.subject
    && (slot_is_numbered blanks q.predicate && slot_is_numbered blanks q.object))

-- each blank node of the template has its number among those that a solution takes
abbrev pub is_numbered : Template → Bool
is_numbered t = list_all (quad_is_numbered t.blanks) t.quads

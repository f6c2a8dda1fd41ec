-- What a scan leaves to be tested and bound, by cells.
use Rattle.std.specs.Prelude.{◌≡◌, ℕ, Bool, true, false, ◌==◌, ◌&&◌, nat_lt, if◌then◌else◌, List}
use Rattle.std.specs.Prelude.{[], length, Option, None, Some, slice_index, slice_set}
use Rattle.qs_store.specs.Content.{Content}
use Rattle.qs_store.specs.inner.Triples.{AreTriplesAnyhow}
use Rattle.qs_store.specs.declared.active.Active.{Active}
use Rattle.qs_store.specs.declared.default_graph.DefaultGraph.{DefaultGraph}
use Rattle.qs_expr.specs.declared.cell.Cell.{Cell}
use Rattle.qs_expr.specs.declared.cell.Cell.TheVariants.{Known, Scratch}
use Rattle.qs_expr.specs.inner.Cell.{Cells, cell_at}
use Rattle.qs_ops_scans.specs.declared.pattern.Place.{Place}
use Rattle.qs_ops_scans.specs.declared.pattern.Place.TheVariants as place
use Rattle.qs_ops_scans.specs.declared.pattern.PreparedTriple.{PreparedTriple}
use Rattle.qs_ops_scans.specs.declared.opened.Act.{Act}
use Rattle.qs_ops_scans.specs.declared.opened.Act.TheVariants.{Pass, Bind, AsSubject, AsPredicate}
use Rattle.qs_ops_scans.specs.declared.opened.Acts.{Acts}
use Rattle.qs_ops_scans.specs.declared.opened.Given.{Given}

-- ---- what is given to the scan

abbrev pub given_cell : Option Cell → Option (Option ℕ)
given_cell None = Some None
given_cell (Some (Known n)) = Some (Some n)
given_cell (Some (Scratch k)) = None

-- the number that a place has for the row, if it has one; nothing agrees with a term that the
-- dictionary lacks
abbrev pub given_of : Place → Cells → Option (Option ℕ)
given_of place.Absent m = None
given_of (place.Number n) m = Some (Some n)
given_of (place.Variable v) m = given_cell (cell_at m v)

abbrev pub given_three : Option (Option ℕ) → Option (Option ℕ) → Option (Option ℕ) → Option Given
given_three None p o = None
given_three (Some s) None o = None
given_three (Some s) (Some p) None = None
given_three (Some s) (Some p) (Some o) = Some (record { subject = s; predicate = p; object = o })

abbrev pub givens : PreparedTriple → Cells → Option Given
givens k m = given_three (given_of k.subject m) (given_of k.predicate m) (given_of k.object m)

-- ---- what is left for each triple of the scan

-- the place has this variable, and the row has a cell for it
abbrev pub binds : Cells → Place → ℕ → Bool
binds m place.Absent w = false
binds m (place.Number n) w = false
binds m (place.Variable v) w = (v == w) && nat_lt w (length m)

abbrev pub if_open : Option Cell → Act → Act
if_open None act = act
if_open (Some c) act = Pass

abbrev pub subject_act : Cells → Place → Act
subject_act m place.Absent = Pass
subject_act m (place.Number n) = Pass
subject_act m (place.Variable v) = if_open (cell_at m v) (Bind v)

abbrev pub predicate_act : Cells → Place → Place → Act
predicate_act m s place.Absent = Pass
predicate_act m s (place.Number n) = Pass
predicate_act m s (place.Variable v) =
    if_open (cell_at m v) (if binds m s v then AsSubject else Bind v)

abbrev pub object_act : Cells → Place → Place → Place → Act
object_act m s p place.Absent = Pass
object_act m s p (place.Number n) = Pass
object_act m s p (place.Variable v) =
    if_open (cell_at m v) (if binds m s v then AsSubject else if binds m p v then AsPredicate
    else Bind v)

abbrev pub acts_of : PreparedTriple → Cells → Acts
acts_of k m = record {
  subject = subject_act m k.subject;
  predicate = predicate_act m k.subject k.predicate;
  object = object_act m k.subject k.predicate k.object;
}

-- whether the number of a place passes the act, where these are the triple's numbers
abbrev pub act_passes : Act → List ℕ → ℕ → Bool
act_passes Pass x n = true
act_passes (Bind v) x n = true
act_passes AsSubject x n = slice_index x 0 == n
act_passes AsPredicate x n = slice_index x 1 == n

abbrev pub passes : Acts → List ℕ → Bool
passes acts x =
    act_passes acts.predicate x (slice_index x 1) && act_passes acts.object x (slice_index x 2)

abbrev pub act_bound : Act → ℕ → Cells → Cells
act_bound Pass n m = m
act_bound (Bind v) n m = slice_set m v (Some (Known n))
act_bound AsSubject n m = m
act_bound AsPredicate n m = m

abbrev pub bound : Acts → List ℕ → Cells → Cells
bound acts x m =
    act_bound acts.object (slice_index x 2)
    (act_bound acts.predicate (slice_index x 1) (act_bound acts.subject (slice_index x 0) m))

-- the row that a triple of the scan makes of the row
abbrev pub row_made : Acts → Cells → List ℕ → Option Cells
row_made acts m x = if passes acts x then Some (bound acts x m) else None

-- ---- the scan

-- the triples of the graph with the numbers that are given, in some order
abbrev pub IsAsked : Content → DefaultGraph → Active → Given → List (List ℕ) → Type 0
IsAsked c default graph g triples =
    AreTriplesAnyhow c default graph g.subject g.predicate g.object triples

-- the triples of the graph with the numbers that are given; none where a term isn't known
abbrev pub IsScannedBy : Content → DefaultGraph → Active → Option Given → List (List ℕ) → Type 0
IsScannedBy c default graph None triples = triples ≡ []
IsScannedBy c default graph (Some g) triples = IsAsked c default graph g triples

abbrev pub IsScanned : Content → DefaultGraph → Active → PreparedTriple → Cells → List (List ℕ)
    → Type 0
IsScanned c default graph k m triples = IsScannedBy c default graph (givens k m) triples

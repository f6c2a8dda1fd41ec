-- What a scan of all named graphs makes of a row, by cells.
use Rattle.std.specs.Prelude.{◌≡◌, ℕ, Bool, true, ◌||◌, if◌then◌else◌, List, [], ◌∷◌, Option, None}
use Rattle.std.specs.Prelude.{Some, slice_index, slice_set}
use Rattle.std.specs.Option.{is_some}
use Rattle.qs_store.specs.Content.{Content}
use Rattle.qs_expr.specs.declared.cell.Cell.TheVariants.{Known}
use Rattle.qs_expr.specs.inner.Cell.{Cells}
use Rattle.qs_ops_scans.specs.declared.pattern.PreparedTriple.{PreparedTriple}
use Rattle.qs_ops_scans.specs.declared.opened.Acts.{Acts}
use Rattle.qs_ops_scans.specs.declared.opened.Given.{Given}
use Rattle.qs_store.specs.inner.NamedQuads.{AreNamedQuads}
use Rattle.qs_ops_scans.specs.inner.Opened.{bound, givens, passes}

-- the numbers of the triple of a quad
abbrev pub triple_in : List ℕ → List ℕ
triple_in x = slice_index x 1 ∷ slice_index x 2 ∷ slice_index x 3 ∷ []

abbrev pub quad_passes : Acts → List ℕ → Bool
quad_passes acts x = passes acts (triple_in x)

-- the row with the variable, if there is one, bound to the number too
abbrev pub also_bound : Option ℕ → ℕ → Cells → Cells
also_bound None n m = m
also_bound (Some v) n m = slice_set m v (Some (Known n))

-- the row with the variables of the quad's triple bound, and the register, and the variable if
-- there is one, to the name of its graph
abbrev pub quad_bound : Acts → ℕ → Option ℕ → Cells → List ℕ → Cells
quad_bound acts r v m x =
    also_bound v (slice_index x 0)
    (slice_set (bound acts (triple_in x) m) r (Some (Known (slice_index x 0))))

-- the row that a quad of the scan makes of the row
abbrev pub quad_made : Acts → ℕ → Option ℕ → Cells → List ℕ → Option Cells
quad_made acts r v m x = if quad_passes acts x then Some (quad_bound acts r v m x) else None

-- the quads of all named graphs with the numbers that are given; none where a term isn't known
abbrev pub AreScannedBy : Content → Option Given → List (List ℕ) → Type 0
AreScannedBy c None quads = quads ≡ []
AreScannedBy c (Some g) quads = AreNamedQuads c g.subject g.predicate g.object quads

abbrev pub AreScanned : Content → PreparedTriple → Cells → List (List ℕ) → Type 0
AreScanned c k m quads = AreScannedBy c (givens k m) quads

-- a number is given to the scan, or nothing is scanned
abbrev pub is_narrow : Option Given → Bool
is_narrow None = true
is_narrow (Some g) = is_some g.subject || (is_some g.predicate || is_some g.object)

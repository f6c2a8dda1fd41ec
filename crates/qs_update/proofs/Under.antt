-- What templates do under all solutions of a WHERE.
use Rattle.std.proofs.Common.{◌≡◌, ◌≢◌, ℕ, Bool, true, false, nat_lt, List, length, map, Option, Ok, Err, IfOk, refl, sym, ap, subst, inl, inr, arith}
use Rattle.std.proofs.lemmas.List.{length-map}
use Rattle.std.proofs.lemmas.List.Sorted.{length_permutation}
use Rattle.qs_terms.specs.Outcome.{Outcome}
use Rattle.qs_terms.specs.Statement.{Statement}
use Rattle.qs_terms.specs.declared.fault.QFault.{QFault}
use Rattle.qs_terms.specs.declared.fault.QFault.TheVariants.{Full, Memory}
use Rattle.qs_terms.specs.declared.term.Term.{Term}
use Rattle.qs_algebra_solutions.specs.Solution.{Solution}
use Rattle.qs_algebra_patterns.specs.declared.named_pattern.Pattern.{Pattern}
use Rattle.qs_expr.specs.inner.Cell.{row_solution}
use Rattle.qs_query_solutions.specs.declared.cell_rows.CellRows.{CellRows}
use Rattle.qs_query_solutions.specs.inner.CellRows.{AreAllCells}
use Rattle.qs_query_template.specs.Instances.{instances, next_after}
use Rattle.qs_query_template.specs.inner.Instances.{within}
use Rattle.qs_query_template.specs.declared.template.Template.{Template}
use Rattle.qs_store.specs.Content.{Content}
use Rattle.qs_store.specs.declared.default_graph.DefaultGraph.{DefaultGraph}
use Rattle.qs_update.specs.Effect.{solutions, modified, IsModified}
use Rattle.qs_update.specs.inner.Effect.{deletion}
use Rattle.qs_update.specs.Request.{IsCarriedOut}
use Rattle.qs_update.specs.inner.Carried.{BecomesOne}
use Rattle.qs_update.specs.inner.Lawful.{IsLawful}
use Rattle.qs_update.specs.declared.effect.Effect.{Effect}

-- the solutions of rows of cells
abbrev pub denoted_by : List Term → CellRows → List Solution
denoted_by known found = map (row_solution known found.scratch) found.rows.items

module _ (max_rows : ℕ) (delete insert : Template) (next : ℕ) (known : List Term) (all : List Solution) where
  -- under the rows that were found
  pub under : (found : CellRows) → AreAllCells max_rows known all (Ok found) → IsModified max_rows delete insert next all (modified delete insert next (denoted_by known found))
  under found h =
      let rows = denoted_by known found in
      let count : length all ≡ length rows = length_permutation rows all h.1.same in
      let own : length rows ≡ length found.rows.items = length-map found.rows.items (row_solution known found.scratch) in
      inr (omega (arith, count, own, h.1.few), rows, h.1.same, refl)

  -- or the fault that is due
  pub not_under : (f : QFault) → AreAllCells max_rows known all (Err f) → f ≢ Memory → IsModified max_rows delete insert next all (Err f)
  not_under f h n = let k = h n in inl (k.1, ap Err k.0)

-- the solutions of the same pattern
pub same_cells : (max_rows : ℕ) (known : List Term) (p q : Pattern) (default : DefaultGraph) (name : Option Term) (quads : List Statement) (result : Outcome CellRows) → p ≡ q
    → AreAllCells max_rows known (solutions p default name quads) result → AreAllCells max_rows known (solutions q default name quads) result
same_cells max_rows known p q default name quads result e h = subst (λ (x : Pattern). AreAllCells max_rows known (solutions x default name quads) result) e h

-- ---- by whether the numbers of blank nodes suffice

module _ (delete insert : Template) (next : ℕ) (rows : List Solution) where
  abbrev After : ℕ
  After = next_after insert next (length rows)

  abbrev pub change : Effect
  change = record { removed = instances (deletion delete) next rows; added = instances insert next rows; next = After }

  pub enough : (after : ℕ) → Ok after ≡ within After After → (modified delete insert next rows ≡ Ok change) × (after ≡ After)
  enough after e = by (nat_lt 18446744073709551615 After) refl
    where
      by : (b : Bool) → nat_lt 18446744073709551615 After ≡ b → (modified delete insert next rows ≡ Ok change) × (after ≡ After)
      by true q = absurd (let k : Ok after ≡ Err Full = rw q at e in cc)
      by false q = (rw q refl, let k : Ok after ≡ Ok After = rw q at e in cc)

-- ---- the same templates

module _ (a b c d : Template) (next : ℕ) (rows : List Solution) (e : a ≡ b) (f : c ≡ d) where
  same_modified : modified a c next rows ≡ modified b d next rows
  same_modified = rw (e, f) refl

  pub same_becomes : (limit : ℕ) (old : Content) (result : Outcome (Unit {0})) (new : Content) → BecomesOne (IsCarriedOut limit old (modified a c next rows)) result new → BecomesOne (IsCarriedOut limit old (modified b d next rows)) result new
  same_becomes limit old result new h = subst (λ (x : Outcome Effect). BecomesOne (IsCarriedOut limit old x) result new) same_modified h

  pub still_lawful : IfOk (modified b d next rows) (IsLawful next) → IfOk (modified a c next rows) (IsLawful next)
  still_lawful h = subst (λ (x : Outcome Effect). IfOk x (IsLawful next)) (sym same_modified) h

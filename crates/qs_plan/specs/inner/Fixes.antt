-- Conditions that fix a variable: they hold only where it is one of some terms (SPARQL 1.1 Query,
-- 17.4.1.7 to 17.4.1.9). Stages may then begin with a table of these terms.
use Rattle.std.specs.Prelude.{◌≡◌, ℕ, ◌≤◌, ◌<◌, Bool, true, false, List, [], ◌∷◌, length}
use Rattle.std.specs.Prelude.{Option, Some, None}
use Rattle.std.specs.List.{AllByRecursion, flat_map, list_any}
use Rattle.qs_terms.specs.Bag.{Distinct}
use Rattle.qs_terms.specs.Statement.{Statement, is_iri}
use Rattle.qs_terms.specs.Term.{same_term}
use Rattle.qs_terms.specs.declared.term.Term.{Term}
use Rattle.qs_expr_values.specs.Values.{equal}
use Rattle.qs_expr_values.specs.inner.Values.{is_true}
use Rattle.qs_expr_meaning.specs.Meaning.{meaning, holds}
use Rattle.qs_expr_meaning.specs.Calls.{of_both}
use Rattle.qs_expr_meaning.specs.declared.expr.Expr.{Expr}
use Rattle.qs_expr_meaning.specs.declared.expr.Expr.TheVariants as expr
use Rattle.qs_algebra_solutions.specs.Solution.{Solution, term_at}
use Rattle.qs_algebra_solutions.specs.Operators.{merges}
use Rattle.qs_algebra_patterns.specs.Basic.{Graph}
use Rattle.qs_algebra_patterns.specs.inner.Eval.{kept, step}
use Rattle.qs_algebra_patterns.specs.declared.pattern.Step.{Step}
use Rattle.qs_plan.specs.declared.certain.Size.{Size}
use Rattle.qs_plan_meaning.specs.declared.stage.Look.{Look}
use Rattle.qs_plan_meaning.specs.declared.stage.Stage.{Stage}
use Rattle.qs_plan.specs.inner.Certain.{Bound, Alike, Binds}
use Rattle.qs_plan.specs.inner.Reads.{Settles}
use Rattle.qs_plan.specs.inner.Lays.{Within, Makes, Lays, all_stepped}

-- ---- conditions

-- what is bound is one of the terms
abbrev pub is_one_of : List Term → Option Term → Bool
is_one_of ts None = true
is_one_of ts (Some x) = list_any (same_term x) ts

-- the condition holds only where the variable, if bound, is one of these terms, each given once
pub record Fixes (v : ℕ) (ts : List Term) (e : Expr) : Type 0 where
  pub distinct : Distinct same_term ts
  pub only : (m : Solution) → holds m e ≡ true → is_one_of ts (term_at m v) ≡ true

-- the member of a list of IN equals none but one of these terms
pub record Admits (ts : List Term) (e : Expr) : Type 0 where
  pub only : (m : Solution) (x : Term) → is_true (of_both equal (Some x) (meaning m e)) ≡ true
      → list_any (same_term x) ts ≡ true

-- the expression is a term, and the terms are it alone
pub record IsOnly (e : Expr) (ts : List Term) : Type 0 where
  pub one : Term
  pub is : e ≡ expr.Term one
  pub alone : ts ≡ one ∷ []

-- the expression is an IRI, which equals itself alone; a literal may equal others
pub record IsIri (e : Expr) : Type 0 where
  pub one : Term
  pub is : e ≡ expr.Term one
  pub iri : is_iri one ≡ true

-- the terms after the member of a list: no fewer, none twice, and it is admitted
pub record HasNew (old : List Term) (e : Expr) (new : List Term) : Type 0 where
  pub distinct : Distinct same_term old → Distinct same_term new
  pub more : (x : Term) → list_any (same_term x) old ≡ true → list_any (same_term x) new ≡ true
  pub admits : Admits new e

-- the same terms are in both
abbrev pub HaveSame : List Term → List Term → Type 0
HaveSame ts us = (x : Term) → list_any (same_term x) ts ≡ list_any (same_term x) us

-- variables that the stages are certain to bind settle the expression
pub record SettledBy (size : Size) (ss : List Stage) (e : Expr) : Type 0 where
  pub variables : List ℕ
  pub settles : Settles variables e
  pub bound : AllByRecursion (λ v. (v < size.width) × Binds size [] v ss) variables

-- ---- steps

-- of a solution that binds the variable the step makes solutions that bind it alike
pub record StepKeeps (v : ℕ) (s : Step) : Type 0 where
  pub alike : (width : ℕ) (quads : List Statement) (graph : Graph) (a : Solution) → Bound v a
      → AllByRecursion (Alike v a) (step width quads s graph (a ∷ []))

-- ---- stages

-- solutions of a part, by the dataset and the graph
abbrev pub Found : Type 0
Found = List Statement → Graph → List Solution

-- the merges with them
abbrev pub joined_to : Found → Makes
joined_to found quads graph a = merges (found quads graph) a

-- each has as many cells as there are named variables
abbrev pub AreWide : ℕ → Found → Type 0
AreWide width found =
    (quads : List Statement) (graph : Graph)
    → AllByRecursion (λ x. length x ≡ width) (found quads graph)

-- what the steps make of solutions, as far as the conditions hold
abbrev pub KeptAfter : Type 0
KeptAfter = List Statement → Graph → List Solution → List Solution

abbrev pub kept_after : ℕ → List Step → List Expr → KeptAfter
kept_after width steps conditions quads graph xs =
    kept conditions (flat_map (all_stepped width steps quads graph) xs)

-- by these conditions after these steps both are the same
abbrev pub AreAsGood : ℕ → List Step → List Expr → Found → Found → Type 0
AreAsGood width steps conditions found other =
    (quads : List Statement) (graph : Graph)
    → kept_after width steps conditions quads graph (found quads graph)
    ≡ kept_after width steps conditions quads graph (other quads graph)

-- stages that make the merges with other solutions, which are as good
pub record StandsFor (width : ℕ) (steps : List Step) (conditions : List Expr) (place : Look)
    (from next : ℕ) (new : List Stage) (found : Found) : Type 0 where
  pub fewer : Found
  pub wide : AreWide width fewer
  pub lays : Lays false width place from next new (joined_to fewer)
  pub same : AreAsGood width steps conditions fewer found

-- the new stages may come before the steps in place of the old ones, where the conditions are asked
-- after the steps
pub record Instead (size : Size) (steps : List Step) (conditions : List Expr)
    (old new : List Stage) : Type 0 where
  pub stands : (place : Look) (from next : ℕ) (found : Found)
      → Within size.width from place → size.cells ≤ next → AreWide size.width found
      → Lays false size.width place from next old (joined_to found)
      → StandsFor size.width steps conditions place from next new found

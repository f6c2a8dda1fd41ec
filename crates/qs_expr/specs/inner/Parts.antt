-- The parts of a prepared condition.
use Rattle.std.specs.Prelude.{◌≡◌, ℕ, Bool, List, [], ◌∷◌, Option}
use Rattle.std.specs.List.{list_all, list_any}
use Rattle.qs_terms.specs.declared.term.Term.{Term}
use Rattle.qs_algebra_solutions.specs.Solution.{Solution}
use Rattle.qs_expr_meaning.specs.inner.Makes.{makes}
use Rattle.qs_expr_meaning.specs.Meaning.{holds}
use Rattle.qs_expr_meaning.specs.declared.expr.Expr.{Expr}
use Rattle.qs_expr.specs.inner.Condition.{AreNumbersOf}
use Rattle.qs_expr.specs.declared.part.Part.{Part}
use Rattle.qs_expr.specs.declared.part.Part.TheVariants.{Has, Alike, Against, Among, Other}

-- what the part asks
abbrev pub asked : Part → Expr
asked (Has p) = p.expr.now
asked (Alike p) = p.expr.now
asked (Against p) = p.expr.now
asked (Among p) = p.expr.now
asked (Other e) = e.now

-- all parts are true in the solution
abbrev pub all_hold : Solution → List Part → Bool
all_hold m parts = list_all (λ p. holds m (asked p)) parts

-- some part takes memory
abbrev pub some_make : List Part → Bool
some_make parts = list_any (λ p. makes (asked p)) parts

abbrev pub number_in : Part → List (Term × Option ℕ) → List (Term × Option ℕ)
number_in (Has p) rest = (p.term.now, p.number) ∷ rest
number_in (Alike p) rest = rest
number_in (Against p) rest = rest
number_in (Among p) rest = rest
number_in (Other e) rest = rest

-- the terms of the parts, with their numbers
abbrev pub numbers_of : List Part → List (Term × Option ℕ)
numbers_of [] = []
numbers_of (p ∷ ps) = number_in p (numbers_of ps)

-- the part's number is the one that its term has in the dictionary
abbrev pub IsNumbered : List Term → Part → Type 0
IsNumbered known p = AreNumbersOf known (number_in p [])

-- the parts are true together exactly where the condition is, and take memory where it does
pub record ArePartsOf (parts : List Part) (e : Expr) : Type 0 where
  pub hold : (m : Solution) → all_hold m parts ≡ holds m e
  pub make : some_make parts ≡ makes e

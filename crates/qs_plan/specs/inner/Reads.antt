-- Which variables settle an expression, and which stages leave a variable as it is.
use Rattle.std.specs.Prelude.{◌≡◌, ℕ, List}
use Rattle.std.specs.List.{AllByRecursion}
use Rattle.qs_terms.specs.Statement.{Statement}
use Rattle.qs_algebra_solutions.specs.Solution.{Solution, term_at}
use Rattle.qs_algebra_patterns.specs.Basic.{Graph}
use Rattle.qs_expr_meaning.specs.Meaning.{meaning}
use Rattle.qs_expr_meaning.specs.declared.expr.Addend.{Addend}
use Rattle.qs_expr_meaning.specs.declared.expr.Expr.{Expr}
use Rattle.qs_plan_meaning.specs.declared.stage.Stage.{Stage}
use Rattle.qs_plan_meaning.specs.inner.Stages.{gives, through}

-- both bind these variables alike
abbrev pub Agree : List ℕ → Solution → Solution → Type 0
Agree variables m x = AllByRecursion (λ v. term_at x v ≡ term_at m v) variables

-- where both bind these variables alike, the expression means the same in both
pub record Settles (variables : List ℕ) (e : Expr) : Type 0 where
  pub same : (m x : Solution) → Agree variables m x → meaning x e ≡ meaning m e

-- the same of an operand of a sum
abbrev pub SettlesOperand : List ℕ → Addend → Type 0
SettlesOperand variables a = Settles variables a.operand

-- where both bind those of the second list alike, they do those of the first
pub record Grows (old new : List ℕ) : Type 0 where
  pub agree : (m x : Solution) → Agree new m x → Agree old m x

-- what the stage makes of a row binds the variable as the row does
pub record Leaves (v : ℕ) (s : Stage) : Type 0 where
  pub same : (width : ℕ) (quads : List Statement) (active : Graph) (m : Solution)
      → AllByRecursion (λ q. term_at q v ≡ term_at m v) (gives width quads active s m)

-- the same of stages one after another
pub record LeaveAll (v : ℕ) (ss : List Stage) : Type 0 where
  pub same : (width : ℕ) (quads : List Statement) (active : Graph) (m : Solution)
      → AllByRecursion (λ q. term_at q v ≡ term_at m v) (through width quads active ss m)

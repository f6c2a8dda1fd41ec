-- What a plan means, and when it is a plan of a pattern.
use Rattle.std.specs.Prelude.{List, map, take, length}
use Rattle.qs_terms.specs.Bag.{Distinct, SameBag}
use Rattle.qs_terms.specs.Dataset.{same_triple}
use Rattle.qs_terms.specs.Statement.{Statement, same_statement}
use Rattle.qs_algebra_solutions.specs.Solution.{Solution, unbound}
use Rattle.qs_algebra_patterns.specs.Basic.{Graph}
use Rattle.qs_algebra_patterns.specs.Eval.{eval}
use Rattle.qs_algebra_patterns.specs.declared.named_pattern.Pattern.{Pattern}
use Rattle.qs_plan.specs.declared.plan_type.Plan.{Plan}
use Rattle.qs_plan_meaning.specs.inner.Stages.{through}

-- the solutions of a plan over named variables: what its stages make of the row that binds nothing
abbrev pub plan_list : Plan → List Statement → Graph → List Solution
plan_list plan quads active =
    map (take plan.width) (through plan.width quads active plan.stages (unbound plan.cells))

-- over each dataset, where each quad stands once, and in each graph, where each triple does, the
-- plan has the solutions of the pattern
pub record IsPlanOf (plan : Plan) (pattern : Pattern) : Type 0 where
  pub same : (quads : List Statement) (active : Graph) → Distinct same_statement quads
      → Distinct same_triple active
      → SameBag (plan_list plan quads active)
      (eval (length pattern.names) quads pattern.root active)

-- over each dataset and in each graph, both plans have the same solutions
pub record SamePlan (plan other : Plan) : Type 0 where
  pub same : (quads : List Statement) (active : Graph) → SameBag (plan_list plan quads active)
      (plan_list other quads active)

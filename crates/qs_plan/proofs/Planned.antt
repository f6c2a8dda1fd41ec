-- From stages that are laid to a plan.
use Rattle.std.proofs.Common.{◌≡◌, ℕ, ◌<◌, true, take, length, refl, ◌∙◌, ap, subst, arith}
use Rattle.std.proofs.lemmas.List.Sorted.{IsPermutation-trans}
use Rattle.qs_terms.specs.Bag.{SameBag}
use Rattle.qs_algebra_solutions.specs.Solution.{unbound}
use Rattle.qs_algebra_solutions.specs.Operators.{merges}
use Rattle.qs_algebra_patterns.specs.Eval.{eval}
use Rattle.qs_algebra_patterns.specs.declared.named_pattern.Pattern.{Pattern}
use Rattle.qs_plan_meaning.specs.declared.stage.Look.TheVariants as look
use Rattle.qs_plan.specs.declared.plan_type.Plan.{Plan}
use Rattle.qs_plan.specs.inner.Plans.{plan_list, IsPlanOf, SamePlan}
use Rattle.qs_plan.specs.inner.Numbers.{past}
use Rattle.qs_plan.specs.inner.Lays.{Ready, Lays, joined_with}
use Rattle.qs_plan.proofs.Laying.{between, take_unbound}
use Rattle.qs_plan.proofs.Widths.{length_unbound, unbound_at, eval_merges}

-- stages for the row that binds nothing are a plan
pub planned : (plan : Plan) (pattern : Pattern) → plan.width ≡ length pattern.names → plan.cells < past → Lays true plan.width look.Active plan.width plan.cells plan.stages (joined_with plan.width pattern.root) → IsPlanOf plan pattern
planned plan pattern w short l = record {
  same = λ quads active d e.
      subst (λ (n : ℕ). SameBag (plan_list plan quads active) (eval n quads pattern.root active)) w
      (between _ _ _ _ refl (l.bag quads active d e (unbound plan.cells) ready)
      (ap (merges (eval plan.width quads pattern.root active)) front ∙ eval_merges plan.width quads pattern.root active));
}
  where
    front : take plan.width (unbound plan.cells) ≡ unbound plan.width
    front = take_unbound plan.width plan.cells l.up

    ready : Ready plan.width true plan.width plan.cells (unbound plan.cells)
    ready = record {
      wide = omega (arith, length_unbound plan.cells);
      short = omega (arith, length_unbound plan.cells, short);
      free = λ v h. unbound_at plan.cells v;
      start = λ h. front;
    }

-- a plan with the same solutions
pub still_planned : (plan other : Plan) (pattern : Pattern) → SamePlan plan other → IsPlanOf other pattern → IsPlanOf plan pattern
still_planned plan other pattern h k = record { same = λ quads active d e. IsPermutation-trans _ _ _ (h.same quads active) (k.same quads active d e) }

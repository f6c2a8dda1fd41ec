use Rattle.std.proofs.Common.{◌∙◌, ap}
use Rattle.qs_algebra_patterns.specs.declared.pattern.Step.TheVariants.{Join}
use Rattle.qs_algebra.proofs.Steps.{union_found}
use Rattle.qs_algebra.proofs.translation.+group.Goals as goal

pub step-returns-in_ok-parts-in-Union : goal.step-returns-in_ok-parts-in-Union
step-returns-in_ok-parts-in-Union t c =
    ap Join c.one_or_union.ensures
    ∙ union_found c.args.names.now c.args.pattern.now c.in-Union.groups c.as_slice-in-Union.result.now c.in_ok-parts-in-Union.parts c.in-Union.is c.as_slice-in-Union.ensures c.in_ok-parts-in-Union.ensures

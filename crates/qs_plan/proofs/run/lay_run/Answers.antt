use Rattle.std.proofs.Common.{◌∙◌, sym, arith}
use Rattle.qs_plan.proofs.RunStages.{run_lays}
use Rattle.qs_plan.proofs.NoRun.{no_run}
use Rattle.qs_plan.proofs.run.lay_run.Goals as goal

pub returns-then-has_all_below : goal.returns-then-has_all_below
returns-then-has_all_below c first =
    run_lays c.args.width c.args.from _ c.args.look.now c.args.pattern.now first _ c.requires.named c.requires.within
    (sym c.has_all_below.ensures ∙ c.if-has_all_below.true) c.in_ok-laid.ensures

pub returns : goal.returns
returns c first =
    no_run first c.args.width c.args.look.now c.args.from _ c.args.pattern.now _ c.requires.named (omega (arith, c.in_ok-next.ensures, c.in_ok-laid-2.ensures.1))
    (sym c.has_all_below.ensures ∙ c.if-has_all_below.false) c.in_ok-laid-2.ensures.0

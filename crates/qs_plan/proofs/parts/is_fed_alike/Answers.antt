use Rattle.std.proofs.Common.{subst}
use Rattle.std.specs.List.{AllByRecursion}
use Rattle.qs_plan.specs.inner.Parts.{IsPart}
use Rattle.qs_plan.proofs.Apart.{parts_alike}
use Rattle.qs_plan.proofs.parts.is_fed_alike.Goals as goal

pub returns : goal.returns
returns c h = parts_alike c.args.width c.args.group.now.stages (subst (AllByRecursion (IsPart c.args.width)) c.as_slice.ensures (c.are_parts.ensures h))

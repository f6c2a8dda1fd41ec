use Rattle.std.proofs.Common.{inl}
use Rattle.qs_http.proofs.Steps.{step_from_no_head, step_from_parts}
use Rattle.qs_http.proofs.conclude.conclude.Goals as goal

pub returns-in_default : goal.returns-in_default
returns-in_default c = inl (step_from_no_head c.args.bytes.now c.args.end c.leading_len.result c.requires.ends c.leading_len.ensures.count c.in_default.ensures.reads)

pub returns : goal.returns
returns c = step_from_parts c.args.bytes.now c.args.end c.leading_len.result _ _ c.requires.ends c.leading_len.ensures.count c.in-Some.ensures.reads c.step_of_head.ensures

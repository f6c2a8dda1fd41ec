use Rattle.std.proofs.Common.{arith}
use Rattle.qs_dict.proofs.dict.Dict.len.Goals as goal

pub overflow_cast-result : goal.overflow_cast-result
overflow_cast-result c = omega (arith, c.self.invariant.0.within, c.self.invariant.0.bound, c.len.ensures.len)

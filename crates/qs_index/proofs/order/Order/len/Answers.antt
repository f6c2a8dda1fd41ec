use Rattle.std.proofs.Common.{arith}
use Rattle.qs_index.proofs.Places.{joined_le}
use Rattle.qs_index.proofs.order.Order.len.Goals as goal

pub returns-clause-small : goal.returns-clause-small
returns-clause-small c =
    let few = joined_le c.self.inside.pages.pages c.len-pages.ensures.sizes in
    omega (arith, few, c.self.invariant.counted, c.len-pages.ensures.len, c.len-pages.type_inv)

use Rattle.std.proofs.Common.{arith}
use Rattle.qs_index.proofs.Looks.{start_fits}
use Rattle.qs_index.proofs.order.Order.place_from.Goals as goal

pub find-requires-clause-countable : goal.find-requires-clause-countable
find-requires-clause-countable c =
    rw (c.new-reader.ensures.pages, c.new-reader.ensures.looked) (start_fits c.self.inside.pages.pages c.len-count.ensures.sizes (omega (arith, c.len-count.ensures.len, c.len-count.type_inv)))

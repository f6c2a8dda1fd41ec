use Rattle.std.proofs.Common.{length, arith}
use Rattle.qs_index.specs.inner.OrderScan.{left_from}
use Rattle.qs_index.proofs.Looks.{counts_fit, looks_fit}
use Rattle.qs_index.proofs.order_scan.OrderScanIterator.next.Goals as goal

pub read-entry-requires-clause-countable : goal.read-entry-requires-clause-countable
read-entry-requires-clause-countable c =
    let s = c.self.inside in
    let fit = looks_fit s.reader.pages s.handed s.skips (length (left_from s.reader.pages s.prefix s.page s.at)) s.reader.looked c.self.invariant.sizes (omega (arith, c.len-held.ensures.len, c.len-held.type_inv)) c.self.invariant.most c.self.invariant.few in omega arith

pub overflow_add-self : goal.overflow_add-self
overflow_add-self c =
    let s = c.self.inside in
    let fit = counts_fit s.reader.pages s.handed s.skips (length (left_from s.reader.pages s.prefix s.page s.at)) c.self.invariant.sizes (omega (arith, c.len-held.ensures.len, c.len-held.type_inv)) c.self.invariant.most in omega arith

use Rattle.std.proofs.Common.{length, arith, subst}
use Rattle.qs_index.specs.inner.Entries.{HaveFour}
use Rattle.qs_index.specs.inner.Entry.{IsAscending}
use Rattle.qs_index.specs.inner.OrderScan.{left_from}
use Rattle.qs_index.proofs.Looks.{looks_fit}
use Rattle.qs_index.proofs.Seeking.{left_ascends, left_four}
use Rattle.qs_index.proofs.order_scan.OrderScan.peek.Goals as goal

pub read-entry-requires-clause-countable : goal.read-entry-requires-clause-countable
read-entry-requires-clause-countable c =
    let s = c.self.inside in
    let fit = looks_fit s.reader.pages s.handed s.skips (length (left_from s.reader.pages s.prefix s.page s.at)) s.reader.looked c.self.invariant.sizes (omega (arith, c.len.ensures.len, c.len.type_inv)) c.self.invariant.most c.self.invariant.few in omega arith

pub returns-clause-ascending : goal.returns-clause-ascending
returns-clause-ascending c =
    let s = c.self.inside in
    subst (λ v. IsAscending v.rest) c.self.view_is (left_ascends s.reader.pages s.prefix s.page s.at c.self.invariant.ascending)

pub returns-clause-entries : goal.returns-clause-entries
returns-clause-entries c =
    let s = c.self.inside in
    subst (λ v. HaveFour v.rest) c.self.view_is (left_four s.reader.pages s.prefix s.page s.at c.self.invariant.entries)

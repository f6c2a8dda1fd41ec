use Rattle.std.proofs.Common.{arith, ap, length}
use Rattle.std.proofs.lemmas.List.{length-take}
use Rattle.qs_query_order.proofs.Keeping.{cut_kept, part_taken}
use Rattle.qs_query_order.proofs.kept.cut.Goals as goal

pub returns-clause-part : goal.returns-clause-part
returns-clause-part g c = part_taken c.args.count c.args.kept.now.items c.sort.new.keyed.items c.truncate.new.self.items c.sort.ensures.permutation c.truncate.ensures.items

pub returns-clause-kept : goal.returns-clause-kept
returns-clause-kept g c f seen all h =
    cut_kept f c.args.conditions.now c.keys_are_ordered.ensures c.args.count seen c.args.kept.now.items c.sort.new.keyed.items c.truncate.new.self.items c.sort.ensures.permutation c.sort.ensures.order c.truncate.ensures.items all h

pub returns-clause-short : goal.returns-clause-short
returns-clause-short g c =
    let e = ap length c.truncate.ensures.items in
    let l = length-take c.args.count c.sort.new.keyed.items in
    omega (arith, e, l)

use Rattle.std.proofs.Common.{None, Some}
use Rattle.qs_query_order.specs.inner.Keyed.{solutions_of}
use Rattle.qs_query_order.proofs.Keeping.{all_ordered, are_first, first_by, kept_of, keyed_part}
use Rattle.qs_query_order.proofs.kept.put_in_order.Goals as goal

pub returns-in-None-clause-first : goal.returns-in-None-clause-first
returns-in-None-clause-first g c f seen all h =
    let cs = c.args.conditions.now in
    first_by cs c.args.count seen (solutions_of f c.sort.new.keyed.items) None c.in-None.is
    (all_ordered f cs c.keys_are_ordered.ensures seen c.args.kept.now.items c.sort.new.keyed.items c.sort.ensures.permutation c.sort.ensures.order all (kept_of cs c.args.count seen (solutions_of f c.args.kept.now.items) None c.in-None.is h))

pub returns-in-Some-clause-first : goal.returns-in-Some-clause-first
returns-in-Some-clause-first g c f seen all h =
    let cs = c.args.conditions.now in
    let new = c.cut.new.kept.items in
    first_by cs c.args.count seen (solutions_of f new) (Some c.in-Some.count) c.in-Some.is
    (are_first f cs c.keys_are_ordered.ensures c.in-Some.count seen new c.cut.ensures.short (keyed_part f cs c.args.kept.now.items new c.cut.ensures.part all) c.cut.ensures.order
    (c.cut.ensures.kept f seen all (kept_of cs c.args.count seen (solutions_of f c.args.kept.now.items) (Some c.in-Some.count) c.in-Some.is h)))

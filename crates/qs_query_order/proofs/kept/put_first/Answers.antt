use Rattle.std.proofs.Common.{◌∷◌, ◌++◌, [], sym, subst}
use Rattle.std.specs.List.{All}
use Rattle.qs_query_order.specs.inner.Keyed.{Covers, IsKeyed, solutions_of}
use Rattle.qs_query_order.proofs.Keeping.{front_more, keyed_more, one_kept, one_passed, part_more, part_one}
use Rattle.qs_query_order.proofs.kept.put_first.Goals as goal

pub returns-then-is_passed-clause-part : goal.returns-then-is_passed-clause-part
returns-then-is_passed-clause-part g c = part_one c.args.kept.now.items c.args.one

pub returns-then-is_passed-clause-kept : goal.returns-then-is_passed-clause-kept
returns-then-is_passed-clause-kept g c f seen all one h =
    one_passed f c.args.conditions.now c.args.count seen c.args.kept.now.items c.args.one
    (subst (λ l. Covers c.args.conditions.now c.args.count (solutions_of f l) (f c.args.one.row)) c.as_slice.ensures.value
    (c.is_passed.ensures c.if-is_passed.true f (subst (All (IsKeyed f c.args.conditions.now)) (sym c.as_slice.ensures.value) all) one)) h

pub returns-clause-part : goal.returns-clause-part
returns-clause-part g c = part_more c.args.kept.now.items _ _ c.args.one c.in_ok-push.ensures.items c.cut_where_full.ensures.part

pub returns-clause-kept : goal.returns-clause-kept
returns-clause-kept g c f seen all one h =
    c.cut_where_full.ensures.kept f (seen ++ f c.args.one.row ∷ []) (keyed_more f c.args.conditions.now c.args.kept.now.items _ c.args.one c.in_ok-push.ensures.items all one)
    (one_kept f c.args.conditions.now c.args.count seen c.args.kept.now.items _ c.args.one c.in_ok-push.ensures.items h)

pub cut_where_full-requires : goal.cut_where_full-requires
cut_where_full-requires g c = front_more c.args.conditions.now c.args.count c.args.kept.now.items _ c.args.one c.in_ok-push.ensures.items c.requires

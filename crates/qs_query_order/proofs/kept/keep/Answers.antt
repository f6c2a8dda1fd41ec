use Rattle.std.proofs.Common.{◌∷◌, ◌++◌, [], None, Some}
use Rattle.std.proofs.lemmas.Result.{on_ok_weaker}
use Rattle.qs_query_order.specs.inner.Keyed.{solutions_of}
use Rattle.qs_query_order.proofs.Keeping.{all_kept, kept_by, kept_of, part_all}
use Rattle.qs_query_order.proofs.kept.keep.Goals as goal

pub returns-in_ok-push-in-None-clause-part : goal.returns-in_ok-push-in-None-clause-part
returns-in_ok-push-in-None-clause-part g c = part_all _ _ c.in_ok-push-in-None.ensures.items

pub returns-in_ok-push-in-None-clause-kept : goal.returns-in_ok-push-in-None-clause-kept
returns-in_ok-push-in-None-clause-kept g c f seen all one h =
    kept_by c.args.conditions.now c.args.count (seen ++ f c.args.one.row ∷ []) _ None c.in-None.is
    (all_kept f c.args.conditions.now seen c.args.kept.now.items _ c.args.one c.in_ok-push-in-None.ensures.items (kept_of c.args.conditions.now c.args.count seen (solutions_of f c.args.kept.now.items) None c.in-None.is h))

pub returns-in-Some-clause-kept : goal.returns-in-Some-clause-kept
returns-in-Some-clause-kept g c =
    on_ok_weaker c.put_first.result
    (λ due f seen all one h.
    kept_by c.args.conditions.now c.args.count (seen ++ f c.args.one.row ∷ []) (solutions_of f c.put_first.new.kept.items) (Some c.in-Some.count) c.in-Some.is
    (due f seen all one (kept_of c.args.conditions.now c.args.count seen (solutions_of f c.args.kept.now.items) (Some c.in-Some.count) c.in-Some.is h)))
    c.put_first.ensures.kept

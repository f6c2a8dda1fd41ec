use Rattle.std.proofs.Common.{◌∷◌, ◌++◌, [], take, sym, ap, ◌∙◌, subst}
use Rattle.std.proofs.lemmas.List.{take_more}
use Rattle.qs_query_forms.specs.inner.Placed.{ArePlaced}
use Rattle.qs_query_forms.proofs.Places.{placed_more}
use Rattle.qs_query_forms.proofs.placed.placed.Goals as goal

pub loop-condition-preserved : goal.loop-condition-preserved
loop-condition-preserved c =
    let at = c.loop-condition.condition-index in
    let cs = c.args.conditions.now in
    subst (λ l. ArePlaced c.args.columns.now l c.push.new.self.items) (sym (take_more cs at c.condition-item.result c.loop-condition-test.true ∙ ap (λ z. take at cs ++ z ∷ []) (sym c.condition-item.is)))
    (subst (ArePlaced c.args.columns.now (take at cs ++ c.condition-item.result ∷ [])) (sym c.in_ok-push.ensures.items)
    (placed_more c.args.columns.now (take at cs) c.loop-condition.all.items c.condition-item.result c.in-Some.one c.loop-condition.invariant c.in-Some.ensures))

use Rattle.std.proofs.Common.{◌≡◌, Option, Some, None, Bor, refl, ◌∙◌, ap}
use Rattle.std.specs.Option.{is_some, option_copied}
use Rattle.qs_terms.specs.declared.term.Term.{Term}
use Rattle.qs_results.proofs.Sorted.{bound_next}
use Rattle.qs_results.proofs.columns.bound_columns.Goals as goal

copied : (cell : Option (Bor Term)) → is_some cell ≡ is_some (option_copied cell)
copied None = refl
copied (Some t) = refl

pub loop-at-preserved : goal.loop-at-preserved
loop-at-preserved c =
    bound_next _ _ _ _ _ _ _ c.loop-at-test.true c.index-vars-at.is c.loop-at.invariant c.in_ok-put_bound.ensures (c.is_some.ensures ∙ (copied c.term.result ∙ ap (λ cell. is_some cell) c.term.ensures))

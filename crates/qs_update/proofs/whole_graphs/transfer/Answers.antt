use Rattle.std.proofs.Common.{rules, ◌≡◌, true, subst}
use Rattle.std.specs.Option.{option_copied}
use Rattle.qs_update.specs.Graphs.{exists, graph_name}
use Rattle.qs_update.specs.Request.{IsCarriedOut}
use Rattle.qs_update.specs.inner.Carried.{BecomesOne}
use Rattle.qs_update.proofs.ByEffect.{transferred_there}
use Rattle.qs_update.proofs.whole_graphs.transfer.Goals as goal

pub returns-then-exists-clause-outcome : goal.returns-then-exists-clause-outcome
returns-then-exists-clause-outcome c =
    let held = c.args.draft.now.store.now in
    let from : option_copied c.as_ref-then-exists.result ≡ graph_name c.args.transfer.now.from = search rules in
    let to : option_copied c.as_ref-then-exists-2.result ≡ graph_name c.args.transfer.now.to = search rules in
    let there : exists (option_copied c.as_ref-then-exists.result) held.draft.quads ≡ true = search rules in
    subst (λ e. BecomesOne (IsCarriedOut held.limit held.draft e) c.put_over_other.result c.put_over_other.new.draft.store.now.draft)
    (transferred_there c.args.removal c.args.transfer.now held.draft.quads held.draft.next _ _ from to there) c.put_over_other.ensures.outcome

use Rattle.qs_store.proofs.Sets.{changed_alike}
use Rattle.qs_store.proofs.same_set.same_sets_change_alike.Goals as goal

pub returns : goal.returns
returns c = λ old removed added new old2 removed2 added2 new2 o r a w v. changed_alike old removed added new old2 removed2 added2 new2 o r a w v

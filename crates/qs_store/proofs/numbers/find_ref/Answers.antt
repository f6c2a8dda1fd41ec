use Rattle.std.proofs.Common.{◌≡◌, Some, sym, subst}
use Rattle.qs_dict.specs.inner.Dict.{number_of, IsInUse}
use Rattle.qs_store.specs.inner.References.{referred, IsReferred}
use Rattle.qs_store.proofs.References.{own_number}
use Rattle.qs_store.proofs.numbers.find_ref.Goals as goal

pub returns-in-Known : goal.returns-in-Known
returns-in-Known c =
    let terms = c.args.dict.now.terms in
    let n = c.in-Known.number in
    let used : IsInUse terms n = subst (IsReferred terms) c.in-Known.is c.requires in
    subst (λ t. Some n ≡ number_of terms (referred terms t)) (sym c.in-Known.is) (sym (own_number terms n c.len-count.ensures.lawful.distinct used))

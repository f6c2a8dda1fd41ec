use Rattle.std.proofs.Common.{◌≤◌, ap, drop, length, List, [], subst, sym}
use Rattle.std.proofs.lemmas.List.Sorted.{IsPermutation-refl}
use Rattle.qs_terms.specs.Bag.{SameBag}
use Rattle.qs_paths_meaning.specs.Pair.{Pair}
use Rattle.qs_paths.specs.inner.Nodes.{named_pairs}
use Rattle.qs_paths.specs.inner.State.{AreRows, GivesOne}
use Rattle.qs_paths.proofs.Names.{none_behind}
use Rattle.qs_paths.proofs.Streamed.{to_nil}
use Rattle.qs_paths.proofs.state.next_row.Goals as goal

pub returns-in_err-pair-clause-gives : goal.returns-in_err-pair-clause-gives
returns-in_err-pair-clause-gives c name ps h =
    let e = none_behind c.args.rows.now.rows.items c.args.rows.now.at (subst (λ l. length l ≤ c.args.rows.now.at) c.deref.ensures.value c.in_err-pair.ensures.lookup.3) in
    let none = ap (named_pairs name) e in
    subst (λ o. GivesOne (AreRows name) name ps o c.args.rows.now) (sym c.from_residual.ensures)
    (to_nil ps (named_pairs name (drop c.args.rows.now.at c.args.rows.now.rows.items)) h.left none, record { left = subst (λ (l : List Pair). SameBag [] l) (sym none) (IsPermutation-refl []) })

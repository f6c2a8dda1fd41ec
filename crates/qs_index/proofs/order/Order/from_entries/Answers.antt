use Rattle.std.proofs.Common.{◌≡◌, ◌-◌, [], length, take, drop, length-drop, arith, sym, subst}
use Rattle.std.proofs.lemmas.List.{take-append-drop, take_all}
use Rattle.qs_index.specs.inner.Entries.{IsUnion}
use Rattle.qs_index.proofs.Unions.{IsUnion-then}
use Rattle.qs_index.proofs.order.Order.from_entries.Goals as goal

pub returns : goal.returns
returns c =
    let all = c.args.entries.now in
    let read = c.fill-filled.result.read in
    let new = c.insert_each.new.self.entries in
    let n = length-drop read all in
    let rest : take (length all - read) (drop read all) ≡ drop read all = take_all (length all - read) (drop read all) (omega arith) in
    let front : IsUnion [] (take read all) c.reserve.new.self.entries = subst (IsUnion [] (take read all)) (sym c.reserve.ensures.entries) c.fill-filled.ensures.union in
    subst (λ r. IsUnion [] r new) (take-append-drop read all)
    (IsUnion-then [] (take read all) (drop read all) c.reserve.new.self.entries new front (subst (λ r. IsUnion c.reserve.new.self.entries r new) rest c.insert_each.ensures.union))

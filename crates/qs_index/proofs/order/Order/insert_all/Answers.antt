use Rattle.std.proofs.Common.{◌≡◌, ◌-◌, length, take, drop, length-drop, arith, subst}
use Rattle.std.proofs.lemmas.List.{take-append-drop, take_all}
use Rattle.qs_index.specs.inner.Entries.{IsUnion}
use Rattle.qs_index.proofs.Unions.{IsUnion-then}
use Rattle.qs_index.proofs.order.Order.insert_all.Goals as goal

pub returns-clause-union : goal.returns-clause-union
returns-clause-union c =
    let all = c.args.entries.now in
    let read = c.fill_empty-read.result in
    let n = length-drop read all in
    let rest : take (length all - read) (drop read all) ≡ drop read all = take_all (length all - read) (drop read all) (omega arith) in
    subst (λ r. IsUnion c.args.self.now.entries r c.insert_each.new.self.entries) (take-append-drop read all)
    (IsUnion-then c.args.self.now.entries (take read all) (drop read all) c.fill_empty-read.new.self.entries c.insert_each.new.self.entries c.fill_empty-read.ensures.union (subst (λ r. IsUnion c.fill_empty-read.new.self.entries r c.insert_each.new.self.entries) rest c.insert_each.ensures.union))

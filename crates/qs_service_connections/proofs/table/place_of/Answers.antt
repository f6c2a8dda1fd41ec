use Rattle.std.proofs.Common.{arith, sym, ap, ◌∙◌, eq-eqb}
use Rattle.std.proofs.lemmas.List.Sums.{position_or_len_is}
use Rattle.qs_service_connections.specs.State.{Joined}
use Rattle.qs_service_connections.specs.inner.Table.{has_id}
use Rattle.qs_service_connections.proofs.Places.{none_has, place_at}
use Rattle.qs_service_connections.proofs.table.place_of.Goals as goal

pub returns-then-id : goal.returns-then-id
returns-then-id c =
    place_at c.args.id c.args.connections.now c.loop-i.i
    (sym (position_or_len_is (has_id c.args.id) c.args.connections.now c.loop-i.i c.index-connections-i.result (omega arith)
    (λ k below. c.loop-i.invariant k c.index-connections-i.result below)
    (λ _. eq-eqb _ _ (ap (λ (x : Joined). x.id) (sym c.index-connections-i.is) ∙ sym c.id.ensures ∙ c.if-id.true))))
    (omega arith)

pub returns : goal.returns
returns c =
    place_at c.args.id c.args.connections.now _ (none_has c.args.id c.args.connections.now c.loop-i.i (omega arith) c.loop-i.invariant) (omega arith)

use Rattle.std.proofs.Common.{arith, sym, ap, subst, ◌∙◌, refl, List, Some}
use Rattle.qs_service_connections.specs.State.{Joined}
use Rattle.qs_service_connections.specs.inner.Table.{IsPlace}
use Rattle.qs_service_connections.proofs.connections.Connections.piece.Goals as goal

pub returns-then-place-len : goal.returns-then-place-len
returns-then-place-len g c =
    let p = subst (λ (l : List Joined). IsPlace c.args.id l c.place_of-place.result) c.deref.ensures.value c.place_of-place.ensures in
    rw (← c.self.view_is) record { step = (p.absent (omega arith), refl) }

pub returns : goal.returns
returns g c =
    let p = subst (λ (l : List Joined). IsPlace c.args.id l c.place_of-place.result) c.deref.ensures.value c.place_of-place.ensures in
    let e = c.index_mut.result.now in
    let meaning = c.receive.new.meaning in
    rw (← c.self.view_is) record {
      step = (
        e.exchange,
        c.receive.new.self.exchange,
        meaning,
        p.there e (omega (arith, p.within)) ∙ ap (λ (x : Joined). Some x.exchange) (sym c.index_mut.ensures.value),
        c.receive.ensures.received,
        ap (λ (l : List Joined). record { stored = meaning; joined = l })
            (p.put e c.receive.new.self (omega (arith, p.within)) (c.receive.ensures.id ∙ ap (λ (x : Joined). x.id) c.index_mut.ensures.value)),
      );
    }

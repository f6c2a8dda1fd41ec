use Rattle.std.proofs.Common.{arith, ap, subst, ◌∙◌, refl, List}
use Rattle.std.specs.Option.{is_some}
use Rattle.qs_service_connections.specs.State.{Joined}
use Rattle.qs_service_connections.specs.inner.Table.{IsPlace}
use Rattle.qs_service_connections.proofs.connections.Connections.end_conn.Goals as goal

pub returns-then-place-len : goal.returns-then-place-len
returns-then-place-len g c =
    let p = subst (λ (l : List Joined). IsPlace c.args.id l c.place_of-place.result) c.deref.ensures.value c.place_of-place.ensures in
    rw (← c.self.view_is) record { step = (p.absent (omega arith), refl) }

pub returns : goal.returns
returns g c =
    let p = subst (λ (l : List Joined). IsPlace c.args.id l c.place_of-place.result) c.deref.ensures.value c.place_of-place.ensures in
    rw (← c.self.view_is) record {
      step = (
        ap is_some (p.there c.remove.result (omega (arith, p.within))),
        ap (λ (l : List Joined). record { stored = c.self.inside.meaning; joined = l })
            (c.remove.ensures.items ∙ p.removed (omega (arith, p.within))),
      );
    }

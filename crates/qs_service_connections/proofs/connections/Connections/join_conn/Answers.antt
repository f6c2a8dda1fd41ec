use Rattle.std.proofs.Common.{arith, ap, subst, ◌∙◌, refl, List, [], ◌∷◌, ◌++◌}
use Rattle.std.specs.Option.{is_some}
use Rattle.qs_service_connections.specs.State.{Joined, Reading}
use Rattle.qs_service_connections.specs.inner.Table.{IsPlace}
use Rattle.qs_service_connections.proofs.connections.Connections.join_conn.Goals as goal

pub returns-then-place_of-len : goal.returns-then-place_of-len
returns-then-place_of-len g c =
    let p = subst (λ (l : List Joined). IsPlace c.args.id l c.place_of.result) c.deref.ensures.value c.place_of.ensures in
    rw (← c.self.view_is) record { step = (ap is_some (p.there (record { id = 0; exchange = Reading [] }) (omega arith)), refl) }

pub returns-then-len-ge-MOST : goal.returns-then-len-ge-MOST
returns-then-len-ge-MOST g c =
    let p = subst (λ (l : List Joined). IsPlace c.args.id l c.place_of.result) c.deref.ensures.value c.place_of.ensures in
    rw (← c.self.view_is) record { step = (p.absent (omega (arith, p.within)), omega (arith, c.self.invariant.few), refl) }

pub returns : goal.returns
returns g c =
    let p = subst (λ (l : List Joined). IsPlace c.args.id l c.place_of.result) c.deref.ensures.value c.place_of.ensures in
    rw (← c.self.view_is) record {
      step = (
        p.absent (omega (arith, p.within)),
        omega arith,
        ap (λ (l : List Joined). record { stored = c.self.inside.meaning; joined = l })
            (c.push_reserved.ensures.items ∙ ap (λ (e : Joined). c.self.inside.connections.items ++ e ∷ []) c.new.ensures),
      );
    }

use Rattle.std.proofs.Common.{arith, sym, ap, subst, ◌∙◌, List, Some}
use Rattle.qs_service_connections.specs.State.{Joined}
use Rattle.qs_service_connections.specs.State.{reply_in}
use Rattle.qs_service_connections.specs.inner.Table.{IsPlace}
use Rattle.qs_service_connections.proofs.connections.Connections.reply.Goals as goal

pub returns-then-place-len : goal.returns-then-place-len
returns-then-place-len g c =
    let p = subst (λ (l : List Joined). IsPlace c.args.id l c.place_of-place.result) c.deref.ensures.value c.place_of-place.ensures in
    rw (← c.self.view_is) (ap reply_in (sym (p.absent (omega arith))))

pub returns : goal.returns
returns g c =
    let p = subst (λ (l : List Joined). IsPlace c.args.id l c.place_of-place.result) c.deref.ensures.value c.place_of-place.ensures in
    let e = c.index.result.now in
    let line_is = p.there e (omega (arith, p.within)) ∙ ap (λ (x : Joined). Some x.exchange) (sym c.index.ensures) in
    rw (← c.self.view_is) (c.reply.ensures ∙ ap reply_in (sym line_is))

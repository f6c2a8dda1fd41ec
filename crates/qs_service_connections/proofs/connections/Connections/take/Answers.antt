use Rattle.std.proofs.Common.{◌≡◌, ◌-◌, ℕ, arith, sym, ap, subst, ◌∙◌, refl, List, take, drop, Option, Some}
use Rattle.std.proofs.lemmas.Grind.{get_or-set_at}
use Rattle.qs_service_connections.specs.State.{Joined, Exchange, Reading, Answered}
use Rattle.qs_service_connections.specs.inner.State.{put_exchange}
use Rattle.qs_service_connections.specs.State.{with_taken}
use Rattle.qs_service_connections.specs.inner.State.{joined_taken}
use Rattle.qs_service_connections.specs.inner.Table.{IsPlace}
use Rattle.qs_service_connections.specs.inner.Receive.{bytes_in}
use Rattle.qs_service_connections.proofs.Places.{taken_is}
use Rattle.qs_service_connections.proofs.connections.Connections.take.Goals as goal

pub returns-then-place-len : goal.returns-then-place-len
returns-then-place-len g c =
    let p = subst (λ (l : List Joined). IsPlace c.args.id l c.place_of-place.result) c.deref.ensures.value c.place_of-place.ensures in
    let absent = p.absent (omega arith) in
    rw (← c.self.view_is) (
      (
        refl,
        λ _. tt,
        ap (λ (o : Option Exchange). record { stored = c.self.inside.meaning; joined = joined_taken c.args.id c.args.n o c.self.inside.connections.items })
            (sym absent)
            ∙ ap (λ (l : List Joined). record { stored = c.self.inside.meaning; joined = l }) (taken_is c.args.id c.args.n c.self.inside.connections.items),
      ),
      record { bytes = absent; counts = tt },
    )

same_bytes : (n : ℕ) (exchange : Exchange) → bytes_in (with_taken n exchange) ≡ bytes_in exchange
same_bytes n (Reading bytes) = refl
same_bytes n (Answered reply taken) = refl

pub returns : goal.returns
returns g c =
    let p = subst (λ (l : List Joined). IsPlace c.args.id l c.place_of-place.result) c.deref.ensures.value c.place_of-place.ensures in
    let e = c.index_mut.result.now in
    let new = c.count-from.new.self in
    let cs = c.self.inside.connections.items in
    let r = c.count-from.result in
    let exchange_is = p.there e (omega (arith, p.within)) ∙ ap (λ (x : Joined). Some x.exchange) (sym c.index_mut.ensures.value) in
    let new_exchange = ap (λ (x : Joined). x.exchange) c.count-from.ensures.counts in
    let put = p.put e new (omega (arith, p.within)) (ap (λ (x : Joined). x.id) c.count-from.ensures.counts ∙ ap (λ (x : Joined). x.id) c.index_mut.ensures.value) in
    let at_new : c.index.result.now ≡ new = c.index.ensures ∙ get_or-set_at cs c.place_of-place.result c.place_of-place.result new _ refl (omega (arith, p.within)) in
    let bytes_are : c.bytes.result.now ≡ bytes_in e.exchange = c.bytes.ensures ∙ ap (λ (x : Joined). bytes_in x.exchange) at_new ∙ ap bytes_in new_exchange ∙ same_bytes c.args.n e.exchange in
    rw (← c.self.view_is) (
      (
        refl,
        λ _. tt,
        ap (λ (l : List Joined). record { stored = c.self.inside.meaning; joined = l })
            (put ∙ ap (λ (l : Exchange). put_exchange c.args.id l cs) new_exchange ∙ ap (λ (o : Option Exchange). joined_taken c.args.id c.args.n o cs) (sym exchange_is)
            ∙ taken_is c.args.id c.args.n cs),
      ),
      record {
        bytes = (e.exchange, exchange_is, ap (λ (l : List ℕ). take (r.1 - r.0) (drop r.0 l)) bytes_are ∙ sym c.count-from.ensures.bytes.is);
        counts = tt;
      },
    )

use Rattle.std.proofs.Common.{arith, subst, refl, ◌++◌, take}
use Rattle.qs_service_connections.specs.inner.Serve.{IsAnsweredWith}
use Rattle.qs_service_connections.specs.inner.Receive.{bytes_read}
use Rattle.qs_service_connections.proofs.Listening.{consumes_more, consumes_none, keeps_same, nothing_yet}
use Rattle.qs_service_connections.proofs.stream.listen.Goals as goal

pub loop-init : goal.loop-init
loop-init g c = rw c.new-session.ensures record {
  reading = tt;
  more = nothing_yet;
  left = consumes_none _;
  sent = keeps_same _;
  faults = refl;
  stored = refl;
  reads = omega arith;
}

pub returns-in-Some-clause-results : goal.returns-in-Some-clause-results
returns-in-Some-clause-results g c =
    let inv = c.loop.invariant in
    let read = bytes_read c.loop.session ++ take c.in-Ok.n c.get.new.buf in (
      read,
      consumes_more _ _ _ _ _ inv.left c.in-Ok.ensures.bytes.0,
      subst (λ (old : g.row.M.Denot). IsAnsweredWith g.M.Meaning.carries old read c.receive.new.meaning c.in-Some.reply) inv.stored c.in-Some.ensures,
    )

use Rattle.std.proofs.Common.{◌≡◌, ◌≤◌, length}
use Rattle.std.specs.Io.KnownBytes.{Keeps, Consumes}
use Rattle.qs_http.specs.Outcome.{More}
use Rattle.qs_http.specs.RequestOf.{IsRequestOf}
use Rattle.qs_service_connections.specs.inner.Receive.{IsReading, bytes_read}
use Rattle.qs_service_connections.proofs.stream.listen.Given as goal

abbrev pub invariant-loop : goal.invariant-loop
invariant-loop g l = record {
  reading : IsReading l.session;
  more : IsRequestOf (bytes_read l.session) More;
  left : Consumes (g.S.Stream.left l.initial.stream) (g.S.Stream.left l.stream) (bytes_read l.session);
  sent : Keeps (g.S.Stream.sent l.initial.stream) (g.S.Stream.sent l.stream);
  faults : g.S.Sink.faults l.stream ≡ g.S.Sink.faults l.initial.stream;
  stored : l.meaning ≡ l.initial.meaning;
  reads : l.counter ≤ length (bytes_read l.session);
}

use Rattle.std.proofs.Common.{◌≡◌, ◌≤◌, ◌*◌, take, length}
use Rattle.std.specs.Io.KnownBytes.{Appends}
use Rattle.qs_nquads.specs.inner.Joined.{joined}
use Rattle.qs_nquads.proofs.output.put_lines.Given as goal

abbrev pub invariant-loop-line : goal.invariant-loop-line
invariant-loop-line g l = record {
  taken : Appends (g.S.Sink.taken l.initial.out) (g.S.Sink.taken l.out) (joined (take l.line-index l.lines));
  faults : g.S.Sink.faults l.out ≡ g.S.Sink.faults l.initial.out;
  count : l.written ≡ length (joined (take l.line-index l.lines));
  small : l.written ≤ l.line-index * 18446744073709551615;
}

use Rattle.std.proofs.Common.{◌≡◌, ◌≤◌, length, map, take}
use Rattle.httparse.specs.Spans.{header_bytes}
use Rattle.qs_http.specs.Head.{first_of}
use Rattle.qs_http.specs.inner.HeadView.{values_in}
use Rattle.qs_http.proofs.head.Head.values.Given as goal

abbrev pub invariant-loop-field : goal.invariant-loop-field
invariant-loop-field l =
    let values = values_in l.name (map (header_bytes l.self.bytes.now) (take l.field-index l.self.fields.now)) in
    (l.found.count ≡ length values) × (l.found.first.now ≡ first_of values) × (l.found.count ≤ l.field-index)

use Rattle.std.proofs.Common.{arith, refl, map, take}
use Rattle.httparse.specs.Spans.{header_bytes}
use Rattle.qs_http.specs.inner.HeadView.{values_in}
use Rattle.qs_http.specs.inner.HeadView.{AreValues}
use Rattle.qs_http.proofs.Values.{values_yes, values_no}
use Rattle.qs_http.proofs.head.Head.values.Goals.{then-is_same_word, else-is_same_word}
use Rattle.qs_http.proofs.head.Head.values.Goals as goal

pub loop-field-init : goal.loop-field-init
unfolding values_in
loop-field-init c = (refl, refl, omega arith)

pub and-found-requires : goal.and-found-requires
and-found-requires c = omega arith

pub loop-field-preserved : goal.loop-field-preserved
loop-field-preserved c =
    let old = values_in c.args.name.now (map (header_bytes c.args.self.now.bytes.now) (take c.loop-field.field-index c.args.self.now.fields.now)) in
    let known : AreValues c.loop-field.found old = record { count = c.loop-field.invariant.0; first = c.loop-field.invariant.1 } in
    elim c.if-is_same_word.branch [
      | then-is_same_word w ↦
          let e = values_yes _ _ c.args.self.now.fields.now c.loop-field.field-index _ c.of.result.now w.of-then-is_same_word.result.now
          (omega arith) c.of.ensures w.of-then-is_same_word.ensures w.if-is_same_word.ensures in
          let more = w.and-found.ensures.more _ known in
          rw (w.found-is, e) (more.count, more.first, omega (arith, w.and-found.ensures.count))
      | else-is_same_word w ↦
          let e = values_no _ _ c.args.self.now.fields.now c.loop-field.field-index _ c.of.result.now (omega arith) c.of.ensures w.if-is_same_word.ensures in
          rw (w.found-is, e) (known.count, known.first, omega arith)
    ]

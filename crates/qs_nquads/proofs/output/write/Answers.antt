use Rattle.std.proofs.Common.{◌≡◌, ◌<◌, ◌∙◌, take, length, ap, subst}
use Rattle.std.specs.Io.KnownBytes.{Appends}
use Rattle.qs_nquads.specs.Written.{nquads_of}
use Rattle.qs_nquads.specs.inner.Joined.{joined}
use Rattle.qs_nquads.proofs.Sorting.{written}
use Rattle.qs_nquads.proofs.output.write.Goals as goal

pub returns-in-Ok-put_lines-clause-written : goal.returns-in-Ok-put_lines-clause-written
returns-in-Ok-put_lines-clause-written g c =
    subst (λ z. Appends (g.S.Sink.taken c.args.out.now) (g.S.Sink.taken c.put_lines.new.out) z) (ap joined c.as_slice.ensures.value ∙ (ap joined c.in-Ok.ensures ∙ written c.args.quads.now)) c.in-Ok-put_lines.ensures.taken

pub returns-clause-written : goal.returns-clause-written
returns-clause-written g c =
    let text : joined c.as_slice.result.now ≡ nquads_of c.args.quads.now = ap joined c.as_slice.ensures.value ∙ (ap joined c.in-Ok.ensures ∙ written c.args.quads.now) in (
      subst (λ z. c.in-Err-put_lines.written < length z) text c.in-Err-put_lines.ensures.part,
      subst (λ z. Appends (g.S.Sink.taken c.args.out.now) (g.S.Sink.taken c.put_lines.new.out) (take c.in-Err-put_lines.written z)) text c.in-Err-put_lines.ensures.taken,
    )

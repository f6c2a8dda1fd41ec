use Rattle.std.proofs.Common.{◌++◌, ◌∙◌, ap, sym, get_or, take, append_assoc, ◌<◌, length, arith}
use Rattle.qs_nquads.specs.Written.{escaped_byte}
use Rattle.qs_nquads.specs.inner.Written.{escaped}
use Rattle.qs_nquads.proofs.Lines.{escaped_step}
use Rattle.qs_nquads.proofs.written.push_escaped.Goals as goal

pub loop-byte-preserved : goal.loop-byte-preserved
loop-byte-preserved c =
    let i = c.loop-byte.byte-index in let form = c.args.form.now in
    let lt : i < length form = omega arith in
    c.in_ok-push_escaped_byte.ensures ∙ (ap (λ z. z ++ escaped_byte (get_or form i 0)) c.loop-byte.invariant
    ∙ (append_assoc c.args.out.now.items (escaped (take i form)) (escaped_byte (get_or form i 0)) ∙ ap (λ z. c.args.out.now.items ++ z) (sym (escaped_step form i lt))))

use Rattle.std.proofs.Common.{◌≡◌, ◌<◌, ◌≤◌, ℕ, List, ◌+◌, ◌*◌, ◌++◌, ◌∙◌, take, length, get_or, ap, sym, subst, arith, length-append}
use Rattle.std.proofs.lemmas.List.{take_all}
use Rattle.std.specs.Io.KnownBytes.{Appends}
use Rattle.qs_nquads.specs.inner.Joined.{joined}
use Rattle.qs_nquads.proofs.Lines.{appends_both, front, longer, joined_step}
use Rattle.qs_nquads.proofs.output.put_lines.Goals as goal

pub returns-then-sent-bytes-clause-taken : goal.returns-then-sent-bytes-clause-taken
returns-then-sent-bytes-clause-taken g c =
    let ls = c.args.lines.now in let i = c.loop-line.line-index in
    let bytes = c.as_bytes-bytes.result.now in
    let lt : i < length ls = omega arith in
    let d : List ℕ = c.line-item.result in
    let is : bytes ≡ get_or ls i d = c.as_bytes-bytes.ensures ∙ c.line-item.is in
    let sent : ℕ = c.put_all-sent.result in
    let bound : sent ≤ length bytes = c.put_all-sent.ensures.bound in
    let le : sent ≤ length (get_or ls i d) = subst (λ z. sent ≤ length z) is bound in
    let text : joined (take i ls) ++ take sent bytes ≡ take (c.loop-line.written + sent) (joined ls) =
    ap (λ z. joined (take i ls) ++ take sent z) is ∙ (sym (front ls i sent d lt le) ∙ ap (λ n. take (n + sent) (joined ls)) (sym c.loop-line.invariant.count)) in
    subst (λ z. Appends (g.S.Sink.taken c.args.out.now) (g.S.Sink.taken c.put_all-sent.new.sink) z) text
    (appends_both (g.S.Sink.taken c.args.out.now) (g.S.Sink.taken c.loop-line.out) (g.S.Sink.taken c.put_all-sent.new.sink) (joined (take i ls)) (take sent bytes) c.loop-line.invariant.taken c.put_all-sent.ensures.taken)

pub returns-then-sent-bytes-clause-part : goal.returns-then-sent-bytes-clause-part
returns-then-sent-bytes-clause-part g c =
    let ls = c.args.lines.now in let i = c.loop-line.line-index in
    let bytes = c.as_bytes-bytes.result.now in
    let lt : i < length ls = omega arith in
    let d : List ℕ = c.line-item.result in
    let is : bytes ≡ get_or ls i d = c.as_bytes-bytes.ensures ∙ c.line-item.is in
    let len : length bytes ≡ length (get_or ls i d) = ap length is in
    let l : length (joined (take i ls)) + length (get_or ls i d) ≤ length (joined ls) = longer ls i d lt in
    let n : c.loop-line.written ≡ length (joined (take i ls)) = c.loop-line.invariant.count in
    let short : c.put_all-sent.result < length bytes = omega arith in
    omega arith

pub loop-line-preserved : goal.loop-line-preserved
loop-line-preserved g c =
    let ls = c.args.lines.now in let i = c.loop-line.line-index in
    let bytes = c.as_bytes-bytes.result.now in
    let lt : i < length ls = omega arith in
    let d : List ℕ = c.line-item.result in
    let is : bytes ≡ get_or ls i d = c.as_bytes-bytes.ensures ∙ c.line-item.is in
    let sent : ℕ = c.put_all-sent.result in
    let bound : sent ≤ length bytes = c.put_all-sent.ensures.bound in
    let all : sent ≡ length bytes = omega arith in
    let same_len : length bytes ≡ length (get_or ls i d) = ap length is in
    let whole : take sent bytes ≡ bytes = take_all sent bytes (omega arith) in
    let text : joined (take i ls) ++ take sent bytes ≡ joined (take (i + 1) ls) = ap (λ z. joined (take i ls) ++ z) (whole ∙ is) ∙ sym (joined_step ls i d lt) in
    let len : length (joined (take (i + 1) ls)) ≡ length (joined (take i ls)) + length (get_or ls i d) = ap length (joined_step ls i d lt) ∙ simp length-append in
    let n : c.loop-line.written ≡ length (joined (take i ls)) = c.loop-line.invariant.count in
    let small : c.loop-line.written ≤ i * 18446744073709551615 = c.loop-line.invariant.small in
    let count : c.loop-line.written + sent ≡ length (joined (take (i + 1) ls)) = omega arith in
    record {
      taken = subst (λ z. Appends (g.S.Sink.taken c.args.out.now) (g.S.Sink.taken c.put_all-sent.new.sink) z) text
          (appends_both (g.S.Sink.taken c.args.out.now) (g.S.Sink.taken c.loop-line.out) (g.S.Sink.taken c.put_all-sent.new.sink) (joined (take i ls)) (take sent bytes) c.loop-line.invariant.taken c.put_all-sent.ensures.taken);
      faults = c.put_all-sent.ensures.whole all ∙ c.loop-line.invariant.faults;
      count = count;
      small = omega arith;
    }

use Rattle.std.proofs.Common.{◌≡◌, ℕ, List, length, reverse, slice_range, sym, ap, ◌∙◌, arith}
use Rattle.std.proofs.lemmas.List.{reverse-reverse, take_all}
use Rattle.httparse.specs.Grammar.{skip_ows, trim_ows}
use Rattle.httparse.proofs.TrimLemmas.{skip_ows_yes, skip_ows_no, slice_first, slice_last, slice_empty}
use Rattle.qs_http.proofs.bytes.trim_ows.Goals.{then-loop-start-test+else-is_ows, else-loop-start-test, then-loop-end-test+else-is_ows-2, else-loop-end-test}
use Rattle.qs_http.proofs.bytes.trim_ows.Goals as goal

pub loop-end-init : goal.loop-end-init
unfolding trim_ows
loop-end-init c =
    let end = length c.args.bytes.now in
    let here = slice_range c.args.bytes.now c.loop-start.start end in
    let stays : skip_ows here ≡ here =
    elim c.loop-start-test.branch [
      | then-loop-start-test+else-is_ows w ↦
          skip_ows_no (slice_first c.args.bytes.now _ end w.loop-start-test.true (omega arith)) w.if-is_ows.ensures
      | else-loop-start-test w ↦
          let empty = slice_empty c.args.bytes.now c.loop-start.start end (omega arith) (omega arith) in
          ap skip_ows empty ∙ sym empty
    ] in
    (omega arith, omega arith, ap (λ (t : List ℕ). reverse (skip_ows (reverse t))) (c.loop-start.invariant.2 ∙ stays))

pub loop-end-preserved : goal.loop-end-preserved
loop-end-preserved c =
    let last = slice_last c.args.bytes.now c.loop-start.start c.loop-end.end c.loop-end-test.true (omega arith) in
    (omega arith, omega arith, c.loop-end.invariant.2 ∙ ap reverse (skip_ows_yes last c.if-is_ows-2.ensures))

pub returns : goal.returns
returns c =
    let whole : slice_range c.args.bytes.now 0 (length c.args.bytes.now) ≡ c.args.bytes.now = take_all _ c.args.bytes.now (omega arith) in
    let here = slice_range c.args.bytes.now c.loop-start.start c.loop-end.end in
    let stays : skip_ows (reverse here) ≡ reverse here =
    elim c.loop-end-test.branch [
      | then-loop-end-test+else-is_ows-2 w ↦
          skip_ows_no (slice_last c.args.bytes.now c.loop-start.start c.loop-end.end w.loop-end-test.true (omega arith)) w.if-is_ows-2.ensures
      | else-loop-end-test w ↦
          let empty = slice_empty c.args.bytes.now c.loop-start.start c.loop-end.end (omega arith) (omega arith) in
          ap (λ (t : List ℕ). skip_ows (reverse t)) empty ∙ ap reverse (sym empty)
    ] in
    sym (ap trim_ows (sym whole) ∙ c.loop-end.invariant.2 ∙ ap reverse stays ∙ reverse-reverse here)

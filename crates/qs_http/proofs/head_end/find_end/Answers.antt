use Rattle.std.proofs.Common.{◌∙◌, sym, ap, ℕ, ◌+◌, drop, arith, List}
use Rattle.std.proofs.lemmas.List.{drop_all}
use Rattle.qs_http.specs.declared.head_end.HeadState.{HeadState}
use Rattle.qs_http.specs.inner.HeadEnd.{later}
use Rattle.qs_http.specs.inner.HeadState.{end_from, place_from}
use Rattle.qs_http.proofs.Ends.{end_found_at, end_on_at, place_on_at, end_from-nil, place_from-nil}
use Rattle.qs_http.proofs.head_end.find_end.Goals as goal

pub returns-then-ends_head-clause-end : goal.returns-then-ends_head-clause-end
returns-then-ends_head-clause-end c =
    let found = end_found_at c.loop-i.place c.args.piece.now c.loop-i.i (omega arith) (sym c.ends_head.ensures ∙ c.if-ends_head.true) in
    sym (c.loop-i.invariant.0 ∙ found)

pub loop-i-preserved : goal.loop-i-preserved
loop-i-preserved c =
    let rest : List ℕ = drop (c.loop-i.i + 1) c.args.piece.now in (
      c.loop-i.invariant.0 ∙ end_on_at c.loop-i.place c.args.piece.now c.loop-i.i (omega arith) (sym c.ends_head.ensures ∙ c.if-ends_head.false)
          ∙ ap (λ (p : HeadState). later (c.loop-i.i + 1) (end_from p rest)) (sym c.after.ensures),
      c.loop-i.invariant.1 ∙ place_on_at c.loop-i.place c.args.piece.now c.loop-i.i (omega arith)
          ∙ ap (λ (p : HeadState). place_from p rest) (sym c.after.ensures),
    )

pub returns-clause-end : goal.returns-clause-end
returns-clause-end c =
    sym (c.loop-i.invariant.0 ∙ ap (λ (l : List ℕ). later c.loop-i.i (end_from c.loop-i.place l)) (drop_all c.loop-i.i c.args.piece.now (omega arith))
    ∙ ap (later c.loop-i.i) (end_from-nil c.loop-i.place))

pub returns-clause-place : goal.returns-clause-place
returns-clause-place c = λ _.
    sym (c.loop-i.invariant.1 ∙ ap (place_from c.loop-i.place) (drop_all c.loop-i.i c.args.piece.now (omega arith))
    ∙ place_from-nil c.loop-i.place)

use Rattle.std.proofs.Common.{◌<◌, ◌∷◌, ◌++◌, [], length, refl, sym, ap, arith}
use Rattle.qs_nquads.specs.inner.Reading.{on}
use Rattle.qs_nquads.specs.inner.Unread.{reading, state}
use Rattle.qs_nquads.proofs.AfterStatement.{whole_done}
use Rattle.qs_nquads.proofs.Fronts.{Front, front_of}
use Rattle.qs_nquads.proofs.Steps.{some_from, goes_on, stops_with}
use Rattle.qs_nquads.proofs.Stops.{stop_of}
use Rattle.qs_nquads.proofs.reader.read_statement.Goals as goal
use Rattle.qs_nquads.proofs.reader.read_statement.Goals.{In-Some, In-Ok-None, In-Ok-Some}

pub tokens-init : goal.tokens-init
tokens-init c = record { text = c.utf8.text; utf8 = c.utf8.text; shorter = omega arith; comes = λ from quads h. h }

front : (c : In-Some) → Front c.behind_gap-front.result.now c.in-Some.len
front c = front_of _ c.in-Some.class _ c.behind_gap-front.utf8 (sym c.in-Some.ensures)

pub split_at-requires : goal.split_at-requires
split_at-requires c = (front c).boundary

pub tokens-smaller : goal.tokens-smaller
tokens-smaller c =
    let f = front ((goal.at.tokens-smaller c).In-Some) in
    let less : length c.split_at.result.1.now < length c.tokens.rest.now = omega (arith, f.some, c.split_at.ensures.back_len, c.behind_gap-front.ensures.len) in
    less

pub tokens-preserved : goal.tokens-preserved
tokens-preserved c =
    let f = front ((goal.at.tokens-preserved c).In-Some) in
    record {
      text = rw c.split_at.ensures.back f.utf8;
      utf8 = rw c.split_at.ensures.back f.utf8;
      shorter = omega (arith, c.split_at.ensures.back_len, c.behind_gap-front.ensures.len, c.tokens.invariant.shorter);
      comes = λ from quads h. rw c.split_at.ensures.back
          (on _ _ (c.tokens.invariant.comes from quads h) (goes_on (reading c.tokens.place c.tokens.labels quads) c.tokens.rest.now c.behind_gap-front.result.now c.behind_gap-front.ensures.value c.in-Some.class c.in-Some.len
          (reading c.read_front.new.place c.read_front.new.labels quads)
          (some_from _ c.if-is_empty.ensures) (sym c.in-Some.ensures) (rw (← c.split_at.ensures.front) (rw c.in-Ok-None.field-0-is at (c.in-Ok-None.ensures.read quads)))));
    }

pub returns-in-Ok-Some-clause-shorter : goal.returns-in-Ok-Some-clause-shorter
returns-in-Ok-Some-clause-shorter c =
    let f = front ((goal.at.returns-in-Ok-Some-clause-shorter c).In-Some) in
    omega (arith, f.some, c.split_at.ensures.back_len, c.behind_gap-front.ensures.len, c.tokens.invariant.shorter)

pub returns-in-Ok-Some-clause-read : goal.returns-in-Ok-Some-clause-read
returns-in-Ok-Some-clause-read c = λ from quads h. rw c.split_at.ensures.back
    (on _ _ (c.tokens.invariant.comes from quads h) (goes_on (reading c.tokens.place c.tokens.labels quads) c.tokens.rest.now c.behind_gap-front.result.now c.behind_gap-front.ensures.value c.in-Some.class c.in-Some.len
    (reading c.read_front.new.place c.read_front.new.labels (quads ++ c.in-Ok-Some.quad ∷ []))
    (some_from _ c.if-is_empty.ensures) (sym c.in-Some.ensures) (rw (← c.split_at.ensures.front) (rw c.in-Ok-Some.field-0-is at (c.in-Ok-Some.ensures.read quads)))))

pub returns-in-Err-clause-read : goal.returns-in-Err-clause-read
returns-in-Err-clause-read c = λ from quads h.
    stop_of _ _ _
    (λ m. (
      state c.tokens.place c.tokens.labels c.tokens.rest.now quads,
      c.behind_gap-front.result.now,
      c.tokens.invariant.comes from quads h,
      stops_with (reading c.tokens.place c.tokens.labels quads) c.tokens.rest.now c.behind_gap-front.result.now c.behind_gap-front.ensures.value c.in-Some.class c.in-Some.len c.in-Err.kind
          (some_from _ c.if-is_empty.ensures) (sym c.in-Some.ensures) (rw (← c.split_at.ensures.front) (c.in-Err.ensures.fault quads m)),
      refl,
    ))
    (state c.tokens.place c.tokens.labels c.tokens.rest.now quads, c.tokens.invariant.comes from quads h, ap length c.behind_gap-front.ensures.value, some_from _ c.if-is_empty.ensures)

pub returns-in-Ok-Some-clause-done : goal.returns-in-Ok-Some-clause-done
returns-in-Ok-Some-clause-done c =
    whole_done [] c.in-Ok-Some.quad c.read_front.new.place c.read_front.new.labels c.tokens.place c.tokens.labels c.in-Some.class c.split_at.result.0.now
    (rw c.in-Ok-Some.field-0-is at (c.in-Ok-Some.ensures.read []))

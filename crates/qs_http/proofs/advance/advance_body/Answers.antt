use Rattle.std.proofs.Common.{◌≡◌, ◌∙◌, ap, sym, subst, arith, inl, length, List, ℕ, ◌<◌, ◌+◌, ◌++◌, ◌-◌, length-append, length-take}
use Rattle.std.proofs.lemmas.List.{take_all}
use Rattle.qs_http.specs.Outcome.{More}
use Rattle.qs_http.specs.inner.Stage.{AwaitsBody}
use Rattle.qs_http.specs.inner.Feeding.{Reading}
use Rattle.qs_http.proofs.Steps.{awaits-kept, request_waits, ends_more, front_and_rest}
use Rattle.qs_http.proofs.advance.advance_body.Goals as goal

pub returns-then-piece-room-clause-step : goal.returns-then-piece-room-clause-step
returns-then-piece-room-clause-step c =
    let all : c.front_of.result.now ≡ c.args.piece.now = c.front_of.ensures ∙ take_all _ c.args.piece.now (omega arith) in
    let same : c.in-Ok.joined.items ≡ c.args.bytes.items ++ c.args.piece.now = c.in-Ok.ensures ∙ ap (λ (l : List ℕ). c.args.bytes.items ++ l) all in
    let awaits = awaits-kept c.args.bytes.items c.args.piece.now c.args.end c.args.size c.requires.0 in
    let short : length (c.args.bytes.items ++ c.args.piece.now) < c.args.end + c.args.size = omega (arith, length-append c.args.bytes.items c.args.piece.now) in
    inl (More, request_waits _ c.args.end c.args.size awaits short, ap (λ (l : List ℕ). Reading l) same)

pub returns-then-piece-room-clause-sound : goal.returns-then-piece-room-clause-sound
returns-then-piece-room-clause-sound c =
    let awaits = awaits-kept c.args.bytes.items c.front_of.result.now c.args.end c.args.size c.requires.0 in
    let all : c.front_of.result.now ≡ c.args.piece.now = c.front_of.ensures ∙ take_all _ c.args.piece.now (omega arith) in
    let sum : length c.in-Ok.joined.items < c.args.end + c.args.size =
    omega (arith, ap length c.in-Ok.ensures, length-append c.args.bytes.items c.front_of.result.now, ap length all) in
    (subst (λ (l : List ℕ). AwaitsBody l c.args.end c.args.size) (sym c.in-Ok.ensures) awaits, sum, omega arith, omega arith)

pub finish-requires-clause-awaits : goal.finish-requires-clause-awaits
finish-requires-clause-awaits c =
    subst (λ (l : List ℕ). AwaitsBody l c.args.end c.args.size) (sym (c.deref.ensures.value ∙ c.in-Ok.ensures))
    (awaits-kept c.args.bytes.items c.front_of.result.now c.args.end c.args.size c.requires.0)

pub finish-requires-clause-whole : goal.finish-requires-clause-whole
finish-requires-clause-whole c =
    omega (
      arith,
      ap length c.deref.ensures.value,
      ap length c.in-Ok.ensures,
      length-append c.args.bytes.items c.front_of.result.now,
      ap length c.front_of.ensures,
      length-take (c.args.end + c.args.size - c.len.result) c.args.piece.now,
    )

pub returns-clause-step : goal.returns-clause-step
returns-clause-step c =
    ends_more c.deref.result.now _ _ _
    (front_and_rest c.args.bytes.items c.args.piece.now c.front_of.result.now c.deref.result.now _ c.front_of.ensures (c.deref.ensures.value ∙ c.in-Ok.ensures)) c.finish.ensures.step

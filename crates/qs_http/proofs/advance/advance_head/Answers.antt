use Rattle.std.proofs.Common.{◌≡◌, take, ◌∙◌, ap, sym, refl, subst, arith, inl, length, List, ℕ, Some, None, ◌<◌, ◌++◌, drop, append_assoc, take-append-drop, length-append}
use Rattle.qs_http.specs.Outcome.{More, Refused}
use Rattle.qs_http.specs.declared.fixed_reply.Fixed.TheVariants.{HeadTooLarge}
use Rattle.qs_http.specs.HeadEnd.{head_end}
use Rattle.qs_http.specs.inner.Stage.{seen_of}
use Rattle.qs_http.specs.inner.Feeding.{StandsAt, Reading}
use Rattle.qs_http.proofs.Steps.{head_ends, head_goes_on, place_goes_on, request_before, request_too_long}
use Rattle.qs_http.proofs.advance.advance_head.Goals as goal

two_parts : (bytes piece last behind head : List ℕ) (end : ℕ) → last ≡ take end piece → behind ≡ drop end piece → head ≡ bytes ++ last
    → head ++ behind ≡ bytes ++ piece
two_parts bytes piece last behind head end last_is behind_is head_is =
    ap (λ (l : List ℕ). l ++ behind) (head_is ∙ ap (λ (l : List ℕ). bytes ++ l) last_is) ∙ append_assoc bytes (take end piece) behind
    ∙ ap (λ (l : List ℕ). bytes ++ (take end piece ++ l)) behind_is ∙ ap (λ (l : List ℕ). bytes ++ l) (take-append-drop end piece)

pub split_at-requires : goal.split_at-requires
split_at-requires c =
    (head_ends c.args.bytes.items c.args.piece.now c.front_of.result.now _ c.len-room.result _ c.in-Some.end c.args.place
    (omega arith) c.requires.0 c.requires.1 c.requires.2 refl c.front_of.ensures c.in-Some.ensures.end refl).1

pub advance_ended-requires : goal.advance_ended-requires
advance_ended-requires c =
    let ends = head_ends c.args.bytes.items c.args.piece.now c.front_of.result.now c.split_at.result.0.now c.len-room.result _ c.in-Some.end c.args.place
    (omega arith) c.requires.0 c.requires.1 c.requires.2 refl c.front_of.ensures c.in-Some.ensures.end c.split_at.ensures.front in
    subst (λ (l : List ℕ). head_end l ≡ Some (length l)) (sym c.in-Ok.ensures) ends.0

pub returns-in-Ok-clause-step : goal.returns-in-Ok-clause-step
returns-in-Ok-clause-step c =
    subst (λ (l : List ℕ). StandsAt l (seen_of c.advance_ended.result))
    (two_parts c.args.bytes.items c.args.piece.now c.split_at.result.0.now c.split_at.result.1.now c.in-Ok.head.items c.in-Some.end c.split_at.ensures.front c.split_at.ensures.back c.in-Ok.ensures)
    c.advance_ended.ensures.step

pub returns-then-room-piece-clause-step : goal.returns-then-room-piece-clause-step
returns-then-room-piece-clause-step c =
    let none : head_end (c.args.bytes.items ++ c.args.piece.now) ≡ None =
    head_goes_on c.args.bytes.items c.args.piece.now (c.args.bytes.items ++ c.args.piece.now) c.front_of.result.now c.len-room.result c.args.place None
    (omega arith) c.requires.0 c.requires.1 c.requires.2 refl c.front_of.ensures c.in-None.ensures.end in
    inl (Refused HeadTooLarge, request_too_long _ none (omega (arith, length-append c.args.bytes.items c.args.piece.now)), refl)

pub returns-in-Ok-with_piece-clause-step : goal.returns-in-Ok-with_piece-clause-step
returns-in-Ok-with_piece-clause-step c =
    let same : c.in-Ok-with_piece.bytes.items ≡ c.args.bytes.items ++ c.args.piece.now = c.in-Ok-with_piece.ensures in
    let none : head_end (c.args.bytes.items ++ c.args.piece.now) ≡ None =
    head_goes_on c.args.bytes.items c.args.piece.now (c.args.bytes.items ++ c.args.piece.now) c.front_of.result.now c.len-room.result c.args.place None
    (omega arith) c.requires.0 c.requires.1 c.requires.2 refl c.front_of.ensures c.in-None.ensures.end in
    inl (More, request_before _ none (omega (arith, length-append c.args.bytes.items c.args.piece.now)), ap (λ (l : List ℕ). Reading l) same)

pub returns-in-Ok-with_piece-clause-sound : goal.returns-in-Ok-with_piece-clause-sound
returns-in-Ok-with_piece-clause-sound c =
    let same : c.in-Ok-with_piece.bytes.items ≡ c.args.bytes.items ++ c.args.piece.now = c.in-Ok-with_piece.ensures in
    let short : length c.in-Ok-with_piece.bytes.items < 16384 = omega (arith, ap length same, length-append c.args.bytes.items c.args.piece.now) in (
      head_goes_on c.args.bytes.items c.args.piece.now c.in-Ok-with_piece.bytes.items c.front_of.result.now c.len-room.result c.args.place None
          (omega arith) c.requires.0 c.requires.1 c.requires.2 same c.front_of.ensures c.in-None.ensures.end,
      short,
      place_goes_on c.args.bytes.items c.args.piece.now c.in-Ok-with_piece.bytes.items c.front_of.result.now c.len-room.result c.args.place _
          (omega arith) short c.requires.2 same c.front_of.ensures (c.in-None.ensures.place refl),
    )

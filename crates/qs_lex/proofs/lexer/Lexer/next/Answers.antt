use Rattle.std.proofs.Common.{◌≡◌, length, sym, ◌∙◌, ap, arith, eqb-true}
use Rattle.qs_lex.specs.inner.Unread.{Unread}
use Rattle.qs_lex.proofs.TokenList.{Front, front_of, place_is, some_from}
use Rattle.qs_lex.proofs.Steps.{read_more, read_all, read_stops}
use Rattle.qs_lex.proofs.Prefix.{barren_behind, barren_front}
use Rattle.qs_lex.proofs.lexer.Lexer.next.Goals as goal
use Rattle.qs_lex.proofs.lexer.Lexer.next.Goals.{In-Some}

front : (c : In-Some) → Front c.after_gap-front.result.now c.in-Some.class c.in-Some.len
front c = front_of _ _ _ c.after_gap-front.utf8 (sym c.in-Some.ensures)

pub returns-then-is_empty-clause-next : goal.returns-then-is_empty-clause-next
returns-then-is_empty-clause-next c = λ ts h.
    let empty : length c.after_gap-front.result.now ≡ 0 = eqb-true _ 0 (sym c.is_empty.ensures ∙ c.if-is_empty.true) in
    read_all c.args.self.now c.self.inside.text.now c.self.inside.rest.now c.after_gap-front.result.now ts c.self.view_is h c.after_gap-front.ensures.chars empty

pub look-ahead-requires : goal.look-ahead-requires
look-ahead-requires c b = barren_front _ _ _ c.after_gap-front.ensures.chars (c.self.invariant.1 b)

pub returns-in_default-clause-fault : goal.returns-in_default-clause-fault
returns-in_default-clause-fault c = λ ts h.
    read_stops c.args.self.now c.self.inside.text.now c.self.inside.rest.now c.after_gap-front.result.now ts c.self.view_is h c.after_gap-front.ensures.chars c.after_gap-front.utf8
    (some_from _ c.if-is_empty.ensures) (omega (arith, c.after_gap-front.ensures.len, c.self.invariant.0)) (sym c.in_default.ensures)

pub split_at-requires : goal.split_at-requires
split_at-requires c = (front c).boundary

pub invariant_of-self : goal.invariant_of-self
invariant_of-self c =
    let f = front ((goal.at.invariant_of-self c).In-Some) in (
      omega (arith, c.split_at.ensures.back_len, c.after_gap-front.ensures.len, c.self.invariant.0),
      λ b. rw (c.split_at.ensures.back, f.after) (barren_behind _ f.x f.more _ f.text (c.look-ahead.ensures b)),
    )

pub returns-clause-next : goal.returns-clause-next
returns-clause-next c = λ ts h.
    let f = front ((goal.at.returns-clause-next c).In-Some) in
    read_more c.args.self.now c.self.inside.text.now c.self.inside.rest.now c.split_at.result.1.now ts _ f.x f.more c.self.view_is h
    (sym c.after_gap-front.ensures.chars ∙ f.text) f.longest (c.split_at.ensures.front ∙ f.token)
    (place_is _ _ _ c.after_gap-front.utf8 (omega (arith, c.after_gap-front.ensures.len, c.self.invariant.0)) f.text) (rw c.split_at.ensures.back f.after)

pub returns-clause-shorter : goal.returns-clause-shorter
returns-clause-shorter c =
    let f = front ((goal.at.returns-clause-shorter c).In-Some) in
    let same : length c.self.inside.rest.now ≡ length c.args.self.now.rest = ap (λ (u : Unread). length u.rest) c.self.view_is in
    omega (arith, f.some, c.split_at.ensures.back_len, c.after_gap-front.ensures.len, same)

pub returns-clause-within : goal.returns-clause-within
returns-clause-within c =
    let same : length c.self.inside.text.now ≡ length c.args.self.now.bytes = ap (λ (u : Unread). length u.bytes) c.self.view_is in
    omega (arith, c.split_at.ensures.front_len, c.split_at.ensures.back_len, c.after_gap-front.ensures.len, c.self.invariant.0, same)

use Rattle.std.proofs.Common.{◌≡◌, ◌+◌, ◌-◌, length, length-take, length-drop, ap, sym, subst, ◌∙◌, arith, ◌≤◌}
use Rattle.qs_index.specs.inner.Layout.{joined, page_at, rest_at, room_of, open_room_of}
use Rattle.qs_index.proofs.Spares.{page_split_low, page_split_high, rest_split_low, rest_split_high, joined-split, room_split}
use Rattle.qs_index.proofs.order.make_room.Goals as goal

pub returns-then-place-le-HALF-clause-at : goal.returns-then-place-le-HALF-clause-at
returns-then-place-le-HALF-clause-at c =
    let e = ap (λ r. length (page_at r c.args.place.page)) c.split.ensures.pages ∙ ap length (page_split_low c.args.pages.now.pages c.args.place.page c.requires.page) in
    let t = length-take 128 (page_at c.args.pages.now.pages c.args.place.page) in omega (arith, c.if-place-le-HALF.true, c.if-page_len-lt-PAGE.false, c.page_len.ensures.len)

pub returns-then-place-le-HALF-clause-free : goal.returns-then-place-le-HALF-clause-free
returns-then-place-le-HALF-clause-free c =
    let e = ap (λ r. length (page_at r c.args.place.page)) c.split.ensures.pages ∙ ap length (page_split_low c.args.pages.now.pages c.args.place.page c.requires.page) in
    let t = length-take 128 (page_at c.args.pages.now.pages c.args.place.page) in omega arith

pub returns-then-place-le-HALF-clause-rest : goal.returns-then-place-le-HALF-clause-rest
returns-then-place-le-HALF-clause-rest c =
    ap (λ r. rest_at r c.args.place.page c.args.place.at) c.split.ensures.pages ∙ rest_split_low c.args.pages.now.pages c.args.place.page c.args.place.at c.requires.page

pub returns-then-place-le-HALF-clause-entries : goal.returns-then-place-le-HALF-clause-entries
returns-then-place-le-HALF-clause-entries c =
    ap joined c.split.ensures.pages ∙ joined-split c.args.pages.now.pages c.args.place.page c.requires.page

pub returns-then-place-le-HALF-clause-room : goal.returns-then-place-le-HALF-clause-room
returns-then-place-le-HALF-clause-room c =
    subst (λ r. room_of c.args.pages.now.pages c.args.pages.now.spare ≤ open_room_of r c.split.new.self.spare) (sym c.split.ensures.pages) (room_split c.args.pages.now.pages c.args.pages.now.spare c.split.new.self.spare c.args.place.page c.requires.page (omega (arith, c.if-page_len-lt-PAGE.false, c.page_len.ensures.len, c.page_len.ensures.size.1)) c.split.ensures.spare)

pub returns-clause-at : goal.returns-clause-at
returns-clause-at c =
    let e = ap (λ r. length (page_at r (c.args.place.page + 1))) c.split.ensures.pages ∙ ap length (page_split_high c.args.pages.now.pages c.args.place.page c.requires.page) in
    let t = length-drop 128 (page_at c.args.pages.now.pages c.args.place.page) in omega (arith, c.requires.at)

pub returns-clause-free : goal.returns-clause-free
returns-clause-free c =
    let e = ap (λ r. length (page_at r (c.args.place.page + 1))) c.split.ensures.pages ∙ ap length (page_split_high c.args.pages.now.pages c.args.place.page c.requires.page) in
    let t = length-drop 128 (page_at c.args.pages.now.pages c.args.place.page) in omega (arith, c.page_len.ensures.len, c.page_len.ensures.size.1)

pub returns-clause-rest : goal.returns-clause-rest
returns-clause-rest c =
    let sum : 128 + (c.args.place.at - 128) ≡ c.args.place.at = omega (arith, c.if-place-le-HALF.false) in
    ap (λ r. rest_at r (c.args.place.page + 1) (c.args.place.at - 128)) c.split.ensures.pages ∙ rest_split_high c.args.pages.now.pages c.args.place.page (c.args.place.at - 128) c.requires.page (omega (arith, c.if-page_len-lt-PAGE.false, c.page_len.ensures.len, c.page_len.ensures.size.1)) ∙ ap (rest_at c.args.pages.now.pages c.args.place.page) sum

pub returns-clause-entries : goal.returns-clause-entries
returns-clause-entries c =
    ap joined c.split.ensures.pages ∙ joined-split c.args.pages.now.pages c.args.place.page c.requires.page

pub returns-clause-room : goal.returns-clause-room
returns-clause-room c =
    subst (λ r. room_of c.args.pages.now.pages c.args.pages.now.spare ≤ open_room_of r c.split.new.self.spare) (sym c.split.ensures.pages) (room_split c.args.pages.now.pages c.args.pages.now.spare c.split.new.self.spare c.args.place.page c.requires.page (omega (arith, c.if-page_len-lt-PAGE.false, c.page_len.ensures.len, c.page_len.ensures.size.1)) c.split.ensures.spare)

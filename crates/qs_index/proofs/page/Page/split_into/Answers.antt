use Rattle.std.proofs.Common.{◌≡◌, ◌-◌, take, length, drop, arith, [], ap, ◌∙◌}
use Rattle.std.proofs.lemmas.List.{length-drop, take_rest}
use Rattle.qs_index.proofs.PageEdits.{kept_of_ok}
use Rattle.qs_index.proofs.page.Page.split_into.Goals as goal

pub returns-clause-upper : goal.returns-clause-upper
returns-clause-upper c =
    let none : c.upper.inside.entries.items ≡ [] = c.upper.view_is ∙ c.requires.empty in
    let n = length-drop 128 c.self.inside.entries.items in
    let d = c.deref.ensures.value in
    let same = c.self.view_is in
    let room = c.upper.invariant.room in
    let full : length c.self.inside.entries.items ≡ 256 = ap length same ∙ c.requires.full in
    let part = ap (λ r. take (length r - 128) (drop 128 r)) d ∙ take_rest c.self.inside.entries.items 128 in
    let few = ap length part in
    let held = ap length none in
    let ok = c.extend_from_slice.ensures.succeeds (omega (arith, c.upper.inside.entries.ok.0)) in
    kept_of_ok _ _ _ _ ok c.extend_from_slice.ensures.items none ∙ part ∙ ap (drop 128) same

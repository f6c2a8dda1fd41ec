-- What is due is what was met and what is left.
use Rattle.std.proofs.Common.{◌≡◌, true, false, Some, map, drop}
use Rattle.std.specs.Prelude.{string_bytes}
use Rattle.qs_expr_values.specs.inner.Value.{term_of}
use Rattle.qs_expr_meaning.specs.Truth.{either, both}
use Rattle.qs_expr_meaning.specs.inner.SoFar.{so_far, any_from, every_from, among_from, sum_from, product_from, first_from}
use Rattle.qs_expr_meaning.specs.inner.Joined as joining
use Rattle.qs_expr_meaning.specs.Meaning.{meaning}
use Rattle.qs_expr_meaning.proofs.evaluate.+value.Given as goal

abbrev pub invariant-is_any-loop-disjunct : goal.invariant-is_any-loop-disjunct
invariant-is_any-loop-disjunct g l = let m = g.B.Bindings.solution l.bindings in any_from m l.parts 0 ≡ either (so_far false l.errs) (any_from m l.parts l.disjunct-index)

abbrev pub invariant-is_every-loop-conjunct : goal.invariant-is_every-loop-conjunct
invariant-is_every-loop-conjunct g l = let m = g.B.Bindings.solution l.bindings in every_from m l.parts 0 ≡ both (so_far true l.fails) (every_from m l.parts l.conjunct-index)

abbrev pub invariant-is_among-loop-member : goal.invariant-is_among-loop-member
invariant-is_among-loop-member g l =
    let m = g.B.Bindings.solution l.bindings in
    among_from m (Some (term_of l.x)) l.parts 0 ≡ either (so_far false l.unknown) (among_from m (Some (term_of l.x)) l.parts l.member-index)

abbrev pub invariant-with_addends-loop-addend : goal.invariant-with_addends-loop-addend
invariant-with_addends-loop-addend g l =
    let m = g.B.Bindings.solution l.bindings in
    sum_from m (Some l.fn.first) l.more 0 ≡ sum_from m (Some l.sum) l.more l.addend-index

abbrev pub invariant-with_factors-loop-part : goal.invariant-with_factors-loop-part
invariant-with_factors-loop-part g l =
    let m = g.B.Bindings.solution l.bindings in
    product_from m (Some l.fn.first) l.more 0 ≡ product_from m (Some l.product) l.more l.part-index

abbrev pub invariant-first_of-loop-part : goal.invariant-first_of-loop-part
invariant-first_of-loop-part g l =
    let m = g.B.Bindings.solution l.bindings in
    first_from m l.parts 0 ≡ first_from m l.parts l.part-index

abbrev pub invariant-concatenation-loop-part : goal.invariant-concatenation-loop-part
invariant-concatenation-loop-part g l =
    let m = g.B.Bindings.solution l.bindings in
    joining.joined_from joining.nothing (map (meaning m) l.parts) ≡ joining.joined_from (string_bytes l.form, joining.tag_seen l.tag) (map (meaning m) (drop l.part-index l.parts))

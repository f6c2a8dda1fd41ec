use Rattle.std.proofs.Common.{◌++◌, [], map, take, drop, set, get_or, ap, sym, ◌∙◌, arith, add-one}
use Rattle.qs_index.specs.inner.Permutation.{restored}
use Rattle.qs_index.proofs.Unions.{mapped_more}
use Rattle.qs_index.proofs.permutation.Permutation.restore_all.Goals as goal

pub loop-entry-preserved : goal.loop-entry-preserved
loop-entry-preserved c =
    let f = restored c.args.self in
    let i = c.loop-entry.entry-index in
    let old = c.args.entries.now in
    ap (set c.loop-entry.entries i) c.restore.ensures ∙ ap (λ k. set k i (f (get_or k i []))) c.loop-entry.invariant
    ∙ mapped_more f old i (omega (arith, c.loop-entry-test.true))
    ∙ ap (λ j. map f (take j old) ++ drop j old) (sym (add-one i))

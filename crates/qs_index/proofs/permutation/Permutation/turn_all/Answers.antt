use Rattle.std.proofs.Common.{◌<◌, ◌++◌, subst, [], map, take, drop, set, get_or, length, ap, sym, ◌∙◌, arith, add-one}
use Rattle.std.specs.List.{All}
use Rattle.std.proofs.lemmas.List.{take_more_set}
use Rattle.std.proofs.lemmas.List.Elements.{All-push}
use Rattle.qs_index.specs.inner.Entry.{IsEntry}
use Rattle.qs_index.specs.inner.Permutation.{turned}
use Rattle.qs_index.proofs.Unions.{mapped_more}
use Rattle.qs_index.proofs.permutation.Permutation.turn_all.Goals as goal

pub loop-entry-preserved : goal.loop-entry-preserved
loop-entry-preserved c =
    let f = turned c.args.self in
    let i = c.loop-entry.entry-index in
    let old = c.args.entries.now in
    let within : i < length c.loop-entry.entries = omega (arith, c.loop-entry-test.true) in
    record {
      turned = ap (set c.loop-entry.entries i) c.turn.ensures.turned ∙ ap (λ k. set k i (f (get_or k i []))) c.loop-entry.invariant.turned ∙ mapped_more f old i (omega (arith, c.loop-entry-test.true)) ∙ ap (λ j. map f (take j old) ++ drop j old) (sym (add-one i));
      entries = subst (All IsEntry) (sym (take_more_set c.loop-entry.entries i c.turn.result within)) (All-push IsEntry (take i c.loop-entry.entries) c.turn.result c.loop-entry.invariant.entries c.turn.ensures.entry);
    }

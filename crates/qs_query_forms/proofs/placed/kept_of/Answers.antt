use Rattle.std.proofs.Common.{◌∷◌, ◌++◌, ◌-◌, [], ◌≡◌, ◌∙◌, ap, append-nil, refl, take}
use Rattle.qs_algebra_solutions.specs.Solution.{Solution}
use Rattle.qs_query_order.specs.declared.keyed.KeyedRow.{KeyedRow}
use Rattle.qs_query_order.specs.inner.Keyed.{solutions_of}
use Rattle.qs_query_order.proofs.Keeping.{keyed_more, keyed_part}
use Rattle.qs_query_forms.specs.inner.Placed.{itself}
use Rattle.qs_query_forms.proofs.Places.{all_seen, one_seen}
use Rattle.qs_query_forms.proofs.placed.kept_of.Goals as goal

pub loop-row-preserved-in_ok-keep : goal.loop-row-preserved-in_ok-keep
loop-row-preserved-in_ok-keep c =
    let cs = c.args.conditions.now in
    let old = c.loop-row.kept.items in
    let one : KeyedRow Solution = record { keys = c.in_ok-keys.keys; row = c.in-Some.row } in
    let before = c.loop-row.invariant in
    record {
      front = c.in_ok-keep.ensures.front;
      keyed = keyed_part itself cs (old ++ one ∷ []) c.keep.new.kept.items c.in_ok-keep.ensures.part (keyed_more itself cs old (old ++ one ∷ []) one refl before.keyed c.in_ok-keys.ensures);
      kept = (
        before.kept.0 ++ c.in-Some.row ∷ [],
        one_seen c.args.rows.items before.kept.0 c.loop-row.rows.items c.pop.new.self.items c.in-Some.row c.in-Some.ensures.items before.kept.1,
        c.in_ok-keep.ensures.kept itself before.kept.0 before.keyed c.in_ok-keys.ensures before.kept.2,
      );
    }

pub loop-row-preserved : goal.loop-row-preserved
loop-row-preserved c =
    let cs = c.args.conditions.now in
    let old = c.loop-row.kept.items in
    let one : KeyedRow Solution = record { keys = c.in_ok-keys.keys; row = c.in-Some.row } in
    let before = c.loop-row.invariant in
    record {
      front = c.in_ok-keep.ensures.front;
      keyed = keyed_part itself cs (old ++ one ∷ []) c.keep.new.kept.items c.in_ok-keep.ensures.part (keyed_more itself cs old (old ++ one ∷ []) one refl before.keyed c.in_ok-keys.ensures);
      kept = (
        before.kept.0 ++ c.in-Some.row ∷ [],
        one_seen c.args.rows.items before.kept.0 c.loop-row.rows.items c.pop.new.self.items c.in-Some.row c.in-Some.ensures.items before.kept.1,
        c.in_ok-keep.ensures.kept itself before.kept.0 before.keyed c.in_ok-keys.ensures before.kept.2,
      );
    }

pub returns-clause-kept : goal.returns-clause-kept
returns-clause-kept c =
    let before = c.loop-row.invariant in
    let rows = c.loop-row.rows.items in
    let none : rows ≡ [] = c.in_default.ensures.items ∙ (append-nil c.pop.new.self.items ∙ (c.in_default.ensures.rest ∙ ap (λ n. take (n - 1) rows) c.in_default.ensures.cases.0)) in
    all_seen c.args.conditions.now c.args.count c.args.rows.items before.kept.0 rows (solutions_of itself c.loop-row.kept.items) none before.kept.1 before.kept.2

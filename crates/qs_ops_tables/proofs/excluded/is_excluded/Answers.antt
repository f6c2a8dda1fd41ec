use Rattle.std.proofs.Common.{◌||◌, sym, ap, ◌∙◌, drop, take}
use Rattle.std.specs.List.{list_any}
use Rattle.qs_ops_tables.specs.inner.Tables.{excludes_cells}
use Rattle.qs_ops_tables.proofs.Excluding.{is_hash, excluded_first, excluded_none, excluded_meets}
use Rattle.qs_ops_tables.proofs.excluded.is_excluded.Goals as goal

pub loop-other-init : goal.loop-other-init
loop-other-init c =
    let x = c.args.index.now in
    let m = take c.args.width c.args.row.now in
    excluded_first x.key.items c.args.rows.now c.hash_of-hash.result m (is_hash x.key.items c.hash_of-hash.result m (rw c.as_slice.ensures.value at c.hash_of-hash.ensures)) c.first_for-at.result c.first_for-at.ensures

pub returns-in_default : goal.returns-in_default
returns-in_default c =
    let x = c.args.index.now in
    let m = take c.args.width c.args.row.now in
    sym (c.loop-other.invariant
    ∙ excluded_none x.key.items c.args.rows.now c.hash_of-hash.result m (is_hash x.key.items c.hash_of-hash.result m (rw c.as_slice.ensures.value at c.hash_of-hash.ensures)) c.loop-other.at c.in_default.ensures)

pub returns-then-excludes : goal.returns-then-excludes
returns-then-excludes c =
    let x = c.args.index.now in
    let m = take c.args.width c.args.row.now in
    sym (c.loop-other.invariant
    ∙ (excluded_meets x.key.items c.args.rows.now c.hash_of-hash.result m (is_hash x.key.items c.hash_of-hash.result m (rw c.as_slice.ensures.value at c.hash_of-hash.ensures)) c.loop-other.at c.in-Some.other.now c.in-Some.next c.in-Some.ensures
    ∙ ap (λ b. b || list_any (excludes_cells m) (drop c.in-Some.next c.args.rows.now)) (sym c.excludes.ensures ∙ c.if-excludes.true)))

pub loop-other-preserved : goal.loop-other-preserved
loop-other-preserved c =
    let x = c.args.index.now in
    let m = take c.args.width c.args.row.now in
    c.loop-other.invariant
    ∙ (excluded_meets x.key.items c.args.rows.now c.hash_of-hash.result m (is_hash x.key.items c.hash_of-hash.result m (rw c.as_slice.ensures.value at c.hash_of-hash.ensures)) c.loop-other.at c.in-Some.other.now c.in-Some.next c.in-Some.ensures
    ∙ ap (λ b. b || list_any (excludes_cells m) (drop c.in-Some.next c.args.rows.now)) (sym c.excludes.ensures ∙ c.if-excludes.false))

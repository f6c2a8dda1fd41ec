use Rattle.std.proofs.Common.{subst}
use Rattle.qs_plan.specs.inner.Sames.{MissesAll}
use Rattle.qs_plan.proofs.Sames.{triple_is_scan, path_is_scan}
use Rattle.qs_plan.proofs.Tables.{table_is_scan}
use Rattle.qs_plan.proofs.Unions.{union_is_scan}
use Rattle.qs_plan.proofs.order.+scans.Goals as goal

pub is_scan-returns-then-looks_in : goal.is_scan-returns-then-looks_in
is_scan-returns-then-looks_in t c h =
    triple_is_scan c.args.register c.args.stage.now c.in-Triple.look c.in-Triple.pattern c.in-Triple.is (c.looks_in.ensures c.if-looks_in.true) (c.triple_misses.ensures h)

pub is_scan-returns-then-looks_in-2 : goal.is_scan-returns-then-looks_in-2
is_scan-returns-then-looks_in-2 t c h =
    path_is_scan c.args.register c.args.stage.now c.in-Path.look c.in-Path.pattern c.in-Path.is (c.looks_in-in-Path.ensures c.if-looks_in-2.true) (c.path_misses.ensures h)

pub is_scan-returns-in-Values : goal.is_scan-returns-in-Values
is_scan-returns-in-Values t c h =
    table_is_scan c.args.register c.args.stage.now c.in-Values.table c.in-Values.is (subst (λ t. MissesAll c.args.register t.variables) c.get.ensures (c.table_misses.ensures h))

pub is_scan-returns-in-Union : goal.is_scan-returns-in-Union
is_scan-returns-in-Union t c h = union_is_scan c.args.register c.args.stage.now c.in-Union.branches c.as_slice.result.now c.in-Union.is c.as_slice.ensures (c.have_scans.ensures h)

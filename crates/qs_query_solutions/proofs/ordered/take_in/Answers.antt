use Rattle.std.proofs.Common.{◌∷◌, ◌++◌, [], ap, sym, subst}
use Rattle.qs_expr.specs.inner.Cell.{row_solution, FitsRow}
use Rattle.qs_query_solutions.specs.inner.SoFar.{AreSoFar}
use Rattle.qs_query_solutions.proofs.InOrder.{one_fits, one_so_far}
use Rattle.qs_query_solutions.proofs.ordered.take_in.Goals as goal

pub returns-clause-fits : goal.returns-clause-fits
returns-clause-fits g c h =
    one_fits c.args.op.now.known c.args.conditions.now c.args.count c.args.op.now.table c.args.kept.now.items c.keep.new.kept.items c.in_ok-one.one
    (subst (FitsRow c.args.op.now.known c.args.op.now.table) (sym c.in_ok-one.ensures.row) c.requires.fits) c.in_ok-spare.ensures.part h

pub returns-clause-kept : goal.returns-clause-kept
returns-clause-kept g c seen h =
    let known = c.args.op.now.known in
    let table = c.args.op.now.table in
    let cs = c.args.conditions.now in
    let one = c.in_ok-one.one in
    subst (λ m. AreSoFar known table cs c.args.count (seen ++ m ∷ []) c.keep.new.kept.items) (ap (row_solution known table) c.in_ok-one.ensures.row)
    (one_so_far known cs c.args.count table seen c.args.kept.now.items c.keep.new.kept.items one (subst (FitsRow known table) (sym c.in_ok-one.ensures.row) c.requires.fits) c.in_ok-one.ensures.keyed c.in_ok-spare.ensures.part
    (c.in_ok-spare.ensures.kept (row_solution known table) seen h.keyed c.in_ok-one.ensures.keyed h.are_kept) h)

use Rattle.std.proofs.Common.{◌∙◌, ◌∷◌, [], length, length-append, ap, refl, sym, subst, arith}
use Rattle.qs_expr.specs.inner.Cell.{row_solution}
use Rattle.qs_expr.specs.inner.Scratch.{Grows}
use Rattle.qs_query_solutions.proofs.Coming.{fewer}
use Rattle.qs_query_solutions.proofs.Listing.{Fitting, IsOnTheWay, none_more, one_fits, one_more, still_fit, too_many}
use Rattle.qs_query_solutions.proofs.cell_rows.list.Goals as goal

pub returns-in_default-clause-fits : goal.returns-in_default-clause-fits
returns-in_default-clause-fits g c =
    let at = c.loop-rows.op in
    let next = c.next.new.self in
    let rows = c.loop-rows.rows.items in
    let same = sym c.next.ensures.known in
    let grows : Grows next.known at.table next.table = subst (λ k. Grows k at.table next.table) same c.next.ensures.grows in
    still_fit next.known at.table next.table grows rows (subst (λ k. Fitting k at.table rows) same c.loop-rows.invariant.fits)

pub returns-in_default-clause-all : goal.returns-in_default-clause-all
returns-in_default-clause-all g c =
    let start = c.args.op.now.rows in
    let at = c.loop-rows.op in
    let next = c.next.new.self in
    let rows = c.loop-rows.rows.items in
    let same = sym c.next.ensures.known in
    let grows : Grows next.known at.table next.table = subst (λ k. Grows k at.table next.table) same c.next.ensures.grows in
    let fits : Fitting next.known at.table rows = subst (λ k. Fitting k at.table rows) same c.loop-rows.invariant.fits in
    let way : IsOnTheWay start next.known at.table at.rows rows = subst (λ k. IsOnTheWay start k at.table at.rows rows) same c.loop-rows.invariant.way in
    none_more next.known at.table next.table grows start at.rows rows fits way next.rows c.args.max_rows (rw c.in_default.is at c.in_ok-row.ensures.rows) c.loop-rows.invariant.few

pub returns-then-len-max_rows-clause-fault : goal.returns-then-len-max_rows-clause-fault
returns-then-len-max_rows-clause-fault g c =
    let start = c.args.op.now.rows in
    let at = c.loop-rows.op in
    let next = c.next.new.self in
    let rows = c.loop-rows.rows.items in
    let same = sym c.next.ensures.known in
    let grows : Grows next.known at.table next.table = subst (λ k. Grows k at.table next.table) same c.next.ensures.grows in
    let fits : Fitting next.known at.table rows = subst (λ k. Fitting k at.table rows) same c.loop-rows.invariant.fits in
    let way : IsOnTheWay start next.known at.table at.rows rows = subst (λ k. IsOnTheWay start k at.table at.rows rows) same c.loop-rows.invariant.way in
    λ n. (
      refl,
      too_many next.known at.table next.table grows start at.rows rows fits way (row_solution next.known next.table c.in-Some.row) next.rows c.args.max_rows (rw c.in-Some.is at c.in_ok-row.ensures.rows)
          (omega (arith, c.len.ensures, c.if-len-max_rows.true)),
    )

pub loop-rows-smaller : goal.loop-rows-smaller
loop-rows-smaller g c = fewer c.loop-rows.op.rows (row_solution c.next.new.self.known c.next.new.self.table c.in-Some.row) c.next.new.self.rows (rw c.in-Some.is at c.in_ok-row.ensures.rows)

pub loop-rows-preserved : goal.loop-rows-preserved
loop-rows-preserved g c =
    let start = c.args.op.now.rows in
    let at = c.loop-rows.op in
    let next = c.next.new.self in
    let rows = c.loop-rows.rows.items in
    let new = c.push.new.self.items in
    let row = c.in-Some.row in
    let same = sym c.next.ensures.known in
    let grows : Grows next.known at.table next.table = subst (λ k. Grows k at.table next.table) same c.next.ensures.grows in
    let fits : Fitting next.known at.table rows = subst (λ k. Fitting k at.table rows) same c.loop-rows.invariant.fits in
    let way : IsOnTheWay start next.known at.table at.rows rows = subst (λ k. IsOnTheWay start k at.table at.rows rows) same c.loop-rows.invariant.way in
    let count = ap length c.in_ok-push.ensures.items ∙ length-append rows (row ∷ []) in
    record {
      fits = one_fits next.known next.table rows new row (still_fit next.known at.table next.table grows rows fits) (rw c.in-Some.is at c.in_ok-row.ensures.fits) c.in_ok-push.ensures.items;
      few = omega (arith, count, c.loop-rows.invariant.few, c.len.ensures, c.if-len-max_rows.false);
      way = one_more next.known at.table next.table grows start at.rows rows fits way row next.rows new (rw c.in-Some.is at c.in_ok-row.ensures.rows) c.in_ok-push.ensures.items;
      known = c.next.ensures.known ∙ c.loop-rows.invariant.known;
    }

use Rattle.std.proofs.Common.{◌≡◌, ◌≤◌, ◌-◌, ℕ, suc, length, subst, sym, arith}
use Rattle.qs_expr.proofs.Growth.{goes_on}
use Rattle.qs_ops_walk.specs.inner.Setting.{known_of}
use Rattle.qs_ops_walk.specs.inner.Works.{code_of}
use Rattle.qs_ops_walk.specs.inner.Moves.{Goes, IsPassed}
use Rattle.qs_ops_walk.proofs.Settles.{settles_here}
use Rattle.qs_ops_walk.proofs.Settling.{settles_past, settles_before, settles_nothing, settles_one}
use Rattle.qs_ops_walk.proofs.Still.{ready_still}
use Rattle.qs_ops_walk.proofs.settle.settle.Goals as goal

pub returns-in_default-clause-settled : goal.returns-in_default-clause-settled
returns-in_default-clause-settled g c =
    let k : ℕ = c.loop-at.at - 1 in
    let a : c.loop-at.at ≡ suc k = omega arith in
    let l : length c.args.places.now ≤ k = c.in_default.ensures.lookup.3 in
    settles_past c.args.reader.now c.args.places.now c.args.next c.args.scratch.now c.args.row.now c.loop-at.at k c.loop-at.scratch c.loop-at.row c.loop-at.invariant.goes a l

pub returns-in-Nothing-clause-settled : goal.returns-in-Nothing-clause-settled
returns-in-Nothing-clause-settled g c =
    let k : ℕ = c.loop-at.at - 1 in
    let a : c.loop-at.at ≡ suc k = omega arith in
    settles_nothing c.args.reader.now c.args.places.now c.args.next c.args.scratch.now c.args.row.now c.loop-at.at k c.loop-at.scratch c.loop-at.row c.loop-at.invariant.goes a
    c.in-Some.place.now c.requires.forward c.in-Some.ensures.lookup.3.0 c.in-Some.ensures.lookup.1 c.pass.new.scratch c.pass.new.row c.in_ok-pass.field-0 c.in_ok-pass.ensures.passed c.in_ok-pass.ensures.alone c.in-Nothing.is

pub loop-at-smaller : goal.loop-at-smaller
loop-at-smaller g c =
    let k : ℕ = c.loop-at.at - 1 in
    let a : c.loop-at.at ≡ suc k = omega arith in
    omega (
      arith,
      c.next-at.ensures,
      settles_before c.args.reader.now c.args.places.now c.args.next c.args.scratch.now c.args.row.now c.loop-at.at k c.loop-at.scratch c.loop-at.row c.loop-at.invariant.goes a
          c.in-Some.place.now c.requires.forward c.in-Some.ensures.lookup.3.0 c.in-Some.ensures.lookup.1,
    )

pub loop-at-preserved : goal.loop-at-preserved
loop-at-preserved g c =
    let k : ℕ = c.loop-at.at - 1 in
    let a : c.loop-at.at ≡ suc k = omega arith in record {
      grows = goes_on (known_of c.args.reader.now) c.args.scratch.now c.loop-at.scratch c.pass.new.scratch c.loop-at.invariant.grows c.in_ok-pass.ensures.grows;
      ready = ready_still c.args.reader.now c.loop-at.scratch c.pass.new.scratch c.in_ok-pass.ensures.grows c.args.places.now c.loop-at.invariant.ready;
      goes = subst (λ (j : ℕ). Goes c.args.reader.now (code_of c.args.places.now) c.args.next c.args.scratch.now c.args.row.now j c.pass.new.scratch c.pass.new.row) (sym c.next-at.ensures)
          (settles_one c.args.reader.now c.args.places.now c.args.next c.args.scratch.now c.args.row.now c.loop-at.at k c.loop-at.scratch c.loop-at.row c.loop-at.invariant.goes a
          c.in-Some.place.now c.requires.forward c.in-Some.ensures.lookup.3.0 c.in-Some.ensures.lookup.1 c.pass.new.scratch c.pass.new.row c.in_ok-pass.field-0 c.in_ok-pass.ensures.passed c.in_ok-pass.ensures.alone c.in-One.is);
    }

pub returns-in-Many-clause-settled : goal.returns-in-Many-clause-settled
returns-in-Many-clause-settled g c =
    settles_here c.args.reader.now (code_of c.args.places.now) c.args.scratch.now c.args.next c.args.row.now c.loop-at.scratch c.pass.new.scratch c.loop-at.at c.loop-at.row c.pass.new.row c.loop-at.invariant.goes c.in_ok-pass.ensures.grows
    (subst (IsPassed c.args.reader.now c.in-Some.place.now.instr.stage c.loop-at.scratch c.loop-at.row c.pass.new.scratch c.pass.new.row) c.in-Many.is c.in_ok-pass.ensures.passed)

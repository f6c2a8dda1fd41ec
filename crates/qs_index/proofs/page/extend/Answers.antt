use Rattle.std.proofs.Common.{◌+◌, ◌<◌, [], length, get_or, arith, inr, sym, subst}
use Rattle.qs_index.proofs.Extending.{IsExtending, extending_put, extending_same, extending_stop, extending_end, pushed_of_ok}
use Rattle.qs_index.proofs.page.extend.Goals.{then-is_less, else-is_less+else-not-is_same}
use Rattle.qs_index.proofs.page.extend.Goals as goal

pub returns-then-not-is_same-clause-taken : goal.returns-then-not-is_same-clause-taken
returns-then-not-is_same-clause-taken c =
    let room = c.len.ensures in
    (extending_stop c.args.last.now c.args.list.now.items c.args.entries.now c.loop-read.read c.loop-read.last c.loop-read.list.items c.loop-read.invariant.extending c.loop-read-test.true (omega (arith, c.if-len-lt-PAGE.true)) (sym c.if-is_less.ensures) (sym c.if-not-is_same.ensures)).1

pub returns-then-not-is_same-clause-items : goal.returns-then-not-is_same-clause-items
returns-then-not-is_same-clause-items c =
    let room = c.len.ensures in
    (extending_stop c.args.last.now c.args.list.now.items c.args.entries.now c.loop-read.read c.loop-read.last c.loop-read.list.items c.loop-read.invariant.extending c.loop-read-test.true (omega (arith, c.if-len-lt-PAGE.true)) (sym c.if-is_less.ensures) (sym c.if-not-is_same.ensures)).0

pub loop-read-preserved : goal.loop-read-preserved
loop-read-preserved c =
    let u = c.loop-read.invariant in
    let room : length c.loop-read.list.items < 256 = omega (arith, c.len.ensures, c.if-len-lt-PAGE.true) in
    elim c.if-is_less.branch [
      | then-is_less w ↦ rw (w.list-is, w.last-is) record {
        extending = subst (IsExtending c.args.last.now c.args.list.now.items c.args.entries.now (c.loop-read.read + 1) (get_or c.args.entries.now c.loop-read.read []))
            (sym (pushed_of_ok _ _ _ _ (w.push.ensures.succeeds (omega (arith, room, u.capacity, c.requires.room))) w.push.ensures.items))
            (extending_put c.args.last.now c.args.list.now.items c.args.entries.now c.loop-read.read c.loop-read.last c.loop-read.list.items u.extending c.loop-read-test.true room (sym w.if-is_less.ensures));
        capacity = omega (arith, u.capacity, w.push.ensures.capacity);
      }
      | else-is_less+else-not-is_same w ↦ rw (w.list-is, w.last-is) record {
        extending = extending_same c.args.last.now c.args.list.now.items c.args.entries.now c.loop-read.read c.loop-read.last c.loop-read.list.items u.extending c.loop-read-test.true room (sym w.if-is_less.ensures) (sym w.if-not-is_same.ensures);
        capacity = u.capacity;
      }
    ]

pub returns-else-len-lt-PAGE-clause-taken : goal.returns-else-len-lt-PAGE-clause-taken
returns-else-len-lt-PAGE-clause-taken c =
    (extending_end c.args.last.now c.args.list.now.items c.args.entries.now c.loop-read.read c.loop-read.last c.loop-read.list.items c.loop-read.invariant.extending (inr (omega (arith, c.len.ensures, c.if-len-lt-PAGE.false)))).1

pub returns-else-len-lt-PAGE-clause-items : goal.returns-else-len-lt-PAGE-clause-items
returns-else-len-lt-PAGE-clause-items c =
    (extending_end c.args.last.now c.args.list.now.items c.args.entries.now c.loop-read.read c.loop-read.last c.loop-read.list.items c.loop-read.invariant.extending (inr (omega (arith, c.len.ensures, c.if-len-lt-PAGE.false)))).0

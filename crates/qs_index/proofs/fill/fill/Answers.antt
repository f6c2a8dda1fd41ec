use Rattle.std.proofs.Common.{◌+◌, ◌-◌, [], length, get_or, take, drop, refl, arith, rules, ap, sym, ◌∙◌, subst}
use Rattle.std.specs.Cmp.Lexicographic.{bytes_decides}
use Rattle.std.proofs.lemmas.List.{take_rest}
use Rattle.qs_index.specs.inner.Entries.{HaveFour, IsUnion}
use Rattle.qs_index.specs.inner.Layout.{joined}
use Rattle.qs_index.proofs.Distinct.{nothing_in_nil}
use Rattle.qs_index.proofs.Filled.{Filling, filling_first, filling_behind, filling_both, filling_same, filling_spare, some_of}
use Rattle.qs_index.proofs.Unions.{IsUnion-nil}
use Rattle.qs_index.proofs.fill.fill.Goals as goal

pub returns-then-is_empty-clause-union : goal.returns-then-is_empty-clause-union
returns-then-is_empty-clause-union c = subst (λ r. IsUnion [] [] (joined r)) (sym c.requires.none) (IsUnion-nil [] tt)

pub returns-then-is_empty-clause-four : goal.returns-then-is_empty-clause-four
returns-then-is_empty-clause-four c = subst (λ r. HaveFour (joined r)) (sym c.requires.none) (λ x m. absurd (nothing_in_nil x m))

pub returns-then-is_empty-clause-count : goal.returns-then-is_empty-clause-count
returns-then-is_empty-clause-count c = ap (λ r. length (joined r)) (sym c.requires.none)

pub put_last-requires : goal.put_last-requires
put_last-requires c =
    let some = some_of c.args.entries.now c.if-is_empty.ensures in
    omega (arith, c.requires.room)

pub loop-read-init : goal.loop-read-init
loop-read-init c = record {
  filling = filling_first c.args.entries.now c.args.pages.now.spare c.put_last.new.self.spare (get_or c.args.entries.now 0 []) c.args.pages.now.pages c.put_last.new.self.pages c.requires.none c.put_last.ensures.pages c.put_last.ensures.spare (some_of c.args.entries.now c.if-is_empty.ensures) refl (search rules);
}

pub append-requires : goal.append-requires
append-requires c =
    let u = c.loop-read.invariant.filling in
    record {
      some = u.held;
      behind = filling_behind c.args.entries.now _ c.loop-read.read c.loop-read.count _ c.loop-read.last _ c.loop-read.pages.pages u (sym c.is_less.ensures ∙ c.if-is_less.true);
      spare = λ h. filling_spare c.args.entries.now c.args.pages.now.spare c.loop-read.read c.loop-read.count c.loop-read.pages.spare c.loop-read.last c.loop-read.pages.pages u (omega (arith, c.loop-read-test.true)) c.requires.room h;
    }

pub loop-read-preserved : goal.loop-read-preserved
loop-read-preserved c = record {
  filling = filling_same c.args.entries.now c.args.pages.now.spare c.loop-read.read c.loop-read.count c.loop-read.pages.spare c.loop-read.last (get_or c.args.entries.now c.loop-read.read []) c.loop-read.pages.pages c.loop-read.invariant.filling c.loop-read-test.true refl ((bytes_decides _ _).0 (sym c.if-is_same.ensures));
}

pub loop-read-preserved-then-is_less : goal.loop-read-preserved-then-is_less
loop-read-preserved-then-is_less c =
    let u = c.loop-read.invariant.filling in
    let f = filling_both c.args.entries.now c.args.pages.now.spare c.loop-read.read c.loop-read.count c.loop-read.pages.spare c.append.new.pages.spare c.loop-read.last c.loop-read.pages.pages c.append.new.pages.pages c.extend-more.new.pages.pages (take (length c.args.entries.now - (c.loop-read.read + 1)) (drop (c.loop-read.read + 1) c.args.entries.now)) c.extend-more.result.read c.extend-more.result.count (take_rest c.args.entries.now (c.loop-read.read + 1)) u c.loop-read-test.true (λ k h. search rules) (sym c.if-is_less.ensures) c.append.ensures.some c.append.ensures.entries c.append.ensures.used c.append.ensures.filled c.append.ensures.all c.extend-more.ensures.read c.extend-more.ensures.pages c.extend-more.ensures.count in
    record { filling = subst (Filling c.args.entries.now c.args.pages.now.spare (c.loop-read.read + (1 + c.extend-more.result.read)) (c.loop-read.count + (1 + c.extend-more.result.count)) (get_or c.args.entries.now (c.loop-read.read + (1 + c.extend-more.result.read) - 1) []) c.extend-more.new.pages.pages) (sym c.extend-more.ensures.spare) f }

pub overflow_add-count : goal.overflow_add-count
overflow_add-count c =
    let u = c.loop-read.invariant.filling in
    let f = filling_both c.args.entries.now c.args.pages.now.spare c.loop-read.read c.loop-read.count c.loop-read.pages.spare c.append.new.pages.spare c.loop-read.last c.loop-read.pages.pages c.append.new.pages.pages c.extend-more.new.pages.pages (take (length c.args.entries.now - (c.loop-read.read + 1)) (drop (c.loop-read.read + 1) c.args.entries.now)) c.extend-more.result.read c.extend-more.result.count (take_rest c.args.entries.now (c.loop-read.read + 1)) u c.loop-read-test.true (λ k h. search rules) (sym c.if-is_less.ensures) c.append.ensures.some c.append.ensures.entries c.append.ensures.used c.append.ensures.filled c.append.ensures.all c.extend-more.ensures.read c.extend-more.ensures.pages c.extend-more.ensures.count in
    omega (arith, f.within, f.few)

pub bounds-entries-read-then-is_less : goal.bounds-entries-read-then-is_less
bounds-entries-read-then-is_less c =
    let u = c.loop-read.invariant.filling in
    let f = filling_both c.args.entries.now c.args.pages.now.spare c.loop-read.read c.loop-read.count c.loop-read.pages.spare c.append.new.pages.spare c.loop-read.last c.loop-read.pages.pages c.append.new.pages.pages c.extend-more.new.pages.pages (take (length c.args.entries.now - (c.loop-read.read + 1)) (drop (c.loop-read.read + 1) c.args.entries.now)) c.extend-more.result.read c.extend-more.result.count (take_rest c.args.entries.now (c.loop-read.read + 1)) u c.loop-read-test.true (λ k h. search rules) (sym c.if-is_less.ensures) c.append.ensures.some c.append.ensures.entries c.append.ensures.used c.append.ensures.filled c.append.ensures.all c.extend-more.ensures.read c.extend-more.ensures.pages c.extend-more.ensures.count in
    omega (arith, f.within, f.few)

pub overflow_add-read-then-is_less : goal.overflow_add-read-then-is_less
overflow_add-read-then-is_less c =
    let u = c.loop-read.invariant.filling in
    let f = filling_both c.args.entries.now c.args.pages.now.spare c.loop-read.read c.loop-read.count c.loop-read.pages.spare c.append.new.pages.spare c.loop-read.last c.loop-read.pages.pages c.append.new.pages.pages c.extend-more.new.pages.pages (take (length c.args.entries.now - (c.loop-read.read + 1)) (drop (c.loop-read.read + 1) c.args.entries.now)) c.extend-more.result.read c.extend-more.result.count (take_rest c.args.entries.now (c.loop-read.read + 1)) u c.loop-read-test.true (λ k h. search rules) (sym c.if-is_less.ensures) c.append.ensures.some c.append.ensures.entries c.append.ensures.used c.append.ensures.filled c.append.ensures.all c.extend-more.ensures.read c.extend-more.ensures.pages c.extend-more.ensures.count in
    omega (arith, f.within, f.few)

pub overflow_add-read-then-is_less-2 : goal.overflow_add-read-then-is_less-2
overflow_add-read-then-is_less-2 c =
    let u = c.loop-read.invariant.filling in
    let f = filling_both c.args.entries.now c.args.pages.now.spare c.loop-read.read c.loop-read.count c.loop-read.pages.spare c.append.new.pages.spare c.loop-read.last c.loop-read.pages.pages c.append.new.pages.pages c.extend-more.new.pages.pages (take (length c.args.entries.now - (c.loop-read.read + 1)) (drop (c.loop-read.read + 1) c.args.entries.now)) c.extend-more.result.read c.extend-more.result.count (take_rest c.args.entries.now (c.loop-read.read + 1)) u c.loop-read-test.true (λ k h. search rules) (sym c.if-is_less.ensures) c.append.ensures.some c.append.ensures.entries c.append.ensures.used c.append.ensures.filled c.append.ensures.all c.extend-more.ensures.read c.extend-more.ensures.pages c.extend-more.ensures.count in
    omega (arith, f.within, f.few)

pub overflow_add-count-then-is_less : goal.overflow_add-count-then-is_less
overflow_add-count-then-is_less c =
    let u = c.loop-read.invariant.filling in
    let f = filling_both c.args.entries.now c.args.pages.now.spare c.loop-read.read c.loop-read.count c.loop-read.pages.spare c.append.new.pages.spare c.loop-read.last c.loop-read.pages.pages c.append.new.pages.pages c.extend-more.new.pages.pages (take (length c.args.entries.now - (c.loop-read.read + 1)) (drop (c.loop-read.read + 1) c.args.entries.now)) c.extend-more.result.read c.extend-more.result.count (take_rest c.args.entries.now (c.loop-read.read + 1)) u c.loop-read-test.true (λ k h. search rules) (sym c.if-is_less.ensures) c.append.ensures.some c.append.ensures.entries c.append.ensures.used c.append.ensures.filled c.append.ensures.all c.extend-more.ensures.read c.extend-more.ensures.pages c.extend-more.ensures.count in
    omega (arith, f.within, f.few)

pub offset_bounds-entries-read-then-is_less-2 : goal.offset_bounds-entries-read-then-is_less-2
offset_bounds-entries-read-then-is_less-2 c =
    let u = c.loop-read.invariant.filling in
    let f = filling_both c.args.entries.now c.args.pages.now.spare c.loop-read.read c.loop-read.count c.loop-read.pages.spare c.append.new.pages.spare c.loop-read.last c.loop-read.pages.pages c.append.new.pages.pages c.extend-more.new.pages.pages (take (length c.args.entries.now - (c.loop-read.read + 1)) (drop (c.loop-read.read + 1) c.args.entries.now)) c.extend-more.result.read c.extend-more.result.count (take_rest c.args.entries.now (c.loop-read.read + 1)) u c.loop-read-test.true (λ k h. search rules) (sym c.if-is_less.ensures) c.append.ensures.some c.append.ensures.entries c.append.ensures.used c.append.ensures.filled c.append.ensures.all c.extend-more.ensures.read c.extend-more.ensures.pages c.extend-more.ensures.count in
    omega (arith, f.within, f.few)

pub returns-clause-within : goal.returns-clause-within
returns-clause-within c = c.loop-read.invariant.filling.within

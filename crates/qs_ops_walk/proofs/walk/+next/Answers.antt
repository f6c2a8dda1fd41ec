use Rattle.std.proofs.Common.{rules, ◌≡◌, ℕ, suc, ◌+◌, ◌-◌, ◌<◌, ◌++◌, ◌∷◌, [], List, length, map, take, refl, sym, ◌∙◌, ap, subst, Some, Ok, arith}
use Rattle.std.proofs.Math.ListN.{set}
use Rattle.std.proofs.lemmas.List.{take-set}
use Rattle.qs_terms.specs.Bag.{SameBag}
use Rattle.qs_algebra_solutions.specs.Solution.{Solution}
use Rattle.qs_expr.proofs.Growth.{goes_on, stays, still_row}
use Rattle.qs_ops_program.specs.inner.Heights.{stage_height, stages_height}
use Rattle.qs_ops_program.proofs.Unions.{optional_height}
use Rattle.qs_plan_meaning.specs.declared.stage.Group.{Group}
use Rattle.qs_ops_walk.specs.declared.work.Conditions.{Conditions}
use Rattle.qs_ops_tables.specs.inner.Tables.{TellsExcluded}
use Rattle.qs_ops_walk.specs.declared.source.Fork.{Fork as Branching}
use Rattle.qs_ops_walk.specs.declared.source.Level.{Level}
use Rattle.qs_ops_walk.specs.declared.source.Source.TheVariants as source
use Rattle.qs_ops_walk.specs.inner.Setting.{Setting, known_of}
use Rattle.qs_ops_walk.specs.inner.Works.{IsOptional, code_of}
use Rattle.qs_ops_walk.specs.inner.Coming.{coming}
use Rattle.qs_ops_walk.specs.inner.After.{IsJoining}
use Rattle.qs_ops_walk.specs.inner.Moves.{Goes, OpensAt}
use Rattle.qs_ops_walk.proofs.Bags.{chain, none_left, same}
use Rattle.qs_ops_walk.proofs.Placing.{height_at, ready_at, same_heights, set_code}
use Rattle.qs_ops_walk.proofs.Walks.{spent, ended, gave, hit}
use Rattle.qs_ops_walk.proofs.Finished.{finished_gives}
use Rattle.qs_ops_walk.proofs.Steps.{whole, changed, mid_fit, settled_walk, opened, opened_walk, triple_opened, triple_walk}
use Rattle.qs_ops_walk.proofs.FusedSteps.{quads_opened, quads_walk}
use Rattle.qs_ops_walk.proofs.JoinedSteps.{given_opened, given_walk, joined_opened, joined_walk}
use Rattle.qs_ops_walk.proofs.Opens.{opens_alike, opens_fed, opens_path, opens_names, opens_values, opens_union, opens_apart}
use Rattle.qs_ops_walk.proofs.Asides.{name_fits, only_fits, aside_made, right_more, opens_attempt, opens_unless, optional_still}
use Rattle.qs_ops_walk.proofs.Keeping.{put_keeps}
use Rattle.qs_ops_walk.proofs.Still.{right_still}
use Rattle.qs_ops_walk.proofs.Gathering.{named_some, gathers_more, gathers_fewer, gathers_all, gathers_fit}
use Rattle.qs_ops_walk.proofs.walk.+next.Goals as goal

pub advance-returns-in_default-2-clause-step : goal.advance-returns-in_default-2-clause-step
advance-returns-in_default-2-clause-step g t c =
    let s = c.args.reader.now in
    let ps = c.args.walk.now.places.items in
    let xs = c.args.walk.now.levels.items in
    let n = c.args.walk.now.levels.len in
    let l : Level = c.in-Some.level.now in
    let ls : List Level = take (n - 1) xs in
    let e : xs ≡ ls ++ l ∷ [] = whole xs n c.args.walk.now.levels.ok.0 (c.in-Some.ensures.variant.0 refl) l c.in-Some.ensures.value in
    let k : Level = c.next_of.new.level in
    let p : c.end_last.new.levels.items ≡ ls = c.end_last.ensures ∙ take-set xs (n - 1) k in
    rw p (spent s (code_of ps) c.args.scratch.now xs ls l e (rw c.in_default-2.is at c.in_ok-item.ensures.gives))

pub advance-returns-in_default-3-clause-walk : goal.advance-returns-in_default-3-clause-walk
advance-returns-in_default-3-clause-walk g t c =
    let s = c.args.reader.now in
    let ps = c.args.walk.now.places.items in
    let xs = c.args.walk.now.levels.items in
    let n = c.args.walk.now.levels.len in
    let l : Level = c.in-Some.level.now in
    let ls : List Level = take (n - 1) xs in
    let e : xs ≡ ls ++ l ∷ [] = whole xs n c.args.walk.now.levels.ok.0 (c.in-Some.ensures.variant.0 refl) l c.in-Some.ensures.value in
    let k : Level = c.next_of.new.level in
    let f : set xs (n - 1) k ≡ ls ++ k ∷ [] = changed xs n c.args.walk.now.levels.ok.0 (c.in-Some.ensures.variant.0 refl) k in
    settled_walk s c.args.scratch.now ps xs ls l e c.requires.walk k c.in_ok-item.ensures.fits (set xs (n - 1) k) f c.settle.new.scratch c.settle.ensures.grows

pub advance-returns-in_default-3-clause-step : goal.advance-returns-in_default-3-clause-step
advance-returns-in_default-3-clause-step g t c =
    let s = c.args.reader.now in
    let ps = c.args.walk.now.places.items in
    let xs = c.args.walk.now.levels.items in
    let n = c.args.walk.now.levels.len in
    let l : Level = c.in-Some.level.now in
    let ls : List Level = take (n - 1) xs in
    let e : xs ≡ ls ++ l ∷ [] = whole xs n c.args.walk.now.levels.ok.0 (c.in-Some.ensures.variant.0 refl) l c.in-Some.ensures.value in
    let k : Level = c.next_of.new.level in
    let f : set xs (n - 1) k ≡ ls ++ k ∷ [] = changed xs n c.args.walk.now.levels.ok.0 (c.in-Some.ensures.variant.0 refl) k in
    ended s (code_of ps) c.args.scratch.now xs ls l e c.in-Some-2.item k (rw c.in-Some-2.is at c.in_ok-item.ensures.gives).0 (set xs (n - 1) k) f c.settle.new.scratch c.settle.ensures.grows (mid_fit s c.args.scratch.now ps xs ls l e c.requires.walk k c.in_ok-item.ensures.fits (set xs (n - 1) k) f) c.settle.new.row (rw (c.in_default-3.is, c.as_slice-places.ensures.value) at c.in_ok-at.ensures.settled)

pub advance-returns-then-at-eq0-clause-walk : goal.advance-returns-then-at-eq0-clause-walk
advance-returns-then-at-eq0-clause-walk g t c =
    let s = c.args.reader.now in
    let ps = c.args.walk.now.places.items in
    let xs = c.args.walk.now.levels.items in
    let n = c.args.walk.now.levels.len in
    let l : Level = c.in-Some.level.now in
    let ls : List Level = take (n - 1) xs in
    let e : xs ≡ ls ++ l ∷ [] = whole xs n c.args.walk.now.levels.ok.0 (c.in-Some.ensures.variant.0 refl) l c.in-Some.ensures.value in
    let k : Level = c.next_of.new.level in
    let f : set xs (n - 1) k ≡ ls ++ k ∷ [] = changed xs n c.args.walk.now.levels.ok.0 (c.in-Some.ensures.variant.0 refl) k in
    settled_walk s c.args.scratch.now ps xs ls l e c.requires.walk k c.in_ok-item.ensures.fits (set xs (n - 1) k) f c.settle.new.scratch c.settle.ensures.grows

pub advance-returns-then-at-eq0-clause-step : goal.advance-returns-then-at-eq0-clause-step
advance-returns-then-at-eq0-clause-step g t c =
    let s = c.args.reader.now in
    let ps = c.args.walk.now.places.items in
    let xs = c.args.walk.now.levels.items in
    let n = c.args.walk.now.levels.len in
    let l : Level = c.in-Some.level.now in
    let ls : List Level = take (n - 1) xs in
    let e : xs ≡ ls ++ l ∷ [] = whole xs n c.args.walk.now.levels.ok.0 (c.in-Some.ensures.variant.0 refl) l c.in-Some.ensures.value in
    let k : Level = c.next_of.new.level in
    let f : set xs (n - 1) k ≡ ls ++ k ∷ [] = changed xs n c.args.walk.now.levels.ok.0 (c.in-Some.ensures.variant.0 refl) k in
    gave s (code_of ps) c.args.scratch.now xs ls l e c.in-Some-2.item k (rw c.in-Some-2.is at c.in_ok-item.ensures.gives).0 (set xs (n - 1) k) f c.settle.new.scratch c.settle.ensures.grows (mid_fit s c.args.scratch.now ps xs ls l e c.requires.walk k c.in_ok-item.ensures.fits (set xs (n - 1) k) f) c.settle.new.row (rw (c.in-Some-3.is, c.as_slice-places.ensures.value, c.if-at-eq0.true) at c.in_ok-at.ensures.settled)

pub advance-open_level-requires : goal.advance-open_level-requires
advance-open_level-requires g t c =
    let s = c.args.reader.now in
    let ps = c.args.walk.now.places.items in
    let xs = c.args.walk.now.levels.items in
    let n = c.args.walk.now.levels.len in
    let l : Level = c.in-Some.level.now in
    let ls : List Level = take (n - 1) xs in
    let e : xs ≡ ls ++ l ∷ [] = whole xs n c.args.walk.now.levels.ok.0 (c.in-Some.ensures.variant.0 refl) l c.in-Some.ensures.value in
    let k : Level = c.next_of.new.level in
    let f : set xs (n - 1) k ≡ ls ++ k ∷ [] = changed xs n c.args.walk.now.levels.ok.0 (c.in-Some.ensures.variant.0 refl) k in
    let u : c.in-Some-3.at ≡ suc (c.in-Some-3.at - 1) = omega arith in
    let o : OpensAt ps (Some c.in-Some-3.at) = rw (c.in-Some-3.is, c.as_slice-places.ensures.value) at c.in_ok-at.ensures.opens in
    let v : OpensAt ps (Some (suc (c.in-Some-3.at - 1))) = subst (λ (x : ℕ). OpensAt ps (Some x)) u o in
    let settled : Goes s (code_of ps) c.in-Some-2.item.next c.args.scratch.now c.in-Some-2.item.row c.in-Some-3.at c.settle.new.scratch c.settle.new.row = rw (c.in-Some-3.is, c.as_slice-places.ensures.value) at c.in_ok-at.ensures.settled in
    λ κs q. (omega arith, (q, (omega (arith, (v (c.in-Some-3.at - 1) refl).0, c.args.walk.now.places.ok.0), (c.settle.ensures.grows.table, (settled.fits, (settled_walk s c.args.scratch.now ps xs ls l e c.requires.walk k c.in_ok-item.ensures.fits (set xs (n - 1) k) f c.settle.new.scratch c.settle.ensures.grows, v))))))

pub advance-returns-clause-step : goal.advance-returns-clause-step
advance-returns-clause-step g t c =
    let s = c.args.reader.now in
    let ps = c.args.walk.now.places.items in
    let xs = c.args.walk.now.levels.items in
    let n = c.args.walk.now.levels.len in
    let l : Level = c.in-Some.level.now in
    let ls : List Level = take (n - 1) xs in
    let e : xs ≡ ls ++ l ∷ [] = whole xs n c.args.walk.now.levels.ok.0 (c.in-Some.ensures.variant.0 refl) l c.in-Some.ensures.value in
    let k : Level = c.next_of.new.level in
    let f : set xs (n - 1) k ≡ ls ++ k ∷ [] = changed xs n c.args.walk.now.levels.ok.0 (c.in-Some.ensures.variant.0 refl) k in
    let u : c.in-Some-3.at ≡ suc (c.in-Some-3.at - 1) = omega arith in
    let settled : Goes s (code_of ps) c.in-Some-2.item.next c.args.scratch.now c.in-Some-2.item.row c.in-Some-3.at c.settle.new.scratch c.settle.new.row = rw (c.in-Some-3.is, c.as_slice-places.ensures.value) at c.in_ok-at.ensures.settled in
    let z : Goes s (code_of ps) c.in-Some-2.item.next c.args.scratch.now c.in-Some-2.item.row (suc (c.in-Some-3.at - 1)) c.settle.new.scratch c.settle.new.row =
    subst (λ (x : ℕ). Goes s (code_of ps) c.in-Some-2.item.next c.args.scratch.now c.in-Some-2.item.row x c.settle.new.scratch c.settle.new.row) u settled in
    let o = c.in_ok-open_level.ensures.opened in
    hit s (code_of ps) c.args.scratch.now xs ls l e c.in-Some-2.item k (rw c.in-Some-2.is at c.in_ok-item.ensures.gives).0 (set xs (n - 1) k) f c.settle.new.scratch c.settle.ensures.grows (mid_fit s c.args.scratch.now ps xs ls l e c.requires.walk k c.in_ok-item.ensures.fits (set xs (n - 1) k) f) c.settle.new.row (suc (c.in-Some-3.at - 1)) z c.open_level.new.scratch c.open_level.ensures.grows o.level c.open_level.new.walk.levels.items o.items o.opens

pub next_named-returns-clause-gives : goal.next_named-returns-clause-gives
next_named-returns-clause-gives g t c =
    named_some c.args.reader.now (code_of c.args.walk.now.places.items) c.args.scratch.now c.next_row.new.scratch c.args.walk.now.levels.items c.next_row.new.walk.levels.items c.in-Some.row c.truncate.new.self
    (c.truncate.ensures.cells ∙ ap (λ (x : Setting). take x.width c.in-Some.row) c.reader.view_is) (rw c.in-Some.is at c.in_ok-row.ensures.gives)

pub next_row-returns-in-Some-clause-gives : goal.next_row-returns-in-Some-clause-gives
next_row-returns-in-Some-clause-gives g t c =
    finished_gives c.args.reader.now c.args.scratch.now c.requires.table c.args.walk.now.places.items c.args.walk.now.levels.items c.next_finished.new.levels.items c.in-Some.row c.requires.walk (rw c.in-Some.is at c.in_ok-row.ensures)

pub next_of_walk-advance-requires : goal.next_of_walk-advance-requires
next_of_walk-advance-requires g t c =
    let h = same_heights c.loop-row.walk.places.items c.args.walk.now.places.items c.loop-row.invariant.code in
    λ κs q. (omega (arith, h), (q, (c.loop-row.invariant.grows.table, c.loop-row.invariant.walk)))

pub next_of_walk-returns-in-Done-clause-gives : goal.next_of_walk-returns-in-Done-clause-gives
next_of_walk-returns-in-Done-clause-gives g t c =
    let d = rw (c.in-Done.is, c.loop-row.invariant.code) at c.in_ok-advance.ensures.step in
    (none_left _ (subst (λ (ys : List Solution). SameBag (coming c.args.reader.now (code_of c.args.walk.now.places.items) c.args.scratch.now c.args.walk.now.levels.items) ys) d.0 c.loop-row.invariant.rows), d.1)

pub next_of_walk-returns-in-Gave-clause-gives : goal.next_of_walk-returns-in-Gave-clause-gives
next_of_walk-returns-in-Gave-clause-gives g t c =
    let d = rw (c.in-Gave.is, c.loop-row.invariant.code) at c.in_ok-advance.ensures.step in
    (chain _ _ _ c.loop-row.invariant.rows d.0, d.1)

pub next_of_walk-loop-row-preserved : goal.next_of_walk-loop-row-preserved
next_of_walk-loop-row-preserved g t c =
    let d = rw (c.in-Moved.is, c.loop-row.invariant.code) at c.in_ok-advance.ensures.step in record {
      grows = goes_on (known_of c.args.reader.now) c.args.scratch.now c.loop-row.scratch c.advance.new.scratch c.loop-row.invariant.grows c.advance.ensures.grows;
      code = c.advance.ensures.code ∙ c.loop-row.invariant.code;
      walk = c.in_ok-advance.ensures.walk;
      rows = chain _ _ _ c.loop-row.invariant.rows d.0;
    }

pub open-returns-in_ok-pairs-in-Path-clause-opens : goal.open-returns-in_ok-pairs-in-Path-clause-opens
open-returns-in_ok-pairs-in-Path-clause-opens g t c =
    let r = rw c.in-Path.is at c.requires.ready in
    opens_path c.args.reader.now c.args.place.now.instr c.args.scratch.now c.pairs_of_trail.new.scratch c.args.row c.path_rows.result c.in-Path.trail c.in_ok-pairs-in-Path.pairs r.place r.is r.looks c.in_ok-pairs-in-Path.ensures.pairs (rw c.pairs_of_trail.ensures.pattern at c.path_rows.ensures.serve) c.pairs_of_trail.ensures.grows.table c.requires.table c.pairs_of_trail.ensures.grows c.requires.row

pub open-returns-in_ok-numbers-in-Names-clause-opens : goal.open-returns-in_ok-numbers-in-Names-clause-opens
open-returns-in_ok-numbers-in-Names-clause-opens g t c =
    let r = rw c.in-Names.is at c.requires.ready in
    opens_names c.args.reader.now c.args.place.now.instr c.args.scratch.now c.args.scratch.now c.args.row c.name_rows.result c.numbers_of.new.naming.register (rw c.numbers_of.ensures.register r.is) (c.name_rows.ensures c.in_ok-numbers-in-Names.ensures.graphs) refl c.requires.table c.requires.row

pub open-returns-in_ok-source-in-Name-clause-opens : goal.open-returns-in_ok-source-in-Name-clause-opens
open-returns-in_ok-source-in-Name-clause-opens g t c =
    c.in_ok-source-in-Name.ensures c.args.reader.now c.args.place.now.instr c.args.scratch.now (sym (ap (λ (x : Setting). x.width) c.reader.view_is)) c.requires.table c.requires.row (rw c.in-Name.is at c.requires.ready)

pub open-returns-in_ok-kept-in-Values-clause-opens : goal.open-returns-in_ok-kept-in-Values-clause-opens
open-returns-in_ok-kept-in-Values-clause-opens g t c =
    let r = rw c.in-Values.is at c.requires.ready in
    opens_values c.args.reader.now c.args.place.now.instr c.args.scratch.now c.rows_of_values.new.scratch c.args.row c.rows_of_values.ensures.grows.table c.rows_of_values.ensures.grows c.requires.row c.in-Values.values.table.now c.in_ok-kept-in-Values.kept c.new.result r.is c.in_ok-kept-in-Values.ensures.values c.new.ensures.terms c.new.ensures.fits

pub open-returns-in_ok-starts-in-Union-clause-opens : goal.open-returns-in_ok-starts-in-Union-clause-opens
open-returns-in_ok-starts-in-Union-clause-opens g t c =
    let f : Branching = record { row = c.args.row; starts = c.in_ok-starts-in-Union.starts; at = 0 } in
    opens_union c.args.reader.now c.args.place.now.instr c.args.scratch.now c.args.scratch.now c.args.row f (rw c.in_ok-starts-in-Union.ensures (rw c.in-Union.is at c.requires.ready)) refl refl refl c.requires.row

pub keep_few-returns-in_default-clause-right : goal.keep_few-returns-in_default-clause-right
keep_few-returns-in_default-clause-right g t c = right_still c.args.reader.now c.args.scratch.now c.aside_of.new.scratch c.aside_of.ensures.grows c.args.right.now c.requires.right

pub keep_few-returns-clause-right : goal.keep_few-returns-clause-right
keep_few-returns-clause-right g t c =
    right_more c.args.reader.now c.args.scratch.now c.aside_of.new.scratch c.aside_of.ensures.grows c.args.right.now (record { register = c.args.right.now.register; group = c.args.right.now.group; kept = c.keep.new.self }) c.in-Some.aside c.requires.right refl refl
    c.in_ok-keep.ensures (rw c.in-Some.is at c.in_ok-found.ensures.aside)

pub rows_of_right-returns-clause-right : goal.rows_of_right-returns-clause-right
rows_of_right-returns-clause-right g t c =
    right_more c.args.reader.now c.args.scratch.now c.aside_of.new.scratch c.aside_of.ensures.grows c.args.right.now (record { register = c.args.right.now.register; group = c.args.right.now.group; kept = c.keep_shared.new.self }) c.in-Some-found.aside c.requires.right refl refl
    c.in_ok-own.ensures.put (rw c.in-Some-found.is at c.in_ok-found.ensures.aside)

pub rows_of_right-returns-clause-kept : goal.rows_of_right-returns-clause-kept
rows_of_right-returns-clause-kept g t c =
    put_keeps c.args.right.now.kept.list.items c.in-Some-found.aside c.keep_shared.new.self.list.items (length c.args.row.now) _ c.in_ok-own.own c.in_ok-own.ensures.put (rw c.in-Some-found.is at c.in_ok-found.ensures.cells) (rw c.in-Some-found.is at c.in_ok-found.ensures.name) c.in_ok-own.ensures.kept

pub open_optional-rows_of_feed-requires : goal.open_optional-rows_of_feed-requires
open_optional-rows_of_feed-requires g t c =
    let r = rw c.in-Optional.is at c.requires.ready in
    let h : stage_height c.args.place.now.instr.stage ≡ 1 + stages_height c.in-Optional.choice.right.group.now.stages = ap stage_height r.is ∙ optional_height _ _ _ in
    let k : stages_height c.is_fed_next.new.choice.right.group.now.stages ≡ stages_height c.in-Optional.choice.right.group.now.stages = ap (λ (x : Group). stages_height x.stages) c.is_fed_next.ensures.group in
    let f = still_row (known_of c.args.reader.now) c.args.scratch.now c.is_fed_next.new.scratch c.is_fed_next.ensures.grows c.args.row c.requires.row in
    λ κs q. (omega (arith, h, k), (q, (c.is_fed_next.ensures.grows.table, f)))

pub open_optional-returns-then-branch-clause-ready : goal.open_optional-returns-then-branch-clause-ready
open_optional-returns-then-branch-clause-ready g t c =
    optional_still c.args.reader.now c.args.place.now.instr.stage c.args.scratch.now c.is_fed_next.new.scratch c.rows_of_feed.new.scratch c.rows_of_feed.ensures.grows c.in-Optional.choice c.is_fed_next.new.choice (rw c.in-Optional.is at c.requires.ready)
    c.is_fed_next.ensures.register c.is_fed_next.ensures.group c.is_fed_next.ensures.conditions c.is_fed_next.ensures.alike c.in_ok-is_fed_next-in-Optional.ensures.right

pub open_optional-returns-then-branch-clause-opens : goal.open_optional-returns-then-branch-clause-opens
open_optional-returns-then-branch-clause-opens g t c =
    let known = known_of c.args.reader.now in
    let fed = c.is_fed_next.ensures.fed (c.in_ok-is_fed_next-in-Optional.was ∙ ap Ok c.if-branch.true) in
    opens_alike c.args.reader.now c.args.place.now.instr c.args.scratch.now c.rows_of_feed.new.scratch c.args.row c.rows_of_feed.ensures.grows.table
    (goes_on known c.args.scratch.now c.is_fed_next.new.scratch c.rows_of_feed.new.scratch c.is_fed_next.ensures.grows c.rows_of_feed.ensures.grows) c.requires.row c.is_fed_next.new.scratch c.is_fed_next.ensures.grows
    c.in-Optional.choice.right c.is_fed_next.new.choice.right c.in-Optional.choice.is_alike c.in-Optional.choice.conditions c.is_fed_next.new.choice.conditions c.in_ok-kept-in-Optional.kept
    c.is_fed_next.ensures.group c.is_fed_next.ensures.conditions (rw c.in-Optional.is at c.requires.ready) fed.0 fed.1
    c.in_ok-kept-in-Optional.ensures.rows c.in_ok-kept-in-Optional.ensures.fit c.in_ok-found-in-Optional.found c.in_ok-found-in-Optional.ensures

pub open_optional-rows_of_right-requires : goal.open_optional-rows_of_right-requires
open_optional-rows_of_right-requires g t c =
    let r = rw c.in-Optional.is at c.requires.ready in
    let h : stage_height c.args.place.now.instr.stage ≡ 1 + stages_height c.in-Optional.choice.right.group.now.stages = ap stage_height r.is ∙ optional_height _ _ _ in
    let k : stages_height c.is_fed_next.new.choice.right.group.now.stages ≡ stages_height c.in-Optional.choice.right.group.now.stages = ap (λ (x : Group). stages_height x.stages) c.is_fed_next.ensures.group in
    let f = still_row (known_of c.args.reader.now) c.args.scratch.now c.is_fed_next.new.scratch c.is_fed_next.ensures.grows c.args.row c.requires.row in
    λ κs q. (omega (arith, h, k), (q, (c.is_fed_next.ensures.grows.table, (f, c.in_ok-is_fed_next-in-Optional.ensures.right))))

pub open_optional-returns-in_ok-found-in-Optional-2-clause-opens : goal.open_optional-returns-in_ok-found-in-Optional-2-clause-opens
open_optional-returns-in_ok-found-in-Optional-2-clause-opens g t c =
    let s = c.args.reader.now in
    let before = c.in-Optional.choice in
    let after = c.is_fed_next.new.choice in
    let o : IsOptional s c.args.scratch.now c.args.place.now.instr.stage before.right before.is_alike after.conditions.list.items =
    subst (λ (y : Conditions). IsOptional s c.args.scratch.now c.args.place.now.instr.stage before.right before.is_alike y.list.items) (sym c.is_fed_next.ensures.conditions) (rw c.in-Optional.is at c.requires.ready) in
    opens_attempt s c.args.place.now.instr c.args.scratch.now c.rows_of_right.new.scratch c.args.row c.rows_of_right.ensures.grows.table
    (goes_on (known_of s) c.args.scratch.now c.is_fed_next.new.scratch c.rows_of_right.new.scratch c.is_fed_next.ensures.grows c.rows_of_right.ensures.grows) c.requires.row
    c.rows_of_right.new.right c.in_ok-kept-in-Optional-2.kept c.in_ok-kept-in-Optional-2.ensures.kept c.in_ok-kept-in-Optional-2.ensures.right
    before.right before.is_alike after.conditions (c.rows_of_right.ensures.register ∙ c.is_fed_next.ensures.register) (c.rows_of_right.ensures.group ∙ c.is_fed_next.ensures.group) o c.in_ok-found-in-Optional-2.found c.in_ok-found-in-Optional-2.ensures

pub open_optional-returns-in_ok-found-in-Fed-clause-opens : goal.open_optional-returns-in_ok-found-in-Fed-clause-opens
open_optional-returns-in_ok-found-in-Fed-clause-opens g t c =
    let r = rw c.in-Fed.is at c.requires.ready in
    opens_fed c.args.reader.now c.args.place.now.instr c.args.scratch.now c.rows_of_feed-in-Fed.new.scratch c.args.row c.rows_of_feed-in-Fed.ensures.grows.table c.rows_of_feed-in-Fed.ensures.grows c.requires.row c.in-Fed.feed c.in_ok-kept-in-Fed.kept r
    c.in_ok-kept-in-Fed.ensures.rows c.in_ok-kept-in-Fed.ensures.fit c.in_ok-found-in-Fed.found c.in_ok-found-in-Fed.ensures

pub open-returns-in_ok-kept-in-Minus-clause-opens : goal.open-returns-in_ok-kept-in-Minus-clause-opens
open-returns-in_ok-kept-in-Minus-clause-opens g t c =
    let r = rw c.in-Minus.is at c.requires.ready in
    rw c.given_unless.ensures
    (opens_unless c.args.reader.now c.args.place.now.instr c.args.scratch.now c.rows_of_right.new.scratch c.args.row c.rows_of_right.ensures.grows.table c.rows_of_right.ensures.grows c.requires.row c.rows_of_right.new.right c.in_ok-kept-in-Minus.kept c.in_ok-kept-in-Minus.ensures.kept c.in_ok-kept-in-Minus.ensures.right
    c.in-Minus.right c.rows_of_right.ensures.register c.rows_of_right.ensures.group r.is c.is_excluded-excluded.result
    (subst (λ (x : Setting). TellsExcluded c.in_ok-kept-in-Minus.kept.rows x.width c.args.row c.is_excluded-excluded.result) c.reader.view_is (rw c.get.ensures at c.is_excluded-excluded.ensures.terms)))

pub open-returns-in_ok-kept-in-Apart-clause-opens : goal.open-returns-in_ok-kept-in-Apart-clause-opens
open-returns-in_ok-kept-in-Apart-clause-opens g t c =
    let r = rw c.in-Apart.is at c.requires.ready in
    opens_apart c.args.reader.now c.args.place.now.instr c.args.scratch.now c.rows_of_right-in-Apart.new.scratch c.args.row c.rows_of_right-in-Apart.ensures.grows.table c.rows_of_right-in-Apart.ensures.grows c.requires.row c.rows_of_right-in-Apart.new.right c.in_ok-kept-in-Apart.kept c.in_ok-kept-in-Apart.ensures.kept c.in_ok-kept-in-Apart.ensures.right
    c.new-in-Apart.result (rw (c.rows_of_right-in-Apart.ensures.register, c.rows_of_right-in-Apart.ensures.group) r.is) c.new-in-Apart.ensures.terms c.new-in-Apart.ensures.fits

pub open_optional_level-open_optional-requires : goal.open_optional_level-open_optional-requires
open_optional_level-open_optional-requires g t c =
    let ps = c.args.walk.now.places.items in
    let p = c.index_mut-place.result.now in
    let l : c.args.at < length ps = omega (arith, c.requires.at, c.args.walk.now.places.ok.0) in
    let h = height_at ps c.args.at p l c.index_mut-place.ensures.value in
    λ κs q. (omega (arith, h), (q, (c.requires.table, (c.requires.row, (ready_at c.args.reader.now c.args.scratch.now ps c.args.at p c.requires.walk.ready l c.index_mut-place.ensures.value, (c.requires.optional p c.index_mut-place.ensures.value))))))

pub open_optional_level-returns-in_err-attempt-clause-code : goal.open_optional_level-returns-in_err-attempt-clause-code
open_optional_level-returns-in_err-attempt-clause-code g t c =
    set_code c.args.walk.now.places.items c.args.at c.index_mut-place.result.now c.open_optional.new.place c.index_mut-place.ensures.value c.open_optional.ensures.instr

pub open_optional_level-returns-in_err-reserve-clause-code : goal.open_optional_level-returns-in_err-reserve-clause-code
open_optional_level-returns-in_err-reserve-clause-code g t c =
    set_code c.args.walk.now.places.items c.args.at c.index_mut-place.result.now c.open_optional.new.place c.index_mut-place.ensures.value c.open_optional.ensures.instr

pub open_optional_level-returns-clause-code : goal.open_optional_level-returns-clause-code
open_optional_level-returns-clause-code g t c =
    set_code c.args.walk.now.places.items c.args.at c.index_mut-place.result.now c.open_optional.new.place c.index_mut-place.ensures.value c.open_optional.ensures.instr

pub open_optional_level-returns-clause-walk : goal.open_optional_level-returns-clause-walk
open_optional_level-returns-clause-walk g t c =
    let ps = c.args.walk.now.places.items in
    let p = c.index_mut-place.result.now in
    let l : c.args.at < length ps = omega (arith, c.requires.at, c.args.walk.now.places.ok.0) in
    let z : c.push_reserved.new.self.items ≡ c.args.walk.now.levels.items ++ (record { next = p.instr.next; source = (source.Optional c.in_ok-attempt.attempt) }) ∷ [] =
    c.push_reserved.ensures.items ∙ (ap (λ (xs : List Level). xs ++ (record { next = c.next-next.result; source = source.Optional c.in_ok-attempt.attempt }) ∷ []) c.reserve.ensures.items ∙ ap (λ (x : ℕ). let v : Level = record { next = x; source = (source.Optional c.in_ok-attempt.attempt) } in c.args.walk.now.levels.items ++ v ∷ []) c.next-next.ensures) in
    opened_walk c.args.reader.now c.args.scratch.now c.open_optional.new.scratch ps c.args.walk.now.levels.items c.push_reserved.new.self.items c.args.at p c.open_optional.new.place c.args.row (source.Optional c.in_ok-attempt.attempt) c.requires.walk l c.index_mut-place.ensures.value c.open_optional.ensures.grows c.open_optional.ensures.instr c.in_ok-attempt.ensures.ready c.in_ok-attempt.ensures.opens z

pub open_optional_level-returns-clause-opened : goal.open_optional_level-returns-clause-opened
open_optional_level-returns-clause-opened g t c =
    let ps = c.args.walk.now.places.items in
    let p = c.index_mut-place.result.now in
    let l : c.args.at < length ps = omega (arith, c.requires.at, c.args.walk.now.places.ok.0) in
    let z : c.push_reserved.new.self.items ≡ c.args.walk.now.levels.items ++ (record { next = p.instr.next; source = (source.Optional c.in_ok-attempt.attempt) }) ∷ [] =
    c.push_reserved.ensures.items ∙ (ap (λ (xs : List Level). xs ++ (record { next = c.next-next.result; source = source.Optional c.in_ok-attempt.attempt }) ∷ []) c.reserve.ensures.items ∙ ap (λ (x : ℕ). let v : Level = record { next = x; source = (source.Optional c.in_ok-attempt.attempt) } in c.args.walk.now.levels.items ++ v ∷ []) c.next-next.ensures) in
    opened c.args.reader.now c.args.scratch.now c.open_optional.new.scratch ps c.args.walk.now.levels.items c.push_reserved.new.self.items c.args.at p c.open_optional.new.place c.args.row (source.Optional c.in_ok-attempt.attempt) c.requires.walk l c.index_mut-place.ensures.value c.open_optional.ensures.grows c.open_optional.ensures.instr c.in_ok-attempt.ensures.ready c.in_ok-attempt.ensures.opens z

pub open_other_level-open-requires : goal.open_other_level-open-requires
open_other_level-open-requires g t c =
    let ps = c.args.walk.now.places.items in
    let p = c.index_mut-place.result.now in
    let l : c.args.at < length ps = omega (arith, c.requires.at, c.args.walk.now.places.ok.0) in
    let h = height_at ps c.args.at p l c.index_mut-place.ensures.value in
    λ κs q. (omega (arith, h), (q, (c.requires.table, (c.requires.row, (ready_at c.args.reader.now c.args.scratch.now ps c.args.at p c.requires.walk.ready l c.index_mut-place.ensures.value, ((c.requires.opens c.args.at refl).1 p c.index_mut-place.ensures.value, (c.requires.other p c.index_mut-place.ensures.value, c.requires.choice p c.index_mut-place.ensures.value)))))))

pub open_other_level-returns-in_err-source-clause-code : goal.open_other_level-returns-in_err-source-clause-code
open_other_level-returns-in_err-source-clause-code g t c =
    set_code c.args.walk.now.places.items c.args.at c.index_mut-place.result.now c.open.new.place c.index_mut-place.ensures.value c.open.ensures.instr

pub open_other_level-returns-in_err-push-clause-code : goal.open_other_level-returns-in_err-push-clause-code
open_other_level-returns-in_err-push-clause-code g t c =
    set_code c.args.walk.now.places.items c.args.at c.index_mut-place.result.now c.open.new.place c.index_mut-place.ensures.value c.open.ensures.instr

pub open_other_level-returns-clause-code : goal.open_other_level-returns-clause-code
open_other_level-returns-clause-code g t c =
    set_code c.args.walk.now.places.items c.args.at c.index_mut-place.result.now c.open.new.place c.index_mut-place.ensures.value c.open.ensures.instr

pub open_other_level-returns-clause-walk : goal.open_other_level-returns-clause-walk
open_other_level-returns-clause-walk g t c =
    let ps = c.args.walk.now.places.items in
    let p = c.index_mut-place.result.now in
    let l : c.args.at < length ps = omega (arith, c.requires.at, c.args.walk.now.places.ok.0) in
    let z : c.push.new.self.items ≡ c.args.walk.now.levels.items ++ (record { next = p.instr.next; source = c.in_ok-source.source }) ∷ [] =
    c.in_ok-push.ensures.items ∙ ap (λ (x : ℕ). let v : Level = record { next = x; source = c.in_ok-source.source } in c.args.walk.now.levels.items ++ v ∷ []) c.next-next.ensures in
    opened_walk c.args.reader.now c.args.scratch.now c.open.new.scratch ps c.args.walk.now.levels.items c.push.new.self.items c.args.at p c.open.new.place c.args.row c.in_ok-source.source c.requires.walk l c.index_mut-place.ensures.value c.open.ensures.grows c.open.ensures.instr c.in_ok-source.ensures.ready c.in_ok-source.ensures.opens z

pub open_other_level-returns-clause-opened : goal.open_other_level-returns-clause-opened
open_other_level-returns-clause-opened g t c =
    let ps = c.args.walk.now.places.items in
    let p = c.index_mut-place.result.now in
    let l : c.args.at < length ps = omega (arith, c.requires.at, c.args.walk.now.places.ok.0) in
    let z : c.push.new.self.items ≡ c.args.walk.now.levels.items ++ (record { next = p.instr.next; source = c.in_ok-source.source }) ∷ [] =
    c.in_ok-push.ensures.items ∙ ap (λ (x : ℕ). let v : Level = record { next = x; source = c.in_ok-source.source } in c.args.walk.now.levels.items ++ v ∷ []) c.next-next.ensures in
    opened c.args.reader.now c.args.scratch.now c.open.new.scratch ps c.args.walk.now.levels.items c.push.new.self.items c.args.at p c.open.new.place c.args.row c.in_ok-source.source c.requires.walk l c.index_mut-place.ensures.value c.open.ensures.grows c.open.ensures.instr c.in_ok-source.ensures.ready c.in_ok-source.ensures.opens z

pub rows_of_group-loop-rows-init : goal.rows_of_group-loop-rows-init
rows_of_group-loop-rows-init g t c =
    record {
      grows = stays (known_of c.args.reader.now) c.args.scratch.now c.requires.table;
      walk = c.in_ok-walk.ensures.walk c.args.scratch.now c.requires.row;
      low = c.in_ok-walk.ensures.low;
      gathers = rw c.new-rows.ensures.items (record { bag = same _ _ (sym (ap (map (take c.args.reader.now.width)) (c.in_ok-walk.ensures.rows c.args.scratch.now))); fit = tt });
    }

pub rows_of_group-returns-in_default-clause-rows : goal.rows_of_group-returns-in_default-clause-rows
rows_of_group-returns-in_default-clause-rows g t c =
    gathers_all c.args.reader.now (code_of c.loop-rows.walk.places.items) _ c.loop-rows.scratch c.loop-rows.rows.items c.loop-rows.walk.levels.items c.loop-rows.invariant.gathers c.next_named.new.scratch c.next_named.ensures.grows c.next_named.new.walk.levels.items (rw c.in_default.is at c.in_ok-row.ensures.gives)

pub rows_of_group-returns-in_default-clause-fit : goal.rows_of_group-returns-in_default-clause-fit
rows_of_group-returns-in_default-clause-fit g t c =
    gathers_fit c.args.reader.now (code_of c.loop-rows.walk.places.items) _ c.loop-rows.scratch c.loop-rows.rows.items c.loop-rows.walk.levels.items c.loop-rows.invariant.gathers c.next_named.new.scratch c.next_named.ensures.grows c.next_named.new.walk.levels.items

pub rows_of_group-loop-rows-smaller : goal.rows_of_group-loop-rows-smaller
rows_of_group-loop-rows-smaller g t c =
    rw c.next_named.ensures.code (gathers_fewer c.args.reader.now (code_of c.loop-rows.walk.places.items) _ c.loop-rows.scratch c.loop-rows.rows.items c.loop-rows.walk.levels.items c.loop-rows.invariant.gathers c.next_named.new.scratch c.next_named.ensures.grows c.next_named.new.walk.levels.items c.in-Some.row (rw c.in-Some.is at c.in_ok-row.ensures.gives))

pub rows_of_group-loop-rows-preserved : goal.rows_of_group-loop-rows-preserved
rows_of_group-loop-rows-preserved g t c =
    record {
      grows = goes_on (known_of c.args.reader.now) c.args.scratch.now c.loop-rows.scratch c.next_named.new.scratch c.loop-rows.invariant.grows c.next_named.ensures.grows;
      walk = c.in_ok-row.ensures.walk;
      low = rw (same_heights c.next_named.new.walk.places.items c.loop-rows.walk.places.items c.next_named.ensures.code) c.loop-rows.invariant.low;
      gathers = rw (c.next_named.ensures.code, c.in_ok-push.ensures.items) (gathers_more c.args.reader.now (code_of c.loop-rows.walk.places.items) _ c.loop-rows.scratch c.loop-rows.rows.items c.loop-rows.walk.levels.items c.loop-rows.invariant.gathers c.next_named.new.scratch c.next_named.ensures.grows c.next_named.new.walk.levels.items c.in-Some.row (rw c.in-Some.is at c.in_ok-row.ensures.gives));
    }

pub aside_of-rows_of_group-requires : goal.aside_of-rows_of_group-requires
aside_of-rows_of_group-requires g t c =
    let known = known_of c.args.reader.now in
    let h = ap stages_height c.as_slice.ensures in
    let f = name_fits known c.args.scratch.now c.args.right.now.register c.args.row.now c.requires.row in
    λ κs q. (omega (arith, h), (q, (c.requires.table, rw (c.in_ok-alone.ensures, c.name_at-name.ensures) (only_fits known c.args.scratch.now c.args.right.now.register c.width.result _ f))))

pub aside_of-returns-clause-aside : goal.aside_of-returns-clause-aside
aside_of-returns-clause-aside g t c =
    let known = known_of c.args.reader.now in
    let f = name_fits known c.args.scratch.now c.args.right.now.register c.args.row.now c.requires.row in
    aside_made c.args.reader.now c.args.scratch.now c.rows_of_group.new.scratch c.rows_of_group.ensures.grows c.args.right.now.register c.args.right.now.group.now.stages c.name_at-name.result c.width-2.result c.in_ok-alone.alone c.in-Some.rows.items c.in_ok-kept-2.kept
    (rw c.name_at-name.ensures f) (search rules) (search rules) (rw c.as_slice.ensures at (rw c.in-Some.is at c.in_ok-found.ensures.rows)) (rw c.in-Some.is at c.in_ok-found.ensures.fit) c.len-row_count.result

pub open_level-returns-in-Some-clause-walk : goal.open_level-returns-in-Some-clause-walk
open_level-returns-in-Some-clause-walk g t c =
    let ps = c.args.walk.now.places.items in
    let l : c.args.at < length ps = omega (arith, c.requires.at, c.args.walk.now.places.ok.0) in
    triple_walk c.args.reader.now c.args.scratch.now ps c.args.walk.now.levels.items c.open_triple_level.new.levels.items c.args.at c.index-place.result.now c.args.row c.next-next.result c.in-Some.look c.in-Some.pattern.now c.requires.walk l c.index-place.ensures c.next-next.ensures c.in-Some.ensures.some c.in_ok-open_triple_level.ensures c.requires.table c.requires.row

pub open_level-returns-in-Some-clause-opened : goal.open_level-returns-in-Some-clause-opened
open_level-returns-in-Some-clause-opened g t c =
    let ps = c.args.walk.now.places.items in
    let l : c.args.at < length ps = omega (arith, c.requires.at, c.args.walk.now.places.ok.0) in
    triple_opened c.args.reader.now c.args.scratch.now ps c.args.walk.now.levels.items c.open_triple_level.new.levels.items c.args.at c.index-place.result.now c.args.row c.next-next.result c.in-Some.look c.in-Some.pattern.now c.requires.walk l c.index-place.ensures c.next-next.ensures c.in-Some.ensures.some c.in_ok-open_triple_level.ensures c.requires.table c.requires.row

pub open_level-returns-in_ok-open_given_level-in-Given-clause-walk : goal.open_level-returns-in_ok-open_given_level-in-Given-clause-walk
open_level-returns-in_ok-open_given_level-in-Given-clause-walk g t c =
    let ps = c.args.walk.now.places.items in
    let l : c.args.at < length ps = omega (arith, c.requires.at, c.args.walk.now.places.ok.0) in
    let a = rw (c.in-Given.is, c.as_slice.ensures.value) at c.after_names.ensures in
    let is = subst (λ (n : ℕ). IsJoining ps c.index-place.result.now c.args.row n c.in-Given.joining) (ap (λ (x : Setting). x.width) c.reader.view_is) a.0 in
    given_walk c.args.reader.now c.args.scratch.now ps c.args.walk.now.levels.items c.open_given_level.new.levels.items c.args.at c.index-place.result.now c.args.row c.in-Given.joining c.requires.walk l c.index-place.ensures is c.requires.table c.requires.row c.in-Given.cell a.1 c.in_ok-open_given_level-in-Given.ensures

pub open_level-returns-in_ok-open_given_level-in-Given-clause-opened : goal.open_level-returns-in_ok-open_given_level-in-Given-clause-opened
open_level-returns-in_ok-open_given_level-in-Given-clause-opened g t c =
    let ps = c.args.walk.now.places.items in
    let l : c.args.at < length ps = omega (arith, c.requires.at, c.args.walk.now.places.ok.0) in
    let a = rw (c.in-Given.is, c.as_slice.ensures.value) at c.after_names.ensures in
    let is = subst (λ (n : ℕ). IsJoining ps c.index-place.result.now c.args.row n c.in-Given.joining) (ap (λ (x : Setting). x.width) c.reader.view_is) a.0 in
    given_opened c.args.reader.now c.args.scratch.now ps c.args.walk.now.levels.items c.open_given_level.new.levels.items c.args.at c.index-place.result.now c.args.row c.in-Given.joining c.requires.walk l c.index-place.ensures is c.requires.table c.requires.row c.in-Given.cell a.1 c.in_ok-open_given_level-in-Given.ensures

pub open_level-returns-in_ok-open_joined_level-in-Joined-clause-walk : goal.open_level-returns-in_ok-open_joined_level-in-Joined-clause-walk
open_level-returns-in_ok-open_joined_level-in-Joined-clause-walk g t c =
    let ps = c.args.walk.now.places.items in
    let l : c.args.at < length ps = omega (arith, c.requires.at, c.args.walk.now.places.ok.0) in
    let a = rw (c.in-Joined.is, c.as_slice.ensures.value) at c.after_names.ensures in
    let is = subst (λ (n : ℕ). IsJoining ps c.index-place.result.now c.args.row n c.in-Joined.joining) (ap (λ (x : Setting). x.width) c.reader.view_is) a.0 in
    joined_walk c.args.reader.now c.args.scratch.now ps c.args.walk.now.levels.items c.open_joined_level.new.levels.items c.args.at c.index-place.result.now c.args.row c.in-Joined.joining c.requires.walk l c.index-place.ensures is c.requires.table c.requires.row c.in-Joined.each a.1.0 c.in_ok-open_joined_level-in-Joined.ensures

pub open_level-returns-in_ok-open_joined_level-in-Joined-clause-opened : goal.open_level-returns-in_ok-open_joined_level-in-Joined-clause-opened
open_level-returns-in_ok-open_joined_level-in-Joined-clause-opened g t c =
    let ps = c.args.walk.now.places.items in
    let l : c.args.at < length ps = omega (arith, c.requires.at, c.args.walk.now.places.ok.0) in
    let a = rw (c.in-Joined.is, c.as_slice.ensures.value) at c.after_names.ensures in
    let is = subst (λ (n : ℕ). IsJoining ps c.index-place.result.now c.args.row n c.in-Joined.joining) (ap (λ (x : Setting). x.width) c.reader.view_is) a.0 in
    joined_opened c.args.reader.now c.args.scratch.now ps c.args.walk.now.levels.items c.open_joined_level.new.levels.items c.args.at c.index-place.result.now c.args.row c.in-Joined.joining c.requires.walk l c.index-place.ensures is c.requires.table c.requires.row c.in-Joined.each a.1.0 c.in_ok-open_joined_level-in-Joined.ensures

pub open_level-returns-in_ok-open_quads_level-in-InEach-clause-walk : goal.open_level-returns-in_ok-open_quads_level-in-InEach-clause-walk
open_level-returns-in_ok-open_quads_level-in-InEach-clause-walk g t c =
    let ps = c.args.walk.now.places.items in
    let l : c.args.at < length ps = omega (arith, c.requires.at, c.args.walk.now.places.ok.0) in
    quads_walk c.args.reader.now c.args.scratch.now ps c.args.walk.now.levels.items c.open_quads_level.new.levels.items c.args.at c.index-place.result.now c.args.row c.in-InEach.each c.requires.walk l c.index-place.ensures (rw (c.in-InEach.is, c.as_slice.ensures.value) at c.after_names.ensures) c.in_ok-open_quads_level-in-InEach.ensures c.requires.table c.requires.row

pub open_level-returns-in_ok-open_quads_level-in-InEach-clause-opened : goal.open_level-returns-in_ok-open_quads_level-in-InEach-clause-opened
open_level-returns-in_ok-open_quads_level-in-InEach-clause-opened g t c =
    let ps = c.args.walk.now.places.items in
    let l : c.args.at < length ps = omega (arith, c.requires.at, c.args.walk.now.places.ok.0) in
    quads_opened c.args.reader.now c.args.scratch.now ps c.args.walk.now.levels.items c.open_quads_level.new.levels.items c.args.at c.index-place.result.now c.args.row c.in-InEach.each c.requires.walk l c.index-place.ensures (rw (c.in-InEach.is, c.as_slice.ensures.value) at c.after_names.ensures) c.in_ok-open_quads_level-in-InEach.ensures c.requires.table c.requires.row

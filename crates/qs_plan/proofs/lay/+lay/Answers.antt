use Rattle.std.proofs.Common.{rules, arith, true, false, refl, sym, ap, ◌∙◌, List, subst}
use Rattle.std.specs.List.{AllByRecursion}
use Rattle.qs_plan.specs.inner.Feeds.{LaysRest}
use Rattle.qs_plan.specs.inner.Fixes.{SettledBy}
use Rattle.qs_algebra_patterns.specs.declared.pattern.PatternNode.TheVariants as pattern
use Rattle.qs_plan_meaning.specs.declared.stage.Stage.{Stage}
use Rattle.qs_plan.proofs.Arms.{lays_at, as_part, values_arm, left_join_arm, optional_apart, minus_arm, extend_arm, apart_arm, union_arm, graph_arm, each_arm, bound_arm, at_flag, group_joins, steps_init, one_step_more, steps_end, steps_all, union_init, union_end}
use Rattle.qs_plan.proofs.Fed.{feeds_any, next_step}
use Rattle.qs_plan.proofs.FedArms.{feeds_conditions, feeds_init, feeds_one, feeds_optional, feeds_step, next_fed_at, rest_init, rest_step, rest_ended}
use Rattle.qs_plan.proofs.Fixing.{plain_first, plain_in_line, rest_of, whole_lays}
use Rattle.qs_plan.proofs.Laying.{union_more}
use Rattle.qs_plan.proofs.lay.+lay.Goals as goal

pub lay-returns-in_ok-laid-in-Basic : goal.lay-returns-in_ok-laid-in-Basic
lay-returns-in_ok-laid-in-Basic t c =
    as_part c.args.first c.args.width c.args.look.now c.args.from _ _ c.args.part.now _ c.in-Basic.is (c.in_ok-laid-in-Basic.ensures c.args.first)

pub lay-returns-in_ok-laid-in-Graph : goal.lay-returns-in_ok-laid-in-Graph
lay-returns-in_ok-laid-in-Graph t c =
    as_part c.args.first c.args.width c.args.look.now c.args.from _ _ c.args.part.now _ (c.in-Graph.is ∙ ap (pattern.Graph c.in-Graph.name) (sym c.get.ensures)) (c.in_ok-laid-in-Graph.ensures c.args.look.now)

pub lay-returns-in_ok-laid-in-Values : goal.lay-returns-in_ok-laid-in-Values
lay-returns-in_ok-laid-in-Values t c =
    values_arm c.args.first c.args.width c.args.look.now c.args.from _ _ c.args.part.now c.in-Values.table c.requires.named c.in-Values.is c.in_ok-laid-in-Values.ensures

pub lay_plain_each-returns : goal.lay_plain_each-returns
lay_plain_each-returns t c first place =
    bound_arm first c.args.width place c.args.from _ _ c.args.variable c.args.part.now c.in_ok-next.next _ _ c.requires c.in_ok-next.ensures c.in_ok-laid.ensures c.in_ok-laid-2.ensures

pub lay_seen_each-returns : goal.lay_seen_each-returns
lay_seen_each-returns t c place =
    each_arm true c.args.width place c.args.from _ _ c.args.variable c.args.part.now c.in_ok-next.next _ _ c.requires c.in_ok-next.ensures c.in_ok-laid.ensures c.in_ok-laid-2.ensures

pub lay_each-returns-in-Some : goal.lay_each-returns-in-Some
lay_each-returns-in-Some t c =
    let k = rw c.in-Some.is at c.in_ok-laid.ensures in
    k c.args.first c.args.look.now

pub lay_each-returns-then-first : goal.lay_each-returns-then-first
lay_each-returns-then-first t c =
    at_flag c.args.first true c.args.width c.args.look.now c.args.from _ _ _ c.if-first.true (c.in_ok-laid-2.ensures c.args.look.now)

pub lay_each-returns : goal.lay_each-returns
lay_each-returns t c =
    apart_arm c.args.first c.args.width c.args.look.now c.args.from _ _ (pattern.EachGraph c.args.variable c.args.part.now) _ _ c.requires.named c.requires.within (c.in_ok-laid-2.ensures c.args.look.now) c.in_ok-laid-3.ensures

pub lay_graph-returns : goal.lay_graph-returns
lay_graph-returns t c place =
    graph_arm c.args.first c.args.width place c.args.from _ _ c.args.name.now _ c.args.part.now _ _ c.in_ok-look.ensures c.in_ok-laid.ensures c.in_ok-laid-2.ensures

pub lay_group-returns-then-are_joins : goal.lay_group-returns-then-are_joins
lay_group-returns-then-are_joins t c =
    group_joins c.args.first c.args.width c.args.look.now c.args.from _ _ c.args.steps.now c.args.conditions.now (search rules) (c.are_joins.ensures c.if-are_joins.true) (c.are_none.ensures c.if-are_none.true)
    (steps_all false c.args.width c.args.look.now c.args.from _ _ c.args.steps.now 0 _ (omega arith) c.in_ok-laid.ensures)

pub lay_group-returns : goal.lay_group-returns
lay_group-returns t c =
    apart_arm c.args.first c.args.width c.args.look.now c.args.from _ _ (pattern.Group c.args.steps.now c.args.conditions.now) _ _ c.requires.named c.requires.within c.in_ok-laid-3.ensures c.in_ok-laid-4.ensures

pub lay_plain-returns-then-is_in_line : goal.lay_plain-returns-then-is_in_line
lay_plain-returns-then-is_in_line t c =
    lays_at false c.args.width c.args.look.now c.args.from _ c.in_ok-laid-2.laid.stages _ c.in_ok-laid.laid.next c.in_ok-laid-2.laid.stages c.in_ok-laid-2.ensures.1 refl
    (plain_in_line c.args.width c.args.look.now c.args.from c.in_ok-laid.laid.next c.args.steps.now c.args.conditions.now c.in_ok-laid.laid.stages c.put_tables.new.stages c.in_ok-laid-2.laid.stages c.requires.within c.requires.joins
    (steps_all false c.args.width c.args.look.now c.args.from c.in_ok-laid.laid.next c.in_ok-laid.laid.stages c.args.steps.now 0 _ (omega arith) c.in_ok-laid.ensures) c.in_ok-put_tables.ensures c.in_ok-laid-2.ensures.0
    (subst (λ (ss : List Stage). AllByRecursion (SettledBy (record { width = c.args.width; cells = c.in_ok-laid.laid.next }) ss) c.args.conditions.now) c.as_slice.ensures (c.in_ok-is_in_line.ensures c.if-is_in_line.true)))

pub lay_plain-returns : goal.lay_plain-returns
lay_plain-returns t c =
    apart_arm false c.args.width c.args.look.now c.args.from _ _ (pattern.Group c.args.steps.now c.args.conditions.now) c.in_ok-laid.laid.next c.in_ok-laid-2.laid.stages c.requires.named c.requires.within
    (plain_first c.args.width c.args.look.now c.args.from c.in_ok-laid.laid.next c.args.steps.now c.args.conditions.now c.in_ok-laid.laid.stages c.put_tables.new.stages c.in_ok-laid-2.laid.stages c.requires.within c.requires.joins
    (steps_all false c.args.width c.args.look.now c.args.from c.in_ok-laid.laid.next c.in_ok-laid.laid.stages c.args.steps.now 0 _ (omega arith) c.in_ok-laid.ensures) c.in_ok-put_tables.ensures c.in_ok-laid-2.ensures.0)
    (c.in_ok-laid-3.ensures.0, c.in_ok-laid-3.ensures.1 ∙ c.in_ok-laid-2.ensures.1)

pub lay_whole-returns : goal.lay_whole-returns
lay_whole-returns t c =
    lays_at true c.args.width c.args.look.now c.args.from _ c.in_ok-laid-3.laid.stages _ c.in_ok-laid-2.laid.next c.in_ok-laid-3.laid.stages c.in_ok-laid-3.ensures.1 refl
    (whole_lays c.args.width c.args.look.now c.args.from c.in_ok-laid.laid.next c.in_ok-laid-2.laid.next c.plain_front-count.result c.args.steps.now c.args.conditions.now c.in_ok-laid.laid.stages c.put_tables.new.stages c.in_ok-laid-2.laid.stages c.in_ok-laid-3.laid.stages _
    c.requires.within c.plain_front-count.ensures.joins c.in_ok-laid.ensures (rest_of c.plain_front-count.result c.args.steps.now) c.in_ok-put_tables.ensures
    (subst (LaysRest c.args.width c.args.look.now c.in_ok-laid.laid.next c.in_ok-laid-2.laid.next c.put_tables.new.stages c.in_ok-laid-2.laid.stages) (sym (rest_of c.plain_front-count.result c.args.steps.now)) c.in_ok-laid-2.ensures) c.in_ok-laid-3.ensures.0)

pub lay_rest-loop-at-init : goal.lay_rest-loop-at-init
lay_rest-loop-at-init t c = rest_init c.args.width c.args.look.now c.args.from c.args.front c.args.steps.now c.args.start c.requires.inside

pub lay_rest-loop-at-preserved : goal.lay_rest-loop-at-preserved
lay_rest-loop-at-preserved t c =
    rest_step c.args.width c.args.look.now c.args.from _ _ c.args.front _ _ _ _ c.args.steps.now c.args.start c.loop-at.at c.index-steps-at.result (omega (arith, c.loop-at.auto.at)) c.loop-at-test.true c.index-steps-at.is c.as_slice.ensures c.in_ok-append.ensures c.loop-at.invariant c.in_ok-laid.ensures

pub lay_rest-returns : goal.lay_rest-returns
lay_rest-returns t c = rest_ended c.args.width c.args.look.now c.args.from _ c.args.front _ c.args.steps.now c.args.start c.loop-at.at c.loop-at-test.false c.loop-at.invariant

pub lay_next-returns : goal.lay_next-returns
lay_next-returns t c = next_step c.args.width c.args.look.now c.args.from _ c.args.before.now c.are_no_stages.result _ c.args.one.now c.are_no_stages.ensures c.in_ok-laid-2.ensures

pub lay_optional-returns-then-all_leave : goal.lay_optional-returns-then-all_leave
lay_optional-returns-then-all_leave t c =
    let k = rw c.in-Some.is at c.in_ok-feed.ensures in
    next_fed_at c.args.width c.args.look.now c.args.from _ c.args.before.now _ c.in-Some.feed.needs.items _ _ _ c.args.part.now c.args.conditions.now k c.as_slice.ensures.value (c.all_leave.ensures c.if-all_leave.true) c.in_ok-laid.ensures

pub lay_step-returns-in_ok-laid-in-LeftJoin-2 : goal.lay_step-returns-in_ok-laid-in-LeftJoin-2
lay_step-returns-in_ok-laid-in-LeftJoin-2 t c =
    left_join_arm c.args.first c.args.width c.args.look.now c.args.from _ _ c.args.one.now c.in-LeftJoin.part c.in-LeftJoin.conditions _ c.in-LeftJoin.is c.as_slice.ensures
    (optional_apart c.args.first c.args.width c.args.look.now c.args.from _ _ c.in-LeftJoin.part _ _ _ c.requires.named c.requires.within c.in_ok-laid-in-LeftJoin.ensures c.in_ok-laid-in-LeftJoin-2.ensures)

pub lay_step-returns-in_ok-laid-in-Minus-2 : goal.lay_step-returns-in_ok-laid-in-Minus-2
lay_step-returns-in_ok-laid-in-Minus-2 t c =
    minus_arm c.args.first c.args.width c.args.look.now c.args.from _ _ c.args.one.now c.in-Minus.part _ _ c.requires.named c.requires.within c.in-Minus.is c.in_ok-laid-in-Minus.ensures c.in_ok-laid-in-Minus-2.ensures

pub lay_step-returns-in_ok-laid-in-Extend : goal.lay_step-returns-in_ok-laid-in-Extend
lay_step-returns-in_ok-laid-in-Extend t c =
    extend_arm c.args.first c.args.width c.args.look.now c.args.from _ _ c.args.one.now c.in-Extend.variable c.in-Extend.expr c.requires.named c.in-Extend.is c.in_ok-laid-in-Extend.ensures

pub lay_steps-loop-at-init : goal.lay_steps-loop-at-init
lay_steps-loop-at-init t c = steps_init c.args.first c.args.width c.args.look.now c.args.from _ c.args.steps.now c.args.start c.requires.named (omega (arith, c.requires.ordered, c.requires.inside)) c.new-stages.ensures

pub lay_steps-loop-at-preserved : goal.lay_steps-loop-at-preserved
lay_steps-loop-at-preserved t c =
    one_step_more c.args.first _ c.args.width c.args.look.now c.args.from _ _ _ _ _ c.args.steps.now c.args.start c.loop-at.at c.index-steps-at.result c.requires.within (omega (arith, c.loop-at.auto.at)) (omega (arith, c.loop-at-test.true, c.requires.inside)) c.index-steps-at.is c.in_ok-append.ensures c.is_start-second.ensures c.loop-at.invariant c.in_ok-laid.ensures

pub lay_steps-returns : goal.lay_steps-returns
lay_steps-returns t c =
    steps_end c.args.first c.args.width c.args.look.now c.args.from _ _ c.args.steps.now c.args.start c.loop-at.at c.args.end (omega (arith, c.loop-at.auto.at-end, c.loop-at-test.false, c.requires.ordered)) c.loop-at.invariant

pub lay_union-loop-part-init : goal.lay_union-loop-part-init
lay_union-loop-part-init t c = union_init c.args.first c.args.width c.args.look.now c.args.from _ c.args.parts.now c.requires.named c.new-branches.ensures

pub lay_union-loop-part-preserved : goal.lay_union-loop-part-preserved
lay_union-loop-part-preserved t c =
    union_more c.args.first c.args.width c.args.look.now c.args.from _ _ _ _ _ c.args.parts.now c.loop-part.part-index c.part-item.result c.requires.within c.loop-part-test.true c.part-item.is c.in_ok-push.ensures.ok c.loop-part.invariant c.in_ok-laid.ensures

pub lay_union-returns : goal.lay_union-returns
lay_union-returns t c =
    union_arm c.args.first c.args.width c.args.look.now c.args.from _ _ c.args.parts.now c.loop-part.branches c.loop-part.next
    (union_end c.args.first c.args.width c.args.look.now c.args.from c.loop-part.next _ c.args.parts.now c.loop-part.part-index c.loop-part-test.false c.loop-part.invariant)
    c.in_ok-laid-2.ensures

pub feed_plain-returns : goal.feed_plain-returns
feed_plain-returns t c = feeds_any _ c.args.width c.args.look.now c.args.from _ _ c.args.part.now c.in_ok-laid.ensures

pub feed_group-returns-in-Some : goal.feed_group-returns-in-Some
feed_group-returns-in-Some t c =
    let k = rw c.in-Some.is at c.in_ok-feed.ensures in
    feeds_conditions c.in-Some.feed.needs.items c.put_read.new.needs.items c.args.width c.args.look.now c.args.from c.in-Some.feed.next _ c.in-Some.feed.stages _ _ c.args.steps.now c.args.conditions.now c.requires.within k c.as_slice.ensures c.in_ok-put_read.ensures c.in_ok-laid.ensures

pub feed_steps-loop-one-init : goal.feed_steps-loop-one-init
feed_steps-loop-one-init t c = feeds_init _ c.args.width c.args.look.now c.args.from _ c.args.steps.now c.requires.named c.new-stages.ensures c.new-needs.ensures.items

pub feed_steps-loop-one-preserved : goal.feed_steps-loop-one-preserved
feed_steps-loop-one-preserved t c =
    let k = rw c.in-Some.is at c.in_ok-fed.ensures in
    feeds_step _ _ c.args.width c.args.look.now c.args.from _ _ _ _ _ _ c.args.steps.now c.loop-one.one-index c.one-item.result c.requires.within c.loop-one-test.true c.one-item.is c.as_slice-before.ensures c.in_ok-append.ensures c.loop-one.invariant k

pub feed_step-returns-else-not-are_in_line : goal.feed_step-returns-else-not-are_in_line
feed_step-returns-else-not-are_in_line t c = feeds_one c.args.width c.args.look.now c.args.from _ c.args.before.now _ c.args.needs.now.items c.args.one.now c.in-Join.part c.in-Join.is c.in_ok-joined-in-Join.ensures

pub feed_optional-returns-then-all_leave : goal.feed_optional-returns-then-all_leave
feed_optional-returns-then-all_leave t c =
    let k = rw c.in-Some.is at c.in_ok-feed.ensures in
    feeds_optional c.args.width c.args.look.now c.args.from _ c.args.before.now _ c.args.needs.now.items c.put_seen.new.needs.items c.in-Some.feed.needs.items _ c.in-Some.feed.next c.in-Some.feed.stages _ c.args.part.now c.args.conditions.now k c.as_slice-needed.ensures.value c.as_slice-own.ensures (c.all_leave.ensures c.if-all_leave.true) c.in_ok-put_seen.ensures c.in_ok-laid.ensures

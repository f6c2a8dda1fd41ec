use Rattle.std.proofs.Common.{◌||◌, ◌==◌, ap, ◌∙◌}
use Rattle.std.specs.List.{list_any}
use Rattle.qs_algebra.specs.inner.Flags.{flags_from}
use Rattle.qs_algebra.specs.inner.Flags.{flag_at}
use Rattle.qs_algebra.specs.inner.Possible.{is_possible, is_possible_step}
use Rattle.qs_algebra.proofs.Arms.{possible_basic_arm, possible_group_arm, possible_union_arm, possible_graph_arm, possible_each_arm, possible_values_arm, possible_join_arm, possible_left_join_arm, possible_minus_arm, possible_extend_arm, some_more}
use Rattle.qs_algebra.proofs.possible_variables.+possible.Goals as goal

pub possible_of_node-returns-in_ok-flags-in-Basic : goal.possible_of_node-returns-in_ok-flags-in-Basic
possible_of_node-returns-in_ok-flags-in-Basic t c =
    possible_basic_arm c.args.width c.args.pattern.now c.in_ok-flags-in-Basic.flags.items c.in-Basic.basic c.in-Basic.is c.in_ok-flags-in-Basic.ensures

pub possible_of_node-returns-in_ok-flags-in-Group : goal.possible_of_node-returns-in_ok-flags-in-Group
possible_of_node-returns-in_ok-flags-in-Group t c =
    possible_group_arm c.args.width c.args.pattern.now c.in_ok-flags-in-Group.flags.items c.in-Group.steps _ _ c.in-Group.is c.as_slice.ensures c.in_ok-flags-in-Group.ensures

pub possible_of_node-returns-in_ok-flags-in-Union : goal.possible_of_node-returns-in_ok-flags-in-Union
possible_of_node-returns-in_ok-flags-in-Union t c =
    possible_union_arm c.args.width c.args.pattern.now c.in_ok-flags-in-Union.flags.items c.in-Union.parts _ c.in-Union.is c.as_slice-in-Union.ensures c.in_ok-flags-in-Union.ensures

pub possible_of_node-returns-in_ok-flags-in-Graph : goal.possible_of_node-returns-in_ok-flags-in-Graph
possible_of_node-returns-in_ok-flags-in-Graph t c =
    possible_graph_arm c.args.width c.args.pattern.now c.in_ok-flags-in-Graph.flags.items _ c.in-Graph.part _ c.in-Graph.is c.get.ensures c.in_ok-flags-in-Graph.ensures

pub possible_of_node-returns-in_ok-flags-in-EachGraph : goal.possible_of_node-returns-in_ok-flags-in-EachGraph
possible_of_node-returns-in_ok-flags-in-EachGraph t c =
    possible_each_arm c.args.width c.args.pattern.now c.flag.new.flags.items _ c.in-EachGraph.part _ c.in_ok-flags-in-EachGraph.flags.items c.in-EachGraph.is c.get-in-EachGraph.ensures c.in_ok-flags-in-EachGraph.ensures c.flag.ensures

pub possible_of_node-returns-in_ok-flags-in-Values : goal.possible_of_node-returns-in_ok-flags-in-Values
possible_of_node-returns-in_ok-flags-in-Values t c =
    possible_values_arm c.args.width c.args.pattern.now c.in_ok-flags-in-Values.flags.items c.in-Values.table c.in-Values.is
    (c.in_ok-flags-in-Values.ensures ∙ ap (λ vs. flags_from (λ v. list_any (λ w. w == v) vs) 0 c.args.width) c.as_slice-in-Values.ensures)

pub possible_of_step-returns-in_ok-flags-in-Join : goal.possible_of_step-returns-in_ok-flags-in-Join
possible_of_step-returns-in_ok-flags-in-Join t c =
    possible_join_arm c.args.width c.args.one.now _ c.in_ok-flags-in-Join.flags.items c.in-Join.is c.in_ok-flags-in-Join.ensures

pub possible_of_step-returns-in_ok-flags-in-LeftJoin : goal.possible_of_step-returns-in_ok-flags-in-LeftJoin
possible_of_step-returns-in_ok-flags-in-LeftJoin t c =
    possible_left_join_arm c.args.width c.args.one.now _ c.in_ok-flags-in-LeftJoin.flags.items _ c.in-LeftJoin.is c.in_ok-flags-in-LeftJoin.ensures

pub possible_of_step-returns-in_ok-flags-in-Minus : goal.possible_of_step-returns-in_ok-flags-in-Minus
possible_of_step-returns-in_ok-flags-in-Minus t c =
    possible_minus_arm c.args.width c.args.one.now _ c.in_ok-flags-in-Minus.flags.items c.in-Minus.is c.in_ok-flags-in-Minus.ensures

pub possible_of_step-returns-in_ok-flags-in-Extend : goal.possible_of_step-returns-in_ok-flags-in-Extend
possible_of_step-returns-in_ok-flags-in-Extend t c =
    possible_extend_arm c.args.width c.args.one.now _ _ c.flag.new.flags.items c.in_ok-flags-in-Extend.flags.items c.in-Extend.is c.in_ok-flags-in-Extend.ensures c.flag.ensures

pub possible_in_steps-loop-one-preserved : goal.possible_in_steps-loop-one-preserved
possible_in_steps-loop-one-preserved t c =
    let w = c.args.width in
    some_more (is_possible_step w) c.args.steps.now c.loop-one.one-index w c.one-item.result c.loop-one.flags.items c.in_ok-more.more.items c.in_ok-flags-2.flags.items
    c.loop-one-test.true c.one-item.is c.loop-one.invariant c.in_ok-more.ensures
    (c.in_ok-flags-2.ensures
    ∙ (ap (λ l. flags_from (λ v. flag_at l v || flag_at c.as_slice-in-loop-one.result.now v) 0 w) c.as_slice.ensures.value
    ∙ ap (λ l. flags_from (λ v. flag_at c.loop-one.flags.items v || flag_at l v) 0 w) c.as_slice-in-loop-one.ensures.value))

pub possible_in_some-loop-part-preserved : goal.possible_in_some-loop-part-preserved
possible_in_some-loop-part-preserved t c =
    let w = c.args.width in
    some_more (is_possible w) c.args.parts.now c.loop-part.part-index w c.part-item.result c.loop-part.flags.items c.in_ok-more.more.items c.in_ok-flags-2.flags.items
    c.loop-part-test.true c.part-item.is c.loop-part.invariant c.in_ok-more.ensures
    (c.in_ok-flags-2.ensures
    ∙ (ap (λ l. flags_from (λ v. flag_at l v || flag_at c.as_slice-in-loop-part.result.now v) 0 w) c.as_slice.ensures.value
    ∙ ap (λ l. flags_from (λ v. flag_at c.loop-part.flags.items v || flag_at l v) 0 w) c.as_slice-in-loop-part.ensures.value))

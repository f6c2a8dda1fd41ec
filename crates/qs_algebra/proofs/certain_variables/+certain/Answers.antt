use Rattle.std.proofs.Common.{◌||◌, ◌&&◌, ap, ◌∙◌}
use Rattle.qs_algebra.specs.inner.Flags.{flags_from}
use Rattle.qs_algebra.specs.inner.Flags.{flag_at}
use Rattle.qs_algebra.specs.inner.Certain.{is_certain, is_certain_step}
use Rattle.qs_algebra.proofs.Arms.{certain_basic_arm, certain_group_arm, certain_union_arm, certain_graph_arm, certain_each_arm, certain_values_arm, certain_join_arm, certain_left_join_arm, certain_minus_arm, certain_extend_arm, some_more, every_more}
use Rattle.qs_algebra.proofs.certain_variables.+certain.Goals as goal

pub certain_of_node-returns-in_ok-flags-in-Basic : goal.certain_of_node-returns-in_ok-flags-in-Basic
certain_of_node-returns-in_ok-flags-in-Basic t c =
    certain_basic_arm c.args.width c.args.pattern.now c.in_ok-flags-in-Basic.flags.items c.in-Basic.basic c.in-Basic.is c.in_ok-flags-in-Basic.ensures

pub certain_of_node-returns-in_ok-flags-in-Group : goal.certain_of_node-returns-in_ok-flags-in-Group
certain_of_node-returns-in_ok-flags-in-Group t c =
    certain_group_arm c.args.width c.args.pattern.now c.in_ok-flags-in-Group.flags.items c.in-Group.steps _ _ c.in-Group.is c.as_slice.ensures c.in_ok-flags-in-Group.ensures

pub certain_of_node-returns-in_ok-flags-in-Union : goal.certain_of_node-returns-in_ok-flags-in-Union
certain_of_node-returns-in_ok-flags-in-Union t c =
    certain_union_arm c.args.width c.args.pattern.now c.in_ok-flags-in-Union.flags.items c.in-Union.parts _ c.in-Union.is c.as_slice-in-Union.ensures c.in_ok-flags-in-Union.ensures

pub certain_of_node-returns-in_ok-flags-in-Graph : goal.certain_of_node-returns-in_ok-flags-in-Graph
certain_of_node-returns-in_ok-flags-in-Graph t c =
    certain_graph_arm c.args.width c.args.pattern.now c.in_ok-flags-in-Graph.flags.items _ c.in-Graph.part _ c.in-Graph.is c.get.ensures c.in_ok-flags-in-Graph.ensures

pub certain_of_node-returns-in_ok-flags-in-EachGraph : goal.certain_of_node-returns-in_ok-flags-in-EachGraph
certain_of_node-returns-in_ok-flags-in-EachGraph t c =
    certain_each_arm c.args.width c.args.pattern.now c.flag.new.flags.items _ c.in-EachGraph.part _ c.in_ok-flags-in-EachGraph.flags.items c.in-EachGraph.is c.get-in-EachGraph.ensures c.in_ok-flags-in-EachGraph.ensures c.flag.ensures

pub certain_of_node-returns-in_ok-flags-in-Values : goal.certain_of_node-returns-in_ok-flags-in-Values
certain_of_node-returns-in_ok-flags-in-Values t c =
    certain_values_arm c.args.width c.args.pattern.now c.in_ok-flags-in-Values.flags.items c.in-Values.table c.in-Values.is c.in_ok-flags-in-Values.ensures

pub certain_of_step-returns-in_ok-flags-in-Join : goal.certain_of_step-returns-in_ok-flags-in-Join
certain_of_step-returns-in_ok-flags-in-Join t c =
    certain_join_arm c.args.width c.args.one.now _ c.in_ok-flags-in-Join.flags.items c.in-Join.is c.in_ok-flags-in-Join.ensures

pub certain_of_step-returns-in_ok-flags-in-LeftJoin : goal.certain_of_step-returns-in_ok-flags-in-LeftJoin
certain_of_step-returns-in_ok-flags-in-LeftJoin t c =
    certain_left_join_arm c.args.width c.args.one.now _ c.in_ok-flags-in-LeftJoin.flags.items _ c.in-LeftJoin.is c.in_ok-flags-in-LeftJoin.ensures

pub certain_of_step-returns-in_ok-flags-in-Minus : goal.certain_of_step-returns-in_ok-flags-in-Minus
certain_of_step-returns-in_ok-flags-in-Minus t c =
    certain_minus_arm c.args.width c.args.one.now _ c.in_ok-flags-in-Minus.flags.items c.in-Minus.is c.in_ok-flags-in-Minus.ensures

pub certain_of_step-returns-in_ok-flags-in-Extend : goal.certain_of_step-returns-in_ok-flags-in-Extend
certain_of_step-returns-in_ok-flags-in-Extend t c =
    certain_extend_arm c.args.width c.args.one.now _ _ c.in_ok-flags-in-Extend.flags.items c.in-Extend.is c.in_ok-flags-in-Extend.ensures

pub certain_in_steps-loop-one-preserved : goal.certain_in_steps-loop-one-preserved
certain_in_steps-loop-one-preserved t c =
    let w = c.args.width in
    some_more (is_certain_step w) c.args.steps.now c.loop-one.one-index w c.one-item.result c.loop-one.flags.items c.in_ok-more.more.items c.in_ok-flags-2.flags.items
    c.loop-one-test.true c.one-item.is c.loop-one.invariant c.in_ok-more.ensures
    (c.in_ok-flags-2.ensures
    ∙ (ap (λ l. flags_from (λ v. flag_at l v || flag_at c.as_slice-in-loop-one.result.now v) 0 w) c.as_slice.ensures.value
    ∙ ap (λ l. flags_from (λ v. flag_at c.loop-one.flags.items v || flag_at l v) 0 w) c.as_slice-in-loop-one.ensures.value))

pub certain_in_every-loop-part-preserved : goal.certain_in_every-loop-part-preserved
certain_in_every-loop-part-preserved t c =
    let w = c.args.width in
    every_more (is_certain w) c.args.parts.now c.loop-part.part-index w c.part-item.result c.loop-part.flags.items c.in_ok-more.more.items c.in_ok-flags-2.flags.items
    c.loop-part-test.true c.part-item.is c.loop-part.invariant c.in_ok-more.ensures
    (c.in_ok-flags-2.ensures
    ∙ (ap (λ l. flags_from (λ v. flag_at l v && flag_at c.as_slice-in-loop-part.result.now v) 0 w) c.as_slice.ensures.value
    ∙ ap (λ l. flags_from (λ v. flag_at c.loop-part.flags.items v && flag_at l v) 0 w) c.as_slice-in-loop-part.ensures.value))

use Rattle.std.proofs.Common.{rules, ◌≡◌, false, List, [], ◌∷◌, ◌++◌, ℕ, subst, sym, ap, ◌∙◌, arith}
use Rattle.qs_plan_meaning.specs.declared.stage.Stage.{the_lemmas}
use Rattle.qs_ops_program.specs.inner.Emitted.{Emitted, Forked}
use Rattle.qs_ops_program.specs.inner.Flow.{is_union, Instruction}
use Rattle.qs_ops_program.proofs.Emits.{emitted_end, emitted_back, emitted_step, emitted_fork, forked_none, forked_more}
use Rattle.qs_ops_program.proofs.emit.+emit.Goals as goal

pub emit_branches-loop-branch-init : goal.emit_branches-loop-branch-init
emit_branches-loop-branch-init t c =
    subst (λ (l : List ℕ). Forked c.args.code.now.items c.args.code.now.items l c.args.next []) (sym c.new-starts.ensures.items) (forked_none c.args.code.now.items c.args.next c.requires.forward)

pub emit_branches-loop-branch-preserved : goal.emit_branches-loop-branch-preserved
emit_branches-loop-branch-preserved t c =
    forked_more c.args.code.now.items c.loop-branch.code.items c.emit_stages.new.code.items c.loop-branch.starts.items c.push.new.self.items c.in_ok-start.start c.args.next c.args.branches.now c.loop-branch.branch-index c.branch-item.result
    c.loop-branch-test.true c.branch-item.is c.requires.next c.loop-branch.invariant
    (subst (Emitted c.loop-branch.code.items c.emit_stages.new.code.items c.in_ok-start.start c.args.next) c.as_slice.ensures c.in_ok-start.ensures)
    c.in_ok-push.ensures.items

pub emit_stage-returns-in-Union : goal.emit_stage-returns-in-Union
emit_stage-returns-in-Union t c =
    emitted_fork c.args.code.now.items c.emit_branches.new.code.items c.put.new.code.items c.args.stage.now c.in-Union.branches c.args.next c.in_ok-at.at c.in_ok-starts.starts.items
    c.in-Union.is c.requires.next
    (subst (Forked c.args.code.now.items c.emit_branches.new.code.items c.in_ok-starts.starts.items c.args.next) c.as_slice.ensures c.in_ok-starts.ensures)
    (c.in_ok-at.ensures.code ∙ ap (λ (i : Instruction). c.emit_branches.new.code.items ++ i ∷ []) c.new.ensures) c.in_ok-at.ensures.at

pub emit_stage-returns : goal.emit_stage-returns
emit_stage-returns t c =
    let u : is_union c.args.stage.now ≡ false = search (rules, the_lemmas) in
    emitted_step c.args.code.now.items c.put-2.new.code.items c.args.stage.now c.args.next c.in_ok-at-2.at c.new-2.result.items
    c.requires.forward c.requires.next u c.new-2.ensures.items
    (c.in_ok-at-2.ensures.code ∙ ap (λ (i : Instruction). c.args.code.now.items ++ i ∷ []) c.new-3.ensures) c.in_ok-at-2.ensures.at

pub emit_stages-loop-left-init : goal.emit_stages-loop-left-init
emit_stages-loop-left-init t c = emitted_end c.args.code.now.items c.args.next c.args.stages.now c.requires.forward c.requires.next

pub emit_stages-loop-left-preserved : goal.emit_stages-loop-left-preserved
emit_stages-loop-left-preserved t c =
    emitted_back c.args.code.now.items c.loop-left.code.items c.emit_stage.new.code.items c.in_ok-at.at c.loop-left.at c.args.next c.args.stages.now c.loop-left.left c.index-stages-left.result
    (omega arith) (omega arith) c.index-stages-left.is c.requires.next c.loop-left.invariant c.in_ok-at.ensures

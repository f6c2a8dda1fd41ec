use Rattle.std.proofs.Common.{◌≡◌, ℕ, ◌<◌, ◌+◌, List, [], ◌∷◌, ◌++◌, length, take, ap, sym, ◌∙◌, subst, arith}
use Rattle.std.proofs.lemmas.List.{take_all}
use Rattle.qs_syntax_ast.specs.declared.path.Path.{Path}
use Rattle.qs_syntax_ast.specs.declared.path.Path.TheVariants as path
use Rattle.qs_plan_meaning.specs.declared.stage.Group.{Group}
use Rattle.qs_plan_meaning.specs.declared.stage.Stage.{Stage}
use Rattle.qs_plan_meaning.specs.declared.stage.Stage.TheVariants.{Union}
use Rattle.qs_algebra_patterns.specs.declared.pattern.Slot.TheVariants as slot
use Rattle.qs_plan.specs.inner.Joins.{AllJoined, Joined, Leading, between}
use Rattle.qs_plan.proofs.Joining.{all_parts, as_path, branch_more, either_joined, inverse_joined, iri_joined, leading_last, leading_more, no_parts, none_joined, part_more, stands, whole_joined}
use Rattle.qs_plan.proofs.joins.+join.Goals as goal

pub join-returns-in_ok-laid-in-Iri : goal.join-returns-in_ok-laid-in-Iri
join-returns-in_ok-laid-in-Iri t c =
    as_path c.args.look.now c.args.from _ _ c.args.subject.now c.args.path.now (path.Iri c.in-Iri.iri) c.args.object.now c.in-Iri.is
    (iri_joined c.args.look.now c.args.from _ _ c.args.subject.now _ c.args.object.now c.requires.left.0 c.requires.right.0 c.in_ok-laid-in-Iri.ensures.0 c.in_ok-laid-in-Iri.ensures.1)

pub join-returns-in_ok-laid-in-Inverse : goal.join-returns-in_ok-laid-in-Inverse
join-returns-in_ok-laid-in-Inverse t c =
    as_path c.args.look.now c.args.from _ _ c.args.subject.now c.args.path.now (path.Inverse c.get.result.now) c.args.object.now (c.in-Inverse.is ∙ ap path.Inverse (sym c.get.ensures))
    (inverse_joined c.args.look.now c.args.from _ _ c.args.subject.now c.get.result.now c.args.object.now c.requires.left.0 c.requires.right.0 c.in_ok-laid-in-Inverse.ensures)

pub join-returns-in_ok-laid-in_default : goal.join-returns-in_ok-laid-in_default
join-returns-in_ok-laid-in_default t c =
    whole_joined c.args.look.now c.args.from _ _ (between c.args.subject.now c.args.path.now c.args.object.now) (stands c.args.from c.args.subject.now c.requires.left.0) (stands c.args.from c.args.object.now c.requires.right.0)
    c.in_ok-laid-in_default.ensures.0 c.in_ok-laid-in_default.ensures.1

pub join_each-returns-then-count-parts : goal.join_each-returns-then-count-parts
join_each-returns-then-count-parts t c =
    let lt : c.loop-part.part-index < length c.args.parts.now = c.loop-part-test.true in
    let last : c.loop-part.part-index + 1 ≡ length c.args.parts.now = omega (arith, c.loop-part.invariant.is_count, c.if-count-parts.true) in
    subst (λ (ss : List Stage). Joined c.args.look.now c.args.from c.in_ok-laid.laid.next ss (between c.args.subject.now (path.Sequence c.args.parts.now) c.args.object.now)) (sym c.in_ok-append.ensures)
    (as_path c.args.look.now c.args.from _ _ c.args.subject.now _ _ c.args.object.now (ap path.Sequence (sym (all_parts c.args.parts.now c.loop-part.part-index c.part-item.result lt last c.part-item.is)))
    (leading_last c.args.look.now c.args.from c.loop-part.next _ c.args.subject.now c.loop-part.left c.args.object.now (take c.loop-part.part-index c.args.parts.now) c.loop-part.stages _ c.part-item.result c.requires.right
    c.loop-part.invariant.leading c.in_ok-laid.ensures))

pub join_each-loop-part-preserved : goal.join_each-loop-part-preserved
join_each-loop-part-preserved t c =
    let lt : c.loop-part.part-index < length c.args.parts.now = c.loop-part-test.true in
    record {
      is_count = omega (arith, c.loop-part.invariant.is_count);
      some = λ h. omega (arith, lt, c.loop-part.invariant.is_count, c.if-count-parts.false);
      leading =
          subst (λ (ps : List Path). Leading c.args.look.now c.args.from c.args.subject.now ps c.append-in-loop-part.new.self (slot.Variable c.loop-part.next) c.in_ok-laid-2.laid.next) (sym (part_more c.args.parts.now c.loop-part.part-index c.part-item.result lt c.part-item.is))
          (subst (λ (ss : List Stage). Leading c.args.look.now c.args.from c.args.subject.now (take c.loop-part.part-index c.args.parts.now ++ c.part-item.result ∷ []) ss (slot.Variable c.loop-part.next) c.in_ok-laid-2.laid.next) (sym c.in_ok-append-2.ensures)
          (leading_more c.args.look.now c.args.from c.loop-part.next c.in_ok-laid-2.laid.next c.args.subject.now c.loop-part.left (take c.loop-part.part-index c.args.parts.now) c.loop-part.stages c.in_ok-laid-2.laid.stages c.part-item.result c.requires.under
          c.loop-part.invariant.leading
          (subst (λ (n : ℕ). Joined c.args.look.now n c.in_ok-laid-2.laid.next c.in_ok-laid-2.laid.stages (between c.loop-part.left c.part-item.result (slot.Variable c.loop-part.next))) c.in_ok-inner.ensures c.in_ok-laid-2.ensures)));
    }

pub join_each-returns : goal.join_each-returns
join_each-returns t c =
    as_path c.args.look.now c.args.from _ _ c.args.subject.now (path.Sequence c.args.parts.now) (path.Sequence []) c.args.object.now
    (ap path.Sequence (no_parts c.args.parts.now c.loop-part.part-index c.loop-part-test.false c.loop-part.invariant.some))
    (none_joined c.args.look.now c.args.from _ _ c.args.subject.now c.args.object.now (c.in_ok-laid-3.ensures.0 ∙ ap (λ (bs : List Group). Union bs ∷ []) c.new.ensures) c.in_ok-laid-3.ensures.1)

pub join_either-loop-part-preserved : goal.join_either-loop-part-preserved
join_either-loop-part-preserved t c =
    let lt : c.loop-part.part-index < length c.args.parts.now = c.loop-part-test.true in
    record {
      up = omega (arith, c.loop-part.invariant.up, c.greater-next.ensures.first);
      joined =
          subst (λ (ps : List Path). AllJoined c.args.look.now c.args.from c.greater-next.result c.args.subject.now c.args.object.now c.push.new.self ps) (sym (part_more c.args.parts.now c.loop-part.part-index c.part-item.result lt c.part-item.is))
          (subst (λ (bs : List Group). AllJoined c.args.look.now c.args.from c.greater-next.result c.args.subject.now c.args.object.now bs (take c.loop-part.part-index c.args.parts.now ++ c.part-item.result ∷ [])) (sym c.in_ok-push.ensures.ok)
          (branch_more c.args.look.now c.args.from c.loop-part.next c.in_ok-laid.laid.next c.greater-next.result c.args.subject.now c.args.object.now c.loop-part.branches (take c.loop-part.part-index c.args.parts.now) c.in_ok-laid.laid.stages c.part-item.result
          c.greater-next.ensures.first c.greater-next.ensures.second c.loop-part.invariant.joined c.in_ok-laid.ensures));
    }

pub join_either-returns : goal.join_either-returns
join_either-returns t c =
    subst (λ (n : ℕ). Joined c.args.look.now c.args.from n c.in_ok-laid-2.laid.stages (between c.args.subject.now (path.Alternative c.args.parts.now) c.args.object.now)) (sym c.in_ok-laid-2.ensures.1)
    (either_joined c.args.look.now c.args.from c.loop-part.next _ c.args.subject.now c.args.parts.now c.args.object.now c.loop-part.branches c.requires.left.0 c.loop-part.invariant.up
    (subst (AllJoined c.args.look.now c.args.from c.loop-part.next c.args.subject.now c.args.object.now c.loop-part.branches) (take_all c.loop-part.part-index c.args.parts.now c.loop-part-test.false) c.loop-part.invariant.joined)
    c.in_ok-laid-2.ensures.0)

-- Updates.
use Rattle.std.proofs.Common.{◌≡◌, ℕ, List, [], ◌∷◌, ◌++◌, map, Option, Some, None, Ok, Err, refl, sym, ◌∙◌}
use Rattle.qs_syntax_ast.specs.declared.pattern.Triple.{Triple}
use Rattle.qs_syntax_ast.specs.declared.pattern.Group.{Group}
use Rattle.qs_syntax_ast.specs.declared.update.DeleteWhere.{DeleteWhere}
use Rattle.qs_syntax_ast.specs.declared.update.GraphOrDefault.TheVariants as end
use Rattle.qs_syntax_ast.specs.declared.update.GraphTarget.TheVariants as target
use Rattle.qs_syntax_ast.specs.declared.update.Operation.{Operation as ResolvedOperation}
use Rattle.qs_syntax_ast.specs.declared.update.Operation.TheVariants as operation
use Rattle.qs_syntax_ast.specs.declared.update.QuadBlock.{QuadBlock}
use Rattle.qs_syntax_grammar.specs.Notation.{◌&◌, opt}
use Rattle.qs_syntax_grammar.specs.inner.Repeated.{joined}
use Rattle.qs_syntax_ast.specs.declared.update.Modify.{Modify}
use Rattle.qs_syntax_tree.specs.declared.pattern.Group.{Group as WrittenGroup}
use Rattle.qs_terms.specs.Outcome.{Outcome, and_then}
use Rattle.qs_syntax_tree.specs.Rules as rule
use Rattle.qs_syntax_tree.specs.inner.Procedures as procedures
use Rattle.qs_syntax_tree.specs.Sparql.{Name, Tree, Rule}
use Rattle.qs_syntax_tree.specs.Trees.{steps_of}
use Rattle.qs_syntax_tree.specs.declared.query.PrefixDeclaration.{PrefixDeclaration}
use Rattle.qs_syntax_tree.specs.declared.term.Iri.{Iri}
use Rattle.qs_syntax_tree.specs.declared.token.Token.{Token}
use Rattle.qs_syntax_tree.specs.declared.triples.Form.{Form}
use Rattle.qs_syntax_tree.specs.declared.triples.Form.TheVariants as tree_form
use Rattle.qs_syntax_tree.specs.declared.update.GraphOrDefault.{GraphOrDefault}
use Rattle.qs_syntax_tree.specs.declared.update.Modify.{Modify as WrittenModify}
use Rattle.qs_syntax_tree.specs.declared.update.OnMissing.{OnMissing}
use Rattle.qs_syntax_tree.specs.declared.update.Operation.{Operation}
use Rattle.qs_syntax_tree.specs.declared.update.QuadElement.{QuadElement}
use Rattle.qs_syntax_tree.specs.declared.update.QuadPattern.{QuadPattern}
use Rattle.qs_syntax_tree.specs.declared.update.Quads.{Quads}
use Rattle.qs_syntax_tree.specs.declared.update.UpdateStep.{UpdateStep}
use Rattle.qs_syntax_resolve.specs.Expression.{expression_of}
use Rattle.qs_syntax_resolve.specs.Leaves.{var_or_iri, variables_since}
use Rattle.qs_syntax_resolve.specs.Pattern.{group_of}
use Rattle.qs_syntax_resolve.specs.Query.{prologue}
use Rattle.qs_syntax_resolve.specs.Resolving.{Resolving, ◌>>=◌, pure, all_after}
use Rattle.qs_syntax_resolve.specs.Triples.{triples_after}
use Rattle.qs_syntax_resolve.specs.Update.{quads, template, target_of, end_of, transfer, modify, delete_where, operation_of, operation_after, step, update}
use Rattle.qs_syntax_resolve.specs.inner.Update.{block_of, with_graph, steps}
use Rattle.qs_syntax_resolve.specs.declared.resolver.Resolver.{Resolver}
use Rattle.qs_syntax_laws.proofs.Queries.{prologue_meets, template_meets}
use Rattle.qs_syntax_laws.proofs.Terms.{iri_meets, var_or_iri_meets}
use Rattle.qs_syntax_laws.proofs.Walks.{nothing, unread, under, associative, paired}
use Rattle.qs_syntax_laws.proofs.Ways.{Resolves, by_same, by_mute, by_either, by_made, by_mapped, by_opt, by_or, by_both, by_second, by_placed, behind_mute, before_mute, in_turn, before_still, by_count}

-- ---- lists in two parts

module _ {A B : Type 0} (f : A → Resolving B) where
  one_behind : (found : List B) (xs ys : List A) (o : Outcome (B × Resolver))
      → ((b : B) (s : Resolver) → all_after (found ++ b ∷ []) (map f (xs ++ ys)) s ≡ (all_after (found ++ b ∷ []) (map f xs) >>= (λ c. all_after c (map f ys))) s)
      → and_then o (λ r. all_after (found ++ r.0 ∷ []) (map f (xs ++ ys)) r.1) ≡ and_then (and_then o (λ r. all_after (found ++ r.0 ∷ []) (map f xs) r.1)) (λ q. all_after q.0 (map f ys) q.1)
  one_behind found xs ys (Ok r) h = h r.0 r.1
  one_behind found xs ys (Err e) h = refl

  in_two_parts : (xs ys : List A) (found : List B) (s : Resolver) → all_after found (map f (xs ++ ys)) s ≡ (all_after found (map f xs) >>= (λ c. all_after c (map f ys))) s
  in_two_parts [] ys found s = refl
  in_two_parts (x ∷ xs) ys found s = one_behind found xs ys (f x s) (λ b t. in_two_parts xs ys (found ++ b ∷ []) t)

-- ---- steps

abbrev pub operations : List ResolvedOperation → Operation × List UpdateStep → Resolving (List ResolvedOperation)
operations found x = operation_after found (Some x.0) >>= (λ more. steps more x.1)

abbrev others : List ResolvedOperation → Option (Operation × List UpdateStep) → Resolving (List ResolvedOperation)
others found None = pure found
others found (Some x) = operations found x

nothing_behind : {A : Type 0} (o : Outcome (A × Resolver)) → and_then o (λ r. Ok (r.0, r.1)) ≡ o
nothing_behind (Ok r) = refl
nothing_behind (Err e) = refl

steps_are : (found : List ResolvedOperation) (p : List PrefixDeclaration) (o : Option (Operation × List UpdateStep)) (s : Resolver) → steps found (steps_of (p, o)) s ≡ (prologue p >>= (λ _. others found o)) s
unfolding step
steps_are found p None s = nothing_behind ((prologue p >>= (λ _. pure found)) s)
steps_are found p (Some x) s = sym (associative (prologue p) (λ _. operation_after found (Some x.0)) (λ more. steps more x.1) s)

module _ {refs : (n : Name) → List Token → Tree n → Type 0} where
  steps_meet : {r : Rule (Operation × List UpdateStep)} → ((found : List ResolvedOperation) → Resolves refs r (operations found)) → (found : List ResolvedOperation)
      → Resolves refs (procedures.prologue & opt r) (λ x. steps found (steps_of x))
  steps_meet h found =
      by_same (λ x. prologue x.0 >>= (λ _. others found x.1)) (λ x s. steps_are found x.0 x.1 s) (by_both {p = prologue} {f = λ _ _ o. others found o} prologue_meets (λ _ _. by_opt (h found) (nothing found)))

  -- ---- whole graphs

  target_meets : Resolves refs rule.target target_of
  unfolding rule.target
  target_meets =
      by_either (by_made (by_mapped (λ _ x. target.Graph x) (behind_mute refl iri_meets)))
      (by_either (by_made (by_mute refl (λ _. unread))) (by_either (by_made (by_mute refl (λ _. unread))) (by_made (by_mute refl (λ _. unread)))))

  end_meets : Resolves refs rule.graph_or_default end_of
  unfolding rule.graph_or_default
  end_meets = by_either (by_made (by_mute refl (λ _. unread))) (by_made (by_mapped (λ _ x. end.Graph x) (behind_mute refl iri_meets)))

  transfer_meets : Resolves refs rule.transfer transfer
  unfolding rule.transfer rule.silent transfer
  transfer_meets =
      by_made (by_both {p = λ (x : OnMissing × GraphOrDefault). end_of x.1} (before_mute refl (by_second refl (λ silent. end_meets)))
      (λ x a. by_mapped (λ _ b. record { on_missing = x.0; from = a; to = b }) end_meets))

  graphs_meet : Resolves refs procedures.graph_operation operation_of
  unfolding procedures.graph_operation procedures.clear procedures.drop_graph procedures.create procedures.from_graph_to_graph rule.silent operation_of
  graphs_meet =
      by_either (by_made (by_second refl (λ silent. by_mapped (λ _ x. operation.Clear silent x) target_meets)))
      (by_either (by_made (by_second refl (λ silent. by_mapped (λ _ x. operation.Drop silent x) target_meets)))
      (by_either (by_made (by_second refl (λ silent. by_mapped (λ _ x. operation.Create silent x) iri_meets)))
      (by_either (by_made (by_mapped (λ _ x. operation.Add x) (behind_mute refl transfer_meets)))
      (by_either (by_made (by_mapped (λ _ x. operation.Move x) (behind_mute refl transfer_meets))) (by_made (by_mapped (λ _ x. operation.Copy x) (behind_mute refl transfer_meets)))))))

  module _ (expression_meets : Resolves refs rule.expression expression_of) (group_meets : Resolves refs rule.group group_of)
      (triples_meet : (f : Form) (found : List Triple) → Resolves refs (rule.triples f) (triples_after found)) where
    -- ---- quads

    abbrev blocks : List QuadBlock → List QuadElement → Resolving (List QuadBlock)
    blocks found es = all_after found (map block_of es)

    block_meets : (found : List QuadBlock) → Resolves refs procedures.quads_block (blocks found)
    unfolding procedures.quads_block
    block_meets found =
        by_or (by_made (by_mapped {p = λ (x : ℕ × Quads). block_of (record { place = x.0; quads = x.1 })} (λ _ b. found ++ b ∷ [])
        (by_placed (λ place. by_made (by_mapped (λ _ ts. record { graph = None; triples = ts }) (triples_meet tree_form.Template [])))))) (nothing found)

    graph_meets : Resolves refs procedures.dotted_graph block_of
    unfolding procedures.dotted_graph procedures.quads_graph
    graph_meets =
        before_mute refl (by_made (by_placed (λ place. by_made (by_both {p = var_or_iri} (behind_mute refl var_or_iri_meets)
        (λ _ n. by_mapped (λ _ ts. record { graph = Some n; triples = ts }) (template_meets expression_meets group_meets triples_meet []))))))

    quads_step_meets : (found : List QuadBlock) → Resolves refs procedures.quads_step (blocks found)
    unfolding procedures.quads_step
    quads_step_meets found = by_made (by_both {p = block_of} graph_meets (λ _ b. block_meets (found ++ b ∷ [])))

    quads_steps_meet : (found : List QuadBlock) → Resolves refs procedures.quads_steps (blocks found)
    unfolding procedures.quads_steps
    quads_steps_meet found = by_made (in_turn (λ b xs. blocks b (joined xs)) blocks (λ b. refl) (λ b es xs s. in_two_parts block_of es (joined xs) b s) quads_step_meets found)

    quads_meet : Resolves refs procedures.quads (λ q. quads q.elements)
    unfolding procedures.quads procedures.quads_elements
    quads_meet =
        by_made (behind_mute refl (before_mute refl (by_made (by_same (λ x. blocks [] x.0 >>= (λ b. blocks b x.1)) (λ x s. in_two_parts block_of x.0 x.1 [] s)
        (by_both {p = blocks []} (block_meets []) (λ _ b. quads_steps_meet b))))))

    -- ---- operations

    where_meets : Resolves refs procedures.where_group group_of
    unfolding procedures.where_group
    where_meets = behind_mute refl group_meets

    insert_clause_meets : Resolves refs procedures.insert_clause template
    unfolding procedures.insert_clause
    insert_clause_meets = by_opt (behind_mute refl quads_meet) unread

    -- the variables since there were so many, last
    abbrev listed : ℕ → Option (List ℕ) → List QuadBlock × List QuadBlock → Group → Resolving Modify
    listed n w c g = variables_since n >>= (λ variables. pure (record { with = w; delete = c.0; insert = c.1; pattern = g; variables = variables }))

    abbrev modify_since : ℕ → WrittenModify → Resolving Modify
    modify_since n m = with_graph m.with >>= (λ w. template m.delete >>= (λ d. template m.insert >>= (λ i. group_of m.pattern >>= listed n w (d, i))))

    abbrev delete_since : ℕ → QuadPattern → Resolving DeleteWhere
    delete_since n q = quads q.elements >>= (λ blocks. variables_since n >>= (λ variables. pure (record { quads = blocks; variables = variables })))

    insert_meets : Resolves refs procedures.insert operation_of
    unfolding procedures.insert operation_of modify
    insert_meets =
        behind_mute refl (by_either (by_made (by_mapped (λ _ x. operation.InsertData x) (behind_mute refl quads_meet)))
        (by_made (by_mapped (λ _ m. operation.Modify m)
        (by_count (λ n x. modify_since n (record { with = None; delete = None; insert = Some x.0; pattern = x.1 })) (λ n.
        by_both {p = λ (q : QuadPattern). quads q.elements} quads_meet (λ _ i. before_still (λ _ g. listed n None ([], i) g) (λ _ _. unread) where_meets))))))

    abbrev templates : Option QuadPattern × Option QuadPattern → Resolving (List QuadBlock × List QuadBlock)
    templates x = template x.0 >>= (λ d. template x.1 >>= (λ i. pure (d, i)))

    delete_and_insert : Resolves refs (procedures.quads & procedures.insert_clause) (λ x. templates (Some x.0, x.1))
    delete_and_insert = by_both {p = λ (q : QuadPattern). quads q.elements} quads_meet (λ _ d. by_mapped (λ _ i. (d, i)) insert_clause_meets)

    delete_where_meets : Resolves refs procedures.quads delete_where
    unfolding delete_where
    delete_where_meets =
        by_count delete_since (λ n. before_still (λ _ blocks. variables_since n >>= (λ variables. pure (record { quads = blocks; variables = variables }))) (λ _ _. unread) quads_meet)

    delete_meets : Resolves refs procedures.delete operation_of
    unfolding procedures.delete operation_of modify
    delete_meets =
        behind_mute refl (by_either (by_made (by_mapped (λ _ x. operation.DeleteData x) (behind_mute refl quads_meet)))
        (by_either (by_made (by_mapped (λ _ x. operation.DeleteWhere x) (behind_mute refl delete_where_meets)))
        (by_made (by_mapped {p = λ x. modify (record { with = None; delete = Some x.0.0; insert = x.0.1; pattern = x.1 })} (λ _ m. operation.Modify m)
        (by_count (λ n x. modify_since n (record { with = None; delete = Some x.0.0; insert = x.0.1; pattern = x.1 })) (λ n.
        by_same (λ x. templates (Some x.0.0, x.0.1) >>= (λ c. group_of x.1 >>= listed n None c)) (λ x s. paired (template (Some x.0.0)) (template x.0.1) (λ c. group_of x.1 >>= listed n None c) s)
        (by_both {p = λ x. templates (Some x.0, x.1)} delete_and_insert (λ _ c. before_still (λ _ g. listed n None c g) (λ _ _. unread) where_meets))))))))

    changes_meet : Resolves refs procedures.changes templates
    unfolding procedures.changes
    changes_meet =
        by_either (by_made (by_both {p = λ (q : QuadPattern). quads q.elements} (behind_mute refl quads_meet) (λ _ d. by_mapped (λ _ i. (d, i)) insert_clause_meets)))
        (by_made (by_mapped (λ _ i. ([], i)) (behind_mute refl quads_meet)))

    abbrev graph_and_changes : Iri × (Option QuadPattern × Option QuadPattern) → Resolving (Option (List ℕ) × (List QuadBlock × List QuadBlock))
    graph_and_changes x = with_graph (Some x.0) >>= (λ w. templates x.1 >>= (λ c. pure (w, c)))

    made : ℕ → WrittenGroup → Option (List ℕ) × (List QuadBlock × List QuadBlock) → Resolving Modify
    made n p c = group_of p >>= listed n c.0 c.1

    with_meets : Resolves refs procedures.with_graph operation_of
    unfolding procedures.with_graph procedures.with_clause operation_of modify made
    with_meets =
        by_made (by_mapped {p = λ x. modify (record { with = Some x.0.0; delete = x.0.1.0; insert = x.0.1.1; pattern = x.1 })} (λ _ m. operation.Modify m)
        (by_count (λ n x. modify_since n (record { with = Some x.0.0; delete = x.0.1.0; insert = x.0.1.1; pattern = x.1 })) (λ n.
        by_same (λ x. graph_and_changes x.0 >>= made n x.1)
        (λ x s. under (with_graph (Some x.0.0) s) (λ w. template x.0.1.0 >>= (λ d. template x.0.1.1 >>= (λ i. made n x.1 (w, (d, i))))) (λ w. templates x.0.1 >>= (λ c. made n x.1 (w, c)))
        (λ w t. paired (template x.0.1.0) (template x.0.1.1) (λ c. made n x.1 (w, c)) t) ∙ paired (with_graph (Some x.0.0)) (templates x.0.1) (made n x.1) s)
        (by_both {p = graph_and_changes} (by_both {p = λ i. with_graph (Some i)} (by_mapped (λ _ i. Some i) (behind_mute refl iri_meets)) (λ _ w. by_mapped (λ _ c. (w, c)) changes_meet))
        (λ _ c. before_still (λ _ g. listed n c.0 c.1 g) (λ _ _. unread) where_meets)))))

    operation_meets : Resolves refs procedures.operation operation_of
    unfolding procedures.operation
    operation_meets = by_either insert_meets (by_either delete_meets (by_either with_meets graphs_meet))

    module _ (operations_meet : (found : List ResolvedOperation) → Resolves refs rule.operations (operations found)) where
      pub operations_rule_meet : (found : List ResolvedOperation) → Resolves refs procedures.operations_rule (operations found)
      unfolding procedures.operations_rule
      operations_rule_meet found =
          by_both {p = λ o. operation_after found (Some o)} (by_mapped (λ _ x. found ++ x ∷ []) operation_meets)
          (λ _ more. by_or (behind_mute refl (by_made (steps_meet operations_meet more))) (nothing more))

      pub update_meets : Resolves refs procedures.update update
      unfolding procedures.update update
      update_meets = by_made (by_mapped {p = λ x. steps [] (steps_of x)} (λ _ found. record { operations = found }) (steps_meet operations_rule_meet []))

-- An operation with a WHERE notes the variables that stand in it, and lists those that were noted.
use Rattle.std.proofs.Common.{◌≡◌, ℕ, Bool, true, false, if◌then◌else◌, List, [], ◌∷◌, ◌++◌, map, Option, Some, None, Ok, Err, subst}
use Rattle.std.specs.List.{AllByRecursion, flat_map}
use Rattle.qs_terms.specs.Outcome.{Outcome, and_then}
use Rattle.qs_syntax_tree.specs.declared.update.Modify.{Modify as WrittenModify}
use Rattle.qs_syntax_tree.specs.declared.update.Operation.{Operation as WrittenOperation}
use Rattle.qs_syntax_tree.specs.declared.update.Operation.TheVariants as written
use Rattle.qs_syntax_tree.specs.declared.update.QuadElement.{QuadElement}
use Rattle.qs_syntax_tree.specs.declared.update.QuadPattern.{QuadPattern}
use Rattle.qs_syntax_tree.specs.declared.update.Quads.{Quads}
use Rattle.qs_syntax_tree.specs.declared.update.Quads.TheVariants as written_quads
use Rattle.qs_syntax_tree.specs.declared.update.Update.{Update as WrittenUpdate}
use Rattle.qs_syntax_tree.specs.declared.update.UpdateStep.{UpdateStep}
use Rattle.qs_syntax_ast.specs.declared.update.Operation.{Operation}
use Rattle.qs_syntax_ast.specs.declared.update.Operation.TheVariants as operation
use Rattle.qs_syntax_ast.specs.declared.update.QuadBlock.{QuadBlock}
use Rattle.qs_syntax_ast.specs.declared.update.Update.{Update}
use Rattle.qs_syntax_resolve.specs.Names.{nothing_declared}
use Rattle.qs_syntax_resolve.specs.declared.resolver.Resolver.{Resolver}
use Rattle.qs_syntax_resolve.specs.Leaves.{iri, var_or_iri}
use Rattle.qs_syntax_resolve.specs.Pattern.{group_of}
use Rattle.qs_syntax_resolve.specs.Query.{prologue}
use Rattle.qs_syntax_resolve.specs.Resolved.{resolved_update}
use Rattle.qs_syntax_resolve.specs.inner.Resolved.{start, if_lawful}
use Rattle.qs_syntax_resolve.specs.Resolving.{Resolving, ◌>>=◌, pure, optional, in_turn}
use Rattle.qs_syntax_resolve.specs.Triples.{triples_after}
use Rattle.qs_syntax_resolve.specs.Update.{block, quads, template, target_of, transfer, modify, delete_where, operation_of, operation_after, step, update}
use Rattle.qs_syntax_scope.specs.Names.{Name}
use Rattle.qs_syntax_scope.specs.Variables.{graph_variables, block_variables}
use Rattle.qs_syntax_scope.specs.inner.VariablesIn.{in_group}
use Rattle.qs_syntax_laws.specs.inner.OperationIsListed.{OperationIsListed}
use Rattle.qs_syntax_laws.proofs.NotedSteps.{Among, same, through, none, placing, Found, Takes, followed_by, Notes, ends, of_fewer, goes_on, reads, makes, each, maybe, since_here, lists}
use Rattle.qs_syntax_laws.proofs.NotedLeaves.{empty, iri_notes, graph_notes}
use Rattle.qs_syntax_laws.proofs.NotedTriples.{found_in, triples_note}
use Rattle.qs_syntax_laws.proofs.NotedGroups.{group_notes}

-- ---- quads

block_notes : (q : Quads) → Notes [] block_variables (block q)
block_notes (written_quads.Triples ts) = makes (triples_after [] ts) (λ triples. record { graph = None; triples = triples }) (triples_note [] ts) (λ triples. same (found_in triples))
block_notes (written_quads.Graph n ts) =
    goes_on (var_or_iri n) _ (graph_notes n) (λ x.
    reads (graph_variables x) (triples_after [] ts) _ (triples_note [] ts) (λ triples. ends (record { graph = Some x; triples = triples }) (same (graph_variables x ++ found_in triples))))

each_block : (es : List QuadElement) → AllByRecursion (Notes [] block_variables) (map (λ e. block e.quads) es)
each_block [] = tt
each_block (e ∷ es) = (block_notes e.quads, each_block es)

abbrev in_blocks : List QuadBlock → List Name
in_blocks blocks = flat_map block_variables blocks

quads_note : (es : List QuadElement) → Notes [] in_blocks (quads es)
quads_note es = each block_variables (map (λ e. block e.quads) es) (each_block es)

template_notes : (q : Option QuadPattern) → Notes [] in_blocks (template q)
template_notes None = ends [] (none [])
template_notes (Some q) = quads_note q.elements

-- ---- operations

abbrev Anywhere : Resolver → Type 0
Anywhere s = Unit {0}

anything : {A : Type 0} (o : Outcome (A × Resolver)) → Found (λ a. Anywhere) o
anything (Ok r) = tt
anything (Err e) = tt

any : {A : Type 0} (p : Resolving A) → Takes Anywhere (λ a. Anywhere) p
any p = record { runs = λ s u. anything (p s) }

ends_with : {A : Type 0} {P : A → Type 0} (a : A) → P a → Takes Anywhere (λ b s. P b) (pure a)
ends_with a h = record { runs = λ s u. h }

-- an operation without a WHERE
other_lists : {A : Type 0} (f : A → Operation) → ((a : A) → OperationIsListed (f a)) → (p : Resolving A) → Takes Anywhere (λ o s. OperationIsListed o) (p >>= (λ a. pure (f a)))
other_lists f h p = followed_by p _ (any p) (λ a. ends_with (f a) (h a))

delete_where_lists : (q : QuadPattern) → Takes Anywhere (λ d s. OperationIsListed (operation.DeleteWhere d)) (delete_where q)
unfolding delete_where
delete_where_lists q = record {
  runs = λ s u.
      (followed_by (quads q.elements) _ ((quads_note q.elements).takes s.variables []) (λ blocks.
      lists s.variables (in_blocks blocks ++ []) (λ vs. record { quads = blocks; variables = vs }) (λ d. OperationIsListed (operation.DeleteWhere d)) (λ vs h. (through (search placing) h).each))).runs s
      (since_here s);
}

turned : (d i g : List Name) → Among ((d ++ i) ++ g) (g ++ (i ++ (d ++ [])))
turned d i g = search placing depth 7

modify_lists : (m : WrittenModify) → Takes Anywhere (λ x s. OperationIsListed (operation.Modify x)) (modify m)
unfolding modify
modify_lists m = record {
  runs = λ s u.
      (followed_by (optional iri m.with) _ ((of_fewer (λ w. none _) (maybe empty iri m.with iri_notes)).takes s.variables []) (λ w.
      followed_by (template m.delete) _ ((template_notes m.delete).takes s.variables []) (λ d.
      followed_by (template m.insert) _ ((template_notes m.insert).takes s.variables (in_blocks d ++ [])) (λ i.
      followed_by (group_of m.pattern) _ ((group_notes m.pattern).takes s.variables (in_blocks i ++ (in_blocks d ++ []))) (λ g.
      lists s.variables (in_group g ++ (in_blocks i ++ (in_blocks d ++ []))) (λ vs. record { with = w; delete = d; insert = i; pattern = g; variables = vs }) (λ x. OperationIsListed (operation.Modify x)) (λ vs h.
      (through (turned (in_blocks d) (in_blocks i) (in_group g)) h).each)))))).runs s
      (since_here s);
}

operation_lists : (o : WrittenOperation) → Takes Anywhere (λ x s. OperationIsListed x) (operation_of o)
unfolding operation_of
operation_lists (written.InsertData q) = other_lists operation.InsertData (λ a. tt) (quads q.elements)
operation_lists (written.DeleteData q) = other_lists operation.DeleteData (λ a. tt) (quads q.elements)
operation_lists (written.DeleteWhere q) = followed_by (delete_where q) _ (delete_where_lists q) (λ d. record { runs = λ s h. h })
operation_lists (written.Modify m) = followed_by (modify m) _ (modify_lists m) (λ x. record { runs = λ s h. h })
operation_lists (written.Clear silent t) = other_lists (operation.Clear silent) (λ a. tt) (target_of t)
operation_lists (written.Drop silent t) = other_lists (operation.Drop silent) (λ a. tt) (target_of t)
operation_lists (written.Create silent i) = other_lists (operation.Create silent) (λ a. tt) (iri i)
operation_lists (written.Add t) = other_lists operation.Add (λ a. tt) (transfer t)
operation_lists (written.Move t) = other_lists operation.Move (λ a. tt) (transfer t)
operation_lists (written.Copy t) = other_lists operation.Copy (λ a. tt) (transfer t)

-- ---- updates

abbrev pub AreAllListed : List Operation → Type 0
AreAllListed os = AllByRecursion OperationIsListed os

one_more_listed : (found : List Operation) (o : Operation) → AreAllListed found → OperationIsListed o → AreAllListed (found ++ o ∷ [])
one_more_listed [] o h k = (k, tt)
one_more_listed (x ∷ found) o h k = (h.0, one_more_listed found o h.1 k)

one_more_lists : (found : List Operation) (o : Option WrittenOperation) → AreAllListed found → Takes Anywhere (λ os s. AreAllListed os) (operation_after found o)
one_more_lists found None h = ends_with found h
one_more_lists found (Some o) h = followed_by (operation_of o) _ (operation_lists o) (λ x. record { runs = λ s k. one_more_listed found x h k })

step_lists : (found : List Operation) (u : UpdateStep) → AreAllListed found → Takes Anywhere (λ os s. AreAllListed os) (step found u)
unfolding step
step_lists found u h = followed_by (prologue u.prologue) _ (any (prologue u.prologue)) (λ _. one_more_lists found u.operation h)

steps_list : (found : List Operation) (us : List UpdateStep) → AreAllListed found → Takes Anywhere (λ os s. AreAllListed os) (in_turn step found us)
steps_list found [] h = ends_with found h
steps_list found (u ∷ us) h = followed_by (step found u) _ (step_lists found u h) (λ more. record { runs = λ s k. (steps_list more us k).runs s tt })

update_lists : (u : WrittenUpdate) → Takes Anywhere (λ x s. AreAllListed x.operations) (update u)
unfolding update
update_lists u = followed_by (in_turn step [] u.steps) _ (steps_list [] u.steps tt) (λ found. record { runs = λ s k. k })

-- ---- the update of a text

abbrev AreListedIfAny : Outcome (Option Update) → Type 0
AreListedIfAny (Ok (Some u)) = AreAllListed u.operations
AreListedIfAny (Ok None) = Unit {0}
AreListedIfAny (Err e) = Unit {0}

if_lawful_listed : (u : Update) (b : Bool) → AreAllListed u.operations → AreListedIfAny (Ok (if b then Some u else None))
if_lawful_listed u true h = h
if_lawful_listed u false h = tt

found_listed : (o : Outcome (Update × Resolver)) → Found (λ u s. AreAllListed u.operations) o → AreListedIfAny (and_then o (λ r. Ok (if_lawful r.0 r.1)))
found_listed (Ok r) h = if_lawful_listed r.0 r.1.lawful h
found_listed (Err e) h = tt

resolved_listed : (text : List ℕ) (tree : WrittenUpdate) → AreListedIfAny (resolved_update text tree)
unfolding resolved_update
resolved_listed text tree = found_listed (update tree (start (nothing_declared text))) ((update_lists tree).runs (start (nothing_declared text)) tt)

pub update_is_listed : (text : List ℕ) (tree : WrittenUpdate) (u : Update) → resolved_update text tree ≡ Ok (Some u) → AreAllListed u.operations
update_is_listed text tree u e = subst AreListedIfAny e (resolved_listed text tree)

-- The updates of texts: no row of a VALUES has a blank node.
use Rattle.std.proofs.Common.{◌≡◌, ℕ, Bool, true, false, if◌then◌else◌, List, [], ◌∷◌, ◌++◌, length, Option, Some, None, Ok, Err, inl, inr, refl, sym, subst}
use Rattle.std.specs.List.{AllByRecursion}
use Rattle.qs_terms.specs.Outcome.{Outcome, and_then}
use Rattle.qs_terms.specs.declared.fault.QFault.TheVariants as fault
use Rattle.qs_syntax_tree.specs.declared.token.Token.{Token}
use Rattle.qs_syntax_tree.specs.declared.update.Modify.{Modify as WrittenModify}
use Rattle.qs_syntax_tree.specs.declared.update.Operation.{Operation as WrittenOperation}
use Rattle.qs_syntax_tree.specs.declared.update.Operation.TheVariants as written
use Rattle.qs_syntax_tree.specs.declared.update.Update.{Update as WrittenUpdate}
use Rattle.qs_syntax_tree.specs.declared.update.UpdateStep.{UpdateStep}
use Rattle.qs_syntax_tree.specs.Rules as rules
use Rattle.qs_syntax_ast.specs.declared.update.Modify.{Modify}
use Rattle.qs_syntax_ast.specs.declared.update.Operation.{Operation}
use Rattle.qs_syntax_ast.specs.declared.update.Operation.TheVariants as operation
use Rattle.qs_syntax_ast.specs.declared.update.Update.{Update}
use Rattle.qs_syntax_limits.specs.Large as large
use Rattle.qs_syntax_resolve.specs.Names.{nothing_declared}
use Rattle.qs_syntax_resolve.specs.declared.resolver.Resolver.{Resolver}
use Rattle.qs_syntax_resolve.specs.Leaves.{iri, variables_since}
use Rattle.qs_syntax_resolve.specs.Pattern.{group_of}
use Rattle.qs_syntax_resolve.specs.Query.{prologue}
use Rattle.qs_syntax_resolve.specs.Resolved.{resolved_update}
use Rattle.qs_syntax_resolve.specs.inner.Resolved.{start, if_lawful}
use Rattle.qs_syntax_resolve.specs.Resolving.{Resolving, ◌>>=◌, pure}
use Rattle.qs_syntax_resolve.specs.Update.{quads, template, target_of, transfer, modify, delete_where, operation_of, operation_after, step, update}
use Rattle.qs_syntax_resolve.specs.inner.Update.{with_graph, steps}
use Rattle.qs_syntax_scope.specs.KeepsScope.{update_keeps_scope}
use Rattle.qs_syntax.specs.Outcome.{screened, by_place, in_scope, update_outcome}
use Rattle.qs_syntax.specs.Outcome.{AfterScreen, IsUpdateOutcome}
use Rattle.qs_update_laws.specs.inner.Written.{operation_values_have_no_blank, update_values_have_no_blank}
use Rattle.qs_update_laws.proofs.Lists.{each_append, all_pass}
use Rattle.qs_update_laws.proofs.Resolving.{Found, Finds, Any, any, behind}
use Rattle.qs_update_laws.proofs.ResolvedGroups.{FreeGroup, group_free}

-- ---- operations

abbrev FreeModify : Modify → Type 0
FreeModify m = FreeGroup m.pattern

abbrev FreeOperation : Operation → Type 0
FreeOperation o = operation_values_have_no_blank o ≡ true

abbrev FreeOperations : List Operation → Type 0
FreeOperations os = AllByRecursion FreeOperation os

abbrev FreeUpdate : Update → Type 0
FreeUpdate u = update_values_have_no_blank u ≡ true

modify_free : (m : WrittenModify) → Finds FreeModify (modify m)
unfolding modify
modify_free m s =
    let listed = variables_since (length s.variables) in
    behind Any FreeModify (with_graph m.with) _ (any (with_graph m.with)) (λ w h.
    behind Any FreeModify (template m.delete) _ (any (template m.delete)) (λ d k.
    behind Any FreeModify (template m.insert) _ (any (template m.insert)) (λ i l.
    behind FreeGroup FreeModify (group_of m.pattern) _ (group_free m.pattern) (λ g n.
    behind Any FreeModify listed (λ vs. pure (record { with = w; delete = d; insert = i; pattern = g; variables = vs })) (any listed) (λ vs o t. n))))) s

-- an operation without a WHERE
other_free : {A : Type 0} (f : A → Operation) → ((a : A) → FreeOperation (f a)) → (p : Resolving A) → Finds FreeOperation (p >>= (λ a. pure (f a)))
other_free f h p = behind Any FreeOperation p (λ a. pure (f a)) (any p) (λ a k s. h a)

operation_free : (o : WrittenOperation) → Finds FreeOperation (operation_of o)
unfolding operation_of
operation_free (written.InsertData q) = other_free operation.InsertData (λ a. refl) (quads q.elements)
operation_free (written.DeleteData q) = other_free operation.DeleteData (λ a. refl) (quads q.elements)
operation_free (written.DeleteWhere q) = other_free operation.DeleteWhere (λ a. refl) (delete_where q)
operation_free (written.Modify m) = behind FreeModify FreeOperation (modify m) (λ x. pure (operation.Modify x)) (modify_free m) (λ x h s. h)
operation_free (written.Clear silent t) = other_free (operation.Clear silent) (λ a. refl) (target_of t)
operation_free (written.Drop silent t) = other_free (operation.Drop silent) (λ a. refl) (target_of t)
operation_free (written.Create silent i) = other_free (operation.Create silent) (λ a. refl) (iri i)
operation_free (written.Add t) = other_free operation.Add (λ a. refl) (transfer t)
operation_free (written.Move t) = other_free operation.Move (λ a. refl) (transfer t)
operation_free (written.Copy t) = other_free operation.Copy (λ a. refl) (transfer t)

one_more_free : (found : List Operation) (o : Option WrittenOperation) → FreeOperations found → Finds FreeOperations (operation_after found o)
one_more_free found None h = λ s. h
one_more_free found (Some o) h =
    behind FreeOperation FreeOperations (operation_of o) (λ x. pure (found ++ x ∷ [])) (operation_free o) (λ x k s. each_append FreeOperation found (x ∷ []) h (k, tt))

step_free : (found : List Operation) (u : UpdateStep) → FreeOperations found → Finds FreeOperations (step found u)
unfolding step
step_free found u h = behind Any FreeOperations (prologue u.prologue) (λ _. operation_after found u.operation) (any (prologue u.prologue)) (λ x k. one_more_free found u.operation h)

steps_free : (found : List Operation) (us : List UpdateStep) → FreeOperations found → Finds FreeOperations (steps found us)
steps_free found [] h = λ s. h
steps_free found (u ∷ us) h = behind FreeOperations FreeOperations (step found u) (λ more. steps more us) (step_free found u h) (λ more k. steps_free more us k)

update_free : (u : WrittenUpdate) → Finds FreeUpdate (update u)
unfolding update
update_free u =
    behind FreeOperations FreeUpdate (steps [] u.steps) (λ found. pure (record { operations = found })) (steps_free [] u.steps tt) (λ found h s. all_pass operation_values_have_no_blank found h)

-- ---- what is settled

abbrev Comes : {A : Type 0} → (A → Type 0) → Outcome A → Type 0
Comes Q (Ok a) = Q a
Comes Q (Err e) = Unit {0}

abbrev FreeIfAny : Option Update → Type 0
FreeIfAny None = Unit {0}
FreeIfAny (Some u) = FreeUpdate u

lawful_free : (u : Update) (b : Bool) → FreeUpdate u → FreeIfAny (if b then Some u else None)
lawful_free u true h = h
lawful_free u false h = tt

found_free : (o : Outcome (Update × Resolver)) → Found FreeUpdate o → Comes FreeIfAny (and_then o (λ r. Ok (if_lawful r.0 r.1)))
found_free (Ok r) h = lawful_free r.0 r.1.lawful h
found_free (Err e) h = tt

resolved_free : (text : List ℕ) (u : WrittenUpdate) → Comes FreeIfAny (resolved_update text u)
unfolding resolved_update
resolved_free text u = found_free (update u (start (nothing_declared text))) (update_free u (start (nothing_declared text)))

placed_free : (o : Outcome (Option Update)) (place : Option ℕ) → Comes FreeIfAny o → Comes FreeUpdate (by_place o place)
placed_free (Ok (Some u)) None h = h
placed_free (Ok None) None h = tt
placed_free (Ok found) (Some place) h = tt
placed_free (Err e) place h = tt

kept_free : (u : Update) (b : Bool) → FreeUpdate u → Comes FreeUpdate (if b then Ok u else Err fault.Scope)
kept_free u true h = h
kept_free u false h = tt

scoped_free : (o : Outcome Update) → Comes FreeUpdate o → Comes FreeUpdate (and_then o (in_scope update_keeps_scope))
scoped_free (Ok u) h = kept_free u (update_keeps_scope u) h
scoped_free (Err e) h = tt

settled_free : (text : List ℕ) (u : WrittenUpdate) → Comes FreeUpdate (update_outcome text u)
unfolding update_outcome
settled_free text u =
    let resolved = resolved_update text u in scoped_free (by_place resolved (large.update u)) (placed_free resolved (large.update u) (resolved_free text u))

-- ---- what a text results in

of_tree : (text : List ℕ) (tree : WrittenUpdate) (u : Update) → Ok u ≡ update_outcome text tree → FreeUpdate u
of_tree text tree u e = subst (Comes FreeUpdate) (sym e) (settled_free text tree)

of_tokens : (text : List ℕ) (tokens : List Token) (u : Update) (s : Outcome (Unit {0})) → AfterScreen rules.update (update_outcome text) text tokens s (Ok u) → FreeUpdate u
of_tokens text tokens u (Err f) h = absurd cc
of_tokens text tokens u (Ok done) (inl h) = of_tree text h.0 u h.2
of_tokens text tokens u (Ok done) (inr h) = absurd (cc h.2)

pub of_text : (text : List ℕ) (u : Update) → IsUpdateOutcome text (Ok u) → update_values_have_no_blank u ≡ true
of_text text u (inl h) = absurd (cc h.2)
of_text text u (inr h) = of_tokens text h.0 u (screened text h.0) h.2

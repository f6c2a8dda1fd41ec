-- An expression notes the variables that stand in it.
use Rattle.std.proofs.Common.{◌≡◌, List, [], ◌∷◌, ◌++◌, map, refl, sym, ap, subst, ◌∙◌}
use Rattle.std.specs.List.{AllByRecursion, flat_map}
use Rattle.qs_syntax_tree.specs.declared.expression.Call.{Call as WrittenCall, fold-Call, map-Call, roll-Call, fold-roll-Call}
use Rattle.qs_syntax_tree.specs.declared.expression.Expression.{Expression as WrittenExpression, fold-Expression, map-Expression, roll-Expression, fold-roll-Expression, ind-Expression}
use Rattle.qs_syntax_tree.specs.declared.expression.Addend.{Addend as WrittenAddend, fold-Addend, map-Addend, roll-Addend, fold-roll-Addend}
use Rattle.qs_syntax_tree.specs.declared.expression.Operand.{Operand, fold-Operand, map-Operand, roll-Operand, fold-roll-Operand}
use Rattle.qs_syntax_tree.specs.declared.expression.Call.TheOpen as tree
use Rattle.qs_syntax_tree.specs.declared.expression.Call.TheOpen.{Call-F, Expression-F, Addend-F, Operand-F}
use Rattle.qs_syntax_ast.specs.declared.expression.Expression as made
use Rattle.qs_syntax_ast.specs.declared.expression.Expression.{Expression}
use Rattle.qs_syntax_ast.specs.declared.expression.Expression.TheOpen as shape
use Rattle.qs_syntax_ast.specs.declared.expression.Expression.TheVariants as expression
use Rattle.qs_syntax_ast.specs.declared.expression.Expression.TheVariants.{rolls-Variable, rolls-Iri, rolls-Literal, rolls-Or, rolls-And, rolls-Compare, rolls-In, rolls-NotIn, rolls-Sum, rolls-Product, rolls-Not, rolls-Signed, rolls-Bound, rolls-If, rolls-Coalesce, rolls-Concat, rolls-Unary, rolls-Binary}
use Rattle.qs_syntax_ast.specs.declared.expression.Addend as made_addend
use Rattle.qs_syntax_ast.specs.declared.expression.Addend.{Addend}
use Rattle.qs_syntax_resolve.specs.Leaves.{variable, iri, literal}
use Rattle.qs_syntax_resolve.specs.Expression.{Steps, call_level, expression_level, addend_level, expression_of}
use Rattle.qs_syntax_resolve.specs.inner.Expression.{operand_level}
use Rattle.qs_syntax_resolve.specs.Resolving.{Resolving, ◌>>=◌, pure, all}
use Rattle.qs_syntax_scope.specs.Names.{Name, joined}
use Rattle.qs_syntax_scope.specs.inner.VariablesIn.{expression_level as names_level, in_expression, in_addend}
use Rattle.qs_syntax_laws.proofs.NotedSteps.{Among, same, equal, through, none, Notes, ends, goes_on, reads, each, joined_flat}
use Rattle.qs_syntax_laws.proofs.NotedLeaves.{variable_notes, iri_notes, literal_notes}

-- ---- the expressions that are made, by their variants

abbrev names_in : shape.Expression-F Expression Addend → List Name
names_in z = names_level (made.map-Expression Expression Addend (List Name) (List Name) in_expression in_addend z)

gives : {before : List Name} (z : shape.Expression-F Expression Addend) (e : Expression) → made.roll-Expression z ≡ e → Among (names_in z) before → Notes before in_expression (pure e)
gives z e r h = ends e (through (equal _ _ (sym (ap in_expression r) ∙ made.fold-roll-Expression (List Name) (List Name) names_level (λ a. a.operand) z)) h)

gives_addend : (z : shape.Addend-F Expression Addend) → Notes (in_expression z.operand) in_addend (pure (made_addend.roll-Addend z))
gives_addend z = ends _ (equal _ _ (made_addend.fold-roll-Addend (List Name) (List Name) names_level (λ a. a.operand) z))

-- ---- all expressions

abbrev of_call : WrittenCall → Steps
of_call = fold-Call Steps Steps (Resolving Addend) Steps call_level expression_level addend_level operand_level

abbrev of_expression : WrittenExpression → Steps
of_expression = fold-Expression Steps Steps (Resolving Addend) Steps call_level expression_level addend_level operand_level

abbrev of_addend : WrittenAddend → Resolving Addend
of_addend = fold-Addend Steps Steps (Resolving Addend) Steps call_level expression_level addend_level operand_level

abbrev of_operand : Operand → Steps
of_operand = fold-Operand Steps Steps (Resolving Addend) Steps call_level expression_level addend_level operand_level

abbrev IsNoted : Steps → Type 0
IsNoted p = Notes [] in_expression p

abbrev KnownCall : Type 0
KnownCall = (c : WrittenCall) × IsNoted (of_call c)

abbrev Known : Type 0
Known = (e : WrittenExpression) × IsNoted (of_expression e)

abbrev KnownAddend : Type 0
KnownAddend = (a : WrittenAddend) × Notes [] in_addend (of_addend a)

abbrev KnownOperand : Type 0
KnownOperand = (o : Operand) × IsNoted (of_operand o)

abbrev inner_call : Call-F KnownCall Known KnownAddend KnownOperand → Call-F WrittenCall WrittenExpression WrittenAddend Operand
inner_call y = map-Call KnownCall Known KnownAddend KnownOperand WrittenCall WrittenExpression WrittenAddend Operand (λ e. e.0) (λ e. e.0) (λ e. e.0) (λ e. e.0) y

abbrev inner : Expression-F KnownCall Known KnownAddend KnownOperand → Expression-F WrittenCall WrittenExpression WrittenAddend Operand
inner y = map-Expression KnownCall Known KnownAddend KnownOperand WrittenCall WrittenExpression WrittenAddend Operand (λ e. e.0) (λ e. e.0) (λ e. e.0) (λ e. e.0) y

abbrev inner_addend : Addend-F KnownCall Known KnownAddend KnownOperand → Addend-F WrittenCall WrittenExpression WrittenAddend Operand
inner_addend y = map-Addend KnownCall Known KnownAddend KnownOperand WrittenCall WrittenExpression WrittenAddend Operand (λ e. e.0) (λ e. e.0) (λ e. e.0) (λ e. e.0) y

abbrev inner_operand : Operand-F KnownCall Known KnownAddend KnownOperand → Operand-F WrittenCall WrittenExpression WrittenAddend Operand
inner_operand y = map-Operand KnownCall Known KnownAddend KnownOperand WrittenCall WrittenExpression WrittenAddend Operand (λ e. e.0) (λ e. e.0) (λ e. e.0) (λ e. e.0) y

each_expression : (es : List Known) → AllByRecursion IsNoted (map of_expression (map (λ e. e.0) es))
each_expression [] = tt
each_expression (e ∷ es) = (e.1, each_expression es)

each_operand : (es : List KnownOperand) → AllByRecursion IsNoted (map of_operand (map (λ e. e.0) es))
each_operand [] = tt
each_operand (e ∷ es) = (e.1, each_operand es)

each_addend : (es : List KnownAddend) → AllByRecursion (Notes [] in_addend) (map of_addend (map (λ e. e.0) es))
each_addend [] = tt
each_addend (e ∷ es) = (e.1, each_addend es)

list_notes : (es : List Known) → Notes [] (flat_map in_expression) (all (map of_expression (map (λ e. e.0) es)))
list_notes es = each in_expression _ (each_expression es)

operands_note : (es : List KnownOperand) → Notes [] (flat_map in_expression) (all (map of_operand (map (λ e. e.0) es)))
operands_note es = each in_expression _ (each_operand es)

addends_note : (es : List KnownAddend) → Notes [] (flat_map in_addend) (all (map of_addend (map (λ e. e.0) es)))
addends_note es = each in_addend _ (each_addend es)

of_list : (xs : List Expression) → Among (joined (map in_expression xs)) (flat_map in_expression xs)
of_list xs = equal _ _ (joined_flat in_expression xs)

one_and_list : {A : Type 0} (x : Expression) (of : A → List Name) (xs : List A) → Among (in_expression x ++ joined (map of xs)) (in_expression x ++ flat_map of xs)
one_and_list x of xs = equal _ _ (ap (λ names. in_expression x ++ names) (joined_flat of xs))

two : {p q : Steps} (z : Expression → Expression → shape.Expression-F Expression Addend) (e : Expression → Expression → Expression) → ((x y : Expression) → made.roll-Expression (z x y) ≡ e x y) → ((x y : Expression) → names_in (z x y) ≡ in_expression x ++ in_expression y) → IsNoted p → IsNoted q → IsNoted (p >>= (λ x. q >>= (λ y. pure (e x y))))
two z e r is h k = goes_on _ _ h (λ x. reads (in_expression x) _ _ k (λ y. gives (z x y) (e x y) (r x y) (equal _ _ (is x y))))

call_notes : (y : Call-F KnownCall Known KnownAddend KnownOperand) → IsNoted (call_level (map-Call WrittenCall WrittenExpression WrittenAddend Operand Steps Steps (Resolving Addend) Steps of_call of_expression of_addend of_operand (inner_call y)))
call_notes (tree.Bound v) = goes_on (variable v) _ (variable_notes v) (λ x. gives (shape.Bound x) _ (rolls-Bound x) (same _))
call_notes (tree.If c a b) =
    goes_on _ _ c.1 (λ x. reads (in_expression x) _ _ a.1 (λ y. reads (in_expression x ++ in_expression y) _ _ b.1 (λ z.
    gives (shape.If x y z) _ (rolls-If x y z) (same _))))
call_notes (tree.Coalesce es) = goes_on _ _ (list_notes es) (λ xs. gives (shape.Coalesce xs) _ (rolls-Coalesce xs) (of_list xs))
call_notes (tree.Concat es) = goes_on _ _ (list_notes es) (λ xs. gives (shape.Concat xs) _ (rolls-Concat xs) (of_list xs))
call_notes (tree.Unary f a) = goes_on _ _ a.1 (λ x. gives (shape.Unary f x) _ (rolls-Unary f x) (same _))
call_notes (tree.Binary f a b) = two (shape.Binary f) (expression.Binary f) (rolls-Binary f) (λ x y. refl) a.1 b.1

level_notes : (y : Expression-F KnownCall Known KnownAddend KnownOperand) → IsNoted (expression_level (map-Expression WrittenCall WrittenExpression WrittenAddend Operand Steps Steps (Resolving Addend) Steps of_call of_expression of_addend of_operand (inner y)))
level_notes (tree.Var v) = goes_on (variable v) _ (variable_notes v) (λ x. gives (shape.Variable x) _ (rolls-Variable x) (same _))
level_notes (tree.Iri i) = goes_on (iri i) _ (iri_notes i) (λ x. gives (shape.Iri x) _ (rolls-Iri x) (none []))
level_notes (tree.Literal l) = goes_on (literal l) _ (literal_notes l) (λ x. gives (shape.Literal x) _ (rolls-Literal x) (none []))
level_notes (tree.Call c) = c.1
level_notes (tree.Or es) = goes_on _ _ (operands_note es) (λ xs. gives (shape.Or xs) _ (rolls-Or xs) (of_list xs))
level_notes (tree.And es) = goes_on _ _ (operands_note es) (λ xs. gives (shape.And xs) _ (rolls-And xs) (of_list xs))
level_notes (tree.Compare c a b) = two (shape.Compare c) (expression.Compare c) (rolls-Compare c) (λ x y. refl) a.1 b.1
level_notes (tree.In a es) = goes_on _ _ a.1 (λ x. reads (in_expression x) _ _ (list_notes es) (λ xs. gives (shape.In x xs) _ (rolls-In x xs) (one_and_list x in_expression xs)))
level_notes (tree.NotIn a es) = goes_on _ _ a.1 (λ x. reads (in_expression x) _ _ (list_notes es) (λ xs. gives (shape.NotIn x xs) _ (rolls-NotIn x xs) (one_and_list x in_expression xs)))
level_notes (tree.Sum a es) = goes_on _ _ a.1 (λ x. reads (in_expression x) _ _ (addends_note es) (λ xs. gives (shape.Sum x xs) _ (rolls-Sum x xs) (one_and_list x in_addend xs)))
level_notes (tree.Product es) = goes_on _ _ (operands_note es) (λ xs. gives (shape.Product xs) _ (rolls-Product xs) (of_list xs))
level_notes (tree.Not a) = goes_on _ _ a.1 (λ x. gives (shape.Not x) _ (rolls-Not x) (same _))
level_notes (tree.Signed s a) = goes_on _ _ a.1 (λ x. gives (shape.Signed s x) _ (rolls-Signed s x) (same _))

rolled_call_notes : (y : Call-F KnownCall Known KnownAddend KnownOperand) → IsNoted (of_call (roll-Call (inner_call y)))
rolled_call_notes y = subst IsNoted (sym (fold-roll-Call Steps Steps (Resolving Addend) Steps call_level expression_level addend_level operand_level (inner_call y))) (call_notes y)

rolled_notes : (y : Expression-F KnownCall Known KnownAddend KnownOperand) → IsNoted (of_expression (roll-Expression (inner y)))
rolled_notes y = subst IsNoted (sym (fold-roll-Expression Steps Steps (Resolving Addend) Steps call_level expression_level addend_level operand_level (inner y))) (level_notes y)

rolled_addend_notes : (y : Addend-F KnownCall Known KnownAddend KnownOperand) → Notes [] in_addend (of_addend (roll-Addend (inner_addend y)))
rolled_addend_notes y =
    subst (Notes [] in_addend) (sym (fold-roll-Addend Steps Steps (Resolving Addend) Steps call_level expression_level addend_level operand_level (inner_addend y)))
    (goes_on _ _ y.operand.1 (λ x. gives_addend (record { sign = y.sign; operand = x })))

rolled_operand_notes : (y : Operand-F KnownCall Known KnownAddend KnownOperand) → IsNoted (of_operand (roll-Operand (inner_operand y)))
rolled_operand_notes y = subst IsNoted (sym (fold-roll-Operand Steps Steps (Resolving Addend) Steps call_level expression_level addend_level operand_level (inner_operand y))) y.expression.1

pub expression_notes : (e : WrittenExpression) → Notes [] in_expression (expression_of e)
unfolding expression_of
expression_notes =
    ind-Expression (λ c. IsNoted (of_call c)) (λ e. IsNoted (of_expression e)) (λ a. Notes [] in_addend (of_addend a)) (λ o. IsNoted (of_operand o))
    (λ x y is. subst (λ z. IsNoted (of_call (roll-Call z))) is (rolled_call_notes y)) (λ x y is. subst (λ z. IsNoted (of_expression (roll-Expression z))) is (rolled_notes y))
    (λ x y is. subst (λ z. Notes [] in_addend (of_addend (roll-Addend z))) is (rolled_addend_notes y)) (λ x y is. subst (λ z. IsNoted (of_operand (roll-Operand z))) is (rolled_operand_notes y))

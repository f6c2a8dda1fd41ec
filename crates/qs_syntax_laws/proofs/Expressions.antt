-- Expressions.
use Rattle.std.proofs.Common.{◌≡◌, rules, List, [], ◌∷◌, map, Option, Some, None, refl, sym, ap, ◌∙◌, subst}
use Rattle.qs_syntax_ast.specs.declared.expression.Addend.{roll-Addend}
use Rattle.qs_syntax_ast.specs.declared.expression.Expression as resolved
use Rattle.qs_syntax_ast.specs.declared.expression.Expression.TheVariants as expression
use Rattle.qs_syntax_tree.specs.Rules as rule
use Rattle.qs_syntax_tree.specs.inner.Procedures as procedures
use Rattle.qs_syntax_tree.specs.Sparql.{Name, Tree, Rule}
use Rattle.qs_syntax_tree.specs.Trees.{chain, sum, related, addend_of as made_addend}
use Rattle.qs_syntax_tree.specs.declared.expression.Addend.{Addend, the_lemmas as addend_lemmas}
use Rattle.qs_syntax_tree.specs.declared.expression.BinaryFunction.{BinaryFunction}
use Rattle.qs_syntax_tree.specs.declared.expression.Call.{Call, the_lemmas as call_lemmas}
use Rattle.qs_syntax_tree.specs.declared.expression.Call.TheVariants as written_call
use Rattle.qs_syntax_tree.specs.declared.expression.Comparison.{Comparison}
use Rattle.qs_syntax_tree.specs.declared.expression.Expression.{Expression, the_lemmas}
use Rattle.qs_syntax_tree.specs.declared.expression.Expression.TheVariants as written
use Rattle.qs_syntax_tree.specs.declared.expression.Operand.{Operand}
use Rattle.qs_syntax_tree.specs.declared.expression.Relation.{Relation}
use Rattle.qs_syntax_tree.specs.declared.expression.Relation.TheVariants.{Compared, Among, NotAmong}
use Rattle.qs_syntax_tree.specs.declared.expression.Sign.{Sign}
use Rattle.qs_syntax_tree.specs.declared.expression.UnaryFunction.{UnaryFunction}
use Rattle.qs_syntax_tree.specs.declared.term.Iri.{Iri}
use Rattle.qs_syntax_tree.specs.declared.term.Literal.{Literal}
use Rattle.qs_syntax_tree.specs.declared.term.Literal.TheVariants as literal_tree
use Rattle.qs_syntax_grammar.specs.Notation.{◌&◌}
use Rattle.qs_syntax_tree.specs.declared.token.Span.{Span}
use Rattle.qs_syntax_tree.specs.declared.token.Token.{Token}
use Rattle.qs_syntax_resolve.specs.Expression.{expression_of}
use Rattle.qs_syntax_resolve.specs.inner.Expression.{call_of, operand_of, addend_of, operands, addends, list}
use Rattle.qs_syntax_resolve.specs.Leaves.{variable, iri, literal}
use Rattle.qs_syntax_resolve.specs.Resolving.{Resolving, ◌>>=◌, ◌<$>◌, pure, all_after}
use Rattle.qs_syntax_laws.proofs.Terms.{variable_meets, iri_meets, literal_meets, number_meets}
use Rattle.qs_syntax_laws.proofs.Walks.{Meets, mapped, unmapped, unread, paired}
use Rattle.qs_syntax_laws.proofs.Ways.{Resolves, by_other, by_same, by_weaker, by_either, by_made, by_mapped, by_opt, by_or, by_both, by_second, by_placed, by_many, behind_mute, before_mute}

-- ---- the equations of the walk

pub variable_is : (v : Span) → expression_of (written.Var v) ≡ (expression.Variable <$> variable v)
unfolding expression_of
variable_is v = search (rules, the_lemmas)

iri_is : (i : Iri) → expression_of (written.Iri i) ≡ (expression.Iri <$> iri i)
unfolding expression_of
iri_is i = search (rules, the_lemmas)

literal_is : (l : Literal) → expression_of (written.Literal l) ≡ (expression.Literal <$> literal l)
unfolding expression_of
literal_is l = search (rules, the_lemmas)

call_is : (c : Call) → expression_of (written.Call c) ≡ call_of c
unfolding expression_of call_of
call_is c = search (rules, the_lemmas)

or_is : (os : List Operand) → expression_of (written.Or os) ≡ (expression.Or <$> operands os)
unfolding expression_of
or_is os = search (rules, the_lemmas)

and_is : (os : List Operand) → expression_of (written.And os) ≡ (expression.And <$> operands os)
unfolding expression_of
and_is os = search (rules, the_lemmas)

product_is : (os : List Operand) → expression_of (written.Product os) ≡ (expression.Product <$> operands os)
unfolding expression_of
product_is os = search (rules, the_lemmas)

compare_is : (c : Comparison) (a b : Expression) → expression_of (written.Compare c a b) ≡ (expression_of a >>= (λ x. expression_of b >>= (λ y. pure (expression.Compare c x y))))
unfolding expression_of
compare_is c a b = search (rules, the_lemmas)

in_is : (e : Expression) (es : List Expression) → expression_of (written.In e es) ≡ (expression_of e >>= (λ x. list es >>= (λ xs. pure (expression.In x xs))))
unfolding expression_of
in_is e es = search (rules, the_lemmas)

not_in_is : (e : Expression) (es : List Expression) → expression_of (written.NotIn e es) ≡ (expression_of e >>= (λ x. list es >>= (λ xs. pure (expression.NotIn x xs))))
unfolding expression_of
not_in_is e es = search (rules, the_lemmas)

not_is : (e : Expression) → expression_of (written.Not e) ≡ (expression.Not <$> expression_of e)
unfolding expression_of
not_is e = search (rules, the_lemmas)

signed_is : (s : Sign) (e : Expression) → expression_of (written.Signed s e) ≡ (expression_of e >>= (λ x. pure (expression.Signed s x)))
unfolding expression_of
signed_is s e = search (rules, the_lemmas)

operand_is : (o : Operand) → operand_of o ≡ expression_of o.expression
unfolding operand_of expression_of
operand_is o = search (rules, the_lemmas)

addend_bound : (a : Addend) → addend_of a ≡ (operand_of a.operand >>= (λ x. pure (roll-Addend (record { sign = a.sign; operand = x }))))
unfolding addend_of operand_of
addend_bound a = search (rules, addend_lemmas)

addend_is : (s : Sign) (o : Operand) → addend_of (made_addend s o) ≡ (expression_of o.expression >>= (λ x. pure (roll-Addend (record { sign = s; operand = x }))))
addend_is s o = addend_bound (made_addend s o) ∙ ap (λ (p : Resolving resolved.Expression). p >>= (λ x. pure (roll-Addend (record { sign = s; operand = x })))) (operand_is o)

sum_bound : (o : Operand) (more : List Addend) → expression_of (written.Sum o more) ≡ (operand_of o >>= (λ x. addends more >>= (λ xs. pure (expression.Sum x xs))))
unfolding expression_of operand_of addend_of
sum_bound o more = search (rules, the_lemmas)

sum_is : (o : Operand) (more : List Addend) → expression_of (written.Sum o more) ≡ (expression_of o.expression >>= (λ x. addends more >>= (λ xs. pure (expression.Sum x xs))))
sum_is o more = sum_bound o more ∙ ap (λ (p : Resolving resolved.Expression). p >>= (λ x. addends more >>= (λ xs. pure (expression.Sum x xs)))) (operand_is o)

bound_is : (v : Span) → call_of (written_call.Bound v) ≡ (expression.Bound <$> variable v)
unfolding call_of expression_of
bound_is v = search (rules, call_lemmas)

if_is : (c a b : Expression) → call_of (written_call.If c a b) ≡ (expression_of c >>= (λ x. expression_of a >>= (λ y. expression_of b >>= (λ z. pure (expression.If x y z)))))
unfolding call_of expression_of
if_is c a b = search (rules, call_lemmas)

coalesce_is : (es : List Expression) → call_of (written_call.Coalesce es) ≡ (expression.Coalesce <$> list es)
unfolding call_of expression_of
coalesce_is es = search (rules, call_lemmas)

concat_is : (es : List Expression) → call_of (written_call.Concat es) ≡ (expression.Concat <$> list es)
unfolding call_of expression_of
concat_is es = search (rules, call_lemmas)

unary_is : (f : UnaryFunction) (a : Expression) → call_of (written_call.Unary f a) ≡ (expression_of a >>= (λ x. pure (expression.Unary f x)))
unfolding call_of expression_of
unary_is f a = search (rules, call_lemmas)

binary_is : (f : BinaryFunction) (a b : Expression) → call_of (written_call.Binary f a b) ≡ (expression_of a >>= (λ x. expression_of b >>= (λ y. pure (expression.Binary f x y))))
unfolding call_of expression_of
binary_is f a b = search (rules, call_lemmas)

-- ---- expressions made of others

abbrev of_operand : Operand → Resolving resolved.Expression
of_operand o = expression_of o.expression

module _ (ts : List Token) where
  chain_meets : (f : List Operand → Expression) (g : List resolved.Expression → resolved.Expression) → ((os : List Operand) → expression_of (f os) ≡ (g <$> operands os))
      → (x : Operand) (os : List Operand) → Meets (operands (x ∷ os)) ts → Meets (expression_of (chain f (x, os))) ts
  chain_meets f g e x [] h = unmapped ts (expression_of x.expression) (λ y. y ∷ []) h
  chain_meets f g e x (y ∷ os) h = subst (λ (q : Resolving resolved.Expression). Meets q ts) (sym (e (x ∷ y ∷ os))) (mapped ts (operands (x ∷ y ∷ os)) g h)

  sum_meets : (x : Operand) (more : List Addend) → Meets (of_operand x >>= (λ a. addends more >>= (λ bs. pure (expression.Sum a bs)))) ts → Meets (expression_of (sum (x, more))) ts
  sum_meets x [] h = unmapped ts (of_operand x) (λ a. expression.Sum a []) h
  sum_meets x (y ∷ more) h = subst (λ (q : Resolving resolved.Expression). Meets q ts) (sym (sum_is x (y ∷ more))) h

-- what stands after the first operand of a comparison
abbrev relate : resolved.Expression → Option Relation → Resolving resolved.Expression
relate a None = pure a
relate a (Some (Compared c y)) = expression_of y >>= (λ b. pure (expression.Compare c a b))
relate a (Some (Among ys)) = list ys >>= (λ bs. pure (expression.In a bs))
relate a (Some (NotAmong ys)) = list ys >>= (λ bs. pure (expression.NotIn a bs))

related_meets : (ts : List Token) (x : Expression) (r : Option Relation) → Meets (expression_of x >>= (λ a. relate a r)) ts → Meets (expression_of (related x r)) ts
related_meets ts x None h = unmapped ts (expression_of x) (λ a. a) h
related_meets ts x (Some (Compared c y)) h = subst (λ (q : Resolving resolved.Expression). Meets q ts) (sym (compare_is c x y)) h
related_meets ts x (Some (Among ys)) h = subst (λ (q : Resolving resolved.Expression). Meets q ts) (sym (in_is x ys)) h
related_meets ts x (Some (NotAmong ys)) h = subst (λ (q : Resolving resolved.Expression). Meets q ts) (sym (not_in_is x ys)) h

abbrev two : Expression × Expression → Resolving (resolved.Expression × resolved.Expression)
two x = expression_of x.0 >>= (λ a. expression_of x.1 >>= (λ b. pure (a, b)))

module _ {refs : (n : Name) → List Token → Tree n → Type 0} (expression_meets : Resolves refs rule.expression expression_of) where
  pub parenthesized_meets : Resolves refs rule.parenthesized expression_of
  unfolding rule.parenthesized
  parenthesized_meets = behind_mute refl (before_mute refl expression_meets)

  next_meets : Resolves refs procedures.next_argument expression_of
  unfolding procedures.next_argument
  next_meets = behind_mute refl expression_meets

  two_meet : Resolves refs procedures.two_expressions two
  unfolding procedures.two_expressions
  two_meet = by_both {p = expression_of} expression_meets (λ x a. by_mapped (λ _ b. (a, b)) next_meets)

  list_meets : Resolves refs procedures.list list
  unfolding procedures.list procedures.more_expressions
  list_meets = behind_mute refl (before_mute refl (by_or (by_made (by_both {p = expression_of} expression_meets (λ x a. by_many next_meets))) unread))

  if_meets : Resolves refs procedures.three_arguments (λ x. call_of (written_call.If x.0.0 x.0.1 x.1))
  unfolding procedures.three_arguments procedures.three_expressions
  if_meets =
      behind_mute refl (before_mute refl
      (by_other (λ x. expression_of x.0.0 >>= (λ a. expression_of x.0.1 >>= (λ b. expression_of x.1 >>= (λ c. pure (expression.If a b c))))) (λ x. if_is x.0.0 x.0.1 x.1)
      (by_same (λ x. two x.0 >>= (λ ab. expression_of x.1 >>= (λ c. pure (expression.If ab.0 ab.1 c)))) (λ x s. paired (expression_of x.0.0) (expression_of x.0.1) (λ ab. expression_of x.1 >>= (λ c. pure (expression.If ab.0 ab.1 c))) s)
      (by_both {p = two} two_meet (λ x ab. by_mapped (λ _ c. expression.If ab.0 ab.1 c) next_meets)))))

  binary_meets : (f : BinaryFunction) → Resolves refs procedures.two_arguments (λ x. call_of (written_call.Binary f x.0 x.1))
  unfolding procedures.two_arguments procedures.two_expressions
  binary_meets f =
      behind_mute refl (before_mute refl (by_other (λ x. expression_of x.0 >>= (λ a. expression_of x.1 >>= (λ b. pure (expression.Binary f a b)))) (λ x. binary_is f x.0 x.1)
      (by_both {p = expression_of} expression_meets (λ x a. by_mapped (λ _ b. expression.Binary f a b) next_meets))))

  call_meets : Resolves refs procedures.call call_of
  unfolding procedures.call procedures.bound_var rule.unary_function rule.binary_function
  call_meets =
      by_either (by_made (by_other (λ v. expression.Bound <$> variable v) bound_is (by_mapped (λ _ v. expression.Bound v) (behind_mute refl (behind_mute refl (before_mute refl variable_meets))))))
      (by_either (by_made (behind_mute refl if_meets))
      (by_either (by_made (by_other (λ es. expression.Coalesce <$> list es) coalesce_is (by_mapped (λ _ es. expression.Coalesce es) (behind_mute refl list_meets))))
      (by_either (by_made (by_other (λ es. expression.Concat <$> list es) concat_is (by_mapped (λ _ es. expression.Concat es) (behind_mute refl list_meets))))
      (by_either
      (by_made (by_second refl (λ f. by_other (λ a. expression_of a >>= (λ x. pure (expression.Unary f x))) (unary_is f) (by_mapped (λ _ x. expression.Unary f x) parenthesized_meets))))
      (by_made (by_second refl (λ f. binary_meets f)))))))

  called_meets : Resolves refs procedures.call (λ c. expression_of (written.Call c))
  called_meets = by_other call_of call_is call_meets

  pub constraint_meets : Resolves refs procedures.constraint expression_of
  unfolding procedures.constraint
  constraint_meets = by_either parenthesized_meets (by_made called_meets)

  operand_term_meets : Resolves refs procedures.operand_term expression_of
  unfolding procedures.operand_term
  operand_term_meets =
      by_either (by_made (by_other (λ i. expression.Iri <$> iri i) iri_is (by_mapped (λ _ x. expression.Iri x) iri_meets)))
      (by_either (by_made (by_other (λ l. expression.Literal <$> literal l) literal_is (by_mapped (λ _ x. expression.Literal x) literal_meets)))
      (by_made (by_other (λ v. expression.Variable <$> variable v) variable_is (by_mapped (λ _ v. expression.Variable v) variable_meets))))

  atom_meets : Resolves refs procedures.atom expression_of
  unfolding procedures.atom
  atom_meets = by_either parenthesized_meets (by_either (by_made called_meets) operand_term_meets)

  signed_meets : (s : Sign) → Resolves refs procedures.atom (λ e. expression_of (written.Signed s e))
  signed_meets s = by_other (λ e. expression_of e >>= (λ x. pure (expression.Signed s x))) (signed_is s) (by_mapped (λ _ x. expression.Signed s x) atom_meets)

  unary_meets : Resolves refs procedures.unary expression_of
  unfolding procedures.unary
  unary_meets =
      by_either (by_made (by_other (λ e. expression.Not <$> expression_of e) not_is (by_mapped (λ _ x. expression.Not x) (behind_mute refl atom_meets))))
      (by_either (by_made (behind_mute refl (signed_meets _))) (by_either (by_made (behind_mute refl (signed_meets _))) atom_meets))

  -- ---- chains

  operand_meets : {r : Rule Expression} → Resolves refs r expression_of → Resolves refs (rule.operand r) of_operand
  operand_meets h = by_made (by_placed (λ place. h))

  module _ {first : Rule Operand} {others : Rule (List Operand)} (h : Resolves refs first of_operand) (k : (found : List resolved.Expression) → Resolves refs others (λ os. all_after found (map of_operand os))) where
    chain_of : (f : List Operand → Expression) (g : List resolved.Expression → resolved.Expression) → ((os : List Operand) → expression_of (f os) ≡ (g <$> operands os))
        → Resolves refs (first & others) (λ x. expression_of (chain f x))
    chain_of f g e = by_weaker {p = λ x. operands (x.0 ∷ x.1)} (λ ts x l. chain_meets ts f g e x.0 x.1 l) (by_both {p = of_operand} h (λ o a. k (a ∷ [])))

  more_factors_meet : (found : List resolved.Expression) → Resolves refs procedures.more_factors (λ os. all_after found (map of_operand os))
  unfolding procedures.more_factors
  more_factors_meet found = by_many (behind_mute refl (operand_meets unary_meets))

  product_meets : Resolves refs procedures.product expression_of
  unfolding procedures.product
  product_meets = by_made (chain_of (operand_meets unary_meets) more_factors_meet written.Product expression.Product product_is)

  signed_product_meets : Resolves refs procedures.signed_product expression_of
  unfolding procedures.signed_product
  signed_product_meets =
      by_made (chain_of (operand_meets (by_made (by_made (by_other (λ span. expression.Literal <$> literal (literal_tree.Integer span)) (λ span. literal_is (literal_tree.Integer span))
      (by_mapped (λ _ x. expression.Literal x) number_meets))))) more_factors_meet written.Product expression.Product product_is)

  signed_addend_meets : {r : Rule Expression} (s : Sign) → Resolves refs r expression_of → Resolves refs (rule.operand r) (λ o. addend_of (made_addend s o))
  signed_addend_meets s h =
      by_other (λ o. of_operand o >>= (λ x. pure (roll-Addend (record { sign = s; operand = x })))) (addend_is s)
      (by_mapped {p = of_operand} (λ _ x. roll-Addend (record { sign = s; operand = x })) (operand_meets h))

  addend_meets : Resolves refs procedures.addend addend_of
  unfolding procedures.addend
  addend_meets =
      by_either (by_made (behind_mute refl (signed_addend_meets _ product_meets)))
      (by_either (by_made (behind_mute refl (signed_addend_meets _ product_meets))) (by_made (signed_addend_meets _ signed_product_meets)))

  additive_meets : Resolves refs procedures.additive expression_of
  unfolding procedures.additive procedures.addends
  additive_meets =
      by_made (by_weaker {p = λ x. of_operand x.0 >>= (λ a. addends x.1 >>= (λ bs. pure (expression.Sum a bs)))} (λ ts x h. sum_meets ts x.0 x.1 h)
      (by_both {p = of_operand} (operand_meets product_meets) (λ o a. by_mapped (λ _ bs. expression.Sum a bs) (by_many addend_meets))))

  relation_meets : (a : resolved.Expression) → Resolves refs procedures.relation (λ r. relate a (Some r))
  unfolding procedures.relation rule.comparison
  relation_meets a =
      by_either (by_made (by_second refl (λ c. by_mapped (λ _ b. expression.Compare c a b) additive_meets)))
      (by_either (by_made (behind_mute refl (by_mapped (λ _ bs. expression.NotIn a bs) list_meets))) (by_made (behind_mute refl (by_mapped (λ _ bs. expression.In a bs) list_meets))))

  relational_meets : Resolves refs procedures.relational expression_of
  unfolding procedures.relational
  relational_meets =
      by_made (by_weaker {p = λ x. expression_of x.0 >>= (λ a. relate a x.1)} (λ ts x h. related_meets ts x.0 x.1 h)
      (by_both {p = expression_of} {f = λ x a r. relate a r} additive_meets (λ x a. by_opt (relation_meets a) unread)))

  more_relationals_meet : (found : List resolved.Expression) → Resolves refs procedures.more_relationals (λ os. all_after found (map of_operand os))
  unfolding procedures.more_relationals
  more_relationals_meet found = by_many (behind_mute refl (operand_meets relational_meets))

  conjunction_meets : Resolves refs procedures.conjunction expression_of
  unfolding procedures.conjunction
  conjunction_meets = by_made (chain_of (operand_meets relational_meets) more_relationals_meet written.And expression.And and_is)

  more_conjunctions_meet : (found : List resolved.Expression) → Resolves refs procedures.more_conjunctions (λ os. all_after found (map of_operand os))
  unfolding procedures.more_conjunctions
  more_conjunctions_meet found = by_many (behind_mute refl (operand_meets conjunction_meets))

  pub expression_rule_meets : Resolves refs procedures.expression_rule expression_of
  unfolding procedures.expression_rule
  expression_rule_meets = by_made (chain_of (operand_meets conjunction_meets) more_conjunctions_meet written.Or expression.Or or_is)

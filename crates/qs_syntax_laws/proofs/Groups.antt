-- Group graph patterns.
use Rattle.std.proofs.Common.{◌≡◌, rules, ℕ, List, [], ◌∷◌, ◌++◌, map, Ok, Err, refl, ap}
use Rattle.qs_syntax_ast.specs.declared.expression.Expression.{Expression as ResolvedExpression}
use Rattle.qs_syntax_ast.specs.declared.pattern.GraphPattern.TheVariants as pattern
use Rattle.qs_syntax_ast.specs.declared.pattern.Triple.{Triple}
use Rattle.qs_syntax_ast.specs.declared.term.Variable.{Variable}
use Rattle.qs_syntax_grammar.specs.Rule.{placed}
use Rattle.qs_syntax_grammar.specs.inner.Repeated.{joined}
use Rattle.qs_terms.specs.Outcome.{Outcome, and_then}
use Rattle.qs_syntax_tree.specs.Rules as rule
use Rattle.qs_syntax_tree.specs.inner.Procedures as procedures
use Rattle.qs_syntax_tree.specs.Sparql.{Name, Tree, Rule}
use Rattle.qs_syntax_tree.specs.Trees.{element_of as made_element, group_of as made_group}
use Rattle.qs_syntax_tree.specs.inner.Trees.{singles}
use Rattle.qs_syntax_tree.specs.declared.expression.Expression.{Expression}
use Rattle.qs_syntax_tree.specs.declared.pattern.DataValue.{DataValue}
use Rattle.qs_syntax_tree.specs.declared.pattern.Element.{Element, the_lemmas as element_lemmas}
use Rattle.qs_syntax_tree.specs.declared.pattern.GraphPattern.{GraphPattern, the_lemmas as pattern_lemmas}
use Rattle.qs_syntax_tree.specs.declared.pattern.GraphPattern.TheVariants as written
use Rattle.qs_syntax_tree.specs.declared.pattern.Group.{Group, the_lemmas as group_lemmas}
use Rattle.qs_syntax_tree.specs.declared.pattern.InlineData.{InlineData}
use Rattle.qs_syntax_tree.specs.declared.term.VarOrIri.{VarOrIri}
use Rattle.qs_syntax_tree.specs.declared.token.Span.{Span}
use Rattle.qs_syntax_tree.specs.declared.token.Token.{Token}
use Rattle.qs_syntax_tree.specs.declared.triples.Form.{Form}
use Rattle.qs_syntax_tree.specs.declared.triples.Form.TheVariants as form
use Rattle.qs_syntax_tree.specs.declared.triples.TriplesSameSubject.{TriplesSameSubject}
use Rattle.qs_syntax_resolve.specs.Data.{row_of, inline_data}
use Rattle.qs_syntax_resolve.specs.inner.Data.{rows_of, variables_of}
use Rattle.qs_syntax_resolve.specs.Expression.{expression_of}
use Rattle.qs_syntax_resolve.specs.Leaves.{variable, var_or_iri}
use Rattle.qs_syntax_resolve.specs.Pattern.{Put, group_of, put, finished}
use Rattle.qs_syntax_resolve.specs.inner.Pattern.{put_filter, put_triples, empty_group}
use Rattle.qs_syntax_resolve.specs.inner.Pattern.{pattern_of, element_of, groups, elements, triples_pattern, filter_pattern, bind_pattern, values_pattern}
use Rattle.qs_syntax_resolve.specs.Resolving.{◌>>=◌, pure, all, all_after}
use Rattle.qs_syntax_resolve.specs.Triples.{triples_after}
use Rattle.qs_syntax_resolve.specs.declared.open_group.OpenGroup.{OpenGroup}
use Rattle.qs_syntax_resolve.specs.declared.resolver.Resolver.{Resolver}
use Rattle.qs_syntax_laws.proofs.Expressions.{constraint_meets}
use Rattle.qs_syntax_laws.proofs.Terms.{variable_meets, var_or_iri_meets, value_meets}
use Rattle.qs_syntax_laws.proofs.Walks.{nothing}
use Rattle.qs_syntax_laws.proofs.Ways.{Resolves, by_other, by_same, by_either, by_made, by_mapped, by_or, by_both, by_placed, by_many, behind_mute, before_mute, in_turn}

-- ---- the equations of the walk

triples_is : (ts : List TriplesSameSubject) → pattern_of (written.Triples ts) ≡ triples_pattern ts
unfolding pattern_of element_of group_of
triples_is ts = search (rules, pattern_lemmas)

union_is : (gs : List Group) → pattern_of (written.Union gs) ≡ (λ g. groups gs >>= (λ xs. pure (put (pattern.Union xs) g)))
unfolding pattern_of element_of group_of
union_is gs = search (rules, pattern_lemmas)

optional_is : (inner : Group) → pattern_of (written.Optional inner) ≡ (λ g. group_of inner >>= (λ x. pure (put (pattern.Optional x) g)))
unfolding pattern_of element_of group_of
optional_is inner = search (rules, pattern_lemmas)

minus_is : (inner : Group) → pattern_of (written.Minus inner) ≡ (λ g. group_of inner >>= (λ x. pure (put (pattern.Minus x) g)))
unfolding pattern_of element_of group_of
minus_is inner = search (rules, pattern_lemmas)

graph_is : (n : VarOrIri) (inner : Group) → pattern_of (written.Graph n inner) ≡ (λ g. var_or_iri n >>= (λ x. group_of inner >>= (λ y. pure (put (pattern.Graph x y) g))))
unfolding pattern_of element_of group_of
graph_is n inner = search (rules, pattern_lemmas)

filter_is : (e : Expression) → pattern_of (written.Filter e) ≡ filter_pattern e
unfolding pattern_of element_of group_of
filter_is e = search (rules, pattern_lemmas)

bind_is : (e : Expression) (v : Span) → pattern_of (written.Bind e v) ≡ bind_pattern e v
unfolding pattern_of element_of group_of
bind_is e v = search (rules, pattern_lemmas)

values_is : (d : InlineData) → pattern_of (written.Values d) ≡ values_pattern d
unfolding pattern_of element_of group_of
values_is d = search (rules, pattern_lemmas)

element_is : (e : Element) → element_of e ≡ pattern_of e.pattern
unfolding pattern_of element_of group_of
element_is e = search (rules, element_lemmas)

group_is : (place : ℕ) (es : List Element) → group_of (made_group (place, es)) ≡ (elements empty_group es >>= (λ h. pure (finished h)))
unfolding pattern_of element_of group_of
group_is place es = search (rules, group_lemmas)

-- ---- tables

each_single : (vs : List DataValue) → map row_of (singles vs) ≡ map (λ v. row_of (v ∷ [])) vs
each_single [] = refl
each_single (v ∷ vs) = ap (λ more. row_of (v ∷ []) ∷ more) (each_single vs)

module _ {refs : (n : Name) → List Token → Tree n → Type 0} where
  variables_meet : (found : List Variable) → Resolves refs procedures.variables (λ vs. all_after found (map variable vs))
  unfolding procedures.variables
  variables_meet found = by_many variable_meets

  row_meets : Resolves refs procedures.data_values row_of
  unfolding procedures.data_values row_of
  row_meets = by_many value_meets

  rows_meet : Resolves refs procedures.data_rows rows_of
  unfolding procedures.data_rows procedures.data_row
  rows_meet = by_many (behind_mute refl (before_mute refl row_meets))

  single_meets : Resolves refs rule.data_value (λ v. row_of (v ∷ []))
  unfolding row_of
  single_meets = by_mapped (λ _ x. x ∷ []) value_meets

  singles_meet : Resolves refs procedures.data_values (λ vs. rows_of (singles vs))
  unfolding procedures.data_values
  singles_meet = by_other (λ vs. all (map (λ v. row_of (v ∷ [])) vs)) (λ vs. ap all (each_single vs)) (by_many single_meets)

  column_meets : Resolves refs procedures.column inline_data
  unfolding procedures.column procedures.value_block inline_data
  column_meets =
      by_made (by_both {p = λ v. variables_of (v ∷ [])} (by_mapped (λ _ v. v ∷ []) variable_meets)
      (λ _ vs. by_mapped (λ _ rows. record { variables = vs; rows = rows }) (behind_mute refl (before_mute refl singles_meet))))

  table_meets : Resolves refs procedures.table inline_data
  unfolding procedures.table procedures.variable_list procedures.row_block inline_data
  table_meets =
      by_made (by_both {p = variables_of} (behind_mute refl (before_mute refl (variables_meet [])))
      (λ _ vs. by_mapped (λ _ rows. record { variables = vs; rows = rows }) (behind_mute refl (before_mute refl rows_meet))))

  pub values_meet : Resolves refs procedures.values inline_data
  unfolding procedures.values
  values_meet = behind_mute refl (by_either column_meets table_meets)

-- ---- groups

module _ {refs : (n : Name) → List Token → Tree n → Type 0} where
  pub named_meets : {B : Type 0} (f : ResolvedExpression → Variable → B) → Resolves refs rule.expression expression_of
      → Resolves refs procedures.named_expression (λ x. expression_of x.0 >>= (λ e. variable x.1 >>= (λ v. pure (f e v))))
  unfolding procedures.named_expression procedures.expression_as_var
  named_meets f h = behind_mute refl (before_mute refl (by_both {p = expression_of} (before_mute refl h) (λ _ e. by_mapped (λ _ v. f e v) variable_meets)))

one_behind : (es more : List Element) (o : Outcome (OpenGroup × Resolver)) → ((g : OpenGroup) (s : Resolver) → elements g (es ++ more) s ≡ (elements g es >>= (λ h. elements h more)) s)
    → and_then o (λ r. elements r.0 (es ++ more) r.1) ≡ and_then (and_then o (λ r. elements r.0 es r.1)) (λ q. elements q.0 more q.1)
one_behind es more (Ok r) h = h r.0 r.1
one_behind es more (Err f) h = refl

elements_behind : (es more : List Element) (g : OpenGroup) (s : Resolver) → elements g (es ++ more) s ≡ (elements g es >>= (λ h. elements h more)) s
elements_behind [] more g s = refl
elements_behind (e ∷ es) more g s = one_behind es more (element_of e g s) (elements_behind es more)

module _ {refs : (n : Name) → List Token → Tree n → Type 0} (expression_meets : Resolves refs rule.expression expression_of) (group_meets : Resolves refs rule.group group_of)
    (triples_meet : (f : Form) (found : List Triple) → Resolves refs (rule.triples f) (triples_after found)) where
  groups_meet : Resolves refs procedures.groups groups
  unfolding procedures.groups procedures.more_groups
  groups_meet = by_made (by_both {p = group_of} group_meets (λ _ x. by_many (behind_mute refl group_meets)))

  module _ (g : OpenGroup) where
    -- a pattern by its variant
    by_put : {A : Type 0} {r : Rule A} (f : A → GraphPattern) (q : A → Put) → ((x : A) → pattern_of (f x) ≡ q x) → Resolves refs r (λ x. q x g) → Resolves refs r (λ x. pattern_of (f x) g)
    by_put f q e h = by_other (λ x. q x g) (λ x. ap (λ (p : Put). p g) (e x)) h

    element_meets : Resolves refs procedures.element (λ p. pattern_of p g)
    unfolding procedures.element
    element_meets =
        by_either (by_made (by_put written.Union (λ gs g. groups gs >>= (λ xs. pure (put (pattern.Union xs) g))) union_is (by_mapped (λ _ xs. put (pattern.Union xs) g) groups_meet)))
        (by_either (by_made (by_put written.Optional (λ inner g. group_of inner >>= (λ x. pure (put (pattern.Optional x) g))) optional_is (by_mapped (λ _ x. put (pattern.Optional x) g) (behind_mute refl group_meets))))
        (by_either (by_made (by_put written.Minus (λ inner g. group_of inner >>= (λ x. pure (put (pattern.Minus x) g))) minus_is (by_mapped (λ _ x. put (pattern.Minus x) g) (behind_mute refl group_meets))))
        (by_either
        (by_made (by_put (λ x. written.Graph x.0 x.1) (λ x g. var_or_iri x.0 >>= (λ n. group_of x.1 >>= (λ y. pure (put (pattern.Graph n y) g)))) (λ x. graph_is x.0 x.1)
        (by_both {p = var_or_iri} (behind_mute refl var_or_iri_meets) (λ _ n. by_mapped (λ _ y. put (pattern.Graph n y) g) group_meets))))
        (by_either (by_made (by_put written.Filter filter_pattern filter_is (by_mapped (λ _ x. put_filter x g) (behind_mute refl (constraint_meets expression_meets)))))
        (by_either (by_made (by_put (λ x. written.Bind x.0 x.1) (λ x. bind_pattern x.0 x.1) (λ x. bind_is x.0 x.1) (behind_mute refl (named_meets (λ e v. put (pattern.Bind e v) g) expression_meets))))
        (by_made (by_put written.Values values_pattern values_is (by_mapped (λ _ x. put (pattern.Values x) g) values_meet))))))))

    placed_meets : {r : Rule GraphPattern} → Resolves refs r (λ p. pattern_of p g) → Resolves refs (placed r) (λ x. element_of (made_element x) g)
    placed_meets h = by_placed (λ place. by_other (λ p. pattern_of p g) (λ p. ap (λ (f : Put). f g) (element_is (made_element (place, p)))) h)

    block_meets : Resolves refs rule.block (λ es. elements g es)
    unfolding rule.block
    block_meets =
        by_or (by_made (by_mapped (λ _ h. h) (placed_meets (by_made (by_put written.Triples triples_pattern triples_is (by_mapped (λ _ more. put_triples more g) (triples_meet form.Pattern g.triples)))))))
        (nothing g)

    dotted_meets : Resolves refs procedures.dotted_element (λ e. element_of e g)
    unfolding procedures.dotted_element
    dotted_meets = by_made (before_mute refl (placed_meets element_meets))

  step_meets : (g : OpenGroup) → Resolves refs procedures.group_step (λ es. elements g es)
  unfolding procedures.group_step
  step_meets g = by_made (by_both {p = λ e. element_of e g} (dotted_meets g) (λ _ h. block_meets h))

  steps_meet : (g : OpenGroup) → Resolves refs procedures.group_steps (λ es. elements g es)
  unfolding procedures.group_steps
  steps_meet g = by_made (in_turn (λ h xs. elements h (joined xs)) (λ h es. elements h es) (λ h. refl) (λ h es xs s. elements_behind es (joined xs) h s) step_meets g)

  pub group_rule_meets : Resolves refs procedures.group_rule group_of
  unfolding procedures.group_rule procedures.elements
  group_rule_meets =
      by_made (by_placed (λ place. by_other (λ es. elements empty_group es >>= (λ h. pure (finished h))) (λ es. group_is place es)
      (by_mapped {p = λ es. elements empty_group es} (λ _ h. finished h) (behind_mute refl (before_mute refl
      (by_made (by_same (λ x. elements empty_group x.0 >>= (λ h. elements h x.1)) (λ x s. elements_behind x.0 x.1 empty_group s) (by_both {p = elements empty_group} (block_meets empty_group) (λ _ h. steps_meet h)))))))))

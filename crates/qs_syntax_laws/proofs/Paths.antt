-- Property paths.
use Rattle.std.proofs.Common.{◌≡◌, rules, Bool, true, false, List, [], ◌∷◌, map, Option, Some, None, is_some, refl, sym, ap, subst}
use Rattle.qs_syntax_ast.specs.declared.path.NegatedIri.{NegatedIri}
use Rattle.qs_syntax_ast.specs.declared.path.Path as resolved
use Rattle.qs_syntax_ast.specs.declared.path.Path.TheVariants as path
use Rattle.qs_syntax_ast.specs.declared.pattern.Verb.TheVariants as verb
use Rattle.qs_syntax_tree.specs.Rules as rule
use Rattle.qs_syntax_tree.specs.inner.Procedures as procedures
use Rattle.qs_syntax_tree.specs.Sparql.{Name, Tree}
use Rattle.qs_syntax_tree.specs.Trees.{path_chain, repeated, inverted}
use Rattle.qs_syntax_tree.specs.declared.path.NegatedPredicate.{NegatedPredicate}
use Rattle.qs_syntax_tree.specs.declared.path.Path.{Path, the_lemmas}
use Rattle.qs_syntax_tree.specs.declared.path.Path.TheVariants as written
use Rattle.qs_syntax_tree.specs.declared.path.PathOperand.{PathOperand}
use Rattle.qs_syntax_tree.specs.declared.path.Predicate.{Predicate}
use Rattle.qs_syntax_tree.specs.declared.path.Repetition.{Repetition}
use Rattle.qs_syntax_tree.specs.declared.token.Token.{Token}
use Rattle.qs_syntax_resolve.specs.Path.{predicate, negated, path_of}
use Rattle.qs_syntax_resolve.specs.inner.Path.{operands}
use Rattle.qs_syntax_resolve.specs.Triples.{verb_of, simplified}
use Rattle.qs_syntax_tree.specs.declared.triples.Form.{Form}
use Rattle.qs_syntax_tree.specs.declared.triples.Form.TheVariants as form
use Rattle.qs_syntax_resolve.specs.Resolving.{Resolving, ◌>>=◌, ◌<$>◌, pure, all, all_after}
use Rattle.qs_syntax_laws.proofs.Terms.{variable_meets, predicate_meets}
use Rattle.qs_syntax_laws.proofs.Walks.{Meets, mapped, unmapped, unread}
use Rattle.qs_syntax_laws.proofs.Ways.{Resolves, by_other, by_either, by_made, by_mapped, by_or, by_both, by_first, by_second, by_placed, by_many, by_weaker, behind_mute, before_mute}

-- ---- the equations of the walk

predicate_is : (p : Predicate) → path_of (written.Predicate p) ≡ (path.Iri <$> predicate p)
unfolding path_of
predicate_is p = search (rules, the_lemmas)

set_is : (ps : List NegatedPredicate) → path_of (written.NegatedSet ps) ≡ (path.NegatedSet <$> all (map negated ps))
unfolding path_of
set_is ps = search (rules, the_lemmas)

alternative_is : (os : List PathOperand) → path_of (written.Alternative os) ≡ (path.Alternative <$> operands os)
unfolding path_of
alternative_is os = search (rules, the_lemmas)

sequence_is : (os : List PathOperand) → path_of (written.Sequence os) ≡ (path.Sequence <$> operands os)
unfolding path_of
sequence_is os = search (rules, the_lemmas)

inverse_is : (p : Path) → path_of (written.Inverse p) ≡ (path.Inverse <$> path_of p)
unfolding path_of
inverse_is p = search (rules, the_lemmas)

repeated_is : (p : Path) (r : Repetition) → path_of (written.Repeated p r) ≡ (path_of p >>= (λ x. pure (path.Repeated x r)))
unfolding path_of
repeated_is p r = search (rules, the_lemmas)

-- ---- paths made of others

module _ (ts : List Token) where
  inverted_meets : (b : Bool) (p : Path) → Meets (path_of p) ts → Meets (path_of (inverted b p)) ts
  inverted_meets false p h = h
  inverted_meets true p h = subst (λ (f : Resolving resolved.Path). Meets f ts) (sym (inverse_is p)) (mapped ts (path_of p) path.Inverse h)

  repeated_meets : (p : Path) (r : Option Repetition) → Meets (path_of p) ts → Meets (path_of (repeated p r)) ts
  repeated_meets p None h = h
  repeated_meets p (Some r) h = subst (λ (f : Resolving resolved.Path). Meets f ts) (sym (repeated_is p r)) (mapped ts (path_of p) (λ x. path.Repeated x r) h)

  pub chain_meets : (f : List PathOperand → Path) (g : List resolved.Path → resolved.Path) → ((os : List PathOperand) → path_of (f os) ≡ (g <$> operands os))
      → (x : PathOperand) (os : List PathOperand) → Meets (operands (x ∷ os)) ts → Meets (path_of (path_chain f (x, os))) ts
  chain_meets f g e x [] h = unmapped ts (path_of x.path) (λ y. y ∷ []) h
  chain_meets f g e x (y ∷ os) h = subst (λ (q : Resolving resolved.Path). Meets q ts) (sym (e (x ∷ y ∷ os))) (mapped ts (operands (x ∷ y ∷ os)) g h)

chain_of : (f : List PathOperand → Path) (g : List resolved.Path → resolved.Path) → ((os : List PathOperand) → path_of (f os) ≡ (g <$> operands os))
    → (ts : List Token) (x : PathOperand × List PathOperand) → Meets (operands (x.0 ∷ x.1)) ts → Meets (path_of (path_chain f x)) ts
chain_of f g e ts x h = chain_meets ts f g e x.0 x.1 h

module _ {refs : (n : Name) → List Token → Tree n → Type 0} where
  negated_one_meets : Resolves refs rule.negated_one negated
  unfolding rule.negated_one
  negated_one_meets = by_made (by_placed (λ place. by_second refl (λ caret. by_mapped (λ p i. record { inverse = is_some caret; iri = i }) predicate_meets)))

  more_negated_meets : (found : List NegatedIri) → Resolves refs procedures.more_negated (λ ps. all_after found (map negated ps))
  unfolding procedures.more_negated
  more_negated_meets found = by_many (behind_mute refl negated_one_meets)

  negated_meets : Resolves refs procedures.negated (λ ps. all (map negated ps))
  unfolding procedures.negated procedures.negated_all
  negated_meets =
      by_either (by_made (by_mapped (λ p i. i ∷ []) negated_one_meets))
      (behind_mute refl (before_mute refl (by_or (by_made (by_both negated_one_meets (λ p i. more_negated_meets (i ∷ [])))) unread)))

  module _ (path_meets : Resolves refs rule.path path_of) where
    path_primary_meets : Resolves refs procedures.path_primary path_of
    unfolding procedures.path_primary
    path_primary_meets =
        by_either (by_made (by_other (λ p. path.Iri <$> predicate p) predicate_is (by_mapped (λ p i. path.Iri i) predicate_meets)))
        (by_either (by_made (by_other (λ ps. path.NegatedSet <$> all (map negated ps)) set_is (by_mapped (λ p is. path.NegatedSet is) (behind_mute refl negated_meets))))
        (behind_mute refl (before_mute refl path_meets)))

    path_element_meets : Resolves refs procedures.path_element path_of
    unfolding procedures.path_element rule.repetition
    path_element_meets = by_made (by_first refl (λ r. by_second refl (λ caret. record {
      meets = λ ts p h. inverted_meets ts (is_some caret) (repeated p r) (repeated_meets ts p r (path_primary_meets.meets ts p h));
    })))

    more_elements_meets : (found : List resolved.Path) → Resolves refs procedures.more_elements (λ os. all_after found (map (λ (o : PathOperand). path_of o.path) os))
    unfolding procedures.more_elements
    more_elements_meets found = by_many (behind_mute refl (by_made (by_placed (λ place. path_element_meets))))

    path_sequence_meets : Resolves refs procedures.path_sequence path_of
    unfolding procedures.path_sequence
    path_sequence_meets = by_made (by_weaker (chain_of written.Sequence path.Sequence sequence_is) (by_both {p = λ (o : PathOperand). path_of o.path} (by_made (by_placed (λ place. path_element_meets))) (λ o x. more_elements_meets (x ∷ []))))

    more_sequences_meets : (found : List resolved.Path) → Resolves refs procedures.more_sequences (λ os. all_after found (map (λ (o : PathOperand). path_of o.path) os))
    unfolding procedures.more_sequences
    more_sequences_meets found = by_many (behind_mute refl (by_made (by_placed (λ place. path_sequence_meets))))

    pub path_rule_meets : Resolves refs procedures.path_rule path_of
    unfolding procedures.path_rule
    path_rule_meets = by_made (by_weaker (chain_of written.Alternative path.Alternative alternative_is) (by_both {p = λ (o : PathOperand). path_of o.path} (by_made (by_placed (λ place. path_sequence_meets))) (λ o x. more_sequences_meets (x ∷ []))))

    pub verb_meets : (f : Form) → Resolves refs (procedures.verb f) verb_of
    unfolding procedures.verb
    verb_meets form.Pattern = by_either (by_made (by_mapped (λ _ v. verb.Variable v) variable_meets)) (by_made (by_mapped (λ p x. simplified x) path_rule_meets))
    verb_meets form.Template =
        by_either (by_made (by_mapped (λ _ v. verb.Variable v) variable_meets))
        (by_made (by_made (by_other (λ p. (path.Iri <$> predicate p) >>= (λ x. pure (simplified x))) (λ p. ap (λ (q : Resolving resolved.Path). q >>= (λ x. pure (simplified x))) (predicate_is p))
        (by_mapped (λ p x. simplified x) (by_mapped (λ p i. path.Iri i) predicate_meets)))))

-- Triples.
use Rattle.std.proofs.Common.{◌≡◌, rules, List, [], ◌∷◌, ◌++◌, Option, Some, None, refl, ap}
use Rattle.qs_syntax_ast.specs.declared.pattern.Triple.{Triple}
use Rattle.qs_syntax_ast.specs.declared.pattern.Verb.{Verb}
use Rattle.qs_syntax_ast.specs.declared.term.TermPattern.{TermPattern}
use Rattle.qs_syntax_ast.specs.declared.term.TermPattern.TheVariants.{Blank}
use Rattle.qs_syntax_grammar.specs.inner.Repeated.{kept}
use Rattle.qs_syntax_tree.specs.Rules as rule
use Rattle.qs_syntax_tree.specs.inner.Procedures as procedures
use Rattle.qs_syntax_tree.specs.Sparql.{Name, Tree}
use Rattle.qs_syntax_tree.specs.Trees.{property_of as made_property}
use Rattle.qs_syntax_tree.specs.declared.term.Term.{Term}
use Rattle.qs_syntax_tree.specs.declared.term.Term.TheVariants as term
use Rattle.qs_syntax_tree.specs.declared.token.Token.{Token}
use Rattle.qs_syntax_tree.specs.declared.triples.Form.{Form}
use Rattle.qs_syntax_tree.specs.declared.triples.GraphNode.{the_lemmas as node_lemmas}
use Rattle.qs_syntax_tree.specs.declared.triples.GraphNode.TheVariants as node
use Rattle.qs_syntax_tree.specs.declared.triples.Property.{Property, the_lemmas as property_lemmas}
use Rattle.qs_syntax_resolve.specs.Leaves.{term_of, anonymous}
use Rattle.qs_syntax_resolve.specs.Path.{path_of}
use Rattle.qs_syntax_resolve.specs.Resolving.{Resolving, ◌>>=◌, pure}
use Rattle.qs_syntax_resolve.specs.Triples.{OfObject, OfSubject, property_of, properties, verb_of, triple, same_subject, triples_after}
use Rattle.qs_syntax_resolve.specs.inner.Triples.{object_of, objects, simple_object, bracketed_subject}
use Rattle.qs_syntax_resolve.specs.declared.resolver.Resolver.{Resolver}
use Rattle.qs_syntax_laws.proofs.Paths.{verb_meets}
use Rattle.qs_syntax_laws.proofs.Terms.{term_meets}
use Rattle.qs_syntax_laws.proofs.Walks.{Meets, mapped, nothing, unread}
use Rattle.qs_syntax_laws.proofs.Ways.{Resolves, by_other, by_mute, by_either, by_made, by_mapped, by_opt, by_or, by_both, behind_mute, before_mute, in_turn, behind_still}

-- ---- the equations of the walk

simple_is : (t : Term) → object_of (node.Term t) ≡ (λ subject v found. simple_object subject v found t)
unfolding object_of
simple_is t = search (rules, node_lemmas)

bracketed_is : (ps : List Property) → object_of (node.BlankNodePropertyList ps) ≡ (λ subject v found. anonymous >>= (λ b. properties (Blank b) (found ++ triple subject v (Blank b) ∷ []) ps))
unfolding object_of property_of
bracketed_is ps = search (rules, node_lemmas)

property_is : (p : Property) → property_of p ≡ (λ subject found. verb_of p.verb >>= (λ v. objects subject v found p.objects))
unfolding property_of object_of
property_is p = search (rules, property_lemmas)

simple_subject_is : (t : Term) (found : List Triple) (ps : List Property) → same_subject found (record { subject = node.Term t; properties = ps }) ≡ (term_of t >>= (λ s. properties s found ps))
unfolding same_subject
simple_subject_is t found ps = search (rules, node_lemmas)

bracketed_subject_is : (own : List Property) (found : List Triple) (ps : List Property) → same_subject found (record { subject = node.BlankNodePropertyList own; properties = ps }) ≡ bracketed_subject found own ps
unfolding same_subject
bracketed_subject_is own found ps = search (rules, node_lemmas)

-- ---- a fresh blank node

fresh : Meets anonymous []
unfolding anonymous
fresh = unread

fresh_term : Meets (term_of term.Anonymous) []
unfolding term_of anonymous
fresh_term = unread

module _ {refs : (n : Name) → List Token → Tree n → Type 0} (path_meets : Resolves refs rule.path path_of)
    (properties_meet : (f : Form) (subject : TermPattern) (found : List Triple) → Resolves refs (rule.properties f) (properties subject found))
    (triples_meet : (f : Form) (found : List Triple) → Resolves refs (rule.triples f) (triples_after found)) where
  module _ (f : Form) where
    module _ (subject : TermPattern) where
      object_meets : (v : Verb) (found : List Triple) → Resolves refs (rule.object f) (λ o. object_of o subject v found)
      unfolding rule.object
      object_meets v found =
          by_either
          (by_made (by_other (λ t. simple_object subject v found t) (λ t. ap (λ (g : OfObject). g subject v found) (simple_is t)) (by_mapped (λ t o. found ++ triple subject v o ∷ []) term_meets)))
          (behind_mute refl (by_either
          (by_made (by_other (λ t. simple_object subject v found term.Anonymous) (λ t. ap (λ (g : OfObject). g subject v found) (simple_is term.Anonymous))
          (by_mute refl (λ t. mapped [] (term_of term.Anonymous) (λ o. found ++ triple subject v o ∷ []) fresh_term))))
          (by_made (by_other (λ ps. anonymous >>= (λ b. properties (Blank b) (found ++ triple subject v (Blank b) ∷ []) ps)) (λ ps. ap (λ (g : OfObject). g subject v found) (bracketed_is ps))
          (before_mute refl (behind_still anonymous (λ b ps. properties (Blank b) (found ++ triple subject v (Blank b) ∷ []) ps) fresh (λ b. properties_meet f (Blank b) (found ++ triple subject v (Blank b) ∷ []))))))))

      more_objects_meet : (v : Verb) (found : List Triple) → Resolves refs (procedures.more_objects f) (λ os. objects subject v found os)
      unfolding procedures.more_objects
      more_objects_meet v found = in_turn (λ b os. objects subject v b os) (λ b o. object_of o subject v b) (λ b. refl) (λ b o os s. refl) (λ b. behind_mute refl (object_meets v b)) found

      objects_meet : (v : Verb) (found : List Triple) → Resolves refs (procedures.objects f) (λ os. objects subject v found os)
      unfolding procedures.objects
      objects_meet v found = by_made (by_both {p = λ o. object_of o subject v found} (object_meets v found) (λ o more. more_objects_meet v more))

      property_meets : (found : List Triple) → Resolves refs (procedures.property f) (λ p. property_of p subject found)
      unfolding procedures.property
      property_meets found =
          by_made (by_other (λ x. verb_of x.0 >>= (λ v. objects subject v found x.1)) (λ x. ap (λ (g : OfSubject). g subject found) (property_is (made_property x)))
          (by_both {p = verb_of} (verb_meets path_meets f) (λ w v. objects_meet v found)))

      maybe_property : List Triple → Option Property → Resolving (List Triple)
      maybe_property found None = pure found
      maybe_property found (Some p) = property_of p subject found

      next_property_meets : (found : List Triple) → Resolves refs (procedures.next_property f) (maybe_property found)
      unfolding procedures.next_property maybe_property
      next_property_meets found = behind_mute refl (by_opt (property_meets found) (nothing found))

      one_more : (found : List Triple) (p : Option Property) (ps : List (Option Property)) (s : Resolver) → properties subject found (kept (p ∷ ps)) s ≡ (maybe_property found p >>= (λ more. properties subject more (kept ps))) s
      unfolding maybe_property
      one_more found None ps s = refl
      one_more found (Some p) ps s = refl

      more_properties_meet : (found : List Triple) → Resolves refs (procedures.more_properties f) (λ ps. properties subject found ps)
      unfolding procedures.more_properties
      more_properties_meet found = by_made (in_turn (λ b ps. properties subject b (kept ps)) maybe_property (λ b. refl) one_more next_property_meets found)

      pub properties_rule_meet : (found : List Triple) → Resolves refs (procedures.properties_rule f) (λ ps. properties subject found ps)
      unfolding procedures.properties_rule
      properties_rule_meet found = by_made (by_both {p = λ p. property_of p subject found} (property_meets found) (λ p more. more_properties_meet more))

    anonymous_subject_meets : (found : List Triple) → Resolves refs (procedures.anonymous_subject f) (same_subject found)
    unfolding procedures.anonymous_subject
    anonymous_subject_meets found =
        by_made (by_other (λ ps. term_of term.Anonymous >>= (λ s. properties s found ps)) (λ ps. simple_subject_is term.Anonymous found ps)
        (behind_mute refl (behind_still (term_of term.Anonymous) (λ s ps. properties s found ps) fresh_term (λ s. properties_meet f s found))))

    property_subject_meets : (found : List Triple) → Resolves refs (procedures.property_subject f) (same_subject found)
    unfolding procedures.property_subject
    property_subject_meets found =
        by_made (by_other (λ x. bracketed_subject found x.0 x.1) (λ x. bracketed_subject_is x.0 found x.1)
        (behind_still anonymous (λ b x. properties (Blank b) found x.0 >>= (λ more. properties (Blank b) more x.1)) fresh (λ b.
        by_both {p = λ ps. properties (Blank b) found ps} (before_mute refl (properties_meet f (Blank b) found)) (λ own more. by_or (properties_meet f (Blank b) more) (nothing more)))))

    same_subject_meets : (found : List Triple) → Resolves refs (procedures.same_subject f) (same_subject found)
    unfolding procedures.same_subject procedures.bracketed_subject
    same_subject_meets found =
        by_either
        (by_made (by_other (λ x. term_of x.0 >>= (λ s. properties s found x.1)) (λ x. simple_subject_is x.0 found x.1) (by_both {p = term_of} term_meets (λ t s. properties_meet f s found))))
        (behind_mute refl (by_either (anonymous_subject_meets found) (property_subject_meets found)))

    pub triples_rule_meet : (found : List Triple) → Resolves refs (procedures.triples_rule f) (λ ts. triples_after found ts)
    unfolding procedures.triples_rule
    triples_rule_meet found =
        by_made (by_both {p = same_subject found} (same_subject_meets found) (λ t more. by_or (behind_mute refl (by_or (triples_meet f more) (nothing more))) (nothing more)))

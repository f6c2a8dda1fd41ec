-- Terms.
use Rattle.std.proofs.Common.{◌≡◌, ℕ, ◌+◌, false, List, [], ◌∷◌, Option, Some, None, Ok, Err, refl, sym, ap, ◌∙◌, subst}
use Rattle.std.specs.Result.{result_ok}
use Rattle.qs_terms.specs.Outcome.{Outcome, and_then}
use Rattle.qs_terms.specs.Literal as lit
use Rattle.qs_syntax_tree.specs.Sparql.{Name, Tree}
use Rattle.qs_syntax_tree.specs.Rules as rules
use Rattle.qs_syntax_tree.specs.Rules.{leaf, var}
use Rattle.qs_syntax_tree.specs.declared.kind.Kind.{Kind}
use Rattle.qs_syntax_tree.specs.declared.kind.Kind.TheVariants as k
use Rattle.qs_syntax_tree.specs.declared.term.Iri.{Iri}
use Rattle.qs_syntax_tree.specs.declared.term.Iri.TheVariants.{Full, Prefixed}
use Rattle.qs_syntax_tree.specs.declared.term.Literal.TheVariants.{String, Integer}
use Rattle.qs_syntax_tree.specs.declared.token.Span.{Span}
use Rattle.qs_syntax_tree.specs.declared.token.Token.{Token}
use Rattle.qs_syntax_ast.specs.declared.term.TermPattern.TheVariants as term
use Rattle.qs_terms.specs.declared.term.Term.TheVariants as value
use Rattle.qs_lex_escapes.specs.Piece.{piece}
use Rattle.qs_syntax_ast.specs.declared.term.VarOrIri.TheVariants as var_or_iri_ast
use Rattle.qs_syntax_resolve.specs.Names as of
use Rattle.qs_syntax_resolve.specs.inner.Names as inner_of
use Rattle.qs_syntax_resolve.specs.Names.{Names}
use Rattle.qs_syntax_resolve.specs.Data.{value_of}
use Rattle.qs_syntax_resolve.specs.Leaves.{variable, iri, var_or_iri, literal, term_of, settled}
use Rattle.qs_syntax_resolve.specs.Path.{predicate}
use Rattle.qs_syntax_resolve.specs.declared.resolver.Resolver.{Resolver}
use Rattle.qs_syntax_laws.specs.inner.NameFaults.{role, anything, behind_token, at_token, kept}
use Rattle.qs_syntax_laws.specs.inner.TextVariables.{is_variable}
use Rattle.qs_syntax_laws.proofs.Walks.{Comes, Meets, Passes, unread, unchanged}
use Rattle.qs_syntax_laws.proofs.Ways.{Resolves, by_mute, by_either, by_made, by_mapped, by_opt, by_second, behind_mute}

-- ---- names

one_name : (t : Token) (s : Resolver) (o : Outcome (List ℕ)) → at_token s.names anything (role t.kind) t.span ≡ kept s.names o → behind_token anything (role t.kind) t.span ≡ anything
    → is_variable t.kind ≡ false → Comes s (t ∷ []) (and_then o (λ text. Ok (text, s)))
one_name t s (Ok i) e b v = (rw e refl, rw (e, b) refl, unchanged s (t ∷ []) (rw v refl))
one_name t s (Err f) e b v = ([], rw e refl)

settled_at : (ts : List Token) (o : Option lit.Literal) (s : Resolver) → Passes s ts → Comes s ts (settled o s)
settled_at ts (Some l) s h = h
settled_at ts None s h = h

typed_at : (ts : List Token) (form : List ℕ) (s : Resolver) (o : Outcome (List ℕ)) → Comes s ts (and_then o (λ text. Ok (text, s))) → Comes s ts (and_then (inner_of.typed form o) (λ found. settled found s))
typed_at ts form s (Ok d) h = settled_at ts (result_ok (lit.checked_typed form d)) s h
typed_at ts form s (Err f) h = h

-- ---- variables

one_variable : (t : Token) (s : Resolver) → t.kind ≡ k.Var → Comes s (t ∷ []) (variable t.span s)
unfolding of.variable
one_variable t s e = (rw e refl, rw e refl, rw e refl)

module _ {refs : (n : Name) → List Token → Tree n → Type 0} where
  name : (j : Kind) (f : Span → Iri) → ((names : Names) (span : Span) → at_token names anything (role j) span ≡ kept names (of.iri names (f span)))
      → ((span : Span) → behind_token anything (role j) span ≡ anything) → is_variable j ≡ false → Resolves refs (leaf j) (λ span. iri (f span))
  name j f e b v = by_made (record {
    meets = λ ts t h. subst (Meets (iri (f t.span))) (sym h.0) (λ s.
        one_name t s (of.iri s.names (f t.span)) (ap (λ z. at_token s.names anything (role z) t.span) h.1 ∙ e s.names t.span)
        (ap (λ z. behind_token anything (role z) t.span) h.1 ∙ b t.span) (ap is_variable h.1 ∙ v));
  })

  pub variable_meets : Resolves refs var variable
  variable_meets = by_made (record { meets = λ ts t h. subst (Meets (variable t.span)) (sym h.0) (λ s. one_variable t s h.1) })

  pub iri_meets : Resolves refs rules.iri iri
  unfolding rules.iri
  iri_meets =
      by_either (by_made (name k.IriRef Full (λ names span. refl) (λ span. refl) refl))
      (by_made (by_either (name k.PnameLn Prefixed (λ names span. refl) (λ span. refl) refl) (name k.PnameNs Prefixed (λ names span. refl) (λ span. refl) refl)))

  pub var_or_iri_meets : Resolves refs rules.var_or_iri var_or_iri
  unfolding rules.var_or_iri
  var_or_iri_meets = by_either (by_made (by_mapped (λ _ v. var_or_iri_ast.Variable v) variable_meets)) (by_made (by_mapped (λ _ y. var_or_iri_ast.Iri y) iri_meets))

  -- ---- literals

  pub annotation_meets : (written : Span) → Resolves refs rules.annotation (λ a. literal (String written a))
  unfolding rules.annotation literal
  annotation_meets written =
      by_opt
      (by_either (by_made (by_mute refl (λ tag s. settled_at [] (result_ok (lit.checked_tagged (of.string s.names.text written) (piece s.names.text (tag.start + 1) tag.end))) s (unread s))))
      (by_made (behind_mute refl (record {
        meets = λ ts i h s. typed_at ts (of.string s.names.text written) s (of.iri s.names i) (iri_meets.meets ts i h s);
      }))))
      unread

  pub literal_meets : Resolves refs rules.literal literal
  unfolding rules.literal literal
  literal_meets =
      by_either (by_made (by_second refl (λ written. annotation_meets written)))
      (by_either (by_made (by_mute refl (λ _. unread))) (by_either (by_made (by_mute refl (λ _. unread))) (by_made (by_mute refl (λ _. unread)))))

  pub number_meets : Resolves refs (leaf k.Signed) (λ span. literal (Integer span))
  unfolding literal
  number_meets = by_mute refl (λ _. unread)

  pub term_meets : Resolves refs rules.term term_of
  unfolding rules.term term_of
  term_meets =
      by_either (by_made (by_mapped (λ _ y. term.Variable y) variable_meets)) (by_either (by_made (by_mapped (λ _ y. term.Iri y) iri_meets))
      (by_either (by_made (by_mapped (λ _ y. term.Literal y) literal_meets)) (by_made (by_mute refl (λ _. unread)))))

  pub predicate_meets : Resolves refs rules.predicate predicate
  unfolding rules.predicate
  predicate_meets = by_either (by_made iri_meets) (by_made (by_mute refl (λ _. unread)))

  pub value_meets : Resolves refs rules.data_value value_of
  unfolding rules.data_value
  value_meets =
      by_either (by_made (by_mapped (λ _ y. Some (value.Iri y)) iri_meets))
      (by_either (by_made (by_mapped (λ _ y. Some (value.Literal y)) literal_meets)) (by_made (by_mute refl (λ _. unread))))

-- A string without a tag or a datatype is a literal of xsd:string, which is the object.
use Rattle.std.proofs.Common.{◌≡◌, ◌≢◌, ◌⊎◌, inl, inr, ℕ, List, Option, Result, Ok, Err, MatchResult, refl, sym, ap, subst, ◌∙◌}
use Rattle.qs_terms.specs.Literal.{Literal, xsd_string, typed}
use Rattle.qs_terms.specs.Statement.{Statement}
use Rattle.qs_terms.specs.declared.term.Term.TheVariants as term
use Rattle.qs_nquads.specs.inner.StatementState.{at_form, at_object}
use Rattle.qs_nquads.specs.inner.Unread.{GoesOn}
use Rattle.qs_nquads.specs.declared.fault.NqFaultKind.{NqFaultKind}
use Rattle.qs_nquads.specs.declared.fault.NqFaultKind.TheVariants.{Memory}
use Rattle.qs_nquads.specs.declared.node.Node.{Node}
use Rattle.qs_nquads.specs.declared.part.Part.{Part}
use Rattle.qs_nquads.specs.declared.part.Part.TheVariants as part
use Rattle.qs_nquads.specs.declared.statement_state.StatementState.{StatementState}

-- a part that goes on after an object
abbrev pub IsBehind : Part → Type 0
IsBehind t = ((i : List ℕ) × (t ≡ part.Iri i)) ⊎ (((n : ℕ) × (t ≡ part.Blank n)) ⊎ (t ≡ part.Dot))

abbrev pub made : Literal → Result Literal NqFaultKind
made l = Ok l

literal_or : Literal → Result Literal NqFaultKind → Literal
literal_or l (Ok x) = x
literal_or l (Err f) = l

same_literal : (l x : Literal) → made l ≡ made x → l ≡ x
unfolding literal_or
same_literal l x e = ap (literal_or l) e

module _ (s : Node) (p form : List ℕ) where
  as_object : (t : Part) → IsBehind t → at_object s p (term.Literal (typed form xsd_string)) t ≡ at_form s p form t
  as_object t (inl (i, e)) = subst (λ x. at_object s p (term.Literal (typed form xsd_string)) x ≡ at_form s p form x) (sym e) refl
  as_object t (inr (inl (n, e))) = subst (λ x. at_object s p (term.Literal (typed form xsd_string)) x ≡ at_form s p form x) (sym e) refl
  as_object t (inr (inr e)) = subst (λ x. at_object s p (term.Literal (typed form xsd_string)) x ≡ at_form s p form x) (sym e) refl

  pub goes_on_as_object : (t : Part) (l : Literal) → IsBehind t → made (typed form xsd_string) ≡ made l → (r : Result (Option Statement) NqFaultKind) (new : StatementState)
      → MatchResult r (λ next. GoesOn (at_object s p (term.Literal l) t) next new) (λ fault. at_object s p (term.Literal l) t ≡ Err fault)
      → MatchResult r (λ next. GoesOn (at_form s p form t) next new) (λ fault. fault ≢ Memory → at_form s p form t ≡ Err fault)
  goes_on_as_object t l b e (Ok next) new h = subst (λ o. GoesOn o next new) (ap (λ x. at_object s p (term.Literal x) t) (sym (same_literal _ _ e)) ∙ as_object t b) h
  goes_on_as_object t l b e (Err f) new h = λ _. sym (ap (λ x. at_object s p (term.Literal x) t) (sym (same_literal _ _ e)) ∙ as_object t b) ∙ h

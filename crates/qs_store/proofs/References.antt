-- Terms that are given by their numbers.
use Rattle.std.proofs.Common.{◌≡◌, ℕ, List, [], ◌∷◌, length, Some, refl, ap, sym, ◌∙◌, subst, inl, inr, ⊎_elim}
use Rattle.std.specs.List.{Contains, cons_option}
use Rattle.std.proofs.lemmas.Option.{same_Some}
use Rattle.qs_terms.specs.Bag.{Distinct, with_new}
use Rattle.qs_terms.specs.Statement.{Statement}
use Rattle.qs_terms.specs.Term.{same_term}
use Rattle.qs_terms.specs.declared.term.Term.{Term}
use Rattle.qs_dict.specs.inner.Dict.{number_of, IsInUse}
use Rattle.qs_dict.proofs.Numbers.{exact_number, with_known}
use Rattle.qs_store.specs.Change.{IsChanged, terms_of}
use Rattle.qs_store.specs.inner.Change.{with_terms}
use Rattle.qs_store.specs.inner.Change.{IsFullAt}
use Rattle.qs_store.specs.inner.Entries.{term_or, entry_of, statement_of, said, AreEntries, IsEntryOf}
use Rattle.qs_store.specs.inner.Store.{IsFront}
use Rattle.qs_store.specs.declared.fault.StoreFault.{StoreFault}
use Rattle.qs_store.proofs.Entries.{in_use, entry_found, member_of_said, said_has}
use Rattle.qs_store.proofs.Faults.{full_later}
use Rattle.qs_store.proofs.Members.{Entries}
use Rattle.qs_store.proofs.Terms.{front_keeps, front_refl, longer, with_quad}

-- a term keeps its number
pub known_number : (known terms : List Term) (n : ℕ) → IsFront known terms → Distinct same_term terms → IsInUse known n → number_of terms (term_or known n) ≡ Some n
known_number known terms n f u h = (exact_number terms (term_or known n) u n).1 (front_keeps known terms f n h.1 ∙ in_use known n h)

pub known_again : (known terms : List Term) (n : ℕ) → IsFront known terms → Distinct same_term terms → IsInUse known n → terms ≡ with_new same_term terms (term_or known n)
known_again known terms n f u h = with_known terms (term_or known n) n (known_number known terms n f u h)

pub own_number : (terms : List Term) (n : ℕ) → Distinct same_term terms → IsInUse terms n → number_of terms (term_or terms n) ≡ Some n
own_number terms n u h = known_number terms terms n (front_refl terms) u h

-- the terms of a quad that are put in one after another
pub in_steps : (old a b c d : List Term) (q : Statement) → a ≡ with_terms old (cons_option q.graph []) → b ≡ with_new same_term a q.subject → c ≡ with_new same_term b q.predicate → d ≡ with_new same_term c q.object → d ≡ with_terms old (terms_of q)
in_steps old a b c d q ha hb hc hd =
    hd
    ∙ (ap (λ t. with_terms t (q.object ∷ [])) hc
    ∙ (ap (λ t. with_terms t (q.predicate ∷ q.object ∷ [])) hb
    ∙ (ap (λ t. with_terms t (q.subject ∷ q.predicate ∷ q.object ∷ [])) ha
    ∙ sym (with_quad old q.graph (q.subject ∷ q.predicate ∷ q.object ∷ [])))))

-- what is full for the predicate is so for the quad
pub full_at_predicate : (f : StoreFault) (limit now : ℕ) (old a b : List Term) (q : Statement) → a ≡ with_terms old (cons_option q.graph []) → b ≡ with_new same_term a q.subject → now ≡ limit → IsFullAt f now (length (with_new same_term b q.predicate)) → IsFullAt f limit (length (with_terms old (terms_of q)))
full_at_predicate f limit now old a b q ha hb e h =
    let c = with_new same_term b q.predicate in
    subst (λ t. IsFullAt f limit (length t)) (in_steps old a b c (with_new same_term c q.object) q ha hb refl refl)
    (full_later f limit (length c) (length (with_terms c (q.object ∷ []))) (longer c (q.object ∷ [])) (subst (λ l. IsFullAt f l (length c)) e h))

-- what is full for the object is so for the quad
pub full_at_object : (f : StoreFault) (limit now : ℕ) (old a b c : List Term) (q : Statement) → a ≡ with_terms old (cons_option q.graph []) → b ≡ with_new same_term a q.subject → c ≡ with_new same_term b q.predicate → now ≡ limit → IsFullAt f now (length (with_new same_term c q.object)) → IsFullAt f limit (length (with_terms old (terms_of q)))
full_at_object f limit now old a b c q ha hb hc e h =
    subst (λ t. IsFullAt f limit (length t)) (in_steps old a b c (with_new same_term c q.object) q ha hb hc refl) (subst (λ l. IsFullAt f l (length (with_new same_term c q.object))) e h)

-- ---- entries over terms that stay

pub entries_changed : (terms : List Term) (old outs ins new : Entries) → AreEntries terms old → AreEntries terms ins → IsChanged old outs ins new → AreEntries terms new
entries_changed terms old outs ins new h g w x c = ⊎_elim (λ o. h x o.0) (λ m. g x m) ((w x).0 c)

-- entries that say the same are the same
same_entry : (terms : List Term) (x y : List ℕ) → Distinct same_term terms → IsEntryOf terms x → IsEntryOf terms y → statement_of terms x ≡ statement_of terms y → x ≡ y
same_entry terms x y u h g e = same_Some x y (sym (entry_found terms x u h) ∙ (ap (entry_of terms) e ∙ entry_found terms y u g))

-- what is done to the entries is done to the quads that they say
pub said_changed : (terms : List Term) (old outs ins new : Entries) → Distinct same_term terms → AreEntries terms old → AreEntries terms outs → IsChanged old outs ins new → IsChanged (said terms old) (said terms outs) (said terms ins) (said terms new)
said_changed terms old outs ins new u h g w q = (
  λ m. let s = member_of_said terms q new m in
      ⊎_elim
      (λ o. inl (
        subst (Contains (said terms old)) s.says (said_has terms s.entry old o.0),
        λ n. let r = member_of_said terms q outs n in o.1 (subst (Contains outs) (same_entry terms r.entry s.entry u (g r.entry r.stands) (h s.entry o.0) (r.says ∙ sym s.says)) r.stands),
      ))
      (λ i. inr (subst (Contains (said terms ins)) s.says (said_has terms s.entry ins i)))
      ((w s.entry).0 s.stands),
  λ k. ⊎_elim
      (λ o. let s = member_of_said terms q old o.0 in
      subst (Contains (said terms new)) s.says (said_has terms s.entry new ((w s.entry).1 (inl (s.stands, λ n. o.1 (subst (Contains (said terms outs)) s.says (said_has terms s.entry outs n)))))))
      (λ i. let s = member_of_said terms q ins i in subst (Contains (said terms new)) s.says (said_has terms s.entry new ((w s.entry).1 (inr s.stands))))
      k,
)

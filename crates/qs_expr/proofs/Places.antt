-- The places of terms in a scratch table, and their numbers in a dictionary.
use Rattle.std.proofs.Common.{◌≡◌, inl, inr, ℕ, suc, ◌<◌, Bool, true, false, ◌||◌, List, [], ◌∷◌, ◌++◌, length, get_or, Option, Some, None, slice_get, refl, sym, ◌∙◌, ap, subst, arith, lt-ltb}
use Rattle.std.specs.List.{list_any, position, position_or_len}
use Rattle.std.specs.Option.{option_map}
use Rattle.std.proofs.lemmas.Bool.{cases_lt}
use Rattle.std.proofs.lemmas.List.Folds.{list_any-append, Any-from_list_any}
use Rattle.std.proofs.lemmas.List.Sums.{fails_before_first}
use Rattle.std.proofs.lemmas.Option.{none-some, same_Some}
use Rattle.qs_terms.specs.declared.term.Term.{Term}
use Rattle.qs_terms.specs.Bag.{with_new}
use Rattle.qs_terms.specs.Term.{same_term}
use Rattle.qs_terms.proofs.SameTerm.{same_term-Decides, eq_is}
use Rattle.qs_terms.specs.contracts.term.TermPartialEq.TheImpl as equ
use Rattle.qs_dict.specs.inner.Dict.{term_at, number_of}
use Rattle.qs_dict.proofs.Places.{slice_get-position}
use Rattle.qs_expr.specs.inner.Scratch.{IsTable, Grows, with_term}
use Rattle.qs_expr.proofs.Finding.{numbered, still_one}
use Rattle.qs_expr.proofs.Growth.{stays}

-- ---- places

-- the term stands where the set has a key that is the same
pub stored_there : (terms : List Term) (term : Term) (place : ℕ) → ((k : Term) × (slice_get terms place ≡ Some k) × (equ.ghosts.eq term k ≡ true)) → slice_get terms place ≡ Some term
stored_there terms term place h =
    let key : term ≡ h.0 = (same_term-Decides term h.0).0 (sym (eq_is term h.0) ∙ h.2) in
    h.1 ∙ ap Some (sym key)

-- ---- numbers

number_at : (known : List Term) (t : Term) (o : Option ℕ) (n : ℕ) → position (same_term t) known ≡ o → option_map suc o ≡ Some n → term_at known n ≡ Some t
number_at known t None n e h = absurd (none-some n h)
number_at known t (Some i) n e h =
    subst (λ m. term_at known m ≡ Some t) (same_Some (suc i) n h) (slice_get-position same_term same_term-Decides known i t e)

-- the term with the number that is found
pub number_there : (known : List Term) (t : Term) (n : ℕ) → number_of known t ≡ Some n → term_at known n ≡ Some t
number_there known t n h = number_at known t (position (same_term t) known) n refl h

passes_first : (known : List Term) (t : Term) (k : ℕ) (x : Term) → k < length known → get_or known k x ≡ x → same_term t x ≡ true → position_or_len (same_term t) known < length known
passes_first known t k x l e s = elim (cases_lt k (position_or_len (same_term t) known)) [
  | inl lt ↦ let f : true ≡ false = sym s ∙ (ap (same_term t) (sym e) ∙ fails_before_first (same_term t) known k x lt) in absurd (cc)
  | inr le ↦ omega arith
]

-- a term that has no number stands nowhere
pub number_nowhere : (known : List Term) (t : Term) → number_of known t ≡ None → list_any (same_term t) known ≡ false
number_nowhere known t h = by (list_any (same_term t) known) refl
  where
    by : (b : Bool) → list_any (same_term t) known ≡ b → b ≡ false
    by false e = refl
    by true e =
        let a = Any-from_list_any (same_term t) known e in
        let l : position_or_len (same_term t) known < length known = passes_first known t a.0 a.1 a.2 a.3 a.4 in
        let p : position (same_term t) known ≡ Some (position_or_len (same_term t) known) = rw (lt-ltb _ _ l) refl in
        absurd (none-some _ (sym h ∙ ap (option_map suc) p))

-- ---- the cell of a term

module _ (known table : List Term) (t : Term) where
  pub with_known : (n : ℕ) → number_of known t ≡ Some n → table ≡ with_term known table t
  with_known n h =
      let k : list_any (same_term t) known ≡ true = numbered known t n (number_there known t n h) in
      let e : list_any (same_term t) (known ++ table) ≡ true = list_any-append (same_term t) known table ∙ ap (λ b. b || list_any (same_term t) table) k in
      rw e refl

  pub with_unknown : number_of known t ≡ None → with_new same_term table t ≡ with_term known table t
  with_unknown h =
      let e : list_any (same_term t) (known ++ table) ≡ list_any (same_term t) table = list_any-append (same_term t) known table ∙ ap (λ b. b || list_any (same_term t) table) (number_nowhere known t h) in
      rw e refl

  pub grows_with : IsTable known table → number_of known t ≡ None → (new : List Term) → new ≡ with_new same_term table t → Grows known table new
  grows_with h u new e = by (list_any (same_term t) table) refl
    where
      by : (b : Bool) → list_any (same_term t) table ≡ b → Grows known table new
      by true s = subst (Grows known table) (sym (e ∙ rw s refl)) (stays known table h)
      by false s =
          let f : new ≡ table ++ t ∷ [] = e ∙ rw s refl in
          record { more = t ∷ []; is = f; table = subst (IsTable known) (sym f) (still_one known table t h (number_nowhere known t u) s) }

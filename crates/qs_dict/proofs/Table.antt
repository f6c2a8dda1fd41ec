-- The table of values beside the terms.
use Rattle.std.proofs.Common.{◌≡◌, ℕ, zero, suc, ◌-◌, ◌+◌, ◌<◌, ◌≤◌, Bool, true, false, not, List, [], ◌∷◌, ◌++◌, map, length, get_or, Option, Some, None, slice_get, if◌then◌else◌, refl, sym, ap, subst, ◌∙◌, arith}
use Rattle.std.specs.List.{list_any}
use Rattle.std.specs.Option.{option_map}
use Rattle.std.proofs.lemmas.List.{length-map, map-append}
use Rattle.std.proofs.lemmas.Option.{same_Some, slice_get-map, slice_get-get_or}
use Rattle.indexmap.specs.IndexSet.{insert_key}
use Rattle.qs_terms.specs.Term.{same_term}
use Rattle.qs_terms.specs.declared.term.Term.{Term}
use Rattle.qs_terms.specs.contracts.term.TermPartialEq.TheImpl as equ
use Rattle.qs_terms.proofs.SameTerm.{same_term-Decides, eq_is}
use Rattle.qs_expr_values.specs.declared.term_value.TermValue.{TermValue}
use Rattle.qs_expr_values.specs.inner.TermValue.{term_value}
use Rattle.qs_dict.specs.inner.Dict.{term_at}

is_lacking : (is_new there : Bool) → is_new ≡ true → is_new ≡ not there → there ≡ false
is_lacking is_new true n e = cc
is_lacking is_new false n e = refl

pub lacking : (terms : List Term) (term : Term) (is_new : Bool) → is_new ≡ true → is_new ≡ not (list_any (equ.ghosts.eq term) terms) → list_any (equ.ghosts.eq term) terms ≡ false
lacking terms term is_new fresh added = is_lacking is_new _ fresh added

-- the value of a new term is put last
pub grown : (terms new : List Term) (values more : List TermValue) (term : Term) (is_new : Bool) (place : ℕ) (value : TermValue) → values ≡ map term_value terms → is_new ≡ true → is_new ≡ not (list_any (equ.ghosts.eq term) terms) → new ≡ insert_key equ.ghosts.eq terms term
    → ((k : Term) × (slice_get new place ≡ Some k) × (equ.ghosts.eq term k ≡ true)) → option_map term_value (slice_get new place) ≡ Some value → more ≡ values ++ value ∷ [] → more ≡ map term_value new
grown terms new values more term is_new place value before fresh added keys stored read pushed =
    let lacks : list_any (equ.ghosts.eq term) terms ≡ false = is_lacking is_new _ fresh added in
    let last : new ≡ terms ++ term ∷ [] = keys ∙ ap (λ b. if b then terms else terms ++ term ∷ []) lacks in
    let key : term ≡ stored.0 = (same_term-Decides term stored.0).0 (sym (eq_is term stored.0) ∙ stored.2) in
    let own : value ≡ term_value term = sym (same_Some _ _ (sym (ap (option_map term_value) stored.1) ∙ read)) ∙ ap term_value (sym key) in
    pushed ∙ (ap (λ vs. vs ++ value ∷ []) before ∙ (ap (λ v. map term_value terms ++ v ∷ []) own ∙ (sym (map-append term_value terms (term ∷ [])) ∙ ap (map term_value) (sym last))))

-- the value at the number's place is that of the number's term
pub value_there : (terms : List Term) (values : List TermValue) (number : ℕ) (d : TermValue) → values ≡ map term_value terms → 0 < number → number ≤ length terms → option_map term_value (term_at terms number) ≡ Some (get_or values (number - 1) d)
value_there terms values zero d same some h = absurd (omega arith)
value_there terms values (suc i) d same some h =
    let place : suc i - 1 ≡ i = omega arith in
    let long : length values ≡ length terms = ap length same ∙ length-map terms term_value in
    let there : slice_get values i ≡ Some (get_or values i d) = slice_get-get_or values i d (omega (arith, long)) in
    sym (slice_get-map term_value terms i) ∙ (ap (λ vs. slice_get vs i) (sym same) ∙ (there ∙ ap (λ k. Some (get_or values k d)) (sym place)))

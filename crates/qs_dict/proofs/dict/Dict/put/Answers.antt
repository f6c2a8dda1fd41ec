use Rattle.std.proofs.Common.{◌≡◌, List, ℕ, suc, ◌+◌, ◌≤◌, Some, None, Ok, length, ap, sym, ◌∙◌, arith, add-one}
use Rattle.std.proofs.lemmas.Option.{same_Some, none-some}
use Rattle.qs_terms.specs.Bag.{with_new}
use Rattle.qs_terms.specs.Term.{same_term}
use Rattle.qs_terms.specs.declared.term.Term.{Term}
use Rattle.qs_dict.specs.inner.Dict.{Dictionary, number_of}
use Rattle.qs_dict.proofs.Numbers.{exact_number, keeps_with, more_by_one, with_known}
use Rattle.qs_dict.proofs.dict.Dict.put.Goals as goal

pub invariant_of-self-2 : goal.invariant_of-self-2
invariant_of-self-2 c =
    let terms = c.self.inside.terms.keys in
    let counted : length terms ≡ length c.args.self.now.terms = ap (λ d. length d.terms) c.self.view_is in
    let more = more_by_one terms c.args.term in
    let now : length c.put.new.terms.keys ≡ length (with_new same_term terms c.args.term) = ap length c.in_ok-place.ensures.terms in (
      record {
        distinct = c.in_ok-place.ensures.distinct;
        within = omega (arith, now, more, counted, c.requires.room, ap (λ d. d.limit) c.self.view_is);
        bound = c.self.invariant.0.bound;
      },
      c.in_ok-place.ensures.values,
    )

pub returns-clause-terms : goal.returns-clause-terms
returns-clause-terms c = rw (← c.self.view_is) c.in_ok-place.ensures.terms

pub returns-clause-number : goal.returns-clause-number
returns-clause-number c =
    rw (add-one c.in_ok-place.place) ((exact_number c.put.new.terms.keys c.args.term c.in_ok-place.ensures.distinct (suc c.in_ok-place.place)).1 c.in_ok-place.ensures.place)

pub returns-clause-lawful : goal.returns-clause-lawful
returns-clause-lawful c = (invariant_of-self-2 c).0

pub returns-clause-kept : goal.returns-clause-kept
returns-clause-kept c = rw (returns-clause-terms c) (keeps_with c.args.self.now.terms c.args.term)

pub returns-in_err-place-clause-present : goal.returns-in_err-place-clause-present
returns-in_err-place-clause-present c n e =
    let before : number_of c.self.inside.terms.keys c.args.term ≡ Some n = ap (λ (d : Dictionary). number_of d.terms c.args.term) c.self.view_is ∙ e in
    absurd (none-some n (sym c.in_err-place.ensures.absent ∙ before))

pub returns-clause-present : goal.returns-clause-present
returns-clause-present c n e =
    let keys = c.self.inside.terms.keys in
    let before : number_of keys c.args.term ≡ Some n = ap (λ (d : Dictionary). number_of d.terms c.args.term) c.self.view_is ∙ e in
    let same : c.put.new.terms.keys ≡ keys = c.in_ok-place.ensures.terms ∙ sym (with_known keys c.args.term n before) in
    let there : number_of c.put.new.terms.keys c.args.term ≡ Some (c.in_ok-place.place + 1) = returns-clause-number c in
    let number : c.in_ok-place.place + 1 ≡ n = same_Some _ _ (sym there ∙ (ap (λ (ks : List Term). number_of ks c.args.term) same ∙ before)) in
    let view : List Term → Dictionary = λ ks. record { terms = ks; limit = c.self.inside.limit } in
    (ap Ok number, ap view same ∙ c.self.view_is)

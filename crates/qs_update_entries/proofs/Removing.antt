-- Quads that are removed by the entries of those whose terms are known.
use Rattle.std.proofs.Common.{◌≡◌, ◌+◌, ℕ, suc, List, [], ◌∷◌, ◌++◌, Option, Some, None, refl, ap, sym, ◌∙◌, subst, inl, inr, ⊎_elim, arith}
use Rattle.std.specs.Prelude.{slice_get}
use Rattle.std.specs.List.{Contains, cons_option, filter_map, flat_map}
use Rattle.std.specs.Option.{option_map}
use Rattle.std.proofs.lemmas.Bool.{le-ltb}
use Rattle.qs_terms.specs.Bag.{Distinct}
use Rattle.qs_terms.specs.Statement.{Statement}
use Rattle.qs_terms.specs.Term.{same_term}
use Rattle.qs_terms.specs.declared.term.Term.{Term}
use Rattle.qs_algebra_solutions.specs.Solution.{Solution}
use Rattle.qs_query_template.specs.Instances.{slot_term, graph_term, instance, instances}
use Rattle.qs_query_template.specs.inner.Instances.{fresh, instances_under}
use Rattle.qs_query_template.specs.declared.template.QuadTemplate.{QuadTemplate}
use Rattle.qs_query_template.specs.declared.template.Slot.{Slot}
use Rattle.qs_query_template.specs.declared.template.Slot.TheVariants as slot
use Rattle.qs_query_template.specs.declared.template.Template.{Template}
use Rattle.qs_dict.specs.inner.Dict.{number_of}
use Rattle.qs_dict.proofs.Numbers.{exact_number}
use Rattle.qs_store.specs.Change.{IsChanged}
use Rattle.qs_store.specs.inner.Content.{HasKnownTerms}
use Rattle.qs_store.specs.inner.Entries.{entry_of, graph_number, said}
use Rattle.qs_store.specs.inner.Store.{IsFront}
use Rattle.qs_store.proofs.Changed.{found_for, found_has}
use Rattle.qs_store.proofs.Entries.{entry_says, member_of_said, said_has}
use Rattle.qs_store.proofs.Members.{Entries, nothing, head_or_tail}
use Rattle.qs_store.proofs.Terms.{distinct_front, entry_later}
use Rattle.qs_update_entries.specs.inner.Removed.{entries_under}

place : (terms : List Term) (t : Term) → Contains terms t → (i : ℕ) × (slice_get terms i ≡ Some t)
place [] t c = absurd (nothing t c)
place (x ∷ xs) t c = ⊎_elim (λ s. (0, ap Some s)) (λ m. let p = place xs t m in (suc p.0, p.1)) (head_or_tail x xs t c)

-- a term that is known has a number
number_there : (terms : List Term) (t : Term) → Distinct same_term terms → Contains terms t → (n : ℕ) × (number_of terms t ≡ Some n)
number_there terms t u c = let p = place terms t c in (suc p.0, (exact_number terms t u (suc p.0)).1 p.1)

graph_there : (terms : List Term) (g : Option Term) → Distinct same_term terms → ((name : Term) → g ≡ Some name → Contains terms name) → (n : ℕ) × (graph_number terms g ≡ Some n)
graph_there terms None u h = (0, refl)
graph_there terms (Some name) u h = number_there terms name u (h name refl)

-- a quad whose terms are known has an entry
entry_there : (terms : List Term) (q : Statement) → Distinct same_term terms → HasKnownTerms terms q → (e : List ℕ) × (entry_of terms q ≡ Some e)
entry_there terms q u h =
    let g = graph_there terms q.graph u h.graph in
    let s = number_there terms q.subject u h.subject in
    let p = number_there terms q.predicate u h.predicate in
    let o = number_there terms q.object u h.object in
    (g.0 ∷ s.0 ∷ p.0 ∷ o.0 ∷ [], rw (g.1, s.1, p.1, o.1) refl)

-- ---- the quads of a template without blank nodes

none_fresh : (first k : ℕ) → fresh 0 first k ≡ None
none_fresh first k = rw (le-ltb k 0 (omega arith)) refl

pub none_are_fresh : (first k : ℕ) → slice_get [] k ≡ fresh 0 first k
none_are_fresh first k = sym (none_fresh first k)

same_slot : (first : ℕ) (m : Solution) (s : Slot) → slot_term 0 first m s ≡ slot_term 0 0 m s
same_slot first m (slot.Variable v) = refl
same_slot first m (slot.Term t) = refl
same_slot first m (slot.Blank k) = none_fresh first k ∙ sym (none_fresh 0 k)

same_graph_slot : (first : ℕ) (m : Solution) (g : Option Slot) → graph_term 0 first m g ≡ graph_term 0 0 m g
same_graph_slot first m None = refl
same_graph_slot first m (Some s) = ap (option_map Some) (same_slot first m s)

same_instance : (first : ℕ) (m : Solution) (q : QuadTemplate) → instance 0 first m q ≡ instance 0 0 m q
same_instance first m q = rw (same_graph_slot first m q.graph, same_slot first m q.subject, same_slot first m q.predicate, same_slot first m q.object) refl

cons_append : (o : Option (List ℕ)) (xs ys : Entries) → cons_option o (xs ++ ys) ≡ cons_option o xs ++ ys
cons_append None xs ys = refl
cons_append (Some x) xs ys = refl

found_append : (known : List Term) (xs ys : List Statement) → filter_map (entry_of known) (xs ++ ys) ≡ filter_map (entry_of known) xs ++ filter_map (entry_of known) ys
found_append known [] ys = refl
found_append known (x ∷ xs) ys =
    ap (cons_option (entry_of known x)) (found_append known xs ys) ∙ cons_append (entry_of known x) (filter_map (entry_of known) xs) (filter_map (entry_of known) ys)

under_one : (known : List Term) (blanks first : ℕ) (m : Solution) (qs : List QuadTemplate) → blanks ≡ 0
    → flat_map (λ q. filter_map (entry_of known) (instance 0 0 m q)) qs ≡ filter_map (entry_of known) (flat_map (instance blanks first m) qs)
under_one known blanks first m [] e = refl
under_one known blanks first m (q ∷ qs) e =
    let same : instance 0 0 m q ≡ instance blanks first m q = sym (subst (λ b. instance b first m q ≡ instance 0 0 m q) (sym e) (same_instance first m q)) in
    ap (λ l. filter_map (entry_of known) l ++ flat_map (λ r. filter_map (entry_of known) (instance 0 0 m r)) qs) same
    ∙ (ap (λ l. filter_map (entry_of known) (instance blanks first m q) ++ l) (under_one known blanks first m qs e)
    ∙ sym (found_append known (instance blanks first m q) (flat_map (instance blanks first m) qs)))

pub under_all : (known : List Term) (t : Template) (next : ℕ) (ms : List Solution) → t.blanks ≡ 0 → flat_map (entries_under known t) ms ≡ filter_map (entry_of known) (instances t next ms)
under_all known t next [] e = refl
under_all known t next (m ∷ ms) e =
    ap (λ l. l ++ flat_map (entries_under known t) ms) (under_one known t.blanks next m t.quads e)
    ∙ (ap (λ l. filter_map (entry_of known) (instances_under t next m) ++ l) (under_all known t (next + t.blanks) ms e)
    ∙ sym (found_append known (instances_under t next m) (instances t (next + t.blanks) ms)))

-- ---- quads that are removed

module _ (known more : List Term) (front : IsFront known more) (distinct : Distinct same_term more) (quads : List Statement) (entries : Entries) (are : entries ≡ filter_map (entry_of known) quads) where
  -- what the entries say are of the quads
  of_quads : (x : Statement) → Contains (said more entries) x → Contains quads x
  of_quads x c =
      let m = member_of_said more x entries c in
      let f = found_for known m.entry quads (subst (λ l. Contains l m.entry) are m.stands) in
      let same = sym (entry_says more f.quad m.entry distinct (entry_later known more f.quad m.entry front distinct f.found)) ∙ m.says in
      subst (Contains quads) same f.stands

  -- and all of these whose terms are known
  all_known : (x : Statement) → HasKnownTerms known x → Contains quads x → Contains (said more entries) x
  all_known x h c =
      let e = entry_there known x (distinct_front known more front distinct) h in
      let stands : Contains entries e.0 = subst (λ l. Contains l e.0) (sym are) (found_has known e.0 x quads c e.1) in
      subst (Contains (said more entries)) (entry_says more x e.0 distinct (entry_later known more x e.0 front distinct e.1)) (said_has more e.0 entries stands)

  -- so it is the same to remove the quads, where the terms of all quads that stand are known
  pub removed_as_quads : (old added new : List Statement) → ((q : Statement) → Contains old q → HasKnownTerms known q) → IsChanged old (said more entries) added new → IsChanged old quads added new
  removed_as_quads old added new knows w x = (
    λ c. ⊎_elim (λ o. inl (o.0, λ r. o.1 (all_known x (knows x o.0) r))) (λ a. inr a) ((w x).0 c),
    λ k. (w x).1 (⊎_elim (λ o. inl (o.0, λ s. o.1 (of_quads x s))) (λ a. inr a) k),
  )

-- Data that are put into a new store.
use Rattle.std.proofs.Common.{◌≡◌, ◌∙◌, ℕ, List, Result, Ok, Err, IfOk, IfErr, OnOk, MatchResult, ap, refl, subst, sym}
use Rattle.qs_terms.specs.Outcome.{Outcome, OneOrOutOfMemory}
use Rattle.qs_terms.specs.declared.term.Term.{Term}
use Rattle.qs_terms.specs.Statement.{Statement}
use Rattle.qs_store_load.specs.inner.Load as load
use Rattle.qs_store_load.specs.inner.Load.{IsLoadFault}
use Rattle.qs_store_load.specs.declared.fault.LoadFault.{LoadFault}
use Rattle.qs_store_load.specs.declared.fault.LoadFault.TheVariants.{Text, Store}
use Rattle.qs_store.specs.declared.fault.StoreFault.TheVariants as store_fault
use Rattle.qs_store.specs.Content.{Content, Held}
use Rattle.qs_store.specs.declared.default_graph.DefaultGraph.{DefaultGraph}
use Rattle.quads.specs.Due.{empty, max_terms, IsLoaded, IsOverData}
use Rattle.quads.specs.inner.Refusal.{refusal_of}
use Rattle.quads.specs.inner.Service.{IsRefusalOf}
use Rattle.quads.specs.inner.Load.{BecomesStored}

-- a store without quads, number and terms is a new one
pub is_empty : (c : Content) → c.quads ≡ empty.quads → c.next ≡ empty.next → c.known ≡ empty.known → c ≡ empty
is_empty c e f g =
    ap (λ (l : List Statement). (let o : Content = record { quads = l; next = c.next; known = c.known } in o)) e
    ∙ ap (λ (n : ℕ). (let o : Content = record { quads = empty.quads; next = n; known = c.known } in o)) f
    ∙ ap (λ (l : List Term). (let o : Content = record { quads = empty.quads; next = empty.next; known = l } in o)) g

module _ (limit : ℕ) (file : List ℕ) (old : Content) (is_limit : limit ≡ max_terms) (is_new : old ≡ empty) where
  pub loaded : (new : Content) → load.IsLoaded limit file old new → IsLoaded file (Ok new)
  loaded new h =
      let at = subst (λ (n : ℕ). load.IsLoaded n file empty new) is_limit (subst (λ (o : Content). load.IsLoaded limit file o new) is_new h) in
      (at.quads, new.next, at.reads, record { room = at.room; quads = at.changed; next = refl; known = at.known })

  at_new : (f : LoadFault) → IsLoadFault max_terms file 0 empty.known f → IsRefusalOf file (refusal_of f)
  at_new (Text f) h = h
  at_new (Store store_fault.Full) h = λ _. (h.quads, h.next, h.reads, (h.more, refl))
  at_new (Store store_fault.Memory) h = λ n. absurd (n refl)

  pub not_loaded : (f : LoadFault) → IsLoadFault limit file old.next old.known f → IsRefusalOf file (refusal_of f)
  not_loaded f h =
      at_new f (subst (λ (n : ℕ). IsLoadFault n file empty.next empty.known f) is_limit (subst (λ (o : Content). IsLoadFault limit file o.next o.known f) is_new h))

  -- what becomes of the store by its load
  pub becomes : (choice : DefaultGraph) (new : Held) (r : Result Unit LoadFault) (o : Result Held LoadFault)
      → OnOk r (load.IsLoaded limit file old new.base) → IfErr r (λ f. IsLoadFault limit file old.next old.known f) → new.limit ≡ limit → new.default_graph ≡ choice
      → MatchResult r (λ _. o ≡ Ok new) (λ f. o ≡ Err f) → BecomesStored choice file o
  becomes choice new (Ok x) o is_loaded fault same_limit same_graph is = subst (λ (p : Result Held LoadFault). BecomesStored choice file p) (sym is) (loaded new.base is_loaded, same_limit ∙ is_limit, same_graph)
  becomes choice new (Err g) o is_loaded fault same_limit same_graph is = subst (λ (p : Result Held LoadFault). BecomesStored choice file p) (sym is) (not_loaded g fault)

-- a store of the data knows no more terms than there are numbers for them
pub stored_limit : (choice : DefaultGraph) (file : List ℕ) (o : Result Held LoadFault) → BecomesStored choice file o → IfOk o (λ store. store.limit ≡ max_terms)
stored_limit choice file (Ok held) h = h.1
stored_limit choice file (Err f) h = tt

module _ {A : Type 0} (Due : Content → Outcome A → Type 0) (file : List ℕ) (c : Content) (is : IsLoaded file (Ok c)) where
  over : (r : Outcome A) → OneOrOutOfMemory (Due c) r → OneOrOutOfMemory (IsOverData Due file) r
  over (Ok a) due = (Ok c, is, due)
  over (Err f) due = λ other. (Ok c, is, due other)

  -- what is due over a store of the data is due over the data
  pub over_data : (r s : Outcome A) → r ≡ s → OneOrOutOfMemory (Due c) r → OneOrOutOfMemory (IsOverData Due file) s
  over_data r s same due = over s (subst (λ (o : Outcome A). OneOrOutOfMemory (Due c) o) same due)

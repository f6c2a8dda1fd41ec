-- The steps of a load, from one statement to the next.
use Rattle.std.proofs.Common.{◌≡◌, ◌≤◌, ℕ, List, [], ◌∷◌, ◌++◌, append_assoc, length, Result, IfErr, refl, ap, sym, ◌∙◌, subst, arith}
use Rattle.qs_terms.specs.Statement.{Statement}
use Rattle.qs_terms.specs.declared.term.Term.{Term}
use Rattle.qs_nquads.specs.Nquads.{IsNquads}
use Rattle.qs_nquads.specs.inner.Unread.{Unread, HasRead}
use Rattle.qs_store.specs.Change.{IsChanged, KnowsTermsOf, with_terms_of}
use Rattle.qs_store.specs.inner.Change.{IsFullAt}
use Rattle.qs_store.specs.Content.{Content, Held}
use Rattle.qs_store.specs.inner.Entries.{IsSaidBehind, said}
use Rattle.qs_store.specs.declared.fault.StoreFault.{StoreFault}
use Rattle.qs_store.specs.declared.fault.StoreFault.TheVariants as store_fault
use Rattle.qs_store_load.specs.inner.Load.{IsLoaded, IsLoadFault}
use Rattle.qs_store_load.specs.inner.Loading.{AreNumbered, IsNumbered, IsTold, IsToldFor, Learns, Say}
use Rattle.qs_store_load.specs.declared.fault.LoadFault.{LoadFault}
use Rattle.qs_store_load.specs.declared.fault.LoadFault.TheVariants.{Text, Store}

pub learns_nothing : (h : Held) → Learns h h
learns_nothing h = record { base = refl; quads = refl; next = refl; limit = refl; default_graph = refl }

pub learns_more : (a b c : Held) → Learns a b → Learns b c → Learns a c
learns_more a b c f g = record {
  base = g.base ∙ f.base;
  quads = g.quads ∙ f.quads;
  next = g.next ∙ f.next;
  limit = g.limit ∙ f.limit;
  default_graph = g.default_graph ∙ f.default_graph;
}

-- no entry says nothing
pub say_nothing : (known : List Term) (entries : List (List ℕ)) → entries ≡ [] → Say known known entries []
say_nothing known entries e = subst (λ l. Say known known l []) (sym e) record { entries_are = λ x m. absurd (omega (arith, m.1)); says = refl; known_is = refl }

-- one entry more says one quad more
pub say_more : (first old new : List Term) (entries : List (List ℕ)) (quads : List Statement) (q : Statement) (e : List ℕ) → Say first old entries quads → IsSaidBehind old entries q new e → new ≡ with_terms_of first (quads ++ q ∷ []) → Say first new (entries ++ e ∷ []) (quads ++ q ∷ [])
say_more first old new entries quads q e s b k = record { entries_are = b.entries_are; says = b.says ∙ ap (λ l. l ++ q ∷ []) s.says; known_is = k }

-- the quads that entries say are what they say
pub say_themselves : (first known : List Term) (entries : List (List ℕ)) (quads : List Statement) → Say first known entries quads → Say first known entries (said known entries)
say_themselves first known entries quads s = record { entries_are = s.entries_are; says = refl; known_is = subst (λ l. known ≡ with_terms_of first l) (sym s.says) s.known_is }

pub read_said : (first known : List Term) (entries : List (List ℕ)) (quads : List Statement) (n : ℕ) (u : Unread) → Say first known entries quads → HasRead n quads u → HasRead n (said known entries) u
read_said first known entries quads n u s h = subst (λ l. HasRead n l u) (sym s.says) h

-- what is told where the terms find no room is why the bytes aren't put in
told_for : (limit : ℕ) (bytes : List ℕ) (first : ℕ) (known : List Term) (quads : List Statement) (q : Statement) (f : LoadFault)
    → ((more : List Statement) → IsFullAt store_fault.Full limit (length (with_terms_of known (quads ++ q ∷ more)))) → IsTold bytes first (quads ++ q ∷ []) f → IsLoadFault limit bytes first known f
told_for limit bytes first known quads q (Text f) h t = t
told_for limit bytes first known quads q (Store store_fault.Full) h t =
    record { quads = (quads ++ q ∷ []) ++ t.more; next = t.next; reads = t.reads; more = subst (λ l. IsFullAt store_fault.Full limit (length (with_terms_of known l))) (sym (append_assoc quads (q ∷ []) t.more)) (h t.more) }
told_for limit bytes first known quads q (Store store_fault.Memory) h t = absurd t

pub refused_for : (g : StoreFault) (limit : ℕ) (bytes : List ℕ) (first : ℕ) (known : List Term) (quads : List Statement) (q : Statement) (f : LoadFault)
    → ((more : List Statement) → IsFullAt g limit (length (with_terms_of known (quads ++ q ∷ more)))) → IsToldFor g bytes first (quads ++ q ∷ []) f → IsLoadFault limit bytes first known f
refused_for store_fault.Full limit bytes first known quads q f h t = told_for limit bytes first known quads q f h t
refused_for store_fault.Memory limit bytes first known quads q f h t = subst (λ g. IsLoadFault limit bytes first known g) (sym t) tt

-- a store with the entries of a text put in is loaded
pub loaded : (bytes : List ℕ) (next : ℕ) (held : Held) (new : Content) (entries lent : List (List ℕ))
    → IsNumbered bytes next held entries → lent ≡ entries → IsChanged held.draft.quads [] (said held.draft.known lent) new.quads → new.next ≡ next → new.known ≡ held.draft.known → length new.known ≤ held.limit
    → ((known : List Term) (quads : List Statement) → KnowsTermsOf known quads (with_terms_of known quads)) → IsLoaded held.limit bytes held.base new
loaded bytes next held new entries lent n is_lent changed is_next is_known fits law =
    let of : AreNumbered bytes held.base.next next held.base.known held.draft.known entries = n.numbered in
    let knows : new.known ≡ with_terms_of held.base.known of.quads = is_known ∙ of.say.known_is in
    let said_is : said held.draft.known lent ≡ of.quads = ap (said held.draft.known) is_lent ∙ of.say.says in
    record {
      quads = of.quads;
      reads = subst (λ m. IsNquads bytes held.base.next of.quads m) (sym is_next) of.reads;
      changed = subst (λ q. IsChanged q [] of.quads new.quads) n.same_quads (subst (λ q. IsChanged held.draft.quads [] q new.quads) said_is changed);
      known = subst (λ k. KnowsTermsOf held.base.known of.quads k) (sym knows) (law held.base.known of.quads);
      room = subst (λ k. length k ≤ held.limit) knows fits;
    }

-- a fault of a load is one of equal bytes into an equal store
pub same_fault : (text bytes : List ℕ) (old new : Content) (limit room : ℕ) (r : Result ℕ LoadFault) → text ≡ bytes → old ≡ new → limit ≡ room → IfErr r (λ f. IsLoadFault limit text old.next old.known f) → IfErr r (λ f. IsLoadFault room bytes new.next new.known f)
same_fault text bytes old new limit room r same e f h =
    subst (λ n. IfErr r (λ f. IsLoadFault n bytes new.next new.known f)) f
    (subst (λ (c : Content). IfErr r (λ f. IsLoadFault limit bytes c.next c.known f)) e (subst (λ b. IfErr r (λ f. IsLoadFault limit b old.next old.known f)) same h))

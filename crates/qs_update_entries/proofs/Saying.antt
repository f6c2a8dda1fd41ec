-- Entries that say quads, one after another.
use Rattle.std.proofs.Common.{◌≡◌, ℕ, true, false, List, [], ◌∷◌, ◌++◌, append-nil, refl, ap, sym, ◌∙◌, subst}
use Rattle.std.specs.Prelude.{Result, Ok, Err, OnOk}
use Rattle.std.specs.List.{flat_map}
use Rattle.qs_terms.specs.Statement.{Statement, fits_places}
use Rattle.qs_terms.specs.declared.term.Term.{Term}
use Rattle.qs_store.specs.Change.{terms_of, with_terms_of}
use Rattle.qs_store.specs.Content.{Held}
use Rattle.qs_store.specs.inner.Entries.{AreEntries, IsSaidBehind}
use Rattle.qs_store.specs.inner.Store.{IsFront}
use Rattle.qs_store.proofs.Terms.{front_terms}
use Rattle.qs_update_entries.specs.inner.Refers.{if_lawful}
use Rattle.qs_update_entries.specs.inner.Say.{Learns, Say}

pub learns_nothing : (held : Held) → Learns held held
learns_nothing held = record { base = refl; quads = refl; next = refl; limit = refl; default_graph = refl }

pub learns_more : (a b c : Held) → Learns a b → Learns b c → Learns a c
learns_more a b c h k = record {
  base = k.base ∙ h.base;
  quads = k.quads ∙ h.quads;
  next = k.next ∙ h.next;
  limit = k.limit ∙ h.limit;
  default_graph = k.default_graph ∙ h.default_graph;
}

-- the quad, where its terms may stand in their places
pub one_lawful : (q : Statement) → fits_places q.graph q.subject q.predicate ≡ true → if_lawful q ≡ q ∷ []
one_lawful q e = rw e refl

pub none_lawful : (q : Statement) → fits_places q.graph q.subject q.predicate ≡ false → if_lawful q ≡ []
none_lawful q e = rw e refl

-- one quad more
pub one_said : (first old new : List Term) (entries after : List (List ℕ)) (entry : List ℕ) (quads : List Statement) (q : Statement) → after ≡ entries ++ entry ∷ []
    → ((es : List (List ℕ)) → AreEntries old es → IsSaidBehind old es q new entry)
    → ((f : List Term) (qs : List Statement) → old ≡ with_terms_of f qs → new ≡ with_terms_of f (qs ++ q ∷ []))
    → Say first old entries quads → Say first new after (quads ++ q ∷ [])
one_said first old new entries after entry quads q e said known s =
    let b = said entries s.entries_are in
    subst (λ l. Say first new l (quads ++ q ∷ [])) (sym e) record {
      entries_are = b.entries_are;
      says = b.says ∙ ap (λ l. l ++ q ∷ []) s.says;
      known_is = known first quads s.known_is;
    }

pub none_said : (first known : List Term) (entries : List (List ℕ)) (quads none : List Statement) → none ≡ [] → Say first known entries quads → Say first known entries (quads ++ none)
none_said first known entries quads none e s = subst (Say first known entries) (sym (ap (λ l. quads ++ l) e ∙ append-nil quads)) s

-- the first terms stay
pub front_of_one : (old new : List Term) (q : Statement) → ((f : List Term) (qs : List Statement) → old ≡ with_terms_of f qs → new ≡ with_terms_of f (qs ++ q ∷ [])) → IsFront old new
front_of_one old new q known = subst (IsFront old) (sym (known old [] refl)) (front_terms old (flat_map terms_of (q ∷ [])))

pub on_ok : {A E : Type 0} → (r : Result A E) → (P : Type 0) → P → OnOk r P
on_ok (Ok a) P p = p
on_ok (Err e) P p = tt

pub ok_then : {A E : Type 0} → (r : Result A E) → (P Q : Type 0) → OnOk r P → (P → Q) → OnOk r Q
ok_then (Ok a) P Q h f = f h
ok_then (Err e) P Q h f = tt

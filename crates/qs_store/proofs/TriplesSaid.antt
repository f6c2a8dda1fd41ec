-- The triples of entries are those of the quads that the entries say.
use Rattle.std.proofs.Common.{◌≡◌, ◌≢◌, ℕ, zero, suc, ◌≤◌, Bool, true, false, ◌==◌, ◌&&◌, not, List, [], ◌∷◌, length, take, Option, Some, None, refl, ap, sym, ◌∙◌, subst, arith}
use Rattle.std.specs.List.{Contains}
use Rattle.std.proofs.lemmas.Bool.{false≢true, eqb-true}
use Rattle.std.proofs.lemmas.Bool.Decides.{nat_tests}
use Rattle.std.proofs.lemmas.Option.{same_Some, none-some}
use Rattle.qs_terms.specs.Bag.{Distinct}
use Rattle.qs_terms.specs.Term.{same_term}
use Rattle.qs_terms.specs.Statement.{Statement}
use Rattle.qs_terms.specs.declared.term.Term.{Term}
use Rattle.qs_dict.specs.inner.Dict.{term_at}
use Rattle.qs_dict.proofs.Numbers.{exact_number}
use Rattle.qs_index.specs.inner.Agreeing.{fits}
use Rattle.qs_index.specs.inner.Graph.{is_named}
use Rattle.qs_index.specs.inner.Permutation.{order_used}
use Rattle.qs_index.specs.declared.permutation.Permutation.{Permutation}
use Rattle.qs_store.specs.inner.Entries.{said, statement_of, term_or, AreEntries, IsEntryOf, IsPlaced}
use Rattle.qs_store.specs.inner.Scans.{graphs_of, IsRead, triple_of, HasTriple, AreTriplesIn, AreTriplesOf, AreTriplesOfAnyhow}
use Rattle.qs_store.specs.inner.Triples.{IsGraphNumber, IsActive, IsMatch, IsTriple, AreTriples, AreTriplesBy, AreTriplesAnyhow}
use Rattle.qs_store.specs.declared.active.Active.{Active}
use Rattle.qs_store.specs.declared.active.Active.TheVariants.{Default, Graph, Empty}
use Rattle.qs_store.specs.declared.default_graph.DefaultGraph.{DefaultGraph}
use Rattle.qs_store.specs.declared.default_graph.DefaultGraph.TheVariants.{Stored, Union}
use Rattle.qs_store.specs.declared.graphs.Graphs.{Graphs}
use Rattle.qs_store.proofs.Entries.{in_use, member_of_said, said_has, said_front, Distinct-front}
use Rattle.qs_store.proofs.Scanned.{Places, places_in, places_anywhere}
use Rattle.qs_store.proofs.Stored.{content}

-- a graph with a number is read as its name
number_is : (terms : List Term) (n : ℕ) → n ≤ length terms → IsGraphNumber terms n (term_at terms n)
number_is terms zero h = refl
number_is terms (suc i) h =
    let e = in_use terms (suc i) (omega arith, h) in
    subst (IsGraphNumber terms (suc i)) (sym e) e

is_a_name : (terms : List Term) (n : ℕ) → n ≤ length terms → (n == 0) ≡ false → term_at terms n ≢ None
is_a_name terms zero h e k = false≢true (sym e)
is_a_name terms (suc i) h e k = none-some (term_or terms (suc i)) (sym k ∙ in_use terms (suc i) (omega arith, h))

-- two numbers of one term are the same
pub same_number : (terms : List Term) → Distinct same_term terms → (n m : ℕ) (t : Term) → term_at terms n ≡ Some t → term_at terms m ≡ Some t → n ≡ m
same_number terms u n m t h k = same_Some n m (sym ((exact_number terms t u n).1 h) ∙ (exact_number terms t u m).1 k)

no_name : (terms : List Term) (n : ℕ) → n ≤ length terms → term_at terms n ≡ None → n ≡ 0
no_name terms zero h e = refl
no_name terms (suc i) h e = absurd (none-some (term_or terms (suc i)) (sym e ∙ in_use terms (suc i) (omega arith, h)))

number_of_name : (terms : List Term) → Distinct same_term terms → (n m : ℕ) (g : Option Term) → n ≤ length terms → term_at terms n ≡ g → IsGraphNumber terms m g → n ≡ m
number_of_name terms u n m None l h k = no_name terms n l h ∙ sym k
number_of_name terms u n m (Some t) l h k = same_number terms u n m t h k

-- the places of an entry that is read, whose graph is one of those that are read
pub record ReadPlaces (terms : List Term) (default_graph : DefaultGraph) (active : Active) (s p o : Option ℕ) (x : List ℕ) : Type 0 where
  pub places : Places s p o x
  pub placed : IsPlaced terms places.graph places.at_s places.at_p places.at_o
  pub graph_read : IsActive terms default_graph active (term_at terms places.graph)

not_true : (b : Bool) → not b ≡ true → b ≡ false
not_true true h = absurd (false≢true h)
not_true false h = refl

read_places : (terms : List Term) (default_graph : DefaultGraph) (active : Active) (s p o : Option ℕ) (x : List ℕ) → IsEntryOf terms x → IsRead (graphs_of default_graph active) s p o x → ReadPlaces terms default_graph active s p o x
read_places terms default_graph Empty s p o x e r = absurd r
read_places terms default_graph (Graph n) s p o x e r =
    let m = places_in n s p o x r in
    let placed : IsPlaced terms m.places.graph m.places.at_s m.places.at_p m.places.at_o = subst (IsEntryOf terms) m.places.is e in
    record {
      places = m.places;
      placed = placed;
      graph_read = subst (λ k. IsGraphNumber terms k (term_at terms m.places.graph)) m.same (number_is terms m.places.graph placed.graph);
    }
read_places terms Stored Default s p o x e r =
    let m = places_in 0 s p o x r in
    let placed : IsPlaced terms m.places.graph m.places.at_s m.places.at_p m.places.at_o = subst (IsEntryOf terms) m.places.is e in
    record { places = m.places; placed = placed; graph_read = ap (term_at terms) m.same }
read_places terms Union Default s p o x e r =
    let m = places_anywhere s p o x r.1 in
    let placed : IsPlaced terms m.graph m.at_s m.at_p m.at_o = subst (IsEntryOf terms) m.is e in
    record { places = m; placed = placed; graph_read = is_a_name terms m.graph placed.graph (not_true (m.graph == 0) (ap is_named (sym m.is) ∙ r.0)) }

triple_is_read : (terms : List Term) (entries : List (List ℕ)) (next : ℕ) (default_graph : DefaultGraph) (active : Active) (s p o : Option ℕ) (t : List ℕ) → AreEntries terms entries → HasTriple (graphs_of default_graph active) s p o entries t → IsTriple (content (said terms entries) next terms) default_graph active s p o t
triple_is_read terms entries next default_graph active s p o t all h =
    let m = read_places terms default_graph active s p o h.entry (all h.entry h.stands) h.read in
    let x = m.places in
    let found : IsMatch (content (said terms entries) next terms) default_graph active s p o x.at_s x.at_p x.at_o = record {
      quad = statement_of terms (x.graph ∷ x.at_s ∷ x.at_p ∷ x.at_o ∷ []);
      stands = subst (λ y. Contains (said terms entries) (statement_of terms y)) x.is (said_has terms h.entry entries h.stands);
      read = m.graph_read;
      subject_is = in_use terms x.at_s m.placed.subject;
      predicate_is = in_use terms x.at_p m.placed.predicate;
      object_is = in_use terms x.at_o m.placed.object;
      subject_given = x.subject;
      predicate_given = x.predicate;
      object_given = x.object;
    } in
    subst (IsTriple (content (said terms entries) next terms) default_graph active s p o) (sym (ap triple_of x.is) ∙ h.is) found

all_true : (a b c d : Bool) → a ≡ true → b ≡ true → c ≡ true → d ≡ true → (((a && b) && c) && d) ≡ true
all_true a b c d h i j k = rw (h, i, j, k) refl

equal_numbers : (n m : ℕ) → n ≡ m → (n == m) ≡ true
equal_numbers n m h = grind (arith, nat_tests)

pub not_zero : (n : ℕ) → (n ≡ 0 → ⊥) → not (n == 0) ≡ true
not_zero n h = at_test (n == 0) refl
  where
    at_test : (b : Bool) → (n == 0) ≡ b → not b ≡ true
    at_test true e = absurd (h (eqb-true n 0 e))
    at_test false e = refl

-- an entry that says a quad of the graph is read
read_is : (terms : List Term) (default_graph : DefaultGraph) (active : Active) (s p o : Option ℕ) (g a b c : ℕ) (graph : Option Term) → Distinct same_term terms → g ≤ length terms → term_at terms g ≡ graph → IsActive terms default_graph active graph → fits s a ≡ true → fits p b ≡ true → fits o c ≡ true → IsRead (graphs_of default_graph active) s p o (g ∷ a ∷ b ∷ c ∷ [])
read_is terms default_graph Empty s p o g a b c graph u l h r x y z = r
read_is terms default_graph (Graph n) s p o g a b c graph u l h r x y z =
    all_true (g == n) (fits s a) (fits p b) (fits o c) (equal_numbers g n (number_of_name terms u g n graph l h r)) x y z
read_is terms Stored Default s p o g a b c graph u l h r x y z =
    all_true (g == 0) (fits s a) (fits p b) (fits o c) (equal_numbers g 0 (no_name terms g l (h ∙ r))) x y z
read_is terms Union Default s p o g a b c graph u l h r x y z =
    (not_zero g (λ e. r (sym h ∙ ap (term_at terms) e)), rw (x, y, z) refl)

-- an entry that is read, and its triple
record Found (default_graph : DefaultGraph) (active : Active) (s p o : Option ℕ) (x t : List ℕ) : Type 0 where
  read : IsRead (graphs_of default_graph active) s p o x
  is : triple_of x ≡ t

found : (terms : List Term) (quads : List Statement) (next : ℕ) (default_graph : DefaultGraph) (active : Active) (s p o : Option ℕ) (a b c : ℕ) (x : List ℕ) → Distinct same_term terms → IsEntryOf terms x → (m : IsMatch (content quads next terms) default_graph active s p o a b c) → statement_of terms x ≡ m.quad → Found default_graph active s p o x (a ∷ b ∷ c ∷ [])
found terms quads next default_graph active s p o a b c [] u e m q = absurd e
found terms quads next default_graph active s p o a b c (g ∷ []) u e m q = absurd e
found terms quads next default_graph active s p o a b c (g ∷ i ∷ []) u e m q = absurd e
found terms quads next default_graph active s p o a b c (g ∷ i ∷ j ∷ []) u e m q = absurd e
found terms quads next default_graph active s p o a b c (g ∷ i ∷ j ∷ k ∷ l ∷ rest) u e m q = absurd e
found terms quads next default_graph active s p o a b c (g ∷ i ∷ j ∷ k ∷ []) u e m q =
    let x = same_number terms u i a m.quad.subject (in_use terms i e.subject ∙ ap (λ v. Some v.subject) q) m.subject_is in
    let y = same_number terms u j b m.quad.predicate (in_use terms j e.predicate ∙ ap (λ v. Some v.predicate) q) m.predicate_is in
    let z = same_number terms u k c m.quad.object (in_use terms k e.object ∙ ap (λ v. Some v.object) q) m.object_is in
    record {
      read = read_is terms default_graph active s p o g i j k m.quad.graph u e.graph (ap (λ v. v.graph) q) m.read (ap (fits s) x ∙ m.subject_given) (ap (fits p) y ∙ m.predicate_given) (ap (fits o) z ∙ m.object_given);
      is = ap (λ v. v ∷ j ∷ k ∷ []) x ∙ ap (λ v. a ∷ v ∷ k ∷ []) y ∙ ap (λ v. a ∷ b ∷ v ∷ []) z;
    }

triple_found : (order : Permutation) (terms : List Term) (entries triples : List (List ℕ)) (next : ℕ) (default_graph : DefaultGraph) (active : Active) (s p o : Option ℕ) (t : List ℕ) → Distinct same_term terms → AreEntries terms entries → AreTriplesIn order (graphs_of default_graph active) s p o entries triples → IsTriple (content (said terms entries) next terms) default_graph active s p o t → Contains triples t
triple_found order terms entries triples next default_graph active s p o [] u all w m = absurd m
triple_found order terms entries triples next default_graph active s p o (a ∷ []) u all w m = absurd m
triple_found order terms entries triples next default_graph active s p o (a ∷ b ∷ []) u all w m = absurd m
triple_found order terms entries triples next default_graph active s p o (a ∷ b ∷ c ∷ d ∷ rest) u all w m = absurd m
triple_found order terms entries triples next default_graph active s p o (a ∷ b ∷ c ∷ []) u all w m =
    let f = member_of_said terms m.quad entries m.stands in
    let r = found terms (said terms entries) next default_graph active s p o a b c f.entry u (all f.entry f.stands) m f.says in
    subst (Contains triples) r.is (w.has f.entry f.stands r.read)

pub triples_said : (order : Permutation) (terms : List Term) (entries triples : List (List ℕ)) (next : ℕ) (default_graph : DefaultGraph) (active : Active) (s p o : Option ℕ) → Distinct same_term terms → AreEntries terms entries → AreTriplesIn order (graphs_of default_graph active) s p o entries triples → AreTriplesBy order (content (said terms entries) next terms) default_graph active s p o triples
triples_said order terms entries triples next default_graph active s p o u all w = record {
  ascending = w.ascending;
  has = λ t m. triple_found order terms entries triples next default_graph active s p o t u all w m;
  only = λ t c. triple_is_read terms entries next default_graph active s p o t all (w.only t c);
}

-- the triples of a draft, and of a store, which knows the first of the terms
draft_triples_by : (order : Permutation) (terms : List Term) (entries triples : List (List ℕ)) (next : ℕ) (default_graph : DefaultGraph) (graphs : Graphs) (active : Active) (s p o : Option ℕ) → Distinct same_term terms → AreEntries terms entries → graphs ≡ graphs_of default_graph active → AreTriplesIn order graphs s p o entries triples → AreTriplesBy order (content (said terms entries) next terms) default_graph active s p o triples
draft_triples_by order terms entries triples next default_graph graphs active s p o u all g w =
    triples_said order terms entries triples next default_graph active s p o u all (subst (λ k. AreTriplesIn order k s p o entries triples) g w)

store_triples_by : (order : Permutation) (terms : List Term) (entries triples : List (List ℕ)) (known next : ℕ) (default_graph : DefaultGraph) (graphs : Graphs) (active : Active) (s p o : Option ℕ) → Distinct same_term terms → known ≤ length terms → AreEntries (take known terms) entries → graphs ≡ graphs_of default_graph active → AreTriplesIn order graphs s p o entries triples → AreTriplesBy order (content (said terms entries) next (take known terms)) default_graph active s p o triples
store_triples_by order terms entries triples known next default_graph graphs active s p o u l all g w =
    subst (λ quads. AreTriplesBy order (content quads next (take known terms)) default_graph active s p o triples) (said_front terms known entries l all)
    (draft_triples_by order (take known terms) entries triples next default_graph graphs active s p o (Distinct-front known terms u) all g w)

pub draft_triples : (terms : List Term) (entries triples : List (List ℕ)) (next : ℕ) (default_graph : DefaultGraph) (graphs : Graphs) (active : Active) (s p o : Option ℕ) → Distinct same_term terms → AreEntries terms entries → graphs ≡ graphs_of default_graph active → AreTriplesOf graphs s p o entries triples → AreTriples (content (said terms entries) next terms) default_graph active s p o triples
draft_triples terms entries triples next default_graph graphs active s p o u all g w =
    draft_triples_by (order_used s p o) terms entries triples next default_graph graphs active s p o u all g w

pub store_triples : (terms : List Term) (entries triples : List (List ℕ)) (known next : ℕ) (default_graph : DefaultGraph) (graphs : Graphs) (active : Active) (s p o : Option ℕ) → Distinct same_term terms → known ≤ length terms → AreEntries (take known terms) entries → graphs ≡ graphs_of default_graph active → AreTriplesOf graphs s p o entries triples → AreTriples (content (said terms entries) next (take known terms)) default_graph active s p o triples
store_triples terms entries triples known next default_graph graphs active s p o u l all g w =
    store_triples_by (order_used s p o) terms entries triples known next default_graph graphs active s p o u l all g w

pub store_triples_anyhow : (terms : List Term) (entries triples : List (List ℕ)) (known next : ℕ) (default_graph : DefaultGraph) (graphs : Graphs) (active : Active) (s p o : Option ℕ) → Distinct same_term terms → known ≤ length terms → AreEntries (take known terms) entries → graphs ≡ graphs_of default_graph active → AreTriplesOfAnyhow graphs s p o entries triples → AreTriplesAnyhow (content (said terms entries) next (take known terms)) default_graph active s p o triples
store_triples_anyhow terms entries triples known next default_graph graphs active s p o u l all g w = record {
  order = w.order;
  in_order = store_triples_by w.order terms entries triples known next default_graph graphs active s p o u l all g w.in_order;
}

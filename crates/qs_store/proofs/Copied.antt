-- Entries of whole graphs, and the quads that they say.
use Rattle.std.proofs.Common.{◌≡◌, ◌↔◌, ℕ, ◌+◌, ◌<◌, ◌≤◌, Bool, true, false, ◌&&◌, ◌||◌, List, [], ◌∷◌, ◌++◌, length, map, take, get_or, Option, Some, None, Result, Ok, Err, IfOk, OnOk, IfNone, IsTrue, refl, ap, sym, ◌∙◌, subst, arith, inl, inr, ⊎_elim}
use Rattle.std.specs.List.{Contains, filter, list_any}
use Rattle.std.specs.Option.{is_some}
use Rattle.std.proofs.Math.Seq.{take-length}
use Rattle.std.proofs.lemmas.Bool.{false≢true}
use Rattle.std.proofs.lemmas.List.{map-append, take_more}
use Rattle.std.proofs.lemmas.List.Elements.{Contains-append_left, Contains-append_right, Contains-append_cases}
use Rattle.std.specs.List.Sorted.{IsPermutation}
use Rattle.std.proofs.lemmas.List.Sorted.{Contains-permutation, IsPermutation-sym}
use Rattle.std.proofs.lemmas.Option.{same_Some, none-some}
use Rattle.qs_terms.specs.Bag.{Distinct}
use Rattle.qs_terms.specs.Term.{same_term}
use Rattle.qs_terms.specs.Statement.{Statement}
use Rattle.qs_terms.specs.inner.Dataset.{is_graph}
use Rattle.qs_terms.specs.declared.term.Term.{Term}
use Rattle.qs_terms.proofs.SameStatement.{same_graph-Decides}
use Rattle.qs_dict.specs.inner.Dict.{term_at}
use Rattle.qs_index.specs.inner.Agreeing.{agrees}
use Rattle.qs_index.specs.inner.Entries.{HaveFour}
use Rattle.qs_index.specs.inner.Graph.{graph_of}
use Rattle.qs_store.specs.Change.{IsChanged}
use Rattle.qs_store.specs.inner.Copied.{AreCopies, AreInGraphs, AreNamed, AreEntriesOf, IsWithoutGraph}
use Rattle.qs_store.specs.inner.Entries.{said, statement_of, graph_number, AreEntries, IsEntryOf}
use Rattle.qs_store.specs.inner.Holding.{HasGraph, AreGraphsOf}
use Rattle.qs_store.specs.Same.{SameSet}
use Rattle.qs_store.specs.inner.Scans.{triple_of, AreTriplesOf}
use Rattle.qs_store.specs.inner.Store.{IsFront}
use Rattle.qs_store.specs.WholeGraphs.{is_in, is_named, in_graph, exists, put_into, copies, removed_by}
use Rattle.qs_store.specs.declared.removal.Removal.{Removal}
use Rattle.qs_store.specs.declared.graphs.Graphs.TheVariants.{One}
use Rattle.qs_store.proofs.Entries.{graph_at, graph_back, graph_in_use, number_in_use, entry_found, member_of_said, said_has, said_exactly, still_said, still_entries}
use Rattle.qs_store.proofs.GraphsSaid.{graph_number_is}
use Rattle.qs_store.proofs.Holding.{agrees_with_graph}
use Rattle.qs_store.proofs.Members.{Entries, nothing, here, there, head_or_tail, member_of_filter, filter_has}
use Rattle.qs_store.proofs.Scanned.{places_in}
use Rattle.qs_store.proofs.Stored.{both, and_both}
use Rattle.qs_store.proofs.Terms.{front_length, front_keeps, graph_later}

-- ---- lists

pub map_has : {X Y : Type 0} (f : X → Y) (x : X) (xs : List X) → Contains xs x → Contains (map f xs) (f x)
map_has f x [] c = absurd (nothing x c)
map_has f x (y ∷ ys) c =
    ⊎_elim (λ h. subst (λ z. Contains (map f (y ∷ ys)) (f z)) h (here (f y) (map f ys))) (λ t. there (f y) (f x) (map f ys) (map_has f x ys t)) (head_or_tail y ys x c)

-- what an element of a list was made of
pub record MadeOf {X Y : Type 0} (f : X → Y) (xs : List X) (y : Y) : Type 0 where
  pub one : X
  pub stands : Contains xs one
  pub is : f one ≡ y

pub map_only : {X Y : Type 0} (f : X → Y) (y : Y) (xs : List X) → Contains (map f xs) y → MadeOf f xs y
map_only f y [] c = absurd (nothing y c)
map_only f y (x ∷ xs) c =
    ⊎_elim (λ h. record { one = x; stands = here x xs; is = h }) (λ t. let m = map_only f y xs t in record { one = m.one; stands = there x m.one xs m.stands; is = m.is }) (head_or_tail (f x) (map f xs) y c)

pub none_in : {X : Type 0} (xs : List X) → ((x : X) → Contains xs x → ⊥) → xs ≡ []
none_in [] h = refl
none_in (x ∷ xs) h = absurd (h x (here x xs))

pub any_has : {X : Type 0} (p : X → Bool) (x : X) (xs : List X) → Contains xs x → p x ≡ true → list_any p xs ≡ true
any_has p x [] c h = absurd (nothing x c)
any_has p x (y ∷ ys) c h = ⊎_elim (λ s. first (p y) (list_any p ys) (ap p s ∙ h)) (λ t. rest (p y) (list_any p ys) (any_has p x ys t h)) (head_or_tail y ys x c)
  where
    first : (a b : Bool) → a ≡ true → (a || b) ≡ true
    first a b e = rw e refl

    rest : (a b : Bool) → b ≡ true → (a || b) ≡ true
    rest true b e = refl
    rest false b e = e

any_none : {X : Type 0} (p : X → Bool) (xs : List X) → filter p xs ≡ [] → list_any p xs ≡ false
any_none p [] h = refl
any_none p (x ∷ xs) h = at_test (p x) refl (any_none p xs (none_in (filter p xs) (λ y c. let f = member_of_filter p y xs c in nothing y (subst (λ l. Contains l y) h (filter_has p y (x ∷ xs) (there x y xs f.0) f.1)))))
  where
    at_test : (b : Bool) → p x ≡ b → list_any p xs ≡ false → (b || list_any p xs) ≡ false
    at_test true e i = absurd (nothing x (subst (λ l. Contains l x) h (filter_has p x (x ∷ xs) (here x xs) e)))
    at_test false e i = i

-- what follows of what a call found
pub found_so : {X E : Type 0} (P Q : X → Type 0) (result : Result X E) → ((x : X) → P x → Q x) → IfOk result P → IfOk result Q
found_so P Q (Ok x) f h = f x h
found_so P Q (Err e) f h = tt

-- a loop that resulted in its end has taken all
pub all_taken : {X : Type 0} (i : ℕ) (xs : List X) → i ≤ length xs → length xs ≤ i → take i xs ≡ xs
all_taken i xs l n = let e : i ≡ length xs = omega arith in ap (λ k. take k xs) e ∙ take-length xs

-- what is so however a call ended
pub none_so : {X : Type 0} (P : Type 0) (result : Option X) → P → IfNone result P
none_so P None h = h
none_so P (Some x) h = tt

pub done_so : {X E : Type 0} (P Q : Type 0) (result : Result X E) → (P → Q) → OnOk result P → OnOk result Q
done_so P Q (Ok x) f h = f h
done_so P Q (Err e) f h = tt

-- ---- entries

-- an entry as its graph and its triple
whole : (x : List ℕ) → length x ≡ 4 → graph_of x ∷ triple_of x ≡ x
whole [] h = absurd (omega arith)
whole (g ∷ xs) h = refl

pub graph_read : (g : ℕ) (x : List ℕ) → agrees g None None None x ≡ true → graph_of x ≡ g
graph_read g x h = let p = places_in g None None None x h in ap graph_of {y = p.places.graph ∷ p.places.at_s ∷ p.places.at_p ∷ p.places.at_o ∷ []} p.places.is ∙ p.same

-- the triples of a graph, put into another
pub copies_of_triples : (entries triples found : Entries) (from to : ℕ) → HaveFour entries → AreTriplesOf (One from) None None None entries triples → found ≡ map (λ t. to ∷ t) triples → AreCopies entries from to found
copies_of_triples entries triples found from to four w e = record {
  has = λ x c g. subst (λ l. Contains l (to ∷ triple_of x)) (sym e) (map_has (λ t. to ∷ t) (triple_of x) triples (w.has x c (agrees_with_graph from x (four x c) g)));
  only = λ y c.
      let m = map_only (λ t. to ∷ t) y triples (subst (λ l. Contains l y) e c) in
      let t = w.only m.one m.stands in
      record { entry = t.entry; stands = t.stands; graph = graph_read from t.entry t.read; is = sym m.is ∙ ap (λ r. to ∷ r) (sym t.is) };
}

-- the entries of a graph are its own copies
pub own_copies : (entries found : Entries) (g : ℕ) → HaveFour entries → AreCopies entries g g found → (x : List ℕ) → Contains found x ↔ (Contains entries x × (graph_of x ≡ g))
own_copies entries found g four w x = (
  λ c. let m = w.only x c in
      let same : m.entry ≡ x = sym (whole m.entry (four m.entry m.stands)) ∙ ap (λ n. n ∷ triple_of m.entry) m.graph ∙ sym m.is in
      (subst (Contains entries) same m.stands, ap graph_of (sym same) ∙ m.graph),
  λ c. subst (Contains found) (ap (λ n. n ∷ triple_of x) (sym c.1) ∙ whole x (four x c.0)) (w.has x c.0 c.1),
)

-- the entries of the first graphs, and of one more
pub none_of_graphs : (entries : Entries) → AreInGraphs entries [] []
none_of_graphs entries = record { has = λ x c g. absurd (nothing (graph_of x) g); only = λ x c. absurd (nothing x c) }

pub one_graph_more : (entries found more : Entries) (graphs : List ℕ) (i g : ℕ) → HaveFour entries → i < length graphs → g ≡ get_or graphs i 0 → AreInGraphs entries (take i graphs) found → AreCopies entries g g more → AreInGraphs entries (take (i + 1) graphs) (found ++ more)
one_graph_more entries found more graphs i g four l is w m =
    let longer : take (i + 1) graphs ≡ take i graphs ++ g ∷ [] = take_more graphs i 0 l ∙ ap (λ n. take i graphs ++ n ∷ []) (sym is) in
    subst (λ gs. AreInGraphs entries gs (found ++ more)) (sym longer) record {
      has = λ x c h.
          ⊎_elim (λ a. Contains-append_left found more x (w.has x c a))
          (λ b. ⊎_elim (λ e. Contains-append_right found more x ((own_copies entries more g four m x).1 (c, sym e))) (λ n. absurd (nothing (graph_of x) n)) (head_or_tail g [] (graph_of x) b))
          (Contains-append_cases (take i graphs) (g ∷ []) (graph_of x) h);
      only = λ x c.
          ⊎_elim (λ a. let o = w.only x a in (o.0, Contains-append_left (take i graphs) (g ∷ []) (graph_of x) o.1))
          (λ b. let o = (own_copies entries more g four m x).0 b in (o.0, Contains-append_right (take i graphs) (g ∷ []) (graph_of x) (subst (λ n. Contains (g ∷ []) n) (sym o.1) (here g []))))
          (Contains-append_cases found more x c);
    }

pub all_named : (entries found : Entries) (graphs all : List ℕ) → AreGraphsOf entries graphs → all ≡ graphs → AreInGraphs entries all found → AreNamed entries found
all_named entries found graphs all a e w x = (
  λ c. let o = w.only x c in (o.0, a.named (graph_of x) (subst (λ gs. Contains gs (graph_of x)) e o.1)),
  λ c. w.has x c.0 (subst (λ gs. Contains gs (graph_of x)) (sym e) (a.has x c.0 c.1)),
)

-- ---- a change of entries is one of the quads that they say

module _ (terms : List Term) (u : Distinct same_term terms) where
  stands_said : (entries : Entries) (x : List ℕ) → AreEntries terms entries → IsEntryOf terms x → Contains (said terms entries) (statement_of terms x) → Contains entries x
  stands_said entries x all h m = (said_exactly terms entries (statement_of terms x) x u all (entry_found terms x u h)).1 m

  pub changed_said : (old outs ins new : Entries) → AreEntries terms old → AreEntries terms outs → IsChanged old outs ins new → IsChanged (said terms old) (said terms outs) (said terms ins) (said terms new)
  changed_said old outs ins new a b w q = (
    λ c. let m = member_of_said terms q new c in
        ⊎_elim
        (λ o. inl (
          subst (Contains (said terms old)) m.says (said_has terms m.entry old o.0),
          λ r. o.1 (stands_said outs m.entry b (a m.entry o.0) (subst (Contains (said terms outs)) (sym m.says) r)),
        ))
        (λ i. inr (subst (Contains (said terms ins)) m.says (said_has terms m.entry ins i)))
        ((w m.entry).0 m.stands),
    λ c. ⊎_elim
        (λ o. let m = member_of_said terms q old o.0 in
        subst (Contains (said terms new)) m.says (said_has terms m.entry new ((w m.entry).1 (inl (m.stands, λ r. o.1 (subst (Contains (said terms outs)) m.says (said_has terms m.entry outs r)))))))
        (λ i. let m = member_of_said terms q ins i in subst (Contains (said terms new)) m.says (said_has terms m.entry new ((w m.entry).1 (inr m.stands))))
        c,
  )

pub entries_changed : (terms : List Term) (old outs ins new : Entries) → AreEntries terms old → AreEntries terms ins → IsChanged old outs ins new → AreEntries terms new
entries_changed terms old outs ins new a b w x c = ⊎_elim (λ o. a x o.0) (λ i. b x i) ((w x).0 c)

pub entries_left : (terms : List Term) (g : ℕ) (old new : Entries) → AreEntries terms old → IsWithoutGraph g old new → AreEntries terms new
entries_left terms g old new a w x c = a x ((w x).0 c).0

-- no quads of a graph are taken out where there are none
pub none_cleared : (quads : List Statement) (name : Option Term) → in_graph name quads ≡ [] → IsChanged quads (in_graph name quads) [] quads
none_cleared quads name e q = (
  λ c. inl (c, λ r. nothing q (subst (λ l. Contains l q) e r)),
  λ c. ⊎_elim (λ o. o.0) (λ i. absurd (nothing q i)) c,
)

-- the same sets are removed and added
pub changed_by : {X : Type 0} (old outs ins new removed added : List X) → SameSet outs removed → SameSet ins added → IsChanged old outs ins new → IsChanged old removed added new
changed_by old outs ins new removed added r a w q = (
  λ c. ⊎_elim (λ o. inl (o.0, λ m. o.1 ((r q).1 m))) (λ i. inr ((a q).0 i)) ((w q).0 c),
  λ c. (w q).1 (⊎_elim (λ o. inl (o.0, λ m. o.1 ((r q).0 m))) (λ i. inr ((a q).1 i)) c),
)

-- the same entries in another order
pub changed_permuted : (old outs ins sorted_outs sorted_ins new : Entries) → IsPermutation outs sorted_outs → IsPermutation ins sorted_ins → IsChanged old sorted_outs sorted_ins new → IsChanged old outs ins new
changed_permuted old outs ins sorted_outs sorted_ins new p q w =
    changed_by old sorted_outs sorted_ins new outs ins (same outs sorted_outs p) (same ins sorted_ins q) w
  where
    same : (xs ys : Entries) → IsPermutation xs ys → SameSet ys xs
    same xs ys r x = (λ c. Contains-permutation ys xs x (IsPermutation-sym xs ys r) c, λ c. Contains-permutation xs ys x r c)

-- ---- the quads of graphs

graph_found : (terms : List Term) → Distinct same_term terms → (x : List ℕ) → IsEntryOf terms x → graph_number terms (statement_of terms x).graph ≡ Some (graph_of x)
graph_found terms u [] h = absurd h
graph_found terms u (g ∷ []) h = absurd h
graph_found terms u (g ∷ s ∷ []) h = absurd h
graph_found terms u (g ∷ s ∷ p ∷ []) h = absurd h
graph_found terms u (g ∷ s ∷ p ∷ o ∷ x ∷ rest) h = absurd h
graph_found terms u (g ∷ s ∷ p ∷ o ∷ []) h = graph_back terms u g h.graph

behind : (a b : Bool) → (a && b) ≡ true → b ≡ true
behind a b h = (both a b h).1

-- an entry put into another graph says its quad put into that
record Moved (terms : List Term) (x y : List ℕ) (name : Option Term) : Type 0 where
  entry : IsEntryOf terms y
  says : statement_of terms y ≡ put_into name (statement_of terms x)

moved : (terms : List Term) (x : List ℕ) (t : ℕ) (name : Option Term) → IsEntryOf terms x → t ≤ length terms → term_at terms t ≡ name → IsTrue (is_graph name) → Moved terms x (t ∷ triple_of x) name
moved terms [] t name h l e n = absurd h
moved terms (g ∷ []) t name h l e n = absurd h
moved terms (g ∷ s ∷ []) t name h l e n = absurd h
moved terms (g ∷ s ∷ p ∷ []) t name h l e n = absurd h
moved terms (g ∷ s ∷ p ∷ o ∷ x ∷ rest) t name h l e n = absurd h
moved terms (g ∷ s ∷ p ∷ o ∷ []) t name h l e n = record {
  entry = record {
    graph = l;
    subject = h.subject;
    predicate = h.predicate;
    object = h.object;
    fits = and_both (is_graph (term_at terms t)) _ (ap is_graph e ∙ n) (behind (is_graph (term_at terms g)) _ h.fits);
  };
  says = ap (λ a. put_into a (statement_of terms (g ∷ s ∷ p ∷ o ∷ []))) e;
}

module _ (terms : List Term) (u : Distinct same_term terms) (entries : Entries) (all : AreEntries terms entries) where
  -- the graph of what an entry says
  module _ (name : Option Term) (g : ℕ) (n : graph_number terms name ≡ Some g) where
    said_in : (x : List ℕ) → IsEntryOf terms x → graph_of x ≡ g → is_in name (statement_of terms x) ≡ true
    said_in x h e = (same_graph-Decides (statement_of terms x).graph name).1 (graph_number_is terms x h ∙ ap (term_at terms) e ∙ graph_at terms u name g n)

    in_said : (x : List ℕ) → IsEntryOf terms x → is_in name (statement_of terms x) ≡ true → graph_of x ≡ g
    in_said x h t = same_Some (graph_of x) g (sym (graph_found terms u x h) ∙ ap (graph_number terms) ((same_graph-Decides (statement_of terms x).graph name).0 t) ∙ n)

    -- the entries of a graph say its quads
    pub in_graph_said : (found : Entries) → HaveFour entries → AreCopies entries g g found → AreEntriesOf terms (in_graph name (said terms entries)) found
    in_graph_said found four w = record {
      entries = λ x c. all x ((own_copies entries found g four w x).0 c).0;
      says = λ q. (
        λ c. let m = member_of_said terms q found c in
            let o = (own_copies entries found g four w m.entry).0 m.stands in
            filter_has (is_in name) q (said terms entries) (subst (Contains (said terms entries)) m.says (said_has terms m.entry entries o.0)) (ap (is_in name) (sym m.says) ∙ said_in m.entry (all m.entry o.0) o.1),
        λ c. let f = member_of_filter (is_in name) q (said terms entries) c in
            let m = member_of_said terms q entries f.0 in
            subst (Contains (said terms found)) m.says (said_has terms m.entry found ((own_copies entries found g four w m.entry).1 (m.stands, in_said m.entry (all m.entry m.stands) (ap (is_in name) m.says ∙ f.1)))),
      );
    }

    -- a draft that has lost the entries of a graph has lost its quads
    pub cleared_said : (new : Entries) → IsWithoutGraph g entries new → IsChanged (said terms entries) (in_graph name (said terms entries)) [] (said terms new)
    cleared_said new w q = (
      λ c. let m = member_of_said terms q new c in
          let o = (w m.entry).0 m.stands in
          inl (
            subst (Contains (said terms entries)) m.says (said_has terms m.entry entries o.0),
            λ r. o.1 (in_said m.entry (all m.entry o.0) (ap (is_in name) m.says ∙ (member_of_filter (is_in name) q (said terms entries) r).1)),
          ),
      λ c. ⊎_elim
          (λ o. let m = member_of_said terms q entries o.0 in
          subst (Contains (said terms new)) m.says
          (said_has terms m.entry new ((w m.entry).1 (m.stands, λ e. o.1 (filter_has (is_in name) q (said terms entries) o.0 (ap (is_in name) (sym m.says) ∙ said_in m.entry (all m.entry m.stands) e))))))
          (λ i. absurd (nothing q i))
          c,
    )

    -- a graph with an entry has a quad
    pub held_said : HasGraph entries g → exists name (said terms entries) ≡ true
    held_said h = there_is name (any_has (is_in name) (statement_of terms h.entry) (said terms entries) (said_has terms h.entry entries h.stands) (said_in h.entry (all h.entry h.stands) h.is))
      where
        there_is : (a : Option Term) → list_any (is_in a) (said terms entries) ≡ true → exists a (said terms entries) ≡ true
        there_is None k = refl
        there_is (Some t) k = k

    -- the quad of such an entry
    pub held_quad : (h : HasGraph entries g) → Contains (in_graph name (said terms entries)) (statement_of terms h.entry)
    held_quad h = filter_has (is_in name) (statement_of terms h.entry) (said terms entries) (said_has terms h.entry entries h.stands) (said_in h.entry (all h.entry h.stands) h.is)

    pub not_held : (HasGraph entries g → ⊥) → in_graph name (said terms entries) ≡ []
    not_held h = none_in (in_graph name (said terms entries)) (λ q c.
        let f = member_of_filter (is_in name) q (said terms entries) c in
        let m = member_of_said terms q entries f.0 in
        h record { entry = m.entry; stands = m.stands; is = in_said m.entry (all m.entry m.stands) (ap (is_in name) m.says ∙ f.1) })

    -- the copies of a graph's entries say the copies of its quads
    pub copies_said : (found : Entries) (target : Option Term) (t : ℕ) → graph_number terms target ≡ Some t → IsTrue (is_graph target) → AreCopies entries g t found → AreEntriesOf terms (copies name target (said terms entries)) found
    copies_said found target t k l w =
        let put : (x : List ℕ) → Contains entries x → Moved terms x (t ∷ triple_of x) target = λ x c. moved terms x t target (all x c) (graph_in_use terms u target t k) (graph_at terms u target t k) l in
        record {
          entries = λ y c. let m = w.only y c in subst (IsEntryOf terms) (sym m.is) (put m.entry m.stands).entry;
          says = λ q. (
            λ c. let f = member_of_said terms q found c in
                let m = w.only f.entry f.stands in
                let x = statement_of terms m.entry in
                let same : put_into target x ≡ q = sym (put m.entry m.stands).says ∙ ap (statement_of terms) (sym m.is) ∙ f.says in
                subst (Contains (copies name target (said terms entries))) same
                (map_has (put_into target) x (in_graph name (said terms entries)) (filter_has (is_in name) x (said terms entries) (said_has terms m.entry entries m.stands) (said_in m.entry (all m.entry m.stands) m.graph))),
            λ c. let f = map_only (put_into target) q (in_graph name (said terms entries)) c in
                let i = member_of_filter (is_in name) f.one (said terms entries) f.stands in
                let m = member_of_said terms f.one entries i.0 in
                let same : statement_of terms (t ∷ triple_of m.entry) ≡ q = (put m.entry m.stands).says ∙ ap (put_into target) m.says ∙ f.is in
                subst (Contains (said terms found)) same (said_has terms (t ∷ triple_of m.entry) found (w.has m.entry m.stands (in_said m.entry (all m.entry m.stands) (ap (is_in name) m.says ∙ i.1)))),
          );
        }

  -- a name without a number is no quad's
  pub unknown_said : (name : Option Term) → graph_number terms name ≡ None → in_graph name (said terms entries) ≡ []
  unknown_said name n = none_in (in_graph name (said terms entries)) (λ q c.
      let f = member_of_filter (is_in name) q (said terms entries) c in
      let m = member_of_said terms q entries f.0 in
      let same = (same_graph-Decides q.graph name).0 f.1 in
      none-some (graph_of m.entry) (sym n ∙ ap (graph_number terms) (sym same ∙ ap (λ r. r.graph) (sym m.says)) ∙ graph_found terms u m.entry (all m.entry m.stands)))

  above_zero : (name : Option Term) (n : ℕ) → graph_number terms name ≡ Some n → is_some name ≡ true → 0 < n
  above_zero None n h e = absurd (false≢true e)
  above_zero (Some t) n h e = (number_in_use terms u t n h).0

  is_a_name : (name : Option Term) (n : ℕ) → graph_number terms name ≡ Some n → 0 < n → is_some name ≡ true
  is_a_name None n h l = let z : 0 ≡ n = same_Some 0 n h in absurd (omega arith)
  is_a_name (Some t) n h l = refl

  -- the entries of named graphs say the quads of these
  pub named_said : (found : Entries) → AreNamed entries found → AreEntriesOf terms (filter is_named (said terms entries)) found
  named_said found w = record {
    entries = λ x c. all x ((w x).0 c).0;
    says = λ q. (
      λ c. let m = member_of_said terms q found c in
          let o = (w m.entry).0 m.stands in
          let name = (statement_of terms m.entry).graph in
          filter_has is_named q (said terms entries) (subst (Contains (said terms entries)) m.says (said_has terms m.entry entries o.0))
          (ap is_named (sym m.says) ∙ is_a_name name (graph_of m.entry) (graph_found terms u m.entry (all m.entry o.0)) o.1),
      λ c. let f = member_of_filter is_named q (said terms entries) c in
          let m = member_of_said terms q entries f.0 in
          let name = (statement_of terms m.entry).graph in
          subst (Contains (said terms found)) m.says (said_has terms m.entry found ((w m.entry).1 (m.stands, above_zero name (graph_of m.entry) (graph_found terms u m.entry (all m.entry m.stands)) (ap is_named m.says ∙ f.1)))),
    );
  }

-- no entries say no quads
pub none_said : (terms : List Term) (quads : List Statement) → quads ≡ [] → AreEntriesOf terms quads []
none_said terms quads e = record { entries = λ x c. absurd (nothing x c); says = λ q. (λ c. absurd (nothing q c), λ c. absurd (nothing q (subst (λ l. Contains l q) e c))) }

-- the entries of two lists say the quads of both
pub both_said : (terms : List Term) (xs ys : Entries) (a b : List Statement) → AreEntriesOf terms a xs → AreEntriesOf terms b ys → AreEntriesOf terms (a ++ b) (xs ++ ys)
both_said terms xs ys a b f g = record {
  entries = λ x c. ⊎_elim (λ l. f.entries x l) (λ r. g.entries x r) (Contains-append_cases xs ys x c);
  says = λ q. (
    λ c. ⊎_elim (λ l. Contains-append_left a b q ((f.says q).0 l)) (λ r. Contains-append_right a b q ((g.says q).0 r))
        (Contains-append_cases (said terms xs) (said terms ys) q (subst (λ l. Contains l q) (map-append (statement_of terms) xs ys) c)),
    λ c. subst (λ l. Contains l q) (sym (map-append (statement_of terms) xs ys))
        (⊎_elim (λ l. Contains-append_left (said terms xs) (said terms ys) q ((f.says q).1 l)) (λ r. Contains-append_right (said terms xs) (said terms ys) q ((g.says q).1 r)) (Contains-append_cases a b q c)),
  );
}

-- a test of the name, once its graph is found to have quads or none
pub no_graph : (name : Term) (quads : List Statement) → in_graph (Some name) quads ≡ [] → exists (Some name) quads ≡ false
no_graph name quads h = any_none (is_in (Some name)) quads h

-- ---- terms that grow

module _ (a b : List Term) (f : IsFront a b) (u : Distinct same_term b) (entries : Entries) (all : AreEntries a entries) where
  -- the same entries over more terms
  pub later_entries : AreEntries b entries
  later_entries = still_entries a b entries (front_length a b f) (front_keeps a b f) all

  same_said : said b entries ≡ said a entries
  same_said = still_said a b entries (front_length a b f) (front_keeps a b f) all

  pub copied_said : (found : Entries) (from to : Option Term) (g t : ℕ) → graph_number a from ≡ Some g → graph_number b to ≡ Some t → IsTrue (is_graph to) → AreCopies entries g t found → AreEntriesOf b (copies from to (said a entries)) found
  copied_said found from to g t n k l w =
      subst (λ s. AreEntriesOf b (copies from to s) found) same_said (copies_said b u entries later_entries from g (graph_later a b from g f u n) found to t k l w)

  pub transferred_said : (outs ins new : Entries) (removal : Removal) (from to : Option Term) (added : List Statement) → AreEntriesOf b (removed_by removal from to (said b entries)) outs → AreEntriesOf b added ins → IsChanged entries outs ins new
      → IsChanged (said a entries) (removed_by removal from to (said a entries)) added (said b new)
  transferred_said outs ins new removal from to added r i w =
      let change = changed_by (said b entries) (said b outs) (said b ins) (said b new) (removed_by removal from to (said b entries)) added r.says i.says (changed_said b u entries outs ins new later_entries r.entries w) in
      subst (λ s. IsChanged s (removed_by removal from to s) added (said b new)) same_said change

  pub transferred_entries : (outs ins new : Entries) (added : List Statement) → AreEntriesOf b added ins → IsChanged entries outs ins new → AreEntries b new
  transferred_entries outs ins new added i w = entries_changed b entries outs ins new later_entries i.entries w

-- the same list of entries
pub same_entries : (terms : List Term) (quads : List Statement) (xs ys : Entries) → xs ≡ ys → AreEntriesOf terms quads xs → AreEntriesOf terms quads ys
same_entries terms quads xs ys e h = subst (AreEntriesOf terms quads) e h

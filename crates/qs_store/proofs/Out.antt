-- Drafts that have removed all entries of some graphs of their store.
use Rattle.std.proofs.Common.{◌≡◌, ◌≢◌, ℕ, ◌+◌, ◌<◌, Bool, true, not, ◌==◌, List, [], ◌∷◌, length, Option, Result, Ok, Err, OnOk, OnErr, None, refl, ap, sym, ◌∙◌, subst, arith, ⊎_elim}
use Rattle.std.specs.Str.{bytes_eq}
use Rattle.std.specs.List.{Contains, filter, list_any}
use Rattle.std.specs.BTreeSet.{insert_key}
use Rattle.std.specs.Ordering.{nat_cmp}
use Rattle.std.proofs.lemmas.Bool.Decides.{nat_tests}
use Rattle.std.proofs.lemmas.List.Elements.{All-contains}
use Rattle.std.proofs.lemmas.List.Filters.{length-filter_both}
use Rattle.std.proofs.lemmas.Map.Views.{All-insert_key}
use Rattle.qs_index.specs.inner.Entries.{HaveFour}
use Rattle.qs_index.specs.inner.Entry.{IsAscending}
use Rattle.qs_index.specs.inner.Graph.{graph_of, is_named, named_entries}
use Rattle.qs_store.specs.inner.Emptied.{AreEmptied, AreOut, IsOf, IsRemoval}
use Rattle.qs_store.specs.inner.Holding.{AreGraphsOf, HasGraph}
use Rattle.qs_store.specs.inner.Layers.{drafted, IsDraft}
use Rattle.qs_store.specs.inner.Scans.{AreNamedQuadsOf, AreTriplesOf, IsRead, IsScanOf, without}
use Rattle.qs_store.specs.declared.graphs.Graphs.{Graphs}
use Rattle.qs_store.specs.declared.graphs.Graphs.TheVariants.{Nothing, One, Named}
use Rattle.qs_store.proofs.Copied.{none_in}
use Rattle.qs_store.proofs.Drafted.{is_added, parts}
use Rattle.qs_store.proofs.Holding.{agrees_with_graph}
use Rattle.qs_store.proofs.Members.{Entries, nothing, any_if, ascending_fits, filter_ascends, filter_has, is_in, member_of_filter, not_true, only_if}
use Rattle.qs_store.proofs.Merging.{without_has}
use Rattle.qs_store.proofs.Scanned.{places_in}

-- ---- what is read of a draft

-- an entry that is read is one of the graphs
of_read : (graphs : Graphs) (s p o : Option ℕ) (x : List ℕ) → IsRead graphs s p o x → IsOf graphs x
of_read Nothing s p o x h = h
of_read (One graph) s p o x h =
    let f = places_in graph s p o x h in
    ap graph_of {y = f.places.graph ∷ f.places.at_s ∷ f.places.at_p ∷ f.places.at_o ∷ []} f.places.is ∙ f.same
of_read Named s p o x h = h.0

-- an entry of such a graph is added
pub is_of_added : (graphs : Graphs) (i r a : Entries) (x : List ℕ) → AreOut graphs i r → IsOf graphs x → Contains (drafted i r a) x → Contains a x
is_of_added graphs i r a x out h c = ⊎_elim (λ k. absurd (k.left (out x k.stands h))) (λ m. m) (parts i r a x c)

pub triples_of_added : (graphs : Graphs) (s p o : Option ℕ) (i r a triples : Entries) → AreOut graphs i r → AreTriplesOf graphs s p o a triples → AreTriplesOf graphs s p o (drafted i r a) triples
triples_of_added graphs s p o i r a triples out w = record {
  ascending = w.ascending;
  has = λ x c h. w.has x (is_of_added graphs i r a x out (of_read graphs s p o x h) c) h;
  only = λ t c. let f = w.only t c in record { entry = f.entry; stands = is_added i r a f.entry f.stands; read = f.read; is = f.is };
}

pub quads_of_added : (s p o : Option ℕ) (i r a quads : Entries) → AreOut Named i r → AreNamedQuadsOf s p o a quads → AreNamedQuadsOf s p o (drafted i r a) quads
quads_of_added s p o i r a quads out w = record {
  ascending = w.ascending;
  has = λ x c h. w.has x (is_of_added Named i r a x out h.0 c) h;
  only = λ x c. let f = w.only x c in (is_added i r a x f.0, f.1);
}

pub holds_added : (g : ℕ) (i r a : Entries) → HasGraph a g → HasGraph (drafted i r a) g
holds_added g i r a h = record { entry = h.entry; stands = is_added i r a h.entry h.stands; is = h.is }

pub added_holds : (g : ℕ) (i r a : Entries) → AreOut (One g) i r → HasGraph (drafted i r a) g → HasGraph a g
added_holds g i r a out h = record { entry = h.entry; stands = is_of_added (One g) i r a h.entry out h.is h.stands; is = h.is }

above_named : (x : List ℕ) → 0 < graph_of x → is_named x ≡ true
above_named x h = at_graph (graph_of x) h
  where
    at_graph : (g : ℕ) → 0 < g → not (g == 0) ≡ true
    at_graph g l = grind (arith, nat_tests)

pub graphs_of_added : (i r a : Entries) (graphs : List ℕ) → AreOut Named i r → AreGraphsOf a graphs → AreGraphsOf (drafted i r a) graphs
graphs_of_added i r a graphs out w = record {
  ascending = w.ascending;
  has = λ x c h. w.has x (is_of_added Named i r a x out (above_named x h) c) h;
  named = w.named;
  only = λ g c. holds_added g i r a (w.only g c);
}

pub four_of_added : (i r a : Entries) → HaveFour (drafted i r a) → HaveFour a
four_of_added i r a h x c = h x (is_added i r a x c)

-- ---- what the counts tell

pub removal : (i r a : Entries) → IsDraft i r a → IsRemoval i r
removal i r a d = record { once = d.removed_once; taken = d.taken }

-- where a part of a list that is removed is as long as the list, all of it is removed
all_removed : (these part r : Entries) → IsAscending part → ((x : List ℕ) → Contains part x → Contains these x × Contains r x) → length these ≡ length part → (x : List ℕ) → Contains these x → Contains r x
all_removed these part r u to e x c =
    let is_removed : List ℕ → Bool = λ y. list_any (bytes_eq y) r in
    let is_kept : List ℕ → Bool = λ y. not (list_any (bytes_eq y) r) in
    let whole = length-filter_both is_removed is_kept (λ y. refl) these in
    let few = ascending_fits part (filter is_removed these) u (λ y k. let f = to y k in filter_has is_removed y these f.0 (any_if y r f.1)) in
    ⊎_elim (λ k. k) (λ n.
    let k = filter_has is_kept x these c (not_true (list_any (bytes_eq x) r) (λ t. n (only_if x r t))) in
    absurd (omega (arith, whole, few, e, k.1))) (is_in x r)

-- where as many of some entries are removed as there are, all of them are removed
counted : (p : List ℕ → Bool) (i r : Entries) → IsRemoval i r → length (filter p i) ≡ length (filter p r) → (x : List ℕ) → Contains i x → p x ≡ true → Contains r x
counted p i r m e x c h =
    all_removed (filter p i) (filter p r) r (filter_ascends p r m.once) (λ y k. let f = member_of_filter p y r k in (filter_has p y i (m.taken y f.0) f.1, f.0)) e x (filter_has p x i c h)

pub named_out : (i r : Entries) → IsRemoval i r → length (named_entries i) ≡ length (named_entries r) → AreOut Named i r
named_out i r m e x c h = counted is_named i r m e x c h

abbrev is_default : List ℕ → Bool
is_default x = not (is_named x)

pub default_out : (i r : Entries) → IsRemoval i r → length i + length (named_entries r) ≡ length r + length (named_entries i) → AreOut (One 0) i r
default_out i r m e x c h =
    let f : length (named_entries i) + length (filter is_default i) ≡ length i = length-filter_both is_named is_default (λ y. refl) i in
    let g : length (named_entries r) + length (filter is_default r) ≡ length r = length-filter_both is_named is_default (λ y. refl) r in
    counted is_default i r m (omega (arith, e, f, g)) x c (at_graph (graph_of x) h)
  where
    at_graph : (g : ℕ) → g ≡ 0 → not (not (g == 0)) ≡ true
    at_graph g l = grind (arith, nat_tests)

keeps_all : (xs : Entries) → filter (λ x. true) xs ≡ xs
keeps_all [] = refl
keeps_all (x ∷ xs) = ap (λ r. x ∷ r) (keeps_all xs)

pub all_out : (i r : Entries) → IsRemoval i r → length i ≡ length r → drafted i r [] ≡ []
all_out i r m e =
    let same = ap length (keeps_all i) ∙ e ∙ sym (ap length (keeps_all r)) in
    none_in (drafted i r []) (λ x c. ⊎_elim (λ k. k.left (counted (λ y. true) i r m same x k.stands refl)) (λ n. nothing x n) (parts i r [] x c))

-- ---- graphs that are noted

-- of a graph with a number above 0
pub named_graph_out : (g : ℕ) (i r : Entries) → (g ≡ 0 → ⊥) → AreOut Named i r → AreOut (One g) i r
named_graph_out g i r n out x c h = out x c (at_graph (graph_of x) (λ z. n (sym h ∙ z)))
  where
    at_graph : (k : ℕ) → k ≢ 0 → not (k == 0) ≡ true
    at_graph k l = grind (arith, nat_tests)

pub noted_out : (g : ℕ) (i r : Entries) (graphs : List ℕ) → AreEmptied i r graphs → Contains graphs g → AreOut (One g) i r
noted_out g i r graphs w c = All-contains (λ n. AreOut (One n) i r) graphs g w c

-- the scan of those of a graph that aren't removed is at its end
pub scanned_out : (g : ℕ) (key : List ℕ → List ℕ) (i r xs ys : Entries) → HaveFour i → IsScanOf (IsRead (One g) None None None) key i xs → IsScanOf (IsRead (One g) None None None) key r ys → without xs ys ≡ [] → AreOut (One g) i r
scanned_out g key i r xs ys four f h e x c is =
    ⊎_elim (λ k. k) (λ n. absurd (nothing x (subst (λ l. Contains l x) e (without_has xs ys x (f.has x c (agrees_with_graph g x (four x c) is)) (λ m. n (h.only x m).0))))) (is_in x r)

-- one graph more, if there is memory, and more that are removed
pub noted : {X E : Type 0} (g : ℕ) (i r : Entries) (old new : List ℕ) (result : Result X E) → OnOk result (new ≡ insert_key nat_cmp old g) → OnErr result (new ≡ old) → AreEmptied i r old → AreOut (One g) i r → AreEmptied i r new
noted g i r old new (Ok x) e f w out = subst (AreEmptied i r) (sym e) (All-insert_key nat_cmp g (λ n. AreOut (One n) i r) old w out)
noted g i r old new (Err x) e f w out = subst (AreEmptied i r) (sym f) w

pub still_out : (i r r1 : Entries) (graphs : List ℕ) → ((x : List ℕ) → Contains r x → Contains r1 x) → AreEmptied i r graphs → AreEmptied i r1 graphs
still_out i r r1 graphs k w = λ n d l x c h. k x (w n d l x c h)

pub none_out : (i r : Entries) (graphs : List ℕ) → graphs ≡ [] → AreEmptied i r graphs
none_out i r graphs e = subst (AreEmptied i r) (sym e) (λ n d l. absurd (omega arith))

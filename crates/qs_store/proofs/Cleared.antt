-- A draft that loses the entries of a graph.
use Rattle.std.proofs.Common.{◌≡◌, ◌≢◌, ◌⊎◌, ℕ, List, None, sym, subst, inl, inr, ⊎_elim}
use Rattle.std.specs.List.{Contains, filter}
use Rattle.std.specs.List.Sorted.{IsPermutation}
use Rattle.std.proofs.lemmas.List.Sorted.{Contains-permutation, IsPermutation-sym}
use Rattle.qs_index.specs.inner.Agreeing.{agreeing, agrees}
use Rattle.qs_index.specs.inner.Entries.{HaveFour, IsUnion, IsDifference}
use Rattle.qs_index.specs.inner.Entry.{IsAscending}
use Rattle.qs_index.specs.inner.Graph.{graph_of}
use Rattle.qs_store.specs.declared.graphs.Graphs.TheVariants.{One}
use Rattle.qs_store.specs.inner.Copied.{IsWithoutGraph}
use Rattle.qs_store.specs.inner.Emptied.{AreOut, IsRemoval, RemovesGraph}
use Rattle.qs_store.specs.inner.Layers.{drafted, IsDraft}
use Rattle.qs_store.proofs.Copied.{graph_read}
use Rattle.qs_store.proofs.Drafted.{parts, stays, is_added}
use Rattle.qs_store.proofs.Holding.{agrees_with_graph}
use Rattle.qs_store.proofs.Members.{Entries, member_of_filter, filter_has}

-- the added ones without those of a graph
pub record Keeps (g : ℕ) (a a1 : Entries) : Type 0 where
  pub once : IsAscending a1
  pub only : (x : List ℕ) → Contains a1 x → Contains a x × (graph_of x ≢ g)
  pub kept : (x : List ℕ) → Contains a x → (graph_of x ≢ g) → Contains a1 x

pub removes_agreeing : (g : ℕ) (i r r1 : Entries) → HaveFour i → IsUnion r (agreeing g None None None i) r1 → RemovesGraph g i r r1
removes_agreeing g i r r1 four u = record {
  once = u.ascending;
  kept = u.has_old;
  all = λ x c e. u.has_added x (filter_has (agrees g None None None) x i c (agrees_with_graph g x (four x c) e));
  only = λ x c. ⊎_elim (λ o. inl o) (λ n. let m = member_of_filter (agrees g None None None) x i n in inr (m.0, graph_read g x m.1)) (u.only x c);
}

pub removes_none : (g : ℕ) (i r : Entries) → IsRemoval i r → AreOut (One g) i r → RemovesGraph g i r r
removes_none g i r d out = record { once = d.once; kept = λ x c. c; all = out; only = λ x c. inl c }

pub keeps_others : (g : ℕ) (a found outs a1 : Entries) → HaveFour a → IsPermutation (agreeing g None None None a) found → outs ≡ found → IsDifference a outs a1 → Keeps g a a1
keeps_others g a found outs a1 four p e w = record {
  once = w.ascending;
  only = λ x c. (w.only x c, λ h. w.gone x c (among x (w.only x c) h));
  kept = λ x c n. ⊎_elim (λ k. k) (λ o. absurd (n (of_graph x o))) (w.kept x c);
}
  where
    among : (x : List ℕ) → Contains a x → graph_of x ≡ g → Contains outs x
    among x c h =
        subst (λ l. Contains l x) (sym e) (Contains-permutation (agreeing g None None None a) found x p (filter_has (agrees g None None None) x a c (agrees_with_graph g x (four x c) h)))

    of_graph : (x : List ℕ) → Contains outs x → graph_of x ≡ g
    of_graph x o =
        let m = Contains-permutation found (agreeing g None None None a) x (IsPermutation-sym (agreeing g None None None a) found p) (subst (λ l. Contains l x) e o) in
        graph_read g x (member_of_filter (agrees g None None None) x a m).1

module _ (g : ℕ) (i r a r1 a1 : Entries) (d : IsDraft i r a) (o : RemovesGraph g i r r1) (k : Keeps g a a1) where
  pub cleared_parted : IsDraft i r1 a1
  cleared_parted = record {
    once = d.once;
    added_once = k.once;
    removed_once = o.once;
    apart = λ x m n. o.kept x (d.apart x (k.only x m).0 n);
    taken = λ x m. ⊎_elim (λ t. d.taken x t) (λ t. t.0) (o.only x m);
  }

  pub cleared_members : IsWithoutGraph g (drafted i r a) (drafted i r1 a1)
  cleared_members x = (
    λ c. ⊎_elim
        (λ s. (stays i r a x s.stands (λ m. s.left (o.kept x m)), λ e. s.left (o.all x s.stands e)))
        (λ m. let t = k.only x m in (is_added i r a x t.0, t.1))
        (parts i r1 a1 x c),
    λ c. ⊎_elim
        (λ s. stays i r1 a1 x s.stands (λ m. ⊎_elim (λ t. s.left t) (λ t. c.1 t.1) (o.only x m)))
        (λ m. is_added i r1 a1 x (k.kept x m c.1))
        (parts i r a x c.0),
  )

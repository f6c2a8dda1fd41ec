-- The entries of named graphs are the quads that they say.
use Rattle.std.proofs.Common.{◌≡◌, ℕ, zero, suc, ◌<◌, ◌≤◌, true, ◌==◌, not, List, [], ◌∷◌, length, take, Option, Some, refl, ap, sym, ◌∙◌, subst, arith}
use Rattle.std.specs.List.{Contains}
use Rattle.std.proofs.lemmas.Bool.{false≢true}
use Rattle.std.proofs.lemmas.Option.{none-some}
use Rattle.qs_terms.specs.Bag.{Distinct}
use Rattle.qs_terms.specs.Term.{same_term}
use Rattle.qs_terms.specs.Statement.{Statement}
use Rattle.qs_terms.specs.declared.term.Term.{Term}
use Rattle.qs_dict.specs.inner.Dict.{term_at}
use Rattle.qs_index.specs.inner.Graph.{is_named}
use Rattle.qs_index.specs.inner.Permutation.{turned, named_order_used}
use Rattle.qs_index.specs.declared.permutation.Permutation.{Permutation}
use Rattle.qs_store.specs.inner.Entries.{said, statement_of, term_or, AreEntries, IsEntryOf, IsPlaced}
use Rattle.qs_store.specs.inner.Layers.{drafted, IsDraft}
use Rattle.qs_store.specs.inner.NamedQuads.{IsNamedMatch, IsNamedQuad, AreNamedQuads}
use Rattle.qs_store.specs.inner.Scans.{IsRead, AreNamedQuadsOf, merged, without}
use Rattle.qs_store.specs.declared.graphs.Graphs.TheVariants.{Named}
use Rattle.qs_store.proofs.Entries.{in_use, member_of_said, said_has, said_front, Distinct-front}
use Rattle.qs_store.proofs.Members.{Entries}
use Rattle.qs_store.proofs.Scanned.{places_anywhere, scan_of_draft}
use Rattle.qs_store.proofs.Stored.{content}
use Rattle.qs_store.proofs.TriplesSaid.{not_zero, same_number}

-- what is handed out of a draft
pub drafted_quads : (s p o : Option ℕ) (order : Permutation) (i r a xs ys zs quads : Entries) → IsDraft i r a → AreNamedQuadsOf s p o i xs → AreNamedQuadsOf s p o r ys → AreNamedQuadsOf s p o a zs → order ≡ named_order_used s p o → quads ≡ merged (turned order) (without xs ys) zs → AreNamedQuadsOf s p o (drafted i r a) quads
drafted_quads s p o order i r a xs ys zs quads d f g h n m =
    let same : quads ≡ merged (turned (named_order_used s p o)) (without xs ys) zs = m ∙ ap (λ w. merged (turned w) (without xs ys) zs) n in
    subst (AreNamedQuadsOf s p o (drafted i r a)) (sym same) (scan_of_draft (IsRead Named s p o) (named_order_used s p o) i r a xs ys zs d f g h)

-- a graph's number that isn't that of the default graph is one of a name
above_zero : (n : ℕ) → not (n == 0) ≡ true → 0 < n
above_zero zero h = absurd (false≢true h)
above_zero (suc i) h = omega arith

not_default : (terms : List Term) (n : ℕ) (name : Term) → term_at terms n ≡ Some name → not (n == 0) ≡ true
not_default terms n name h = not_zero n (λ e. none-some name (sym (ap (term_at terms) e) ∙ h))

-- an entry of a named graph is a quad that it says
entry_is_quad : (terms : List Term) (entries : Entries) (next : ℕ) (s p o : Option ℕ) (x : List ℕ) → AreEntries terms entries → Contains entries x → IsRead Named s p o x → IsNamedQuad (content (said terms entries) next terms) s p o x
entry_is_quad terms entries next s p o x all c r =
    let m = places_anywhere s p o x r.1 in
    let placed : IsPlaced terms m.graph m.at_s m.at_p m.at_o = subst (IsEntryOf terms) m.is (all x c) in
    let named = in_use terms m.graph (above_zero m.graph (ap is_named (sym m.is) ∙ r.0), placed.graph) in
    let found : IsNamedMatch (content (said terms entries) next terms) s p o m.graph m.at_s m.at_p m.at_o = record {
      quad = statement_of terms (m.graph ∷ m.at_s ∷ m.at_p ∷ m.at_o ∷ []);
      name = term_or terms m.graph;
      stands = subst (λ y. Contains (said terms entries) (statement_of terms y)) m.is (said_has terms x entries c);
      graph = named;
      graph_is = named;
      subject_is = in_use terms m.at_s placed.subject;
      predicate_is = in_use terms m.at_p placed.predicate;
      object_is = in_use terms m.at_o placed.object;
      subject_given = m.subject;
      predicate_given = m.predicate;
      object_given = m.object;
    } in
    subst (IsNamedQuad (content (said terms entries) next terms) s p o) (sym m.is) found

-- the entry that says a quad has its numbers
same_entry : (terms : List Term) (quads : List Statement) (next : ℕ) (s p o : Option ℕ) (g a b c : ℕ) (x : List ℕ) → Distinct same_term terms → IsEntryOf terms x → (m : IsNamedMatch (content quads next terms) s p o g a b c) → statement_of terms x ≡ m.quad → x ≡ g ∷ a ∷ b ∷ c ∷ []
same_entry terms quads next s p o g a b c [] u e m q = absurd e
same_entry terms quads next s p o g a b c (h ∷ []) u e m q = absurd e
same_entry terms quads next s p o g a b c (h ∷ i ∷ []) u e m q = absurd e
same_entry terms quads next s p o g a b c (h ∷ i ∷ j ∷ []) u e m q = absurd e
same_entry terms quads next s p o g a b c (h ∷ i ∷ j ∷ k ∷ l ∷ rest) u e m q = absurd e
same_entry terms quads next s p o g a b c (h ∷ i ∷ j ∷ k ∷ []) u e m q =
    let w = same_number terms u h g m.name (ap (λ v. v.graph) q ∙ m.graph) m.graph_is in
    let x = same_number terms u i a m.quad.subject (in_use terms i e.subject ∙ ap (λ v. Some v.subject) q) m.subject_is in
    let y = same_number terms u j b m.quad.predicate (in_use terms j e.predicate ∙ ap (λ v. Some v.predicate) q) m.predicate_is in
    let z = same_number terms u k c m.quad.object (in_use terms k e.object ∙ ap (λ v. Some v.object) q) m.object_is in
    ap (λ v. v ∷ i ∷ j ∷ k ∷ []) w ∙ ap (λ v. g ∷ v ∷ j ∷ k ∷ []) x ∙ ap (λ v. g ∷ a ∷ v ∷ k ∷ []) y ∙ ap (λ v. g ∷ a ∷ b ∷ v ∷ []) z

quad_found : (terms : List Term) (entries quads : Entries) (next : ℕ) (s p o : Option ℕ) (x : List ℕ) → Distinct same_term terms → AreEntries terms entries → AreNamedQuadsOf s p o entries quads → IsNamedQuad (content (said terms entries) next terms) s p o x → Contains quads x
quad_found terms entries quads next s p o [] u all w m = absurd m
quad_found terms entries quads next s p o (g ∷ []) u all w m = absurd m
quad_found terms entries quads next s p o (g ∷ a ∷ []) u all w m = absurd m
quad_found terms entries quads next s p o (g ∷ a ∷ b ∷ []) u all w m = absurd m
quad_found terms entries quads next s p o (g ∷ a ∷ b ∷ c ∷ d ∷ rest) u all w m = absurd m
quad_found terms entries quads next s p o (g ∷ a ∷ b ∷ c ∷ []) u all w m =
    let f = member_of_said terms m.quad entries m.stands in
    let same = same_entry terms (said terms entries) next s p o g a b c f.entry u (all f.entry f.stands) m f.says in
    w.has (g ∷ a ∷ b ∷ c ∷ []) (subst (Contains entries) same f.stands) (not_default terms g m.name m.graph_is, rw (m.subject_given, m.predicate_given, m.object_given) refl)

-- the quads of a draft, and of a store, which knows the first of the terms
pub draft_named_quads : (terms : List Term) (entries quads : Entries) (next : ℕ) (s p o : Option ℕ) → Distinct same_term terms → AreEntries terms entries → AreNamedQuadsOf s p o entries quads → AreNamedQuads (content (said terms entries) next terms) s p o quads
draft_named_quads terms entries quads next s p o u all w = record {
  ascending = w.ascending;
  has = λ x m. quad_found terms entries quads next s p o x u all w m;
  only = λ x c. let n = w.only x c in entry_is_quad terms entries next s p o x all n.0 n.1;
}

pub store_named_quads : (terms : List Term) (entries quads : Entries) (known next : ℕ) (s p o : Option ℕ) → Distinct same_term terms → known ≤ length terms → AreEntries (take known terms) entries → AreNamedQuadsOf s p o entries quads → AreNamedQuads (content (said terms entries) next (take known terms)) s p o quads
store_named_quads terms entries quads known next s p o u l all w =
    subst (λ l. AreNamedQuads (content l next (take known terms)) s p o quads) (said_front terms known entries l all)
    (draft_named_quads (take known terms) entries quads next s p o (Distinct-front known terms u) all w)

-- The named graphs of entries are those of the quads that the entries say.
use Rattle.std.proofs.Common.{◌≡◌, ℕ, zero, suc, ◌<◌, ◌≤◌, List, [], ◌∷◌, length, take, Some, refl, ap, sym, ◌∙◌, subst, arith}
use Rattle.std.specs.List.{Contains}
use Rattle.std.proofs.lemmas.Option.{none-some}
use Rattle.qs_terms.specs.Bag.{Distinct}
use Rattle.qs_terms.specs.Term.{same_term}
use Rattle.qs_terms.specs.declared.term.Term.{Term}
use Rattle.qs_dict.specs.inner.Dict.{term_at}
use Rattle.qs_index.specs.inner.Entries.{HaveFour}
use Rattle.qs_index.specs.inner.Graph.{graph_of}
use Rattle.qs_store.specs.inner.Entries.{said, statement_of, term_or, AreEntries, IsEntryOf}
use Rattle.qs_store.specs.inner.Graphs.{IsGraph, AreGraphs}
use Rattle.qs_store.specs.inner.Holding.{HasGraph, AreGraphsOf}
use Rattle.qs_store.proofs.Entries.{in_use, member_of_said, said_has, said_front, Distinct-front}
use Rattle.qs_store.proofs.Stored.{content}
use Rattle.qs_store.proofs.TriplesSaid.{same_number}

-- an entry has four numbers
pub four_of : (terms : List Term) (x : List ℕ) → IsEntryOf terms x → length x ≡ 4
four_of terms [] e = absurd e
four_of terms (g ∷ []) e = absurd e
four_of terms (g ∷ s ∷ []) e = absurd e
four_of terms (g ∷ s ∷ p ∷ []) e = absurd e
four_of terms (g ∷ s ∷ p ∷ o ∷ x ∷ rest) e = absurd e
four_of terms (g ∷ s ∷ p ∷ o ∷ []) e = omega arith

pub have_four : (terms : List Term) (entries : List (List ℕ)) → AreEntries terms entries → HaveFour entries
have_four terms entries all x c = four_of terms x (all x c)

-- the name of an entry's graph
record Name (terms : List Term) (x : List ℕ) : Type 0 where
  name : Term
  graph : (statement_of terms x).graph ≡ Some name
  number_is : term_at terms (graph_of x) ≡ Some name

name_of : (terms : List Term) (x : List ℕ) → IsEntryOf terms x → 0 < graph_of x → Name terms x
name_of terms [] e l = absurd e
name_of terms (g ∷ []) e l = absurd e
name_of terms (g ∷ s ∷ []) e l = absurd e
name_of terms (g ∷ s ∷ p ∷ []) e l = absurd e
name_of terms (g ∷ s ∷ p ∷ o ∷ x ∷ rest) e l = absurd e
name_of terms (g ∷ s ∷ p ∷ o ∷ []) e l = let i = in_use terms g (l, e.graph) in record { name = term_or terms g; graph = i; number_is = i }

pub graph_number_is : (terms : List Term) (x : List ℕ) → IsEntryOf terms x → (statement_of terms x).graph ≡ term_at terms (graph_of x)
graph_number_is terms [] e = absurd e
graph_number_is terms (g ∷ []) e = absurd e
graph_number_is terms (g ∷ s ∷ []) e = absurd e
graph_number_is terms (g ∷ s ∷ p ∷ []) e = absurd e
graph_number_is terms (g ∷ s ∷ p ∷ o ∷ x ∷ rest) e = absurd e
graph_number_is terms (g ∷ s ∷ p ∷ o ∷ []) e = refl

in_use_above : (terms : List Term) (n : ℕ) (t : Term) → term_at terms n ≡ Some t → 0 < n
in_use_above terms zero t h = absurd (none-some t h)
in_use_above terms (suc i) t h = omega arith

graph_found : (terms : List Term) (entries : List (List ℕ)) (next : ℕ) (numbers : List ℕ) → Distinct same_term terms → AreEntries terms entries → AreGraphsOf entries numbers → (n : ℕ) → IsGraph (content (said terms entries) next terms) n → Contains numbers n
graph_found terms entries next numbers u all w n m =
    let f = member_of_said terms m.quad entries m.stands in
    let at : term_at terms (graph_of f.entry) ≡ Some m.name = sym (graph_number_is terms f.entry (all f.entry f.stands)) ∙ ap (λ q. q.graph) f.says ∙ m.graph in
    subst (Contains numbers) (same_number terms u (graph_of f.entry) n m.name at m.number_is) (w.has f.entry f.stands (in_use_above terms (graph_of f.entry) m.name at))

graph_is_one : (terms : List Term) (entries : List (List ℕ)) (next : ℕ) (n : ℕ) → AreEntries terms entries → HasGraph entries n → 0 < n → IsGraph (content (said terms entries) next terms) n
graph_is_one terms entries next n all h l =
    let m = name_of terms h.entry (all h.entry h.stands) (omega (arith, h.is, l)) in
    record {
      quad = statement_of terms h.entry;
      name = m.name;
      stands = said_has terms h.entry entries h.stands;
      graph = m.graph;
      number_is = ap (term_at terms) (sym h.is) ∙ m.number_is;
    }

pub draft_graphs_said : (terms : List Term) (entries : List (List ℕ)) (next : ℕ) (numbers : List ℕ) → Distinct same_term terms → AreEntries terms entries → AreGraphsOf entries numbers → AreGraphs (content (said terms entries) next terms) numbers
draft_graphs_said terms entries next numbers u all w = record {
  ascending = w.ascending;
  has = λ n m. graph_found terms entries next numbers u all w n m;
  only = λ n c. graph_is_one terms entries next n all (w.only n c) (w.named n c);
}

pub store_graphs_said : (terms : List Term) (entries : List (List ℕ)) (known next : ℕ) (numbers : List ℕ) → Distinct same_term terms → known ≤ length terms → AreEntries (take known terms) entries → AreGraphsOf entries numbers → AreGraphs (content (said terms entries) next (take known terms)) numbers
store_graphs_said terms entries known next numbers u l all w =
    subst (λ quads. AreGraphs (content quads next (take known terms)) numbers) (said_front terms known entries l all) (draft_graphs_said (take known terms) entries next numbers (Distinct-front known terms u) all w)

-- Scans of the entries of a store and of its draft.
use Rattle.std.specs.Prelude.{◌≡◌, ℕ, Bool, true, false, cond, List, [], ◌∷◌, map, drop, Option}
use Rattle.std.specs.Prelude.{Some, None}
use Rattle.std.specs.Str.{bytes_eq}
use Rattle.std.specs.List.{Contains}
use Rattle.qs_index.specs.inner.Agreeing.{agrees, agrees_anywhere}
use Rattle.qs_index.specs.inner.Entry.{IsAscending, is_before}
use Rattle.qs_index.specs.inner.Graph.{is_named}
use Rattle.qs_index.specs.inner.Permutation.{turned, order_used, named_order_used}
use Rattle.qs_index.specs.declared.permutation.Permutation.{Permutation}
use Rattle.qs_store.specs.inner.Triples.{turned_triple, triple_fits}
use Rattle.qs_store.specs.declared.active.Active.{Active}
use Rattle.qs_store.specs.declared.active.Active.TheVariants.{Default, Graph, Empty}
use Rattle.qs_store.specs.declared.default_graph.DefaultGraph.{DefaultGraph}
use Rattle.qs_store.specs.declared.default_graph.DefaultGraph.TheVariants.{Stored, Union}
use Rattle.qs_store.specs.declared.graphs.Graphs.{Graphs}
use Rattle.qs_store.specs.declared.graphs.Graphs.TheVariants.{Nothing, One, Named}

-- the graphs that are read, by the default graph that queries see
abbrev pub graphs_of : DefaultGraph → Active → Graphs
graphs_of default_graph Empty = Nothing
graphs_of default_graph (Graph number) = One number
graphs_of Stored Default = One 0
graphs_of Union Default = Named

-- an entry of these graphs has the numbers that are given
abbrev pub IsRead : Graphs → Option ℕ → Option ℕ → Option ℕ → List ℕ → Type 0
IsRead Nothing subject predicate object x = ⊥
IsRead (One graph) subject predicate object x = agrees graph subject predicate object x ≡ true
IsRead Named subject predicate object x =
    (is_named x ≡ true) × (agrees_anywhere subject predicate object x ≡ true)

-- the order in which the entries of these graphs are handed out
abbrev pub order_in : Graphs → Option ℕ → Option ℕ → Option ℕ → Permutation
order_in Nothing subject predicate object = order_used subject predicate object
order_in (One graph) subject predicate object = order_used subject predicate object
order_in Named subject predicate object = named_order_used subject predicate object

-- those of a list's entries of which P holds, each once, ascending by their keys
pub record IsScanOf (P : List ℕ → Type 0) (key : List ℕ → List ℕ)
    (entries rest : List (List ℕ)) : Type 0 where
  pub ascending : IsAscending (map key rest)
  pub has : (x : List ℕ) → Contains entries x → P x → Contains rest x
  pub only : (x : List ℕ) → Contains rest x → Contains entries x × P x

-- an entry that was taken from a list, and what follows it there; none is the list's end
abbrev pub led : Option (List ℕ) → List (List ℕ) → List (List ℕ)
led None rest = []
led (Some x) rest = x ∷ rest

-- the first list without the entries of the second, which stand in it in the same order
abbrev pub without : List (List ℕ) → List (List ℕ) → List (List ℕ)
without [] ys = []
without (x ∷ xs) [] = x ∷ xs
without (x ∷ xs) (y ∷ ys) = cond (bytes_eq y x) (without xs ys) (x ∷ without xs (y ∷ ys))

-- x in front of xs, and ys, where `on` has what comes of xs
abbrev pub merged_from : (List ℕ → List ℕ) → List ℕ → List (List ℕ)
    → (List (List ℕ) → List (List ℕ)) → List (List ℕ) → List (List ℕ)
merged_from key x xs on [] = x ∷ xs
merged_from key x xs on (y ∷ ys) =
    cond (is_before (key x) (key y)) (x ∷ on (y ∷ ys)) (y ∷ merged_from key x xs on ys)

-- two lists, each ascending by its keys, as one
abbrev pub merged : (List ℕ → List ℕ) → List (List ℕ) → List (List ℕ) → List (List ℕ)
merged key [] ys = ys
merged key (x ∷ xs) ys = merged_from key x xs (merged key xs) ys

-- the triple of an entry
abbrev pub triple_of : List ℕ → List ℕ
triple_of entry = drop 1 entry

-- whether x is the last that was handed out
abbrev pub is_last : Option (List ℕ) → List ℕ → Bool
is_last None x = false
is_last (Some last) x = bytes_eq last x

-- the last that was handed out, if one was, has the numbers that are given
abbrev pub LastFits : Option ℕ → Option ℕ → Option ℕ → Option (List ℕ) → Type 0
LastFits subject predicate object None = Unit {0}
LastFits subject predicate object (Some t) = triple_fits subject predicate object t ≡ true

-- a list without what equals the one in front of it
abbrev pub unrepeated : Option (List ℕ) → List (List ℕ) → List (List ℕ)
unrepeated last [] = []
unrepeated last (x ∷ xs) = cond (is_last last x) (unrepeated last xs) (x ∷ unrepeated (Some x) xs)

-- the triples of entries, of which those that follow one another in several graphs are handed out
-- once
abbrev pub triples_left : Bool → Option (List ℕ) → List (List ℕ) → List (List ℕ)
triples_left false last entries = map triple_of entries
triples_left true last entries = unrepeated last (map triple_of entries)

-- an entry that is read and has the triple
pub record HasTriple (graphs : Graphs) (subject predicate object : Option ℕ)
    (entries : List (List ℕ)) (t : List ℕ) : Type 0 where
  pub entry : List ℕ
  pub stands : Contains entries entry
  pub read : IsRead graphs subject predicate object entry
  pub is : triple_of entry ≡ t

-- the triples of the entries that are read, each once, ascending in an order
pub record AreTriplesIn (order : Permutation) (graphs : Graphs)
    (subject predicate object : Option ℕ) (entries triples : List (List ℕ)) : Type 0 where
  pub ascending : IsAscending (map (turned_triple order) triples)
  pub has : (x : List ℕ) → Contains entries x → IsRead graphs subject predicate object x
      → Contains triples (triple_of x)
  pub only : (t : List ℕ) → Contains triples t → HasTriple graphs subject predicate object entries t

-- in the order of a scan that gives these numbers
abbrev pub AreTriplesOf : Graphs → Option ℕ → Option ℕ → Option ℕ → List (List ℕ) → List (List ℕ)
    → Type 0
AreTriplesOf graphs subject predicate object entries triples =
    AreTriplesIn (order_used subject predicate object) graphs subject predicate object entries
    triples

-- in some order
pub record AreTriplesOfAnyhow (graphs : Graphs) (subject predicate object : Option ℕ)
    (entries triples : List (List ℕ)) : Type 0 where
  pub order : Permutation
  pub in_order : AreTriplesIn order graphs subject predicate object entries triples

-- the entries of named graphs that have the given numbers, each once, ascending
abbrev pub AreNamedQuadsOf : Option ℕ → Option ℕ → Option ℕ → List (List ℕ) → List (List ℕ) → Type 0
AreNamedQuadsOf subject predicate object =
    IsScanOf (IsRead Named subject predicate object)
    (turned (named_order_used subject predicate object))

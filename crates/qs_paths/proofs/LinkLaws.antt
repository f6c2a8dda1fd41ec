-- Links between nodes that have places.
use Rattle.std.proofs.Common.{◌≡◌, ℕ, ◌+◌, ◌<◌, Bool, true, false, cond, if◌then◌else◌, List, [], ◌∷◌, ◌++◌, length, map, take, get_or, refl, sym, ◌∙◌, ap, subst, arith}
use Rattle.std.specs.Prelude.{Vec, All}
use Rattle.std.specs.List.{filter, list_any}
use Rattle.std.proofs.Math.ListN.{get_or-map}
use Rattle.std.proofs.lemmas.List.{take_more, length-append, length-map, length-set}
use Rattle.std.proofs.lemmas.List.Elements.{All-nil, All-cons, All-append, All-get_or}
use Rattle.qs_terms.specs.declared.term.Term.{Term}
use Rattle.qs_terms.specs.Bag.{Distinct}
use Rattle.qs_terms.specs.Term.{same_term}
use Rattle.std.proofs.lemmas.Bool.Decides.{Decides-eqb}
use Rattle.qs_terms.proofs.FirstOnes.{filter-append}
use Rattle.qs_paths_meaning.proofs.Finds.{map-append}
use Rattle.qs_paths_meaning.proofs.Members.{distinct_with_new}
pub use Rattle.qs_paths_meaning.proofs.LinkLaws.{rows_put}
use Rattle.qs_paths_meaning.proofs.LinkLaws.{row_is}
use Rattle.qs_paths_meaning.proofs.Numbers.{below_put, leads_more, leads_put}
use Rattle.qs_paths_meaning.specs.Pair.{Pair}
use Rattle.qs_paths_meaning.specs.inner.Links.{AreBelow, IsAt, leads_to, put_at, rights_from, rows_of, same_number}
use Rattle.qs_paths.specs.declared.node.NodePair.{NodePair}
use Rattle.qs_paths.specs.inner.Links.{IsWeb, LeadAlike, LinkPairs, StandsAt}
use Rattle.qs_paths.specs.inner.Nodes.{AreApart, named_pair, named_pairs, names}
use Rattle.qs_paths.proofs.Names.{map_long, names_distinct}

more_below : (nodes : List ℕ) (k : ℕ) (rows : List (List ℕ)) → All (AreBelow (length nodes)) rows → All (AreBelow (length (nodes ++ k ∷ []))) (rows ++ [] ∷ [])
more_below nodes k rows h =
    All-append (AreBelow (length (nodes ++ k ∷ []))) rows ([] ∷ [])
    (λ i d lt j e l. let b : get_or (get_or rows i d) j e < length nodes = h i d lt j e l in let s : length (nodes ++ k ∷ []) ≡ length nodes + 1 = length-append nodes (k ∷ []) in omega (arith, b, s))
    (All-cons (AreBelow (length (nodes ++ k ∷ []))) [] [] (All-nil (λ i. i < length (nodes ++ k ∷ []))) (All-nil (AreBelow (length (nodes ++ k ∷ [])))))

rows_last : {Z : Type 0} (next next' : List (Vec ℕ Z)) (v : Vec ℕ Z) → next' ≡ next ++ v ∷ [] → v.items ≡ [] → rows_of next' ≡ rows_of next ++ [] ∷ []
rows_last next next' v e i = ap rows_of e ∙ (map-append (λ (z : Vec ℕ _). z.items) next (v ∷ []) ∙ ap (λ l. rows_of next ++ l ∷ []) i)

-- a new node has the next place, and an empty row
pub put_web : {Z : Type 0} (nodes nodes' : List ℕ) (next next' : List (Vec ℕ Z)) (k : ℕ) (v : Vec ℕ Z) → IsWeb nodes (rows_of next)
    → list_any (same_number k) nodes ≡ false → nodes' ≡ nodes ++ k ∷ [] → next' ≡ next ++ v ∷ [] → v.items ≡ [] → IsWeb nodes' (rows_of next')
put_web nodes nodes' next next' k v w f t r i =
    subst (λ (x : List ℕ). IsWeb x (rows_of next')) (sym t)
    (subst (λ (x : List (List ℕ)). IsWeb (nodes ++ k ∷ []) x) (sym (rows_last next next' v r i)) (record {
      distinct = subst (λ b. Distinct same_number (cond b nodes (nodes ++ k ∷ []))) f (distinct_with_new same_number Decides-eqb k nodes w.distinct);
      long = let a : length (rows_of next ++ [] ∷ []) ≡ length (rows_of next) + 1 = length-append (rows_of next) ([] ∷ []) in let b : length (nodes ++ k ∷ []) ≡ length nodes + 1 = length-append nodes (k ∷ []) in omega (arith, a, b, w.long);
      below = more_below nodes k (rows_of next) w.below;
    }))

names_below : (name : ℕ → Term) (nodes : List ℕ) (rows : List (List ℕ)) → All (AreBelow (length nodes)) rows → All (AreBelow (length (names name nodes))) rows
names_below name nodes rows h = subst (λ n. All (AreBelow n) rows) (sym (map_long name nodes)) h

pub put_leads : {Z : Type 0} (nodes nodes' : List ℕ) (next next' : List (Vec ℕ Z)) (k : ℕ) (v : Vec ℕ Z) → IsWeb nodes (rows_of next) → nodes' ≡ nodes ++ k ∷ [] → next' ≡ next ++ v ∷ [] → v.items ≡ [] → LeadAlike nodes (rows_of next) nodes' (rows_of next')
put_leads nodes nodes' next next' k v w t r i name apart x =
    ap (λ (l : List ℕ). leads_to (names name l) (rows_of next') x) t
    ∙ (ap (λ (l : List Term). leads_to l (rows_of next') x) (map-append name nodes (k ∷ []))
    ∙ (ap (λ (l : List (List ℕ)). leads_to (names name nodes ++ name k ∷ []) l x) (rows_last next next' v r i)
    ∙ leads_more (names name nodes) (rows_of next) (name k) x (w.long ∙ sym (map_long name nodes)) (names_below name nodes (rows_of next) w.below)))

pub at_named : (name : ℕ → Term) (nodes : List ℕ) (at n : ℕ) → StandsAt nodes at n → IsAt (names name nodes) at (name n)
at_named name nodes at n h = (let l : length (names name nodes) ≡ length nodes = map_long name nodes in omega (arith, l, h.0), get_or-map name nodes at n ∙ ap name h.1)

-- a link from one node to another
pub link_leads : (nodes : List ℕ) (rows rows' : List (List ℕ)) (from to x y : ℕ) → IsWeb nodes rows → StandsAt nodes from x → StandsAt nodes to y → rows' ≡ put_at rows from to
    → (name : ℕ → Term) → AreApart name → (z : Term) → leads_to (names name nodes) rows' z ≡ leads_to (names name nodes) rows z ++ (if same_term z (name x) then name y ∷ [] else [])
link_leads nodes rows rows' from to x y w h k e name apart z =
    ap (λ l. leads_to (names name nodes) l z) e
    ∙ leads_put (names name nodes) rows from to (name x) (name y) z (names_distinct name apart nodes w.distinct) (w.long ∙ sym (map_long name nodes)) (at_named name nodes from x h) (at_named name nodes to y k)

pub link_web : (nodes : List ℕ) (rows rows' : List (List ℕ)) (from to x y : ℕ) → IsWeb nodes rows → StandsAt nodes from x → StandsAt nodes to y → rows' ≡ put_at rows from to → IsWeb nodes rows'
link_web nodes rows rows' from to x y w h k e = record {
  distinct = w.distinct;
  long = ap length e ∙ (length-set rows from (get_or rows from [] ++ to ∷ []) ∙ w.long);
  below = subst (All (AreBelow (length nodes))) (sym e) (below_put (length nodes) rows from to (let l : length rows ≡ length nodes = w.long in omega (arith, l, h.0)) k.0 w.below);
}

links_one : (x : Term) (es : List Pair) (e : Pair) → rights_from x (es ++ e ∷ []) ≡ rights_from x es ++ (if same_term x e.left then e.right ∷ [] else [])
links_one x es e =
    ap (map (λ (f : Pair). f.right)) (filter-append (λ (f : Pair). same_term x f.left) es (e ∷ []))
    ∙ (map-append (λ (f : Pair). f.right) (filter (λ (f : Pair). same_term x f.left) es) (filter (λ (f : Pair). same_term x f.left) (e ∷ []))
    ∙ ap (λ l. rights_from x es ++ l) (by (same_term x e.left)))
  where
    by : (b : Bool) → map (λ (f : Pair). f.right) (cond b (e ∷ []) []) ≡ (if b then e.right ∷ [] else [])
    by true = refl
    by false = refl

-- one pair more
pub linked_more : (nodes nodes' : List ℕ) (rows rows' : List (List ℕ)) (es : List NodePair) (i : ℕ) (e : NodePair) → i < length es → e ≡ get_or es i e → LinkPairs nodes rows (take i es)
    → ((name : ℕ → Term) → AreApart name → (x : Term) → leads_to (names name nodes') rows' x ≡ leads_to (names name nodes) rows x ++ (if same_term x (name e.left) then name e.right ∷ [] else [])) → LinkPairs nodes' rows' (take (i + 1) es)
linked_more nodes nodes' rows rows' es i e lt is was h name apart x =
    h name apart x
    ∙ (ap (λ l. l ++ (if same_term x (name e.left) then name e.right ∷ [] else [])) (was name apart x)
    ∙ (sym (links_one x (named_pairs name (take i es)) (named_pair name e))
    ∙ ap (rights_from x) (sym (ap (named_pairs name) (take_more es i e lt ∙ ap (λ z. take i es ++ z ∷ []) (sym is)) ∙ map-append (named_pair name) (take i es) (e ∷ [])))))

pub row_under : {Z : Type 0} (count : ℕ) (next : List (Vec ℕ Z)) (at : ℕ) (v : Vec ℕ Z) (row : List ℕ) → at < length next → v ≡ get_or next at v → row ≡ v.items → All (AreBelow count) (rows_of next) → AreBelow count row
row_under count next at v row lt is e h =
    subst (AreBelow count) (sym (e ∙ row_is next at v lt is))
    (All-get_or (AreBelow count) (rows_of next) at [] (let s : length (rows_of next) ≡ length next = length-map next (λ (z : Vec ℕ _). z.items) in omega (arith, lt, s)) h)

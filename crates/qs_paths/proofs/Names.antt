-- What numbers name, of lists that are put together.
use Rattle.std.proofs.Common.{◌≡◌, ℕ, zero, suc, ◌+◌, ◌<◌, ◌≤◌, Bool, true, false, ◌||◌, cond, if◌then◌else◌, List, [], ◌∷◌, ◌++◌, append_assoc, map, length, take, drop, get_or, Option, Some, None, refl, sym, ◌∙◌, ap, arith}
use Rattle.std.specs.List.{filter, flat_map, list_any}
use Rattle.std.proofs.lemmas.List.{take_more, get_or_default}
use Rattle.std.proofs.Math.ListN.{get_or-map}
use Rattle.std.proofs.lemmas.Grind.{flat_map-append}
use Rattle.qs_terms.specs.declared.term.Term.{Term}
use Rattle.qs_terms.specs.Bag.{Distinct, with_new}
use Rattle.qs_terms.specs.Term.{same_term}
use Rattle.qs_terms.proofs.FirstOnes.{filter-append}
use Rattle.qs_paths_meaning.specs.Pair.{Pair, pair, swapped}
use Rattle.qs_paths_meaning.specs.Steps.{agrees}
use Rattle.qs_paths_meaning.specs.inner.Steps.{from_pair}
use Rattle.qs_paths_meaning.specs.inner.Found.{into_pair, lefts, rights, with_all}
use Rattle.qs_paths_meaning.specs.inner.Links.{named, same_number, with_numbers}
use Rattle.qs_paths_meaning.proofs.Finds.{map-append}
use Rattle.qs_paths.specs.declared.node.NodePair.{NodePair}
use Rattle.qs_paths.specs.inner.Links.{nodes_at}
use Rattle.qs_paths.specs.inner.Nodes.{AreApart, agrees_node, from_nodes, into_nodes, named_end, named_pair, named_pairs, names, node_pair, swapped_nodes, both_ends}
pub use Rattle.qs_paths_meaning.proofs.Numbers.{numbers_more}

-- ---- maps and filters

pub map_take : {X Y : Type 0} (f : X → Y) (i : ℕ) (xs : List X) → map f (take i xs) ≡ take i (map f xs)
map_take f zero xs = refl
map_take f (suc i) [] = refl
map_take f (suc i) (x ∷ xs) = ap (λ l. f x ∷ l) (map_take f i xs)

pub map_long : {X Y : Type 0} (f : X → Y) (xs : List X) → length (map f xs) ≡ length xs
map_long f [] = refl
map_long f (x ∷ xs) = ap suc (map_long f xs)

pub map_map : {X Y Z : Type 0} (g : Y → Z) (f : X → Y) (xs : List X) → map g (map f xs) ≡ map (λ x. g (f x)) xs
map_map g f [] = refl
map_map g f (x ∷ xs) = ap (λ l. g (f x) ∷ l) (map_map g f xs)

-- a filter before or after a map
pub map_filter : {X Y : Type 0} (f : X → Y) (p : X → Bool) (q : Y → Bool) → ((x : X) → q (f x) ≡ p x) → (xs : List X) → map f (filter p xs) ≡ filter q (map f xs)
map_filter f p q h [] = refl
map_filter f p q h (x ∷ xs) = by (p x) (h x) (map_filter f p q h xs)
  where
    by : (b : Bool) → q (f x) ≡ b → map f (filter p xs) ≡ filter q (map f xs) → map f (cond b (x ∷ filter p xs) (filter p xs)) ≡ filter q (f x ∷ map f xs)
    by true e i = ap (λ l. f x ∷ l) i ∙ sym (ap (λ c. cond c (f x ∷ filter q (map f xs)) (filter q (map f xs))) e)
    by false e i = i ∙ sym (ap (λ c. cond c (f x ∷ filter q (map f xs)) (filter q (map f xs))) e)

numbers_last : (ns ms : List ℕ) (m : ℕ) → with_numbers ns (ms ++ m ∷ []) ≡ with_new same_number (with_numbers ns ms) m
numbers_last ns [] m = refl
numbers_last ns (k ∷ ms) m = numbers_last (with_new same_number ns k) ms m

cond_map : {X Y : Type 0} (b : Bool) (f : X → Y) (x : X) → map f (cond b (x ∷ []) []) ≡ (if b then f x ∷ [] else [])
cond_map true f x = refl
cond_map false f x = refl

-- what is put after what was there
pub chosen_more : {X Y : Type 0} (p : X → Bool) (f : X → Y) (xs : List X) (i : ℕ) (x : X) → i < length xs → x ≡ get_or xs i x → map f (filter p (take (i + 1) xs)) ≡ map f (filter p (take i xs)) ++ (if p x then f x ∷ [] else [])
chosen_more p f xs i x lt is =
    ap (λ l. map f (filter p l)) (take_more xs i x lt ∙ ap (λ z. take i xs ++ z ∷ []) (sym is))
    ∙ (ap (map f) (filter-append p (take i xs) (x ∷ []))
    ∙ (map-append f (filter p (take i xs)) (filter p (x ∷ [])) ∙ ap (λ l. map f (filter p (take i xs)) ++ l) (cond_map (p x) f x)))

pub from_more : (es : List NodePair) (e f : NodePair) (i : ℕ) → i < length es → f ≡ get_or es i f → from_nodes (take (i + 1) es) e ≡ from_nodes (take i es) e ++ (if same_number e.right f.left then node_pair e.left f.right ∷ [] else [])
from_more es e f i lt is = chosen_more (λ (g : NodePair). same_number e.right g.left) (λ (g : NodePair). node_pair e.left g.right) es i f lt is

pub into_more : (es : List NodePair) (e f : NodePair) (i : ℕ) → i < length es → f ≡ get_or es i f → into_nodes (take (i + 1) es) e ≡ into_nodes (take i es) e ++ (if same_number f.right e.left then node_pair f.left e.right ∷ [] else [])
into_more es e f i lt is = chosen_more (λ (g : NodePair). same_number g.right e.left) (λ (g : NodePair). node_pair g.left e.right) es i f lt is

pub ends_more : (end : Option ℕ) (start : ℕ) (ns : List ℕ) (i n : ℕ) → i < length ns → n ≡ get_or ns i n → map (node_pair start) (filter (agrees_node end) (take (i + 1) ns)) ≡ map (node_pair start) (filter (agrees_node end) (take i ns)) ++ (if agrees_node end n then node_pair start n ∷ [] else [])
ends_more end start ns i n lt is = chosen_more (agrees_node end) (node_pair start) ns i n lt is

pub reached_more : (d : ℕ) (nodes places : List ℕ) (i at : ℕ) → i < length places → at ≡ get_or places i at → at < length nodes → (n : ℕ) → n ≡ get_or nodes at n
    → map (node_pair d) (nodes_at d nodes (take (i + 1) places)) ≡ map (node_pair d) (nodes_at d nodes (take i places)) ++ node_pair d n ∷ []
reached_more d nodes places i at lt is k n e =
    ap (λ l. map (node_pair d) (nodes_at d nodes l)) (take_more places i at lt ∙ ap (λ z. take i places ++ z ∷ []) (sym is))
    ∙ (ap (map (node_pair d)) (map-append (λ (a : ℕ). get_or nodes a d) (take i places) (at ∷ []))
    ∙ (map-append (node_pair d) (nodes_at d nodes (take i places)) (get_or nodes at d ∷ [])
    ∙ ap (λ z. map (node_pair d) (nodes_at d nodes (take i places)) ++ node_pair d z ∷ []) (get_or_default nodes at d n k ∙ sym e)))

pub rights_more : (ns : List ℕ) (es : List NodePair) (i : ℕ) (e : NodePair) → i < length es → e ≡ get_or es i e → with_numbers ns (map (λ (f : NodePair). f.right) (take (i + 1) es)) ≡ with_new same_number (with_numbers ns (map (λ (f : NodePair). f.right) (take i es))) e.right
rights_more ns es i e lt is =
    ap (λ l. with_numbers ns (map (λ (f : NodePair). f.right) l)) (take_more es i e lt ∙ ap (λ z. take i es ++ z ∷ []) (sym is))
    ∙ (ap (with_numbers ns) (map-append (λ (f : NodePair). f.right) (take i es) (e ∷ [])) ∙ numbers_last ns (map (λ (f : NodePair). f.right) (take i es)) e.right)

pub lefts_more : (ns : List ℕ) (es : List NodePair) (i : ℕ) (e : NodePair) → i < length es → e ≡ get_or es i e → with_numbers ns (map (λ (f : NodePair). f.left) (take (i + 1) es)) ≡ with_new same_number (with_numbers ns (map (λ (f : NodePair). f.left) (take i es))) e.left
lefts_more ns es i e lt is =
    ap (λ l. with_numbers ns (map (λ (f : NodePair). f.left) l)) (take_more es i e lt ∙ ap (λ z. take i es ++ z ∷ []) (sym is))
    ∙ (ap (with_numbers ns) (map-append (λ (f : NodePair). f.left) (take i es) (e ∷ [])) ∙ numbers_last ns (map (λ (f : NodePair). f.left) (take i es)) e.left)

pub both_more : (ns : List ℕ) (es : List NodePair) (i : ℕ) (e : NodePair) → i < length es → e ≡ get_or es i e → with_numbers ns (flat_map both_ends (take (i + 1) es)) ≡ with_new same_number (with_new same_number (with_numbers ns (flat_map both_ends (take i es))) e.left) e.right
both_more ns es i e lt is =
    ap (λ l. with_numbers ns (flat_map both_ends l)) (take_more es i e lt ∙ ap (λ z. take i es ++ z ∷ []) (sym is))
    ∙ (ap (with_numbers ns) (flat_map-append both_ends (take i es) (e ∷ []) ∙ sym (append_assoc (flat_map both_ends (take i es)) (e.left ∷ []) (e.right ∷ [])))
    ∙ (numbers_last ns (flat_map both_ends (take i es) ++ e.left ∷ []) e.right ∙ ap (λ l. with_new same_number l e.right) (numbers_last ns (flat_map both_ends (take i es)) e.left)))

-- ---- under a naming

module _ (name : ℕ → Term) where
  pub names_at : (d : ℕ) (nodes places : List ℕ) → names name (nodes_at d nodes places) ≡ named (name d) (names name nodes) places
  names_at d nodes [] = refl
  names_at d nodes (at ∷ places) = ap (λ z. z ∷ names name (nodes_at d nodes places)) (sym (get_or-map name nodes at d)) ∙ ap (λ l. get_or (names name nodes) at (name d) ∷ l) (names_at d nodes places)

  pub swapped_named : (es : List NodePair) → named_pairs name (map swapped_nodes es) ≡ map swapped (named_pairs name es)
  swapped_named [] = refl
  swapped_named (e ∷ es) = ap (λ l. pair (name e.right) (name e.left) ∷ l) (swapped_named es)

  pub rights_named : (es : List NodePair) → names name (map (λ (e : NodePair). e.right) es) ≡ rights (named_pairs name es)
  rights_named [] = refl
  rights_named (e ∷ es) = ap (λ l. name e.right ∷ l) (rights_named es)

  pub lefts_named : (es : List NodePair) → names name (map (λ (e : NodePair). e.left) es) ≡ lefts (named_pairs name es)
  lefts_named [] = refl
  lefts_named (e ∷ es) = ap (λ l. name e.left ∷ l) (lefts_named es)

  pub towards_named : (start : ℕ) (ns : List ℕ) → named_pairs name (map (node_pair start) ns) ≡ map (pair (name start)) (names name ns)
  towards_named start [] = refl
  towards_named start (n ∷ ns) = ap (λ l. pair (name start) (name n) ∷ l) (towards_named start ns)

  module _ (apart : AreApart name) where
    pub any_names : (n : ℕ) (ns : List ℕ) → list_any (same_term (name n)) (names name ns) ≡ list_any (same_number n) ns
    any_names n [] = refl
    any_names n (m ∷ ns) = ap (λ b. b || list_any (same_term (name n)) (names name ns)) (apart n m) ∙ ap (λ b. same_number n m || b) (any_names n ns)

    pub names_new : (ns : List ℕ) (n : ℕ) → names name (with_new same_number ns n) ≡ with_new same_term (names name ns) (name n)
    names_new ns n = by (list_any (same_number n) ns) (list_any (same_term (name n)) (names name ns)) (any_names n ns)
      where
        by : (p q : Bool) → q ≡ p → names name (cond p ns (ns ++ n ∷ [])) ≡ cond q (names name ns) (names name ns ++ name n ∷ [])
        by true true e = refl
        by true false e = let f : false ≡ true = e in cc
        by false true e = let f : true ≡ false = e in cc
        by false false e = map-append name ns (n ∷ [])

    pub names_all : (ns ms : List ℕ) → names name (with_numbers ns ms) ≡ with_all (names name ns) (names name ms)
    names_all ns [] = refl
    names_all ns (m ∷ ms) = names_all (with_new same_number ns m) ms ∙ ap (λ l. with_all l (names name ms)) (names_new ns m)

    pub names_distinct : (ns : List ℕ) → Distinct same_number ns → Distinct same_term (names name ns)
    names_distinct [] d = tt
    names_distinct (n ∷ ns) d = (any_names n ns ∙ d.0, names_distinct ns d.1)

    pub agrees_named : (end : Option ℕ) (n : ℕ) → agrees (named_end name end) (name n) ≡ agrees_node end n
    agrees_named None n = refl
    agrees_named (Some e) n = apart e n

    pub from_named : (qs : List NodePair) (e : NodePair) → named_pairs name (from_nodes qs e) ≡ from_pair (named_pairs name qs) (named_pair name e)
    from_named qs e =
        map_map (named_pair name) (λ (f : NodePair). node_pair e.left f.right) (filter (λ (f : NodePair). same_number e.right f.left) qs)
        ∙ (sym (map_map (λ (f : Pair). pair (name e.left) f.right) (named_pair name) (filter (λ (f : NodePair). same_number e.right f.left) qs))
        ∙ ap (map (λ (f : Pair). pair (name e.left) f.right)) (map_filter (named_pair name) (λ (f : NodePair). same_number e.right f.left) (λ (f : Pair). same_term (name e.right) f.left) (λ f. apart e.right f.left) qs))

    pub into_named : (ps : List NodePair) (f : NodePair) → named_pairs name (into_nodes ps f) ≡ into_pair (named_pairs name ps) (named_pair name f)
    into_named ps f =
        map_map (named_pair name) (λ (e : NodePair). node_pair e.left f.right) (filter (λ (e : NodePair). same_number e.right f.left) ps)
        ∙ (sym (map_map (λ (e : Pair). pair e.left (name f.right)) (named_pair name) (filter (λ (e : NodePair). same_number e.right f.left) ps))
        ∙ ap (map (λ (e : Pair). pair e.left (name f.right))) (map_filter (named_pair name) (λ (e : NodePair). same_number e.right f.left) (λ (e : Pair). same_term e.right (name f.left)) (λ e. apart e.right f.left) ps))

    pub ends_named : (end : Option ℕ) (start : ℕ) (ns : List ℕ) → named_pairs name (map (node_pair start) (filter (agrees_node end) ns)) ≡ map (pair (name start)) (filter (agrees (named_end name end)) (names name ns))
    ends_named end start ns = towards_named start (filter (agrees_node end) ns) ∙ ap (map (pair (name start))) (map_filter name (agrees_node end) (agrees (named_end name end)) (λ n. agrees_named end n) ns)

-- ---- elements

pub item : {X : Type 0} (xs : List X) (i : ℕ) (d : X) → i < length xs → get_or xs i d ≡ get_or xs i (get_or xs i d)
item xs i d lt = sym (get_or_default xs i (get_or xs i d) d lt)

abbrev pub zero_pair : NodePair
zero_pair = node_pair 0 0

pub none_behind : {X : Type 0} (xs : List X) (i : ℕ) → length xs ≤ i → drop i xs ≡ []
none_behind [] zero le = refl
none_behind [] (suc i) le = refl
none_behind (x ∷ xs) zero le = absurd (omega (arith, le))
none_behind (x ∷ xs) (suc i) le = none_behind xs i (omega (arith, le))

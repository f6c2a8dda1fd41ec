-- Paths one after another: followed from the left or from the right, with what stands between given where it is a node.
use Rattle.std.proofs.Common.{◌≡◌, ◌≢◌, ℕ, zero, suc, ◌+◌, ◌<◌, Bool, true, false, cond, if◌then◌else◌, ◌==◌, List, [], ◌∷◌, ◌++◌, length, take, get_or, map, Option, Some, None, refl, sym, ◌∙◌, ap, subst, arith}
use Rattle.std.specs.List.{filter, flat_map, list_any}
use Rattle.std.proofs.lemmas.Bool.{eqb-true, eqb-false}
use Rattle.std.proofs.lemmas.List.{take_more, append-nil}
use Rattle.std.proofs.lemmas.List.Sorted.{IsPermutation-append, IsPermutation-map, IsPermutation-refl, IsPermutation-trans}
use Rattle.std.proofs.lemmas.Grind.{flat_map-append}
use Rattle.qs_terms.specs.declared.term.Term.{Term}
use Rattle.qs_terms.specs.Bag.{SameBag}
use Rattle.qs_terms.specs.inner.Bag.{times}
use Rattle.qs_terms.specs.Term.{same_term}
use Rattle.qs_terms.specs.Dataset.{nodes_of}
use Rattle.qs_terms.proofs.Counts.{total, times-flat_map, total-ap, same_from_times}
use Rattle.qs_terms.proofs.FirstOnes.{filter-append}
use Rattle.qs_terms.proofs.SameTerm.{same_term-Decides}
use Rattle.qs_syntax_ast.specs.declared.path.Path.{Path}
use Rattle.qs_paths_meaning.specs.Pair.{Pair, pair}
use Rattle.qs_paths_meaning.specs.inner.Pair.{same_pair}
use Rattle.qs_paths_meaning.specs.Steps.{Graph, composed}
use Rattle.qs_paths_meaning.specs.inner.Steps.{from_pair}
use Rattle.qs_paths_meaning.specs.inner.Found.{node_or_open, into_pair, right_at}
use Rattle.qs_paths_meaning.specs.Pairs.{AtEnds, in_sequence, pairs}
use Rattle.qs_paths_meaning.proofs.Members.{in_mem, bool_same}
use Rattle.qs_paths_meaning.proofs.Finds.{map-append}
use Rattle.qs_paths_meaning.proofs.Arms.{same_pair-Decides, same_at, filter_same_by, composed_same}
use Rattle.qs_paths_meaning.proofs.Steady.{steady, at_left, at_right, filter_again, filter_ap}

same_sym : (x y : Term) → same_term x y ≡ same_term y x
same_sym x y = bool_same (same_term x y) (same_term y x) (λ e. (same_term-Decides y x).1 (sym ((same_term-Decides x y).0 e))) (λ e. (same_term-Decides x y).1 (sym ((same_term-Decides y x).0 e)))

-- ---- the middle

module _ (graph : Graph) (p : Path) where
  pub seconds_same : (right : Option Term) (row : Pair) (m : Option Term) (seconds : List Pair) → m ≡ node_or_open graph row.right → SameBag seconds (pairs graph p m right) → SameBag (from_pair seconds row) (from_pair (pairs graph p None right) row)
  seconds_same right row m seconds e h =
      by (list_any (same_term row.right) (nodes_of graph)) refl (subst (λ (o : Option Term). SameBag seconds (pairs graph p o right)) e h)
    where
      put : (xs ys : List Pair) → SameBag xs ys → SameBag (from_pair xs row) (from_pair ys row)
      put xs ys k = IsPermutation-map (λ (f : Pair). pair row.left f.right) _ _ (filter_same_by same_pair same_pair-Decides (λ (f : Pair). same_term row.right f.left) xs ys k)

      by : (b : Bool) → list_any (same_term row.right) (nodes_of graph) ≡ b → SameBag seconds (pairs graph p (if b then Some row.right else None) right) → SameBag (from_pair seconds row) (from_pair (pairs graph p None right) row)
      by true n k =
          let s = (steady graph p).left row.right right (in_mem same_term same_term-Decides row.right (nodes_of graph) n) in
          same_at (from_pair seconds row) (from_pair seconds row) (from_pair (at_left row.right (pairs graph p None right)) row) (from_pair (pairs graph p None right) row) refl
          (put seconds (at_left row.right (pairs graph p None right)) (IsPermutation-trans seconds _ _ k s))
          (sym (ap (map (λ (f : Pair). pair row.left f.right)) (filter_again (λ (f : Pair). same_term row.right f.left) (pairs graph p None right))))
      by false n k = put seconds (pairs graph p None right) k

  pub firsts_same : (left : Option Term) (row : Pair) (m : Option Term) (firsts : List Pair) → m ≡ node_or_open graph row.left → SameBag firsts (pairs graph p left m) → SameBag (into_pair firsts row) (into_pair (pairs graph p left None) row)
  firsts_same left row m firsts e h =
      by (list_any (same_term row.left) (nodes_of graph)) refl (subst (λ (o : Option Term). SameBag firsts (pairs graph p left o)) e h)
    where
      put : (xs ys : List Pair) → SameBag xs ys → SameBag (into_pair xs row) (into_pair ys row)
      put xs ys k = IsPermutation-map (λ (f : Pair). pair f.left row.right) _ _ (filter_same_by same_pair same_pair-Decides (λ (f : Pair). same_term f.right row.left) xs ys k)

      twice : (xs : List Pair) → filter (λ (f : Pair). same_term f.right row.left) (at_right row.left xs) ≡ filter (λ (f : Pair). same_term f.right row.left) xs
      twice xs =
          filter_ap (λ (f : Pair). same_term f.right row.left) (λ (f : Pair). same_term row.left f.right) (λ (f : Pair). same_sym f.right row.left) (at_right row.left xs)
          ∙ (filter_again (λ (f : Pair). same_term row.left f.right) xs
          ∙ filter_ap (λ (f : Pair). same_term row.left f.right) (λ (f : Pair). same_term f.right row.left) (λ (f : Pair). same_sym row.left f.right) xs)

      by : (b : Bool) → list_any (same_term row.left) (nodes_of graph) ≡ b → SameBag firsts (pairs graph p left (if b then Some row.left else None)) → SameBag (into_pair firsts row) (into_pair (pairs graph p left None) row)
      by true n k =
          let s = (steady graph p).right left row.left (in_mem same_term same_term-Decides row.left (nodes_of graph) n) in
          same_at (into_pair firsts row) (into_pair firsts row) (into_pair (at_right row.left (pairs graph p left None)) row) (into_pair (pairs graph p left None) row) refl
          (put firsts (at_right row.left (pairs graph p left None)) (IsPermutation-trans firsts _ _ k s))
          (sym (ap (map (λ (f : Pair). pair f.left row.right)) (twice (pairs graph p left None))))
      by false n k = put firsts (pairs graph p left None) k

-- ---- one row more

pub behind_more : (qs : List Pair) (es : List Pair) (i : ℕ) (e : Pair) (rows rows' seconds : List Pair) → i < length es → e ≡ get_or es i e → SameBag rows (composed (take i es) qs) → SameBag (from_pair seconds e) (from_pair qs e) → rows' ≡ rows ++ from_pair seconds e → SameBag rows' (composed (take (i + 1) es) qs)
behind_more qs es i e rows rows' seconds lt is h m k =
    same_at _ _ _ _ k (IsPermutation-append _ _ _ _ h m)
    (ap (flat_map (from_pair qs)) (take_more es i e lt ∙ ap (λ z. take i es ++ z ∷ []) (sym is))
    ∙ (flat_map-append (from_pair qs) (take i es) (e ∷ []) ∙ ap (λ l. flat_map (from_pair qs) (take i es) ++ l) (append-nil (from_pair qs e))))

pub before_more : (ps : List Pair) (es : List Pair) (i : ℕ) (e : Pair) (rows rows' firsts : List Pair) → i < length es → e ≡ get_or es i e → SameBag rows (flat_map (into_pair ps) (take i es)) → SameBag (into_pair firsts e) (into_pair ps e) → rows' ≡ rows ++ into_pair firsts e → SameBag rows' (flat_map (into_pair ps) (take (i + 1) es))
before_more ps es i e rows rows' firsts lt is h m k =
    same_at _ _ _ _ k (IsPermutation-append _ _ _ _ h m)
    (ap (flat_map (into_pair ps)) (take_more es i e lt ∙ ap (λ z. take i es ++ z ∷ []) (sym is))
    ∙ (flat_map-append (into_pair ps) (take i es) (e ∷ []) ∙ ap (λ l. flat_map (into_pair ps) (take i es) ++ l) (append-nil (into_pair ps e))))

-- ---- for each first its seconds, or for each second its firsts

plus_total : {X : Type 0} (f g : X → ℕ) (xs : List X) → total (λ x. f x + g x) xs ≡ total f xs + total g xs
plus_total f g [] = omega arith
plus_total f g (x ∷ xs) = omega (arith, plus_total f g xs)

-- how often a is the pair of e and f
abbrev met : Pair → Pair → Pair → ℕ
met a e f = times same_pair a (cond (same_term e.right f.left) (pair e.left f.right ∷ []) [])

from_times : (a e : Pair) (qs : List Pair) → times same_pair a (from_pair qs e) ≡ total (met a e) qs
from_times a e [] = refl
from_times a e (f ∷ qs) = by (same_term e.right f.left) (from_times a e qs)
  where
    by : (b : Bool) → times same_pair a (from_pair qs e) ≡ total (met a e) qs → times same_pair a (map (λ (k : Pair). pair e.left k.right) (cond b (f ∷ filter (λ (k : Pair). same_term e.right k.left) qs) (filter (λ (k : Pair). same_term e.right k.left) qs))) ≡ times same_pair a (cond b (pair e.left f.right ∷ []) []) + total (met a e) qs
    by true h = let k : times same_pair a (from_pair qs e) ≡ total (met a e) qs = h in omega arith
    by false h = let k : times same_pair a (from_pair qs e) ≡ total (met a e) qs = h in omega arith

into_times : (a e f : Pair) (ps : List Pair) → times same_pair a (into_pair (e ∷ ps) f) ≡ met a e f + times same_pair a (into_pair ps f)
into_times a e f ps = by (same_term e.right f.left)
  where
    by : (b : Bool) → times same_pair a (map (λ (k : Pair). pair k.left f.right) (cond b (e ∷ filter (λ (k : Pair). same_term k.right f.left) ps) (filter (λ (k : Pair). same_term k.right f.left) ps))) ≡ times same_pair a (cond b (pair e.left f.right ∷ []) []) + times same_pair a (into_pair ps f)
    by true = omega arith
    by false = omega arith

no_total : {X : Type 0} (xs : List X) → total (λ x. 0) xs ≡ 0
no_total [] = refl
no_total (x ∷ xs) = omega (arith, no_total xs)

exchanged_times : (a : Pair) (ps qs : List Pair) → total (λ f. times same_pair a (into_pair ps f)) qs ≡ total (λ e. times same_pair a (from_pair qs e)) ps
exchanged_times a [] qs = no_total qs
exchanged_times a (e ∷ ps) qs =
    let one = total-ap (λ f. times same_pair a (into_pair (e ∷ ps) f)) (λ f. met a e f + times same_pair a (into_pair ps f)) (λ f. into_times a e f ps) qs in
    let two = plus_total (met a e) (λ f. times same_pair a (into_pair ps f)) qs in
    omega (arith, one, two, from_times a e qs, exchanged_times a ps qs)

pub exchanged : (ps qs : List Pair) → SameBag (flat_map (into_pair ps) qs) (composed ps qs)
exchanged ps qs =
    same_from_times same_pair same_pair-Decides _ _ (λ a.
    times-flat_map same_pair (into_pair ps) a qs ∙ (exchanged_times a ps qs ∙ sym (times-flat_map same_pair (from_pair qs) a ps)))

-- ---- from the left

none_chosen : (b : Bool) → let none : List Pair = [] in none ≡ cond b [] []
none_chosen true = refl
none_chosen false = refl

chosen_at : (b : Bool) (e : Pair) (es fs : List Pair) → fs ≡ cond b es [] → cond b (e ∷ fs) fs ≡ cond b (e ∷ es) []
chosen_at true e es fs h = ap (λ l. e ∷ l) h
chosen_at false e es fs h = h

all_chosen : (m : Term) (f : Pair) (gs : List Pair) → filter (λ (k : Pair). same_term m k.left) (map (λ (g : Pair). pair f.left g.right) gs) ≡ cond (same_term m f.left) (map (λ (g : Pair). pair f.left g.right) gs) []
all_chosen m f [] = none_chosen (same_term m f.left)
all_chosen m f (g ∷ gs) = chosen_at (same_term m f.left) (pair f.left g.right) (map (λ (k : Pair). pair f.left k.right) gs) (filter (λ (k : Pair). same_term m k.left) (map (λ (k : Pair). pair f.left k.right) gs)) (all_chosen m f gs)

filter_chosen : (m : Term) (f : Pair) (rs : List Pair) → filter (λ (k : Pair). same_term m k.left) (from_pair rs f) ≡ cond (same_term m f.left) (from_pair rs f) []
filter_chosen m f rs = all_chosen m f (filter (λ (g : Pair). same_term f.right g.left) rs)

map_map : (e f : Pair) (gs : List Pair) → map (λ (k : Pair). pair e.left k.right) (map (λ (g : Pair). pair f.left g.right) gs) ≡ map (λ (g : Pair). pair e.left g.right) gs
map_map e f [] = refl
map_map e f (g ∷ gs) = ap (λ l. pair e.left g.right ∷ l) (map_map e f gs)

from_composed : (qs rs : List Pair) (e : Pair) → from_pair (composed qs rs) e ≡ composed (from_pair qs e) rs
from_composed [] rs e = refl
from_composed (f ∷ qs) rs e =
    ap (map (λ (k : Pair). pair e.left k.right)) (filter-append (λ (k : Pair). same_term e.right k.left) (from_pair rs f) (composed qs rs) ∙ ap (λ l. l ++ filter (λ (k : Pair). same_term e.right k.left) (composed qs rs)) (filter_chosen e.right f rs))
    ∙ (map-append (λ (k : Pair). pair e.left k.right) (cond (same_term e.right f.left) (from_pair rs f) []) (filter (λ (k : Pair). same_term e.right k.left) (composed qs rs))
    ∙ by (same_term e.right f.left) (from_composed qs rs e))
  where
    by : (b : Bool) → from_pair (composed qs rs) e ≡ composed (from_pair qs e) rs
        → map (λ (k : Pair). pair e.left k.right) (cond b (from_pair rs f) []) ++ from_pair (composed qs rs) e ≡ composed (map (λ (k : Pair). pair e.left k.right) (cond b (f ∷ filter (λ (k : Pair). same_term e.right k.left) qs) (filter (λ (k : Pair). same_term e.right k.left) qs))) rs
    by true h = ap (λ l. l ++ from_pair (composed qs rs) e) (map_map e f (filter (λ (g : Pair). same_term f.right g.left) rs)) ∙ ap (λ l. from_pair rs (pair e.left f.right) ++ l) h
    by false h = h

composed_assoc : (ps qs rs : List Pair) → composed ps (composed qs rs) ≡ composed (composed ps qs) rs
composed_assoc [] qs rs = refl
composed_assoc (e ∷ ps) qs rs =
    ap (λ l. l ++ composed ps (composed qs rs)) (from_composed qs rs e)
    ∙ (ap (λ l. composed (from_pair qs e) rs ++ l) (composed_assoc ps qs rs) ∙ sym (flat_map-append (from_pair rs) (from_pair qs e) (composed ps qs)))

last_part : (f : AtEnds) (fs : List AtEnds) (g : AtEnds) (left right : Option Term) → in_sequence (f ∷ (fs ++ g ∷ [])) left right ≡ composed (in_sequence (f ∷ fs) left None) (g None right)
last_part f [] g left right = refl
last_part f (h ∷ fs) g left right =
    ap (composed (f left None)) (last_part h fs g None right) ∙ composed_assoc (f left None) (in_sequence (h ∷ fs) None None) (g None right)

pub behind_last : (fs : List AtEnds) (g : AtEnds) (left right : Option Term) → length fs ≢ 0 → in_sequence (fs ++ g ∷ []) left right ≡ composed (in_sequence fs left None) (g None right)
behind_last [] g left right ne = absurd (ne refl)
behind_last (f ∷ fs) g left right ne = last_part f fs g left right

none_taken : (ps : List Path) → take 0 ps ≡ []
none_taken [] = refl
none_taken (p ∷ ps) = refl

some_taken : (graph : Graph) (ps : List Path) (n : ℕ) → n < length ps → n ≢ 0 → length (map (pairs graph) (take n ps)) ≢ 0
some_taken graph [] n lt ne = absurd (omega arith)
some_taken graph (p ∷ ps) zero lt ne = absurd (ne refl)
some_taken graph (p ∷ ps) (suc n) lt ne = λ w. let z : suc (length (map (pairs graph) (take n ps))) ≡ 0 = w in absurd (omega arith)

module _ (graph : Graph) (left right : Option Term) where
  abbrev pub up_to : List Path → ℕ → List Pair
  up_to ps at = in_sequence (map (pairs graph) (take at ps)) left (right_at at (length ps) right)

  not_yet : (at n : ℕ) → at < n → right_at at n right ≡ None
  not_yet at n lt = ap (λ b. if b then right else None) (by (at == n) refl)
    where
      by : (b : Bool) → (at == n) ≡ b → b ≡ false
      by true e = let k : at ≡ n = eqb-true at n e in absurd (omega arith)
      by false e = refl

  -- one part more
  pub part_behind : (ps : List Path) (at : ℕ) (p : Path) (is_first : Bool) (end : Option Term) (rows rows' : List Pair) → at < length ps → p ≡ get_or ps at p → is_first ≡ (at == 0) → end ≡ right_at (at + 1) (length ps) right → (is_first ≡ false → SameBag rows (up_to ps at))
      → (is_first ≡ true → SameBag rows' (pairs graph p left end)) → (is_first ≡ false → SameBag rows' (composed rows (pairs graph p None end))) → SameBag rows' (up_to ps (at + 1))
  part_behind ps at p is_first end rows rows' lt is t e h first behind =
      subst (λ (l : List Path). SameBag rows' (in_sequence (map (pairs graph) l) left (right_at (at + 1) (length ps) right))) (sym (take_more ps at p lt ∙ ap (λ z. take at ps ++ z ∷ []) (sym is)))
      (subst (λ (o : Option Term). SameBag rows' (in_sequence (map (pairs graph) (take at ps ++ p ∷ [])) left o)) e
      (subst (λ (l : List AtEnds). SameBag rows' (in_sequence l left end)) (sym (map-append (pairs graph) (take at ps) (p ∷ []))) (by is_first refl)))
    where
      by : (b : Bool) → is_first ≡ b → SameBag rows' (in_sequence (map (pairs graph) (take at ps) ++ pairs graph p ∷ []) left end)
      by true i =
          let z : at ≡ 0 = eqb-true at 0 (sym t ∙ i) in
          subst (λ (n : ℕ). SameBag rows' (in_sequence (map (pairs graph) (take n ps) ++ pairs graph p ∷ []) left end)) (sym z)
          (subst (λ (l : List Path). SameBag rows' (in_sequence (map (pairs graph) l ++ pairs graph p ∷ []) left end)) (sym (none_taken ps)) (first i))
      by false i =
          let z : at ≢ 0 = eqb-false at 0 (sym t ∙ i) in
          same_at rows' rows' (composed (in_sequence (map (pairs graph) (take at ps)) left None) (pairs graph p None end)) _ refl
          (IsPermutation-trans rows' _ _ (behind i)
          (composed_same rows _ _ _ (subst (λ (o : Option Term). SameBag rows (in_sequence (map (pairs graph) (take at ps)) left o)) (not_yet at (length ps) lt) (h i)) (IsPermutation-refl (pairs graph p None end))))
          (behind_last (map (pairs graph) (take at ps)) (pairs graph p) left end (some_taken graph ps at lt z))

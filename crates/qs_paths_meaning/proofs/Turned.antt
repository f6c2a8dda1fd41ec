-- The walks of a closure, followed backwards.
use Rattle.std.proofs.Common.{◌≡◌, ◌+◌, Bool, true, false, inl, inr, List, [], ◌∷◌, ◌++◌, length, map, Option, Some, None, refl, sym, ◌∙◌, ap, subst, arith}
use Rattle.std.specs.List.{filter}
use Rattle.std.proofs.lemmas.List.{append-nil}
use Rattle.std.proofs.lemmas.List.Sorted.{IsPermutation-map, IsPermutation-trans}
use Rattle.qs_terms.specs.declared.term.Term.{Term}
use Rattle.qs_terms.specs.Bag.{SameBag, Distinct}
use Rattle.qs_terms.specs.Term.{same_term}
use Rattle.qs_terms.specs.Dataset.{nodes_of}
use Rattle.qs_terms.proofs.SameTerm.{same_term-Decides}
use Rattle.qs_syntax_tree.specs.declared.path.Repetition.{Repetition}
use Rattle.qs_syntax_ast.specs.declared.path.Path.{Path}
use Rattle.qs_paths_meaning.specs.Pair.{Pair, pair, swapped}
use Rattle.qs_paths_meaning.specs.inner.Pair.{same_pair}
use Rattle.qs_paths_meaning.specs.Steps.{Graph, agrees}
use Rattle.qs_paths_meaning.specs.Closure.{candidates, repeats, ends, starts, closure}
use Rattle.qs_paths_meaning.specs.inner.Steps.{from_start}
use Rattle.qs_paths_meaning.specs.inner.Found.{turned}
use Rattle.qs_paths_meaning.specs.Pairs.{AtEnds, is_step, pairs}
use Rattle.qs_paths_meaning.specs.inner.Walk.{IsWalk, IsCount, Leads}
use Rattle.qs_paths_meaning.proofs.Members.{Mem, mem_at, mem_filter, mem_of_filter, mem_map, mem_of_map, not_in, is_out, same_bag, distinct_filter, distinct_once}
use Rattle.qs_paths_meaning.proofs.Near.{Tied, tied, tied_swapped, start_candidate, candidate, candidates_closed}
use Rattle.qs_paths_meaning.proofs.Arms.{same_pair-Decides, same_at, filter_same_by}
use Rattle.qs_paths_meaning.proofs.WalkLaws.{walks_repeat, repeat_walks}
use Rattle.qs_paths_meaning.proofs.ClosureLaws.{closure_has, in_closure, mem_ends, ends_reach, reaches_near, step_pair, pair_step, distinct_map, distinct_from, distinct_starts}
use Rattle.qs_paths_meaning.proofs.Steady.{Steady, steady}

pub tied_turned : (graph : Graph) (b : Bool) (f : AtEnds) → Tied graph f → Tied graph (turned b f)
tied_turned graph true f t = tied_swapped graph f t
tied_turned graph false f t = t

-- ---- walks

turned_walk : (S T : Term → Term → Type 0) → ((u v : Term) → S u v → T v u) → (x y z : Term) (us vs : List Term) → IsWalk S x us y → IsWalk T x vs z → (ws : List Term) × ((length ws ≡ length us + length vs) × IsWalk T y ws z)
turned_walk S T g x y z [] vs w k = (vs, (omega arith, subst (λ (t : Term). IsWalk T t vs z) w k))
turned_walk S T g x y z (u ∷ us) vs w k =
    let r = turned_walk S T g u y z us (x ∷ vs) w.1 (g x u w.0, k) in (r.0, (omega (arith, r.1.0), r.1.1))

pub leads_turned : (S T : Term → Term → Type 0) → ((u v : Term) → S u v → T v u) → (repetition : Repetition) (x y : Term) → Leads repetition S x y → Leads repetition T y x
leads_turned S T g repetition x y w =
    let r = turned_walk S T g x y x w.0 [] w.1.1 refl in
    let e : length w.0 ≡ length r.0 = omega (arith, r.1.0) in (r.0, (subst (IsCount repetition) e w.1.0, r.1.1))

module _ (graph : Graph) (f g : AtEnds) (tf : Tied graph f) (tg : Tied graph g) (turn : (u v : Term) → is_step f u v ≡ true → is_step g v u ≡ true) where
  pub reaches_turned : (repetition : Repetition) (x y : Term) → repeats repetition (is_step f) (candidates graph x) x y ≡ true → repeats repetition (is_step g) (candidates graph y) y x ≡ true
  reaches_turned repetition x y h =
      walks_repeat (is_step g) (candidates graph y) (candidates_closed graph g tg y) repetition y x (start_candidate graph y)
      (leads_turned (λ u v. is_step f u v ≡ true) (λ u v. is_step g u v ≡ true) turn repetition x y
      (repeat_walks (is_step f) (candidates graph x) (candidates_closed graph f tf x) repetition x y h))

-- ---- a closure into its right end

distinct_swapped : (es : List Pair) → Distinct same_pair es → Distinct same_pair (map swapped es)
distinct_swapped [] d = tt
distinct_swapped (e ∷ es) d = (
  not_in same_pair same_pair-Decides (swapped e) (map swapped es) (λ m.
      let w = mem_of_map swapped (swapped e) es m in
      is_out same_pair same_pair-Decides e es d.0 (mem_at w.0 e es (sym (ap swapped w.1.1)) w.1.0)),
  distinct_swapped es d.1,
)

module _ (graph : Graph) (f : AtEnds) (tf : Tied graph f) (s : Steady graph f) where
  abbrev back : AtEnds
  back = turned true f

  tb : Tied graph (turned true f)
  tb = tied_swapped graph f tf

  turn_back : (u v : Term) → is_step f u v ≡ true → is_step (turned true f) v u ≡ true
  turn_back u v h = pair_step graph (turned true f) tb v u (mem_map swapped (pair u v) (f None (Some v)) (s.back u v (step_pair graph f tf u v h)))

  turn_forth : (v u : Term) → is_step (turned true f) v u ≡ true → is_step f u v ≡ true
  turn_forth v u h =
      let w = mem_of_map swapped (pair v u) (f None (Some v)) (step_pair graph (turned true f) tb v u h) in
      pair_step graph f tf u v (s.forth u v (mem_at w.0 (pair u v) (f None (Some v)) (ap swapped (sym w.1.1)) w.1.0))

  pub backwards : (repetition : Repetition) (y : Term) → SameBag (map swapped (from_start repetition (is_step (turned true f)) graph None y)) (closure repetition (is_step f) graph None (Some y))
  backwards repetition y =
      same_bag same_pair same_pair-Decides (map swapped (from_start repetition (is_step (turned true f)) graph None y)) (closure repetition (is_step f) graph None (Some y))
      (distinct_swapped (from_start repetition (is_step (turned true f)) graph None y)
      (distinct_map y (filter (agrees None) (ends repetition (is_step (turned true f)) graph y))
      (distinct_filter same_term same_term-Decides (agrees None) (ends repetition (is_step (turned true f)) graph y)
      (distinct_filter same_term same_term-Decides (repeats repetition (is_step (turned true f)) (candidates graph y) y) (candidates graph y) (distinct_once same_term same_term-Decides (y ∷ nodes_of graph))))))
      (distinct_from repetition (is_step f) graph (Some y) (starts graph None (Some y)) (distinct_starts graph None (Some y)))
      into out
    where
      into : (e : Pair) → Mem e (map swapped (from_start repetition (is_step (turned true f)) graph None y)) → Mem e (closure repetition (is_step f) graph None (Some y))
      into e m =
          let w = mem_of_map swapped e (from_start repetition (is_step (turned true f)) graph None y) m in
          let v = mem_of_map (pair y) w.0 (filter (agrees None) (ends repetition (is_step (turned true f)) graph y)) w.1.0 in
          let k = (mem_of_filter (agrees None) v.0 (ends repetition (is_step (turned true f)) graph y) v.1.0).1 in
          let r = ends_reach graph (turned true f) tb repetition y v.0 k in
          let h = reaches_turned graph (turned true f) f tb tf turn_forth repetition y v.0 r in
          mem_at (pair v.0 y) e (closure repetition (is_step f) graph None (Some y)) (sym (w.1.1 ∙ ap swapped v.1.1))
          (closure_has graph f tf repetition None (Some y) v.0 y (record {
            start = candidate graph y v.0 (elim (reaches_near graph f tf repetition v.0 y h) [ inl i ↦ inl i | inr n ↦ inr n.0 ]);
            end = (same_term-Decides y y).1 refl;
            reaches = h;
          }))

      out : (e : Pair) → Mem e (closure repetition (is_step f) graph None (Some y)) → Mem e (map swapped (from_start repetition (is_step (turned true f)) graph None y))
      out e m =
          let c = in_closure graph f tf repetition None (Some y) e m in
          let i : y ≡ e.right = (same_term-Decides y e.right).0 c.end in
          let h : repeats repetition (is_step f) (candidates graph e.left) e.left y ≡ true = subst (λ (z : Term). repeats repetition (is_step f) (candidates graph e.left) e.left z ≡ true) (sym i) c.reaches in
          let r = reaches_turned graph f (turned true f) tf tb turn_back repetition e.left y h in
          mem_at (pair e.left y) e (map swapped (from_start repetition (is_step (turned true f)) graph None y)) (ap (λ z. pair e.left z) i)
          (mem_map swapped (pair y e.left) (from_start repetition (is_step (turned true f)) graph None y)
          (mem_map (pair y) e.left (filter (agrees None) (ends repetition (is_step (turned true f)) graph y))
          (mem_filter (agrees None) e.left (ends repetition (is_step (turned true f)) graph y) refl (mem_ends graph (turned true f) tb repetition y e.left r))))

-- ---- the arms of the program over closures

module _ (graph : Graph) (p : Path) (repetition : Repetition) where
  pub left_arm : (left right : Option Term) (x : Term) (rows : List Pair) → left ≡ Some x → SameBag rows (from_start repetition (is_step (turned false (pairs graph p))) graph right x) → SameBag rows (closure repetition (is_step (pairs graph p)) graph left right)
  left_arm left right x rows e h =
      subst (λ (o : Option Term). SameBag rows (closure repetition (is_step (pairs graph p)) graph o right)) (sym e)
      (same_at rows rows _ _ refl h (append-nil (from_start repetition (is_step (pairs graph p)) graph right x)))

  pub right_arm : (left right : Option Term) (y : Term) (inverse rows : List Pair) → left ≡ None → right ≡ Some y → SameBag inverse (from_start repetition (is_step (turned true (pairs graph p))) graph None y) → rows ≡ map swapped inverse → SameBag rows (closure repetition (is_step (pairs graph p)) graph left right)
  right_arm left right y inverse rows l r h e =
      subst (λ (o : Option Term). SameBag rows (closure repetition (is_step (pairs graph p)) graph o right)) (sym l)
      (subst (λ (o : Option Term). SameBag rows (closure repetition (is_step (pairs graph p)) graph None o)) (sym r)
      (subst (λ (k : List Pair). SameBag k (closure repetition (is_step (pairs graph p)) graph None (Some y))) (sym e)
      (IsPermutation-trans (map swapped inverse) _ _ (IsPermutation-map swapped _ _ h) (backwards graph (pairs graph p) (tied graph p) (steady graph p) repetition y))))

-- the ends that are found from one start
pub found_from : (repetition : Repetition) (step : Term → Term → Bool) (graph : Graph) (right : Option Term) (x : Term) (es fs : List Term) (rows rows' : List Pair) → rows ≡ [] → fs ≡ es → SameBag es (ends repetition step graph x) → rows' ≡ rows ++ map (pair x) (filter (agrees right) fs) → SameBag rows' (from_start repetition step graph right x)
found_from repetition step graph right x es fs rows rows' n e h k =
    subst (λ (l : List Pair). SameBag l (from_start repetition step graph right x)) (sym (k ∙ (ap (λ l. l ++ map (pair x) (filter (agrees right) fs)) n ∙ ap (λ l. map (pair x) (filter (agrees right) l)) e)))
    (IsPermutation-map (pair x) _ _ (filter_same_by same_term same_term-Decides (agrees right) es (ends repetition step graph x) h))

-- one pass backwards
pub turned_arm : (f : AtEnds) (b : Bool) (x : Term) (inverse rows : List Pair) → b ≡ true → SameBag inverse (f None (Some x)) → rows ≡ map swapped inverse → SameBag rows (turned b f (Some x) None)
turned_arm f b x inverse rows t h e =
    subst (λ (c : Bool). SameBag rows (turned c f (Some x) None)) (sym t)
    (subst (λ (l : List Pair). SameBag l (map swapped (f None (Some x)))) (sym e) (IsPermutation-map swapped _ _ h))

-- What the triples and the paths of a basic graph pattern make of a row, one after another, is what the pattern's solutions make of it in a
-- join.
use Rattle.std.proofs.Common.{◌≡◌, ◌⊎◌, inl, inr, ℕ, ◌+◌, ◌≤◌, ◌<◌, ◌==◌, Bool, true, false, not, ◌||◌, List, [], ◌∷◌, ◌++◌, map, take, length, Some, None, slice_set, option_to_list, refl, sym, ◌∙◌, ap, subst, arith}
use Rattle.std.specs.List.{AllByRecursion, filter, flat_map}
use Rattle.std.proofs.lemmas.Bool.{cases_lt}
use Rattle.std.proofs.lemmas.Bool.Decides.{eqb_tells}
use Rattle.std.proofs.lemmas.List.{get_or-set_same, get_or-set_other, set-set, set_past}
use Rattle.std.proofs.lemmas.List.Sorted.{IsPermutation-refl, IsPermutation-map}
use Rattle.qs_terms.specs.Bag.{Distinct, SameBag}
use Rattle.qs_terms.specs.Dataset.{same_triple}
use Rattle.qs_terms.specs.Term.{same_term}
use Rattle.qs_terms.specs.declared.term.Term.{Term}
use Rattle.qs_terms.proofs.SameTerm.{same_term-Decides}
use Rattle.qs_paths_meaning.specs.Pair.{Pair}
use Rattle.qs_paths_meaning.specs.Pairs.{pairs}
use Rattle.qs_algebra_patterns.specs.declared.pattern.Slot.{Slot}
use Rattle.qs_algebra_patterns.specs.declared.pattern.Slot.TheVariants as slot
use Rattle.qs_algebra_patterns.specs.declared.pattern.TriplePattern.{TriplePattern}
use Rattle.qs_algebra_patterns.specs.declared.pattern.PathPattern.{PathPattern}
use Rattle.qs_algebra_patterns.specs.declared.pattern.BasicPattern.{BasicPattern}
use Rattle.qs_algebra_patterns.specs.Basic.{Graph, is_variable, is_repeated, end_of, fits, with_term, ends_bound, path_solutions, with_paths, matches, basic}
use Rattle.qs_algebra_solutions.specs.Solution.{Solution, term_at, unbound}
use Rattle.qs_algebra_solutions.specs.Operators.{merges, join}
use Rattle.qs_plan_meaning.specs.inner.Scans.{bound_at, bound_end, bound_ends, then_bound, extensions, path_extensions, found}
use Rattle.qs_plan_meaning.specs.inner.Stages.{Made, along}
use Rattle.qs_plan.proofs.Below.{AllBelow}
use Rattle.qs_plan.proofs.FoundLaw.{found_is_matches}
use Rattle.qs_plan.proofs.Operators.{join_same, merges_same}
use Rattle.qs_plan.proofs.Commutes.{IsEven, triple_even, path_even, along_even, to_compatible, all_map, flat_flat}
use Rattle.qs_plan.proofs.Levels.{flat_ap, along_append}
use Rattle.qs_plan.proofs.Widths.{IsWide, all_append, length_unbound, unbound_at, unbound_compatible, unbound_merge, take_merges, paths_width}

-- ---- what is even gives the merges with what it gives of the row that binds nothing

pub by_merges : (f : Made) → IsEven f → (a : Solution) → f a ≡ merges (f (unbound (length a))) a
by_merges f e a =
    ap f (sym (unbound_merge a)) ∙ to_compatible f a (unbound (length a)) (unbound_compatible (length a) a) (e.commutes a (unbound (length a)) (sym (length_unbound (length a))))

-- ---- the pairs of a path, as solutions

set_twice : (m : Solution) (v : ℕ) (s t : Term) → s ≡ t → slice_set (slice_set m v (Some s)) v (Some t) ≡ slice_set m v (Some s)
set_twice m v s t e = set-set m v (Some s) (Some t) ∙ ap (λ x. slice_set m v (Some x)) (sym e)

-- an end of which the variable is unbound
end_unbound : (s : Slot) (t : Term) (m : Solution) → ((v : ℕ) → is_variable s v ≡ true → term_at m v ≡ None) → bound_end s t m ≡ Some (with_term s t m)
end_unbound (slot.Term c) t m h = refl
end_unbound (slot.Variable v) t m h = let e : term_at m v ≡ None = h v (alike v) in rw e refl
  where
    alike : (v : ℕ) → (v == v) ≡ true
    alike v = elim (eqb_tells v v) as (λ x. (v == v) ≡ true) [ inl p ↦ p.0 | inr p ↦ absurd (p.1 refl) ]

ends_of_pair : (n : ℕ) (p : PathPattern) (e : Pair) → fits p e ≡ true → bound_ends p e (unbound n) ≡ Some (ends_bound n p e)
ends_of_pair n p e h =
    ap (λ o. then_bound o (λ a. bound_end p.object e.right a)) (end_unbound p.subject e.left (unbound n) (λ v k. unbound_at n v))
    ∙ second p.subject p.object h
  where
    same : (v : ℕ) → same_term e.left e.right ≡ true → (v < n) ⊎ (n ≤ v) → bound_at (term_at (slice_set (unbound n) v (Some e.left)) v) v e.right (slice_set (unbound n) v (Some e.left)) ≡ Some (slice_set (slice_set (unbound n) v (Some e.left)) v (Some e.right))
    same v k (inl lt) =
        let is : term_at (slice_set (unbound n) v (Some e.left)) v ≡ Some e.left = get_or-set_same (unbound n) v (Some e.left) None (omega (arith, length_unbound n)) in
        rw (is, k) (ap Some (sym (set_twice (unbound n) v e.left e.right ((same_term-Decides e.left e.right).0 k))))
    same v k (inr le) =
        let gone : slice_set (unbound n) v (Some e.left) ≡ unbound n = set_past (unbound n) v (Some e.left) (omega (arith, length_unbound n)) in
        let is : term_at (slice_set (unbound n) v (Some e.left)) v ≡ None = ap (λ l. term_at l v) gone ∙ unbound_at n v in
        rw is refl

    apart : (v w : ℕ) → (w ≡ v → ⊥) → bound_at (term_at (slice_set (unbound n) v (Some e.left)) w) w e.right (slice_set (unbound n) v (Some e.left)) ≡ Some (slice_set (slice_set (unbound n) v (Some e.left)) w (Some e.right))
    apart v w ne =
        let is : term_at (slice_set (unbound n) v (Some e.left)) w ≡ None = get_or-set_other (unbound n) v w (Some e.left) None ne ∙ unbound_at n w in
        rw is refl

    second : (s o : Slot) → (not (is_repeated s o) || same_term e.left e.right) ≡ true → bound_end o e.right (with_term s e.left (unbound n)) ≡ Some (with_term o e.right (with_term s e.left (unbound n)))
    second s (slot.Term c) k = refl
    second (slot.Term c) (slot.Variable w) k = end_unbound (slot.Variable w) e.right (unbound n) (λ v l. unbound_at n v)
    second (slot.Variable v) (slot.Variable w) k = at (eqb_tells w v)
      where
        at : (((w == v) ≡ true) × (w ≡ v)) ⊎ (((w == v) ≡ false) × (w ≡ v → ⊥))
            → bound_at (term_at (slice_set (unbound n) v (Some e.left)) w) w e.right (slice_set (unbound n) v (Some e.left)) ≡ Some (slice_set (slice_set (unbound n) v (Some e.left)) w (Some e.right))
        at (inl f) = subst (λ (x : ℕ). bound_at (term_at (slice_set (unbound n) v (Some e.left)) x) x e.right (slice_set (unbound n) v (Some e.left)) ≡ Some (slice_set (slice_set (unbound n) v (Some e.left)) x (Some e.right))) (sym f.1) (same v (rw (f.0) at k) (cases_lt v n))
        at (inr f) = apart v w f.1

ends_each : (n : ℕ) (p : PathPattern) (es : List Pair) → flat_map (λ e. option_to_list (bound_ends p e (unbound n))) (filter (fits p) es) ≡ map (ends_bound n p) (filter (fits p) es)
ends_each n p [] = refl
ends_each n p (e ∷ es) = at (fits p e) refl (ends_each n p es)
  where
    at : (b : Bool) → fits p e ≡ b → flat_map (λ e. option_to_list (bound_ends p e (unbound n))) (filter (fits p) es) ≡ map (ends_bound n p) (filter (fits p) es)
        → flat_map (λ e. option_to_list (bound_ends p e (unbound n))) (filter (fits p) (e ∷ es)) ≡ map (ends_bound n p) (filter (fits p) (e ∷ es))
    at true f i = simp f (ap (λ o. option_to_list o ++ flat_map (λ e. option_to_list (bound_ends p e (unbound n))) (filter (fits p) es)) (ends_of_pair n p e f) ∙ ap (λ l. ends_bound n p e ∷ l) i)
    at false f i = simp f i

path_is : (n : ℕ) (graph : Graph) (p : PathPattern) → path_extensions p graph (unbound n) ≡ path_solutions n graph p
path_is n graph p = ends_each n p (pairs graph p.path (end_of p.subject) (end_of p.object))

-- what a path makes of a row is what its solutions do
path_merges : (n : ℕ) (graph : Graph) (p : PathPattern) (a : Solution) → IsWide n a → path_extensions p graph a ≡ merges (path_solutions n graph p) a
path_merges n graph p a e = by_merges (path_extensions p graph) (path_even p graph) a ∙ (ap (λ k. merges (path_extensions p graph (unbound k)) a) e ∙ ap (λ l. merges l a) (path_is n graph p))

-- ---- the triples, and the paths after them

abbrev pub run_of : Graph → List TriplePattern → List PathPattern → List Made
run_of graph triples paths = map (λ p. extensions p graph) triples ++ map (λ p. path_extensions p graph) paths

triples_even : (graph : Graph) (triples : List TriplePattern) → AllByRecursion IsEven (map (λ p. extensions p graph) triples)
triples_even graph [] = tt
triples_even graph (p ∷ triples) = (triple_even p graph, triples_even graph triples)

all_even : (graph : Graph) (paths : List PathPattern) → AllByRecursion IsEven (map (λ p. path_extensions p graph) paths)
all_even graph [] = tt
all_even graph (p ∷ paths) = (path_even p graph, all_even graph paths)

pub run_even : (graph : Graph) (triples : List TriplePattern) (paths : List PathPattern) → IsEven (along (run_of graph triples paths))
run_even graph triples paths = along_even (run_of graph triples paths) (all_append IsEven (map (λ p. extensions p graph) triples) (map (λ p. path_extensions p graph) paths) (triples_even graph triples) (all_even graph paths))

along_found : (graph : Graph) (triples : List TriplePattern) (m : Solution) → along (map (λ p. extensions p graph) triples) m ≡ found triples graph m
along_found graph [] m = refl
along_found graph (p ∷ triples) m = flat_ap (along (map (λ p. extensions p graph) triples)) (found triples graph) (along_found graph triples) (extensions p graph m)

flat_wide : (n : ℕ) (f g : Made) → ((a : Solution) → IsWide n a → f a ≡ g a) → (xs : List Solution) → AllByRecursion (IsWide n) xs → flat_map f xs ≡ flat_map g xs
flat_wide n f g h [] k = refl
flat_wide n f g h (x ∷ xs) k = ap (λ l. l ++ flat_map f xs) (h x k.0) ∙ ap (λ l. g x ++ l) (flat_wide n f g h xs k.1)

one_each : (xs : List Solution) → flat_map (along []) xs ≡ xs
one_each [] = refl
one_each (x ∷ xs) = ap (λ l. x ∷ l) (one_each xs)

along_paths : (n : ℕ) (graph : Graph) (paths : List PathPattern) (xs : List Solution) → AllByRecursion (IsWide n) xs → flat_map (along (map (λ p. path_extensions p graph) paths)) xs ≡ with_paths n graph paths xs
along_paths n graph [] xs h = one_each xs
along_paths n graph (p ∷ paths) xs h =
    let e : flat_map (path_extensions p graph) xs ≡ join xs (path_solutions n graph p) = flat_wide n (path_extensions p graph) (merges (path_solutions n graph p)) (path_merges n graph p) xs h in
    let wide : AllByRecursion (IsWide n) (join xs (path_solutions n graph p)) = paths_width n graph (p ∷ []) xs h in
    flat_flat (path_extensions p graph) (along (map (λ p. path_extensions p graph) paths)) xs
    ∙ (ap (flat_map (along (map (λ p. path_extensions p graph) paths))) e ∙ along_paths n graph paths (join xs (path_solutions n graph p)) wide)

pub paths_same : (n : ℕ) (graph : Graph) (ps : List PathPattern) (xs ys : List Solution) → SameBag xs ys → SameBag (with_paths n graph ps xs) (with_paths n graph ps ys)
paths_same n graph [] xs ys h = h
paths_same n graph (p ∷ ps) xs ys h = paths_same n graph ps _ _ (join_same xs ys _ _ h (IsPermutation-refl (path_solutions n graph p)))

wide_again : (n k : ℕ) (xs : List Solution) → k ≡ n → AllByRecursion (λ r. length r ≡ k) xs → AllByRecursion (IsWide n) xs
wide_again n k xs e h = all_map (λ r. length r ≡ k) (IsWide n) (λ r q. q ∙ e) xs h

-- from the row that binds nothing: the solutions of the pattern, before its hidden variables are taken away
pub run_is : (n : ℕ) (graph : Graph) (triples : List TriplePattern) (paths : List PathPattern) → Distinct same_triple graph → AllBelow n triples
    → SameBag (along (run_of graph triples paths) (unbound n)) (with_paths n graph paths (matches n triples graph))
run_is n graph triples paths d lt =
    let ts = map (λ (p : TriplePattern). extensions p graph) triples in
    let ps = map (λ (p : PathPattern). path_extensions p graph) paths in
    let wide : AllByRecursion (IsWide n) (along ts (unbound n)) = wide_again n (length (unbound n)) (along ts (unbound n)) (length_unbound n) ((along_even ts (triples_even graph triples)).wide (unbound n)) in
    subst (λ (l : List Solution). SameBag l (with_paths n graph paths (matches n triples graph)))
    (sym (along_append ts ps (unbound n) ∙ along_paths n graph paths (along ts (unbound n)) wide))
    (paths_same n graph paths (along ts (unbound n)) (matches n triples graph)
    (subst (λ (l : List Solution). SameBag l (matches n triples graph)) (sym (along_found graph triples (unbound n))) (found_is_matches n triples graph d lt)))

-- from any row of as many cells, of which none but the named ones are bound
pub run_joins : (width : ℕ) (graph : Graph) (pattern : BasicPattern) (a : Solution) → Distinct same_triple graph → AllBelow (width + pattern.hidden) pattern.triples → IsWide (width + pattern.hidden) a
    → ((v : ℕ) → width ≤ v → term_at a v ≡ None) → SameBag (map (take width) (along (run_of graph pattern.triples pattern.paths) a)) (merges (basic width pattern graph) (take width a))
run_joins width graph pattern a d lt e free =
    let f = along (run_of graph pattern.triples pattern.paths) in
    let n = width + pattern.hidden in
    let all = with_paths n graph pattern.paths (matches n pattern.triples graph) in
    subst (λ (l : List Solution). SameBag (map (take width) (f a)) l) (take_merges width all a free)
    (IsPermutation-map (take width) (f a) (merges all a)
    (subst (λ (l : List Solution). SameBag l (merges all a))
    (sym (by_merges f (run_even graph pattern.triples pattern.paths) a ∙ ap (λ k. merges (f (unbound k)) a) e))
    (merges_same (f (unbound n)) all a (run_is n graph pattern.triples pattern.paths d lt))))

-- A filter goes into the branches of a union before it and into the group of a join before it, and a conjunction is filters of its parts.
use Rattle.std.proofs.Common.{not, ◌≡◌, ℕ, zero, suc, ◌+◌, ◌≤◌, ◌<◌, Bool, true, false, ◌&&◌, cond, List, [], ◌∷◌, ◌++◌, map, take, length, get_or, Option, Some, None, IsSome, refl, sym, ◌∙◌, ap, subst, arith, append-nil}
use Rattle.std.specs.List.{AllByRecursion, flat_map, list_all}
use Rattle.std.proofs.lemmas.Grind.{flat_map-append}
use Rattle.std.proofs.lemmas.List.{get_or-take, length-set, take_more, take_all, map-append}
use Rattle.std.proofs.lemmas.List.Sorted.{IsPermutation-append, IsPermutation-map, list_any-IsPermutation}
use Rattle.qs_terms.specs.Bag.{SameBag}
use Rattle.qs_terms.specs.Statement.{Statement}
use Rattle.qs_terms.specs.declared.term.Term.{Term}
use Rattle.qs_terms.proofs.SameTerm.{same_term-Decides}
use Rattle.qs_expr_values.specs.inner.Values.{is_true}
use Rattle.qs_expr_meaning.specs.declared.expr.Expr.{Expr}
use Rattle.qs_expr_meaning.specs.declared.expr.Expr.TheVariants.{And}
use Rattle.qs_expr_meaning.specs.Meaning.{meaning, holds, truth}
use Rattle.qs_expr_meaning.specs.Truth.{both, every}
use Rattle.qs_expr_meaning.proofs.Equations.{and_is}
use Rattle.qs_expr_meaning.proofs.Truths.{truth_of}
use Rattle.qs_algebra_solutions.specs.Solution.{Solution, term_at, unbound, compatible_terms, compatible, merge}
use Rattle.qs_algebra_solutions.specs.inner.Solution.{first_bound}
use Rattle.qs_algebra_solutions.specs.Operators.{merges, excludes}
use Rattle.qs_algebra_patterns.specs.Basic.{Graph}
use Rattle.qs_algebra_patterns.specs.Eval.{all_hold}
use Rattle.qs_plan.specs.declared.certain.Size.{Size}
use Rattle.qs_plan_meaning.specs.declared.stage.Group.{Group}
use Rattle.qs_plan.specs.declared.plan_type.Plan.{Plan}
use Rattle.qs_plan_meaning.specs.declared.stage.Stage.{Stage}
use Rattle.qs_plan_meaning.specs.declared.stage.Stage.TheVariants as stage
use Rattle.qs_plan.specs.inner.Plans.{plan_list, SamePlan}
use Rattle.qs_plan_meaning.specs.inner.Stages.{Made, kept_if, only, aside, fed_rows, through}
use Rattle.qs_plan.specs.inner.Certain.{Bound, Begun, Binds, SameFrom}
use Rattle.qs_plan.specs.inner.Reads.{Agree, Settles}
use Rattle.qs_plan.proofs.Laying.{between, same}
use Rattle.qs_plan.proofs.Commutes.{all_map}
use Rattle.qs_plan.proofs.Levels.{gives_filter, gives_union, gives_optional, gives_fed, gives_minus, gives_apart, through_append, through_one, flat_ap}
use Rattle.qs_plan.proofs.Moving.{from_trans, from_append, begun_after}
use Rattle.qs_plan.proofs.Swaps.{pair, merges_pairs}
use Rattle.qs_plan.proofs.Operators.{filter_same, merges_same, alone_same}
use Rattle.qs_plan.proofs.Widths.{length_unbound, merge_at}

-- ---- conjunctions

true_both : (x y : Option Bool) → is_true (both x y) ≡ (is_true x && is_true y)
true_both (Some true) y = refl
true_both (Some false) y = refl
true_both None (Some true) = refl
true_both None (Some false) = refl
true_both None None = refl

true_every : (m : Solution) (es : List Expr) → is_true (every (map truth (map (meaning m) es))) ≡ list_all (holds m) es
true_every m [] = refl
true_every m (e ∷ es) = true_both (truth (meaning m e)) (every (map truth (map (meaning m) es))) ∙ ap (λ b. holds m e && b) (true_every m es)

-- a conjunction is true where each part is
pub holds_each : (m : Solution) (es : List Expr) → holds m (And es) ≡ list_all (holds m) es
holds_each m es = ap (λ x. is_true (truth x)) (and_is m es) ∙ (ap is_true (truth_of (every (map truth (map (meaning m) es)))) ∙ true_every m es)

module _ (width : ℕ) (quads : List Statement) (active : Graph) where
  pub filters_give : (es : List Expr) (m : Solution) → through width quads active (map stage.Filter es) m ≡ kept_if (list_all (holds (take width m)) es) m
  filters_give [] m = refl
  filters_give (e ∷ es) m = ap (flat_map (through width quads active (map stage.Filter es))) (gives_filter width quads active m e) ∙ at (holds (take width m) e) (filters_give es m)
    where
      at : (b : Bool) → through width quads active (map stage.Filter es) m ≡ kept_if (list_all (holds (take width m)) es) m → flat_map (through width quads active (map stage.Filter es)) (kept_if b m) ≡ kept_if (b && list_all (holds (take width m)) es) m
      at true h = append-nil (through width quads active (map stage.Filter es) m) ∙ h
      at false h = refl

module _ (size : Size) where
  -- ---- unions

  united : (quads : List Statement) (active : Graph) (gs : List Group) (m : Solution) → through size.width quads active (stage.Union gs ∷ []) m ≡ flat_map (λ (b : Group). through size.width quads active b.stages m) gs
  united quads active gs m = through_one size.width quads active (stage.Union gs) m ∙ gives_union size.width quads active m gs

  united_push : (quads : List Statement) (active : Graph) (gs : List Group) (g : Group) (m : Solution) → through size.width quads active (stage.Union (gs ++ g ∷ []) ∷ []) m ≡ through size.width quads active (stage.Union gs ∷ []) m ++ through size.width quads active g.stages m
  united_push quads active gs g m =
      united quads active (gs ++ g ∷ []) m
      ∙ (flat_map-append (λ (b : Group). through size.width quads active b.stages m) gs (g ∷ [])
      ∙ (ap (λ l. flat_map (λ (b : Group). through size.width quads active b.stages m) gs ++ l) (append-nil (through size.width quads active g.stages m))
      ∙ ap (λ l. l ++ through size.width quads active g.stages m) (sym (united quads active gs m))))

  module _ (given : List ℕ) (ts : List Stage) where
    filter_flat : (quads : List Statement) (active : Graph) (ss : List Stage) (m : Solution) → through size.width quads active (ss ++ ts) m ≡ flat_map (through size.width quads active ts) (through size.width quads active ss m)
    filter_flat quads active ss m = through_append size.width quads active ss ts m

    filtered_push : (quads : List Statement) (active : Graph) (gs : List Group) (g : Group) (m : Solution)
        → through size.width quads active (stage.Union (gs ++ g ∷ []) ∷ ts) m ≡ through size.width quads active (stage.Union gs ∷ ts) m ++ through size.width quads active (g.stages ++ ts) m
    filtered_push quads active gs g m =
        filter_flat quads active (stage.Union (gs ++ g ∷ []) ∷ []) m
        ∙ (ap (flat_map (through size.width quads active ts)) (united_push quads active gs g m)
        ∙ (flat_map-append (through size.width quads active ts) (through size.width quads active (stage.Union gs ∷ []) m) (through size.width quads active g.stages m)
        ∙ (ap (λ l. l ++ flat_map (through size.width quads active ts) (through size.width quads active g.stages m)) (sym (filter_flat quads active (stage.Union gs ∷ []) m))
        ∙ ap (λ l. through size.width quads active (stage.Union gs ∷ ts) m ++ l) (sym (filter_flat quads active g.stages m)))))

    pub branch_filtered : (done new branches : List Group) (i : ℕ) (b own : Group) → i < length branches → b ≡ get_or branches i b → new ≡ done ++ own ∷ [] → SameFrom size given (stage.Union done ∷ []) (stage.Union (take i branches) ∷ ts) → SameFrom size given own.stages (b.stages ++ ts)
        → SameFrom size given (stage.Union new ∷ []) (stage.Union (take (i + 1) branches) ∷ ts)
    branch_filtered done new branches i b own lt is n h k =
        subst (λ (l : List Group). SameFrom size given (stage.Union l ∷ []) (stage.Union (take (i + 1) branches) ∷ ts)) (sym n)
        (subst (λ (l : List Group). SameFrom size given (stage.Union (done ++ own ∷ []) ∷ []) (stage.Union l ∷ ts)) (sym (take_more branches i b lt ∙ ap (λ x. take i branches ++ x ∷ []) (sym is)))
        (record {
          same = λ quads active m w.
              between _ _ _ _ (united_push quads active done own m) (IsPermutation-append _ _ _ _ (h.same quads active m w) (k.same quads active m w)) (sym (filtered_push quads active (take i branches) b m));
        }))

    pub branches_begun : (done branches : List Group) → done ≡ [] → SameFrom size given (stage.Union done ∷ []) (stage.Union (take 0 branches) ∷ ts)
    branches_begun done branches d = subst (λ (l : List Group). SameFrom size given (stage.Union l ∷ []) (stage.Union [] ∷ ts)) (sym d) (record {
      same = λ quads active m w. same _ _ (united quads active [] m ∙ sym (filter_flat quads active (stage.Union [] ∷ []) m ∙ ap (flat_map (through size.width quads active ts)) (united quads active [] m)));
    })

  -- ---- joins

  compatible_at : (a b : Solution) (v : ℕ) → compatible a b ≡ true → compatible_terms (term_at a v) (term_at b v) ≡ true
  compatible_at [] b v h = refl
  compatible_at (x ∷ a) [] v h = none (term_at (x ∷ a) v)
    where
      none : (o : Option Term) → compatible_terms o None ≡ true
      none None = refl
      none (Some t) = refl
  compatible_at (x ∷ a) (y ∷ b) zero h = first (compatible_terms x y) (compatible a b) h
    where
      first : (c d : Bool) → (c && d) ≡ true → c ≡ true
      first true d k = refl
      first false d k = k
  compatible_at (x ∷ a) (y ∷ b) (suc v) h = compatible_at a b v (rest (compatible_terms x y) (compatible a b) h)
    where
      rest : (c d : Bool) → (c && d) ≡ true → d ≡ true
      rest true d k = k
      rest false d k = let f : false ≡ true = k in cc

  first_same : (x y : Option Term) → compatible_terms x y ≡ true → IsSome y → first_bound x y ≡ y
  first_same None y h s = refl
  first_same (Some x) None h s = let f : false ≡ true = s in cc
  first_same (Some x) (Some y) h s = ap Some ((same_term-Decides x y).0 h)

  -- what a row binds that is merged stays
  pub merged_alike : (m x : Solution) (v : ℕ) → compatible m x ≡ true → Bound v x → term_at (merge m x) v ≡ term_at x v
  merged_alike m x v c b = merge_at m x v ∙ first_same (term_at m v) (term_at x v) (compatible_at m x v c) b

  module _ (vs : List ℕ) (e : Expr) (settled : Settles vs e) (quads : List Statement) (active : Graph) (m : Solution) where
    abbrev Full : Solution → Type 0
    Full x = AllByRecursion (λ v. (v < size.width) × Bound v x) vs

    abbrev keep : Made
    keep q = kept_if (holds (take size.width q) e) q

    kept_each : (xs : List Solution) → flat_map (through size.width quads active (stage.Filter e ∷ [])) xs ≡ flat_map keep xs
    kept_each xs = flat_ap (through size.width quads active (stage.Filter e ∷ [])) keep (λ x. through_one size.width quads active (stage.Filter e) x ∙ gives_filter size.width quads active x e) xs

    agree_merged : (x : Solution) → compatible m (take size.width x) ≡ true → (us : List ℕ) → AllByRecursion (λ v. (v < size.width) × Bound v x) us → Agree us (take size.width x) (take size.width (merge m (take size.width x)))
    agree_merged x c [] h = tt
    agree_merged x c (u ∷ us) h = (
      get_or-take size.width (merge m (take size.width x)) u None h.0.0 ∙ merged_alike m (take size.width x) u c (subst IsSome (sym (get_or-take size.width x u None h.0.0)) h.0.1),
      agree_merged x c us h.1,
    )

    holds_merged : (x : Solution) → compatible m (take size.width x) ≡ true → Full x → holds (take size.width (merge m (take size.width x))) e ≡ holds (take size.width x) e
    holds_merged x c f =
        let k : meaning (take size.width (merge m (take size.width x))) e ≡ meaning (take size.width x) e = settled.same (take size.width x) (take size.width (merge m (take size.width x))) (agree_merged x c vs f) in cc

    one_inside : (x : Solution) → Full x → flat_map (pair m) (map (take size.width) (keep x)) ≡ flat_map keep (pair m (take size.width x))
    one_inside x f = at (holds (take size.width x) e) (compatible m (take size.width x)) refl refl
      where
        at : (b c : Bool) → holds (take size.width x) e ≡ b → compatible m (take size.width x) ≡ c → flat_map (pair m) (map (take size.width) (keep x)) ≡ flat_map keep (pair m (take size.width x))
        at true true i j =
            let k : holds (take size.width (merge m (take size.width x))) e ≡ true = holds_merged x j f ∙ i in
            ap (λ b. flat_map (pair m) (map (take size.width) (kept_if b x))) i
            ∙ (ap (λ c. cond c (merge m (take size.width x) ∷ []) [] ++ []) j
            ∙ sym (ap (λ c. flat_map keep (cond c (merge m (take size.width x) ∷ []) [])) j ∙ ap (λ b. kept_if b (merge m (take size.width x)) ++ []) k))
        at true false i j =
            ap (λ b. flat_map (pair m) (map (take size.width) (kept_if b x))) i ∙ (ap (λ c. cond c (merge m (take size.width x) ∷ []) [] ++ []) j ∙ sym (ap (λ c. flat_map keep (cond c (merge m (take size.width x) ∷ []) [])) j))
        at false true i j =
            let k : holds (take size.width (merge m (take size.width x))) e ≡ false = holds_merged x j f ∙ i in
            ap (λ b. flat_map (pair m) (map (take size.width) (kept_if b x))) i
            ∙ sym (ap (λ c. flat_map keep (cond c (merge m (take size.width x) ∷ []) [])) j ∙ ap (λ b. kept_if b (merge m (take size.width x)) ++ []) k)
        at false false i j =
            ap (λ b. flat_map (pair m) (map (take size.width) (kept_if b x))) i ∙ sym (ap (λ c. flat_map keep (cond c (merge m (take size.width x) ∷ []) [])) j)

    inside : (xs : List Solution) → AllByRecursion Full xs → flat_map (pair m) (map (take size.width) (flat_map keep xs)) ≡ flat_map keep (flat_map (pair m) (map (take size.width) xs))
    inside [] f = refl
    inside (x ∷ xs) f =
        ap (flat_map (pair m)) (map-append (take size.width) (keep x) (flat_map keep xs))
        ∙ (flat_map-append (pair m) (map (take size.width) (keep x)) (map (take size.width) (flat_map keep xs))
        ∙ (ap (λ l. l ++ flat_map (pair m) (map (take size.width) (flat_map keep xs))) (one_inside x f.0)
        ∙ (ap (λ l. flat_map keep (pair m (take size.width x)) ++ l) (inside xs f.1)
        ∙ sym (flat_map-append keep (pair m (take size.width x)) (flat_map (pair m) (map (take size.width) xs))))))

    filter_inside : (xs : List Solution) → AllByRecursion Full xs → merges (map (take size.width) (flat_map (through size.width quads active (stage.Filter e ∷ [])) xs)) m ≡ flat_map (through size.width quads active (stage.Filter e ∷ [])) (merges (map (take size.width) xs) m)
    filter_inside xs f =
        ap (λ l. merges (map (take size.width) l) m) (kept_each xs)
        ∙ (merges_pairs (map (take size.width) (flat_map keep xs)) m
        ∙ (inside xs f ∙ (ap (flat_map keep) (sym (merges_pairs (map (take size.width) xs) m)) ∙ sym (kept_each (merges (map (take size.width) xs) m)))))

  -- the rows of a group that binds the variables
  full_rows : (vs : List ℕ) (g : List Stage) → AllByRecursion (λ v. (v < size.width) × Binds size [] v g) vs → (quads : List Statement) (active : Graph) (m : Solution) → size.cells ≤ length m
      → AllByRecursion (λ x. AllByRecursion (λ v. (v < size.width) × Bound v x) vs) (through size.width quads active g m)
  full_rows vs g h quads active m w =
      all_map (Begun size vs) (λ x. AllByRecursion (λ v. (v < size.width) × Bound v x) vs) (λ x b. zip x vs h b.binds) (through size.width quads active g m)
      (begun_after size [] vs g (binds vs h) quads active m (record { wide = w; binds = tt }))
    where
      binds : (us : List ℕ) → AllByRecursion (λ v. (v < size.width) × Binds size [] v g) us → AllByRecursion (λ v. Binds size [] v g) us
      binds [] k = tt
      binds (u ∷ us) k = (k.0.1, binds us k.1)

      zip : (x : Solution) (us : List ℕ) → AllByRecursion (λ v. (v < size.width) × Binds size [] v g) us → AllByRecursion (λ v. Bound v x) us → AllByRecursion (λ v. (v < size.width) × Bound v x) us
      zip x [] k b = tt
      zip x (u ∷ us) k b = ((k.0.0, b.0), zip x us k.1 b.1)

  only_wide : (r : Option ℕ) (m : Solution) → length (only r m) ≡ length m
  only_wide None m = length_unbound (length m)
  only_wide (Some r) m = length-set (unbound (length m)) r (term_at m r) ∙ length_unbound (length m)

  pub apart_filtered : (given vs : List ℕ) (e : Expr) (r : Option ℕ) (g own : Group) → Settles vs e → AllByRecursion (λ v. (v < size.width) × Binds size [] v g.stages) vs → SameFrom size [] own.stages (g.stages ++ stage.Filter e ∷ [])
      → SameFrom size given (stage.Apart r own ∷ []) (stage.Apart r g ∷ stage.Filter e ∷ [])
  apart_filtered given vs e r g own settled full h = record {
    same = λ quads active m b.
        let w : size.cells ≤ length (only r m) = omega (arith, b.wide, only_wide r m) in
        between _ _ _ _
        (through_one size.width quads active (stage.Apart r own) m ∙ gives_apart size.width quads active m r own)
        (merges_same (aside size.width r (through size.width quads active own.stages) m) (aside size.width r (through size.width quads active (g.stages ++ stage.Filter e ∷ [])) m) m
        (IsPermutation-map (take size.width) (through size.width quads active own.stages (only r m)) (through size.width quads active (g.stages ++ stage.Filter e ∷ []) (only r m)) (h.same quads active (only r m) (record { wide = w; binds = tt }))))
        (ap (λ l. merges (map (take size.width) l) m) (through_append size.width quads active g.stages (stage.Filter e ∷ []) (only r m))
        ∙ (filter_inside vs e settled quads active m (through size.width quads active g.stages (only r m)) (full_rows vs g.stages full quads active (only r m) w)
        ∙ sym (through_append size.width quads active (stage.Apart r g ∷ []) (stage.Filter e ∷ []) m
        ∙ ap (flat_map (through size.width quads active (stage.Filter e ∷ []))) (through_one size.width quads active (stage.Apart r g) m ∙ gives_apart size.width quads active m r g))));
  }

  -- ---- groups

  pub placed_more : (done new stages : List Stage) (i : ℕ) (s one : Stage) → i < length stages → s ≡ get_or stages i s → SameFrom size [] done (take i stages) → SameFrom size [] (one ∷ []) (s ∷ []) → SameFrom size [] new (done ++ one ∷ []) → SameFrom size [] new (take (i + 1) stages)
  placed_more done new stages i s one lt is a b c =
      subst (λ (l : List Stage). SameFrom size [] new l) (sym (take_more stages i s lt ∙ ap (λ x. take i stages ++ x ∷ []) (sym is)))
      (from_trans size [] new (done ++ one ∷ []) (take i stages ++ s ∷ []) c (from_append size done (take i stages) (one ∷ []) (s ∷ []) a b))

  pub placed_all : (done stages : List Stage) (i : ℕ) → length stages ≤ i → SameFrom size [] done (take i stages) → SameFrom size [] done stages
  placed_all done stages i le h = subst (SameFrom size [] done) (take_all i stages le) h

  pub branch_placed : (done new branches : List Group) (i : ℕ) (b own : Group) → i < length branches → b ≡ get_or branches i b → new ≡ done ++ own ∷ [] → SameFrom size [] (stage.Union done ∷ []) (stage.Union (take i branches) ∷ []) → SameFrom size [] own.stages b.stages
      → SameFrom size [] (stage.Union new ∷ []) (stage.Union (take (i + 1) branches) ∷ [])
  branch_placed done new branches i b own lt is n h k =
      subst (λ (l : List Group). SameFrom size [] (stage.Union l ∷ []) (stage.Union (take (i + 1) branches) ∷ [])) (sym n)
      (subst (λ (l : List Group). SameFrom size [] (stage.Union (done ++ own ∷ []) ∷ []) (stage.Union l ∷ [])) (sym (take_more branches i b lt ∙ ap (λ x. take i branches ++ x ∷ []) (sym is)))
      (record {
        same = λ quads active m w.
            between _ _ _ _ (united_push quads active done own m) (IsPermutation-append _ _ _ _ (h.same quads active m w) (k.same quads active m w)) (sym (united_push quads active (take i branches) b m));
      }))

  pub branches_placed : (done branches : List Group) (i : ℕ) → length branches ≤ i → SameFrom size [] (stage.Union done ∷ []) (stage.Union (take i branches) ∷ []) → SameFrom size [] (stage.Union done ∷ []) (stage.Union branches ∷ [])
  branches_placed done branches i le h = subst (λ (l : List Group). SameFrom size [] (stage.Union done ∷ []) (stage.Union l ∷ [])) (take_all i branches le) h

  module _ (r : Option ℕ) (own g : Group) (h : SameFrom size [] own.stages g.stages) where
    aside_from : (quads : List Statement) (active : Graph) (m : Solution) → size.cells ≤ length m → SameBag (aside size.width r (through size.width quads active own.stages) m) (aside size.width r (through size.width quads active g.stages) m)
    aside_from quads active m w = IsPermutation-map (take size.width) (through size.width quads active own.stages (only r m)) (through size.width quads active g.stages (only r m)) (h.same quads active (only r m) (record { wide = omega (arith, w, only_wide r m); binds = tt }))

    pub optional_placed : (s : Stage) (conditions cs : List Expr) → s ≡ stage.Optional r g conditions → cs ≡ conditions → SameFrom size [] (stage.Optional r own cs ∷ []) (s ∷ [])
    optional_placed s conditions cs is e =
        subst (λ (x : Stage). SameFrom size [] (stage.Optional r own cs ∷ []) (x ∷ [])) (sym is)
        (subst (λ (l : List Expr). SameFrom size [] (stage.Optional r own l ∷ []) (stage.Optional r g conditions ∷ [])) (sym e) (record {
          same = λ quads active m b.
              between _ _ _ _
              (through_one size.width quads active (stage.Optional r own conditions) m ∙ gives_optional size.width quads active m r own conditions)
              (alone_same m _ _ (filter_same (λ n. all_hold conditions (take size.width n)) _ _ (merges_same (aside size.width r (through size.width quads active own.stages) m) (aside size.width r (through size.width quads active g.stages) m) m (aside_from quads active m b.wide))))
              (sym (through_one size.width quads active (stage.Optional r g conditions) m ∙ gives_optional size.width quads active m r g conditions));
        }))

    pub minus_placed : (s : Stage) → s ≡ stage.Minus r g → SameFrom size [] (stage.Minus r own ∷ []) (s ∷ [])
    minus_placed s is = subst (λ (x : Stage). SameFrom size [] (stage.Minus r own ∷ []) (x ∷ [])) (sym is) (record {
      same = λ quads active m b.
          same _ _
          (through_one size.width quads active (stage.Minus r own) m
          ∙ (gives_minus size.width quads active m r own
          ∙ (ap (λ b. kept_if (not b) m) (list_any-IsPermutation (excludes (take size.width m)) _ _ (aside_from quads active m b.wide))
          ∙ sym (through_one size.width quads active (stage.Minus r g) m ∙ gives_minus size.width quads active m r g))));
    })

    pub apart_placed : (s : Stage) → s ≡ stage.Apart r g → SameFrom size [] (stage.Apart r own ∷ []) (s ∷ [])
    apart_placed s is = subst (λ (x : Stage). SameFrom size [] (stage.Apart r own ∷ []) (x ∷ [])) (sym is) (record {
      same = λ quads active m b.
          between _ _ _ _
          (through_one size.width quads active (stage.Apart r own) m ∙ gives_apart size.width quads active m r own)
          (merges_same (aside size.width r (through size.width quads active own.stages) m) (aside size.width r (through size.width quads active g.stages) m) m (aside_from quads active m b.wide))
          (sym (through_one size.width quads active (stage.Apart r g) m ∙ gives_apart size.width quads active m r g));
    })

-- a group that is fed the row
pub fed_placed : (size : Size) (own g : Group) → SameFrom size [] own.stages g.stages → (s : Stage) (conditions cs : List Expr) → s ≡ stage.Fed g conditions → cs ≡ conditions → SameFrom size [] (stage.Fed own cs ∷ []) (s ∷ [])
fed_placed size own g h s conditions cs is e =
    subst (λ (x : Stage). SameFrom size [] (stage.Fed own cs ∷ []) (x ∷ [])) (sym is)
    (subst (λ (l : List Expr). SameFrom size [] (stage.Fed own l ∷ []) (stage.Fed g conditions ∷ [])) (sym e) (record {
      same = λ quads active m b.
          between _ _ _ _
          (through_one size.width quads active (stage.Fed own conditions) m ∙ gives_fed size.width quads active m own conditions)
          (alone_same m _ _ (filter_same (λ n. all_hold conditions (take size.width n)) _ _ (merges_same (fed_rows size.width (through size.width quads active own.stages) m) (fed_rows size.width (through size.width quads active g.stages) m) m
          (IsPermutation-map (take size.width) (through size.width quads active own.stages m) (through size.width quads active g.stages m) (h.same quads active m b)))))
          (sym (through_one size.width quads active (stage.Fed g conditions) m ∙ gives_fed size.width quads active m g conditions));
    }))

-- ---- plans

pub plan_from : (plan other : Plan) (size : Size) → plan.width ≡ size.width → other.width ≡ size.width → plan.cells ≡ size.cells → other.cells ≡ size.cells → SameFrom size [] plan.stages other.stages → SamePlan plan other
plan_from plan other size w v c d h = record {
  same = λ quads active.
      subst (λ (n : ℕ). SameBag (map (take n) (through n quads active plan.stages (unbound plan.cells))) (plan_list other quads active)) (sym w)
      (subst (λ (n : ℕ). SameBag (map (take size.width) (through size.width quads active plan.stages (unbound n))) (plan_list other quads active)) (sym c)
      (subst (λ (n : ℕ). SameBag (map (take size.width) (through size.width quads active plan.stages (unbound size.cells))) (map (take n) (through n quads active other.stages (unbound other.cells)))) (sym v)
      (subst (λ (n : ℕ). SameBag (map (take size.width) (through size.width quads active plan.stages (unbound size.cells))) (map (take size.width) (through size.width quads active other.stages (unbound n)))) (sym d)
      (IsPermutation-map (take size.width) (through size.width quads active plan.stages (unbound size.cells)) (through size.width quads active other.stages (unbound size.cells))
      (h.same quads active (unbound size.cells) (record { wide = omega (arith, length_unbound size.cells); binds = tt }))))));
}

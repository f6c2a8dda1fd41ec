-- Stages of which the groups are exchanged for others that make the same.
use Rattle.std.proofs.Common.{arith, ◌≡◌, ℕ, ◌+◌, ◌<◌, ◌≤◌, not, List, [], ◌∷◌, ◌++◌, map, take, length, get_or, Option, sym, ◌∙◌, ap, subst, append-nil, zero, suc, None, Some, slice_get}
use Rattle.std.specs.List.{AllByRecursion, flat_map, remove}
use Rattle.std.proofs.lemmas.Grind.{flat_map-append}
use Rattle.std.proofs.lemmas.List.{length-set, take_more, take_all}
use Rattle.std.proofs.lemmas.List.Sorted.{IsPermutation-append, IsPermutation-map, IsPermutation-refl, list_any-IsPermutation}
use Rattle.qs_terms.specs.Bag.{SameBag}
use Rattle.qs_terms.specs.Statement.{Statement}
use Rattle.qs_expr_meaning.specs.declared.expr.Expr.{Expr}
use Rattle.qs_algebra_solutions.specs.Solution.{Solution, term_at, unbound}
use Rattle.qs_algebra_solutions.specs.Operators.{excludes}
use Rattle.qs_algebra_patterns.specs.Basic.{Graph}
use Rattle.qs_algebra_patterns.specs.Eval.{all_hold}
use Rattle.qs_algebra_patterns.specs.declared.pattern.PathPattern.{PathPattern}
use Rattle.qs_algebra_patterns.specs.declared.pattern.TriplePattern.{TriplePattern}
use Rattle.qs_plan_meaning.specs.declared.stage.Look.{Look}
use Rattle.qs_plan_meaning.specs.inner.Stages.{register_of}
use Rattle.qs_plan_meaning.specs.declared.stage.Group.{Group}
use Rattle.qs_plan.specs.declared.plan_type.Plan.{Plan}
use Rattle.qs_plan_meaning.specs.declared.stage.Stage.{Stage}
use Rattle.qs_plan_meaning.specs.declared.stage.Stage.TheVariants as stage
use Rattle.qs_plan.specs.inner.Plans.{plan_list, SamePlan}
use Rattle.qs_plan_meaning.specs.inner.Stages.{kept_if, only, aside, fed_rows, through}
use Rattle.qs_plan.specs.inner.Sames.{SameStages, IsScan, Misses}
use Rattle.qs_plan.proofs.Laying.{between, same}
use Rattle.qs_plan.proofs.Levels.{gives_union, gives_optional, gives_fed, gives_minus, gives_apart, through_one}
use Rattle.qs_plan.proofs.Operators.{filter_same, merges_same, alone_same}
use Rattle.qs_plan.proofs.Widths.{length_unbound}
use Rattle.qs_plan.proofs.Swaps.{same_refl, triple_scan, path_scan, one_brought, scans_left}

pub same_as : (s t : Stage) → s ≡ t → SameStages (s ∷ []) (t ∷ [])
same_as s t e = subst (λ (x : Stage). SameStages (s ∷ []) (x ∷ [])) e (same_refl (s ∷ []))

only_long : (r : Option ℕ) (m : Solution) → length (only r m) ≡ length m
only_long None m = length_unbound (length m)
only_long (Some r) m = length-set (unbound (length m)) r (term_at m r) ∙ length_unbound (length m)

module _ (ss ts : List Stage) (h : SameStages ss ts) (r : Option ℕ) where
  aside_same : (width : ℕ) (quads : List Statement) (active : Graph) (m : Solution) → width ≤ length m → SameBag (aside width r (through width quads active ss) m) (aside width r (through width quads active ts) m)
  aside_same width quads active m w = IsPermutation-map (take width) (through width quads active ss (only r m)) (through width quads active ts (only r m)) (h.same width quads active (only r m) (omega (arith, w, only_long r m)))

  pub optional_same : (conditions cs : List Expr) → cs ≡ conditions → SameStages (stage.Optional r (record { stages = ss }) cs ∷ []) (stage.Optional r (record { stages = ts }) conditions ∷ [])
  optional_same conditions cs e = subst (λ (l : List Expr). SameStages (stage.Optional r (record { stages = ss }) l ∷ []) (stage.Optional r (record { stages = ts }) conditions ∷ [])) (sym e) (record {
    same = λ width quads active m w.
        between _ _ _ _
        (through_one width quads active (stage.Optional r (record { stages = ss }) conditions) m ∙ gives_optional width quads active m r (record { stages = ss }) conditions)
        (alone_same m _ _ (filter_same (λ n. all_hold conditions (take width n)) _ _ (merges_same (aside width r (through width quads active ss) m) (aside width r (through width quads active ts) m) m (aside_same width quads active m w))))
        (sym (through_one width quads active (stage.Optional r (record { stages = ts }) conditions) m ∙ gives_optional width quads active m r (record { stages = ts }) conditions));
  })

  pub minus_same : SameStages (stage.Minus r (record { stages = ss }) ∷ []) (stage.Minus r (record { stages = ts }) ∷ [])
  minus_same = record {
    same = λ width quads active m w.
        same _ _
        (through_one width quads active (stage.Minus r (record { stages = ss })) m
        ∙ (gives_minus width quads active m r (record { stages = ss })
        ∙ (ap (λ b. kept_if (not b) m) (list_any-IsPermutation (excludes (take width m)) _ _ (aside_same width quads active m w))
        ∙ sym (through_one width quads active (stage.Minus r (record { stages = ts })) m ∙ gives_minus width quads active m r (record { stages = ts })))));
  }

  pub apart_same : SameStages (stage.Apart r (record { stages = ss }) ∷ []) (stage.Apart r (record { stages = ts }) ∷ [])
  apart_same = record {
    same = λ width quads active m w.
        between _ _ _ _
        (through_one width quads active (stage.Apart r (record { stages = ss })) m ∙ gives_apart width quads active m r (record { stages = ss }))
        (merges_same (aside width r (through width quads active ss) m) (aside width r (through width quads active ts) m) m (aside_same width quads active m w))
        (sym (through_one width quads active (stage.Apart r (record { stages = ts })) m ∙ gives_apart width quads active m r (record { stages = ts })));
  }

pub fed_same : (ss ts : List Stage) → SameStages ss ts → (conditions cs : List Expr) → cs ≡ conditions → SameStages (stage.Fed (record { stages = ss }) cs ∷ []) (stage.Fed (record { stages = ts }) conditions ∷ [])
fed_same ss ts h conditions cs e = subst (λ (l : List Expr). SameStages (stage.Fed (record { stages = ss }) l ∷ []) (stage.Fed (record { stages = ts }) conditions ∷ [])) (sym e) (record {
  same = λ width quads active m w.
      between _ _ _ _
      (through_one width quads active (stage.Fed (record { stages = ss }) conditions) m ∙ gives_fed width quads active m (record { stages = ss }) conditions)
      (alone_same m _ _ (filter_same (λ n. all_hold conditions (take width n)) _ _ (merges_same (fed_rows width (through width quads active ss) m) (fed_rows width (through width quads active ts) m) m
      (IsPermutation-map (take width) (through width quads active ss m) (through width quads active ts m) (h.same width quads active m w)))))
      (sym (through_one width quads active (stage.Fed (record { stages = ts }) conditions) m ∙ gives_fed width quads active m (record { stages = ts }) conditions));
})

-- one branch more
pub branch_more : (done new branches : List Group) (i : ℕ) (b : Group) (ss : List Stage) → i < length branches → b ≡ get_or branches i b → new ≡ done ++ record { stages = ss } ∷ [] → SameStages (stage.Union done ∷ []) (stage.Union (take i branches) ∷ []) → SameStages ss b.stages
    → SameStages (stage.Union new ∷ []) (stage.Union (take (i + 1) branches) ∷ [])
branch_more done new branches i b ss lt is e h k =
    subst (λ (l : List Group). SameStages (stage.Union l ∷ []) (stage.Union (take (i + 1) branches) ∷ [])) (sym e)
    (subst (λ (l : List Group). SameStages (stage.Union (done ++ record { stages = ss } ∷ []) ∷ []) (stage.Union l ∷ [])) (sym (take_more branches i b lt ∙ ap (λ x. take i branches ++ x ∷ []) (sym is)))
    (record { same = λ width quads active m w. between _ _ _ _ (rows width quads active m done (record { stages = ss })) (IsPermutation-append _ _ _ _ (h.same width quads active m w) (k.same width quads active m w)) (sym (rows width quads active m (take i branches) b)) }))
  where
    rows : (width : ℕ) (quads : List Statement) (active : Graph) (m : Solution) (gs : List Group) (g : Group) → through width quads active (stage.Union (gs ++ g ∷ []) ∷ []) m ≡ through width quads active (stage.Union gs ∷ []) m ++ through width quads active g.stages m
    rows width quads active m gs g =
        through_one width quads active (stage.Union (gs ++ g ∷ [])) m
        ∙ (gives_union width quads active m (gs ++ g ∷ [])
        ∙ (flat_map-append (λ (b : Group). through width quads active b.stages m) gs (g ∷ [])
        ∙ (ap (λ l. flat_map (λ (b : Group). through width quads active b.stages m) gs ++ l) (append-nil (through width quads active g.stages m))
        ∙ ap (λ l. l ++ through width quads active g.stages m) (sym (through_one width quads active (stage.Union gs) m ∙ gives_union width quads active m gs)))))

pub no_branches : (done branches : List Group) → done ≡ [] → SameStages (stage.Union done ∷ []) (stage.Union (take 0 branches) ∷ [])
no_branches done branches e = subst (λ (l : List Group). SameStages (stage.Union l ∷ []) (stage.Union [] ∷ [])) (sym e) (same_refl (stage.Union [] ∷ []))

-- plans of the same stages
pub same_plan : (plan other : Plan) → plan.width ≡ other.width → plan.cells ≡ other.cells → plan.width ≤ plan.cells → SameStages plan.stages other.stages → SamePlan plan other
same_plan plan other w c long h = record {
  same = λ quads active.
      subst (λ (n : ℕ). SameBag (plan_list plan quads active) (map (take n) (through n quads active other.stages (unbound other.cells)))) w
      (subst (λ (n : ℕ). SameBag (plan_list plan quads active) (map (take plan.width) (through plan.width quads active other.stages (unbound n)))) c
      (IsPermutation-map (take plan.width) (through plan.width quads active plan.stages (unbound plan.cells)) (through plan.width quads active other.stages (unbound plan.cells)) (h.same plan.width quads active (unbound plan.cells) (omega (arith, long, length_unbound plan.cells)))));
}

-- a plan and its copy
pub same_copy : (plan other : Plan) → plan ≡ other → SamePlan plan other
same_copy plan other e = subst (SamePlan plan) e (record { same = λ quads active. IsPermutation-refl (plan_list plan quads active) })

-- ---- the arms of the functions that order runs

pub optional_arm : (s : Stage) (r : Option ℕ) (g own : Group) (conditions cs : List Expr) → s ≡ stage.Optional r g conditions → cs ≡ conditions → SameStages own.stages g.stages → SameStages (stage.Optional r own cs ∷ []) (s ∷ [])
optional_arm s r g own conditions cs is e h = subst (λ (x : Stage). SameStages (stage.Optional r own cs ∷ []) (x ∷ [])) (sym is) (optional_same own.stages g.stages h r conditions cs e)

pub fed_arm : (s : Stage) (g own : Group) (conditions cs : List Expr) → s ≡ stage.Fed g conditions → cs ≡ conditions → SameStages own.stages g.stages → SameStages (stage.Fed own cs ∷ []) (s ∷ [])
fed_arm s g own conditions cs is e h = subst (λ (x : Stage). SameStages (stage.Fed own cs ∷ []) (x ∷ [])) (sym is) (fed_same own.stages g.stages h conditions cs e)

pub minus_arm : (s : Stage) (r : Option ℕ) (g own : Group) → s ≡ stage.Minus r g → SameStages own.stages g.stages → SameStages (stage.Minus r own ∷ []) (s ∷ [])
minus_arm s r g own is h = subst (λ (x : Stage). SameStages (stage.Minus r own ∷ []) (x ∷ [])) (sym is) (minus_same own.stages g.stages h r)

pub apart_arm : (s : Stage) (r : Option ℕ) (g own : Group) → s ≡ stage.Apart r g → SameStages own.stages g.stages → SameStages (stage.Apart r own ∷ []) (s ∷ [])
apart_arm s r g own is h = subst (λ (x : Stage). SameStages (stage.Apart r own ∷ []) (x ∷ [])) (sym is) (apart_same own.stages g.stages h r)

pub branches_end : (done : List Group) (branches : List Group) (i : ℕ) → length branches ≤ i → SameStages (stage.Union done ∷ []) (stage.Union (take i branches) ∷ []) → SameStages (stage.Union done ∷ []) (stage.Union branches ∷ [])
branches_end done branches i h a = subst (λ (l : List Group). SameStages (stage.Union done ∷ []) (stage.Union l ∷ [])) (take_all i branches h) a

pub triple_is_scan : (r : Option ℕ) (s : Stage) (place : Look) (p : TriplePattern) → s ≡ stage.Triple place p → register_of place ≡ r → Misses r p.subject × (Misses r p.predicate × Misses r p.object) → IsScan r s
triple_is_scan r s place p is e h = subst (IsScan r) (sym is) (triple_scan r place p e h.0 h.1.0 h.1.1)

pub path_is_scan : (r : Option ℕ) (s : Stage) (place : Look) (p : PathPattern) → s ≡ stage.Path place p → register_of place ≡ r → Misses r p.subject × Misses r p.object → IsScan r s
path_is_scan r s place p is e h = subst (IsScan r) (sym is) (path_scan r place p e h.0 h.1)

got : (ss : List Stage) (i : ℕ) (s : Stage) → slice_get ss i ≡ Some s → s ≡ get_or ss i s
got [] i s h = let f : None ≡ Some s = h in cc
got (t ∷ ss) zero s h = let e : t ≡ s = cc in sym e
got (t ∷ ss) (suc i) s h = got ss i s h

-- one more of a run, and fewer left
pub run_more : (r : Option ℕ) (done new before left rest : List Stage) (i : ℕ) (s : Stage) → i < length left → slice_get left i ≡ Some s → AllByRecursion (IsScan r) left → new ≡ done ++ s ∷ [] → rest ≡ remove left i → SameStages (done ++ left) before → SameStages (new ++ rest) before
run_more r done new before left rest i s lt is h e f a = one_brought r done new before left rest i s lt (got left i s is) h e f a

pub run_less : (r : Option ℕ) (left rest : List Stage) (i : ℕ) → AllByRecursion (IsScan r) left → rest ≡ remove left i → AllByRecursion (IsScan r) rest
run_less r left rest i h f = subst (AllByRecursion (IsScan r)) (sym f) (scans_left r left i h)

-- Scans one after another are a scan, and so is a union of such.
use Rattle.std.proofs.Common.{◌≡◌, ℕ, ◌≤◌, true, List, [], ◌∷◌, ◌++◌, length, Option, refl, sym, ◌∙◌, ap, subst, arith}
use Rattle.std.specs.List.{AllByRecursion, flat_map}
use Rattle.qs_terms.specs.Statement.{Statement}
use Rattle.qs_terms.specs.declared.term.Term.{Term}
use Rattle.qs_algebra_solutions.specs.Solution.{Solution, compatible, merge}
use Rattle.qs_algebra_solutions.specs.Operators.{merges}
use Rattle.qs_algebra_patterns.specs.Basic.{Graph}
use Rattle.qs_plan_meaning.specs.declared.stage.Group.{Group}
use Rattle.qs_plan_meaning.specs.declared.stage.Stage.{Stage}
use Rattle.qs_plan_meaning.specs.declared.stage.Stage.TheVariants as stage
use Rattle.qs_plan_meaning.specs.inner.Stages.{gives, through}
use Rattle.qs_plan.specs.inner.Sames.{held, Stays, IsScan}
use Rattle.qs_plan.proofs.Commutes.{all_map, all_flat, merges_append, merges_joined}
use Rattle.qs_plan.proofs.Levels.{gives_union}
use Rattle.qs_plan.proofs.Swaps.{flat_on, stays_refl, stays_trans}
use Rattle.qs_plan.proofs.Widths.{all_append}

pub nil_right : (a : Solution) → compatible a [] ≡ true
nil_right [] = refl
nil_right (x ∷ a) = refl

pub nil_merge : (a : Solution) → merge a [] ≡ a
nil_merge [] = refl
nil_merge (x ∷ a) = refl

-- a row merged with the solution of no cells
nil_merges : (m : Solution) → m ∷ [] ≡ merges ([] ∷ []) m
nil_merges m = let c : compatible m [] ≡ true = nil_right m in simp c (ap (λ (q : Solution). q ∷ []) (sym (nil_merge m)))

module _ (r : Option ℕ) where
  abbrev Scans : Group → Type 0
  Scans g = AllByRecursion (IsScan r) g.stages

  -- the rows of scans, one after another
  abbrev pub rows_along : (ss : List Stage) → AllByRecursion (IsScan r) ss → ℕ → List Statement → Graph → Option Term → ℕ → List Solution
  rows_along [] h width quads active o n = [] ∷ []
  rows_along (s ∷ ss) h width quads active o n = flat_map (merges (rows_along ss h.1 width quads active o n)) (h.0.rows width quads active o n)

  -- the rows of a union of such
  abbrev rows_each : (gs : List Group) → AllByRecursion Scans gs → ℕ → List Statement → Graph → Option Term → ℕ → List Solution
  rows_each [] h width quads active o n = []
  rows_each (g ∷ gs) h width quads active o n = rows_along g.stages h.0 width quads active o n ++ rows_each gs h.1 width quads active o n

  module _ (width : ℕ) (quads : List Statement) (active : Graph) where
    pub along_gives : (ss : List Stage) (h : AllByRecursion (IsScan r) ss) (m : Solution) → width ≤ length m → through width quads active ss m ≡ merges (rows_along ss h width quads active (held r m) (length m)) m
    along_gives [] h m w = nil_merges m
    along_gives (s ∷ ss) h m w =
        let rows = rows_along ss h.1 width quads active (held r m) (length m) in
        flat_on (Stays r m) (through width quads active ss) (merges rows)
        (λ q a. along_gives ss h.1 q (omega (arith, w, a.wide))
        ∙ (ap (λ o. merges (rows_along ss h.1 width quads active o (length q)) q) a.holds ∙ ap (λ n. merges (rows_along ss h.1 width quads active (held r m) n) q) a.wide))
        (gives width quads active s m) (h.0.stays width quads active m w)
        ∙ (ap (flat_map (merges rows)) (h.0.gives_rows width quads active m w) ∙ merges_joined (h.0.rows width quads active (held r m) (length m)) rows m)

    pub along_stays : (ss : List Stage) → AllByRecursion (IsScan r) ss → (m : Solution) → width ≤ length m → AllByRecursion (Stays r m) (through width quads active ss m)
    along_stays [] h m w = (stays_refl r m, tt)
    along_stays (s ∷ ss) h m w =
        all_flat (Stays r m) (Stays r m) (through width quads active ss)
        (λ q a. all_map (Stays r q) (Stays r m) (λ p b. stays_trans r m q p a b) (through width quads active ss q) (along_stays ss h.1 q (omega (arith, w, a.wide)))) (gives width quads active s m) (h.0.stays width quads active m w)

    each_gives : (gs : List Group) (h : AllByRecursion Scans gs) (m : Solution) → width ≤ length m → flat_map (λ (g : Group). through width quads active g.stages m) gs ≡ merges (rows_each gs h width quads active (held r m) (length m)) m
    each_gives [] h m w = refl
    each_gives (g ∷ gs) h m w =
        ap (λ l. l ++ flat_map (λ (g : Group). through width quads active g.stages m) gs) (along_gives g.stages h.0 m w)
        ∙ (ap (λ l. merges (rows_along g.stages h.0 width quads active (held r m) (length m)) m ++ l) (each_gives gs h.1 m w)
        ∙ sym (merges_append m (rows_along g.stages h.0 width quads active (held r m) (length m)) (rows_each gs h.1 width quads active (held r m) (length m))))

    each_stays : (gs : List Group) → AllByRecursion Scans gs → (m : Solution) → width ≤ length m → AllByRecursion (Stays r m) (flat_map (λ (g : Group). through width quads active g.stages m) gs)
    each_stays [] h m w = tt
    each_stays (g ∷ gs) h m w =
        all_append (Stays r m) (through width quads active g.stages m) (flat_map (λ (g : Group). through width quads active g.stages m) gs) (along_stays g.stages h.0 m w) (each_stays gs h.1 m w)

-- a union of which each branch holds scans alone
pub union_is_scan : (r : Option ℕ) (s : Stage) (branches bs : List Group) → s ≡ stage.Union branches → bs ≡ branches → AllByRecursion (λ g. AllByRecursion (IsScan r) g.stages) bs → IsScan r s
union_is_scan r s branches bs is e k = subst (IsScan r) (sym is) (of_all (subst (AllByRecursion (λ (g : Group). AllByRecursion (IsScan r) g.stages)) e k))
  where
    of_all : AllByRecursion (λ (g : Group). AllByRecursion (IsScan r) g.stages) branches → IsScan r (stage.Union branches)
    of_all h = record {
      rows = λ width quads active o n. rows_each r branches h width quads active o n;
      gives_rows = λ width quads active m w. gives_union width quads active m branches ∙ each_gives r width quads active branches h m w;
      stays = λ width quads active m w. subst (AllByRecursion (Stays r m)) (sym (gives_union width quads active m branches)) (each_stays r width quads active branches h m w);
    }

-- A basic graph pattern with a triple that has a variable past the last has no solutions.
use Rattle.std.proofs.Common.{◌≡◌, ℕ, ◌+◌, ◌≤◌, Bool, false, List, [], ◌∷◌, map, take, refl, sym, ap, subst}
use Rattle.std.specs.List.{AllByRecursion}
use Rattle.std.proofs.lemmas.List.Sorted.{IsPermutation-map}
use Rattle.qs_terms.specs.Bag.{SameBag}
use Rattle.qs_algebra_patterns.specs.declared.pattern.BasicPattern.{BasicPattern}
use Rattle.qs_algebra_patterns.specs.declared.pattern.PathPattern.{PathPattern}
use Rattle.qs_algebra_patterns.specs.declared.pattern.PatternNode.TheVariants.{Basic}
use Rattle.qs_algebra_patterns.specs.Basic.{Graph, basic, with_paths, matches}
use Rattle.qs_algebra_patterns.proofs.Meaning.{eval_basic}
use Rattle.qs_algebra_solutions.specs.Solution.{Solution}
use Rattle.qs_algebra_solutions.specs.Operators.{merges}
use Rattle.qs_plan_meaning.specs.declared.stage.Look.{Look}
use Rattle.qs_plan_meaning.specs.declared.stage.Stage.{Stage}
use Rattle.qs_plan_meaning.specs.declared.stage.Stage.TheVariants as stage
use Rattle.qs_plan_meaning.specs.inner.Stages.{looked}
use Rattle.qs_plan.specs.inner.Below.{all_below}
use Rattle.qs_plan.specs.inner.Lays.{After, Lays, joined_with}
use Rattle.qs_plan.proofs.Laying.{between, stage_lays}
use Rattle.qs_plan.proofs.Levels.{gives_union}
use Rattle.qs_plan.proofs.Operators.{merges_same}
use Rattle.qs_plan.proofs.Past.{none_past}
use Rattle.qs_plan.proofs.Runs.{paths_same}

no_left : (n : ℕ) (graph : Graph) (paths : List PathPattern) → with_paths n graph paths [] ≡ []
no_left n graph [] = refl
no_left n graph (p ∷ paths) = no_left n graph paths

no_solutions : (width : ℕ) (pattern : BasicPattern) (graph : Graph) → all_below (width + pattern.hidden) pattern.triples ≡ false → SameBag [] (basic width pattern graph)
no_solutions width pattern graph h =
    let n = width + pattern.hidden in
    subst (λ (l : List Solution). SameBag (map (take width) l) (basic width pattern graph)) (no_left n graph pattern.paths)
    (IsPermutation-map (take width) (with_paths n graph pattern.paths []) (with_paths n graph pattern.paths (matches n pattern.triples graph))
    (paths_same n graph pattern.paths [] (matches n pattern.triples graph) (none_past n pattern.triples graph h)))

pub no_run : (first : Bool) (width : ℕ) (place : Look) (from next : ℕ) (pattern : BasicPattern) (stages : List Stage) → width ≤ from → from ≤ next → all_below (width + pattern.hidden) pattern.triples ≡ false → stages ≡ stage.Union [] ∷ []
    → Lays first width place from next stages (joined_with width (Basic pattern))
no_run first width place from next pattern stages named up below e =
    subst (λ (ss : List Stage). Lays first width place from next ss (joined_with width (Basic pattern))) (sym e)
    (stage_lays first width place from next named up (stage.Union []) (joined_with width (Basic pattern))
    (λ quads active m r. subst (AllByRecursion (After width from next m)) (sym (gives_union width quads active m [])) tt)
    (λ quads active d k m r.
    (let graph = looked quads active place m in
    between _ (merges [] (take width m)) _ (merges (basic width pattern graph) (take width m))
    (ap (map (take width)) (gives_union width quads active m []))
    (merges_same [] (basic width pattern graph) (take width m) (no_solutions width pattern graph below))
    (ap (λ l. merges l (take width m)) (sym (eval_basic width quads graph pattern))))))

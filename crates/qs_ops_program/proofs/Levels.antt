-- What stages make of a row, by their variants.
use Rattle.std.proofs.Common.{rules, ◌≡◌, ℕ, not, List, [], ◌∷◌, ◌++◌, map, take, drop, Option, refl, sym, ◌∙◌, ap, append-nil}
use Rattle.std.specs.List.{filter, flat_map, list_any}
use Rattle.std.proofs.lemmas.List.Folds.{flat_map-map}
use Rattle.qs_terms.specs.Statement.{Statement}
use Rattle.qs_terms.specs.declared.term.Term.{Term}
use Rattle.qs_algebra_solutions.specs.Solution.{Solution, term_at, binding}
use Rattle.qs_algebra_solutions.specs.Operators.{merges, or_alone, excludes}
use Rattle.qs_expr_meaning.specs.Meaning.{holds}
use Rattle.qs_expr_meaning.specs.declared.expr.Expr.{Expr}
use Rattle.qs_algebra_patterns.specs.Basic.{Graph}
use Rattle.qs_algebra_patterns.specs.Eval.{all_hold, extended}
use Rattle.qs_algebra_patterns.specs.inner.Eval.{rows_of}
use Rattle.qs_algebra_patterns.specs.declared.table.Table.{Table}
use Rattle.qs_algebra_patterns.specs.declared.pattern.TriplePattern.{TriplePattern}
use Rattle.qs_algebra_patterns.specs.declared.pattern.PathPattern.{PathPattern}
use Rattle.qs_plan_meaning.specs.declared.stage.Look.{Look}
use Rattle.qs_plan_meaning.specs.declared.stage.Group.{Group, fold-Group, the_lemmas as group_lemmas}
use Rattle.qs_plan_meaning.specs.declared.stage.Stage.{Stage, fold-roll-Stage, the_lemmas}
use Rattle.qs_plan_meaning.specs.declared.stage.Stage.TheOpen as level
use Rattle.qs_plan_meaning.specs.declared.stage.Stage.TheVariants.{Triple, Path, Exists, Names, Name, Filter, Bind, Values, Union, Optional, Fed, Minus, Apart, rolls-Triple, rolls-Path, rolls-Exists, rolls-Names, rolls-Name, rolls-Filter, rolls-Bind, rolls-Values, rolls-Union, rolls-Optional, rolls-Fed, rolls-Minus, rolls-Apart}
use Rattle.qs_plan_meaning.specs.inner.Scans.{extensions, path_extensions}
use Rattle.qs_plan_meaning.specs.inner.Stages.{Made, looked, if_named, each_named, kept_if, aside, fed_rows, along, gives_level, group_level, gives, through}
use Rattle.std.proofs.lemmas.Grind.{flat_map-append}

module _ (width : ℕ) (quads : List Statement) (active : Graph) where
  abbrev level_of : level.Stage-F Made Made → Made
  level_of = gives_level width quads active

  module _ (m : Solution) where
    pub gives_triple : (place : Look) (p : TriplePattern) → gives width quads active (Triple place p) m ≡ extensions p (looked quads active place m) m
    gives_triple place p = ap (λ s. gives width quads active s m) (sym (rolls-Triple place p)) ∙ ap (λ (f : Made). f m) (fold-roll-Stage Made Made level_of group_level (level.Triple place p))

    pub gives_path : (place : Look) (p : PathPattern) → gives width quads active (Path place p) m ≡ path_extensions p (looked quads active place m) m
    gives_path place p = ap (λ s. gives width quads active s m) (sym (rolls-Path place p)) ∙ ap (λ (f : Made). f m) (fold-roll-Stage Made Made level_of group_level (level.Path place p))

    pub gives_exists : (name : Term) → gives width quads active (Exists name) m ≡ if_named quads name m
    gives_exists name = ap (λ s. gives width quads active s m) (sym (rolls-Exists name)) ∙ ap (λ (f : Made). f m) (fold-roll-Stage Made Made level_of group_level (level.Exists name))

    pub gives_names : (r : ℕ) → gives width quads active (Names r) m ≡ each_named quads r m
    gives_names r = ap (λ s. gives width quads active s m) (sym (rolls-Names r)) ∙ ap (λ (f : Made). f m) (fold-roll-Stage Made Made level_of group_level (level.Names r))

    pub gives_name : (v r : ℕ) → gives width quads active (Name v r) m ≡ merges (binding width (v ∷ []) (term_at m r ∷ []) ∷ []) m
    gives_name v r = ap (λ s. gives width quads active s m) (sym (rolls-Name v r)) ∙ ap (λ (f : Made). f m) (fold-roll-Stage Made Made level_of group_level (level.Name v r))

    pub gives_filter : (e : Expr) → gives width quads active (Filter e) m ≡ kept_if (holds (take width m) e) m
    gives_filter e = ap (λ s. gives width quads active s m) (sym (rolls-Filter e)) ∙ ap (λ (f : Made). f m) (fold-roll-Stage Made Made level_of group_level (level.Filter e))

    pub gives_bind : (v : ℕ) (e : Expr) → gives width quads active (Bind v e) m ≡ (extended v e (take width m) ++ drop width m) ∷ []
    gives_bind v e = ap (λ s. gives width quads active s m) (sym (rolls-Bind v e)) ∙ ap (λ (f : Made). f m) (fold-roll-Stage Made Made level_of group_level (level.Bind v e))

    pub gives_values : (table : Table) → gives width quads active (Values table) m ≡ merges (rows_of width table) m
    gives_values table = ap (λ s. gives width quads active s m) (sym (rolls-Values table)) ∙ ap (λ (f : Made). f m) (fold-roll-Stage Made Made level_of group_level (level.Values table))

  -- what a group makes, as a value of its own
  pub group_makes : (group : Group) → fold-Group Made Made level_of group_level group ≡ through width quads active group.stages
  group_makes group = search (rules, the_lemmas, group_lemmas)

  module _ (m : Solution) where
    pub gives_union : (branches : List Group) → gives width quads active (Union branches) m ≡ flat_map (λ b. through width quads active b.stages m) branches
    gives_union branches =
        ap (λ s. gives width quads active s m) (sym (rolls-Union branches))
        ∙ (ap (λ (f : Made). f m) (fold-roll-Stage Made Made level_of group_level (level.Union branches))
        ∙ (flat_map-map (λ (f : Made). f m) (fold-Group Made Made level_of group_level) branches ∙ each branches))
      where
        each : (bs : List Group) → flat_map (λ b. fold-Group Made Made level_of group_level b m) bs ≡ flat_map (λ b. through width quads active b.stages m) bs
        each [] = refl
        each (b ∷ bs) = ap (λ (f : Made). f m ++ flat_map (λ b. fold-Group Made Made level_of group_level b m) bs) (group_makes b) ∙ ap (λ l. through width quads active b.stages m ++ l) (each bs)

    pub gives_optional : (r : Option ℕ) (group : Group) (conditions : List Expr) → gives width quads active (Optional r group conditions) m
        ≡ or_alone m (filter (λ n. all_hold conditions (take width n)) (merges (aside width r (through width quads active group.stages) m) m))
    gives_optional r group conditions =
        ap (λ s. gives width quads active s m) (sym (rolls-Optional r group conditions))
        ∙ (ap (λ (f : Made). f m) (fold-roll-Stage Made Made level_of group_level (level.Optional r group conditions))
        ∙ ap (λ (f : Made). or_alone m (filter (λ n. all_hold conditions (take width n)) (merges (aside width r f m) m))) (group_makes group))

    pub gives_fed : (group : Group) (conditions : List Expr) → gives width quads active (Fed group conditions) m
        ≡ or_alone m (filter (λ n. all_hold conditions (take width n)) (merges (fed_rows width (through width quads active group.stages) m) m))
    gives_fed group conditions =
        ap (λ s. gives width quads active s m) (sym (rolls-Fed group conditions))
        ∙ (ap (λ (f : Made). f m) (fold-roll-Stage Made Made level_of group_level (level.Fed group conditions))
        ∙ ap (λ (f : Made). or_alone m (filter (λ n. all_hold conditions (take width n)) (merges (fed_rows width f m) m))) (group_makes group))

    pub gives_minus : (r : Option ℕ) (group : Group) → gives width quads active (Minus r group) m
        ≡ kept_if (not (list_any (excludes (take width m)) (aside width r (through width quads active group.stages) m))) m
    gives_minus r group =
        ap (λ s. gives width quads active s m) (sym (rolls-Minus r group))
        ∙ (ap (λ (f : Made). f m) (fold-roll-Stage Made Made level_of group_level (level.Minus r group))
        ∙ ap (λ (f : Made). kept_if (not (list_any (excludes (take width m)) (aside width r f m))) m) (group_makes group))

    pub gives_apart : (r : Option ℕ) (group : Group) → gives width quads active (Apart r group) m ≡ merges (aside width r (through width quads active group.stages) m) m
    gives_apart r group =
        ap (λ s. gives width quads active s m) (sym (rolls-Apart r group))
        ∙ (ap (λ (f : Made). f m) (fold-roll-Stage Made Made level_of group_level (level.Apart r group))
        ∙ ap (λ (f : Made). merges (aside width r f m) m) (group_makes group))

-- ---- lists of stages

pub flat_flat : {X Y Z : Type 0} (f : X → List Y) (g : Y → List Z) (xs : List X) → flat_map (λ x. flat_map g (f x)) xs ≡ flat_map g (flat_map f xs)
flat_flat f g [] = refl
flat_flat f g (x ∷ xs) = ap (λ l. flat_map g (f x) ++ l) (flat_flat f g xs) ∙ sym (flat_map-append g (f x) (flat_map f xs))

pub one_each : (xs : List Solution) → flat_map (along []) xs ≡ xs
one_each [] = refl
one_each (x ∷ xs) = ap (λ l. x ∷ l) (one_each xs)

pub flat_ap : {X Y : Type 0} (f g : X → List Y) → ((x : X) → f x ≡ g x) → (xs : List X) → flat_map f xs ≡ flat_map g xs
flat_ap f g h [] = refl
flat_ap f g h (x ∷ xs) = ap (λ l. l ++ flat_map f xs) (h x) ∙ ap (λ l. g x ++ l) (flat_ap f g h xs)

pub along_append : (fs gs : List Made) (m : Solution) → along (fs ++ gs) m ≡ flat_map (along gs) (along fs m)
along_append [] gs m = sym (append-nil (along gs m))
along_append (f ∷ fs) gs m = flat_ap (along (fs ++ gs)) (λ x. flat_map (along gs) (along fs x)) (along_append fs gs) (f m) ∙ flat_flat (along fs) (along gs) (f m)

map_append : (f : Stage → Made) (ss ts : List Stage) → map f (ss ++ ts) ≡ map f ss ++ map f ts
map_append f [] ts = refl
map_append f (s ∷ ss) ts = ap (λ l. f s ∷ l) (map_append f ss ts)

module _ (width : ℕ) (quads : List Statement) (active : Graph) where
  pub through_append : (ss ts : List Stage) (m : Solution) → through width quads active (ss ++ ts) m ≡ flat_map (through width quads active ts) (through width quads active ss m)
  through_append ss ts m =
      ap (λ fs. along fs m) (map_append (gives width quads active) ss ts) ∙ along_append (map (gives width quads active) ss) (map (gives width quads active) ts) m

  pub through_one : (s : Stage) (m : Solution) → through width quads active (s ∷ []) m ≡ gives width quads active s m
  through_one s m = one_each (gives width quads active s m)

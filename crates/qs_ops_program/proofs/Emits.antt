-- Instructions that were put after others.
use Rattle.std.proofs.Common.{◌≡◌, ℕ, ◌+◌, ◌<◌, ◌≤◌, false, List, [], ◌∷◌, ◌++◌, map, take, drop, length, get_or, ◌-◌, refl, sym, ◌∙◌, ap, subst, append-nil, append_assoc, arith}
use Rattle.std.specs.List.{AllByRecursion, flat_map}
use Rattle.std.proofs.lemmas.List.{length-append, take_more, drop_more}
use Rattle.qs_terms.specs.Statement.{Statement}
use Rattle.qs_algebra_solutions.specs.Solution.{Solution}
use Rattle.qs_algebra_patterns.specs.Basic.{Graph}
use Rattle.qs_plan_meaning.specs.declared.stage.Group.{Group}
use Rattle.qs_plan_meaning.specs.declared.stage.Stage.{Stage}
use Rattle.qs_plan_meaning.specs.declared.stage.Stage.TheVariants.{Union}
use Rattle.qs_plan_meaning.specs.inner.Stages.{gives, through}
use Rattle.qs_ops_program.specs.inner.Emitted.{Emitted, Forked}
use Rattle.qs_ops_program.specs.inner.Flow.{Instruction, IsForward, is_union, flow}
use Rattle.qs_ops_program.specs.inner.Heights.{IsLow, most, stages_height}
use Rattle.qs_ops_program.proofs.Levels.{gives_union}
use Rattle.qs_ops_program.proofs.Makes.{Makes, makes_none, makes_more, makes_step, makes_fork, forks_more}
use Rattle.qs_ops_program.proofs.Positions.{forward_push}
use Rattle.qs_ops_program.proofs.Unions.{union_is_union, union_height}

-- ---- lists

all_join : {X : Type 0} (P : X → Type 0) (xs ys : List X) → AllByRecursion P xs → AllByRecursion P ys → AllByRecursion P (xs ++ ys)
all_join P [] ys a b = b
all_join P (x ∷ xs) ys a b = (a.0, all_join P xs ys a.1 b)

all_left : {X : Type 0} (P : X → Type 0) (xs ys : List X) → AllByRecursion P (xs ++ ys) → AllByRecursion P xs
all_left P [] ys a = tt
all_left P (x ∷ xs) ys a = (a.0, all_left P xs ys a.1)

all_right : {X : Type 0} (P : X → Type 0) (xs ys : List X) → AllByRecursion P (xs ++ ys) → AllByRecursion P ys
all_right P [] ys a = a
all_right P (x ∷ xs) ys a = all_right P xs ys a.1

all_less : (j k : ℕ) → j ≤ k → (xs : List ℕ) → AllByRecursion (λ x. x ≤ j) xs → AllByRecursion (λ x. x ≤ k) xs
all_less j k h [] a = tt
all_less j k h (x ∷ xs) a = (omega (arith, a.0), all_less j k h xs a.1)

longer : (old rest new : List Instruction) → new ≡ old ++ rest → length old ≤ length new
longer old rest new e = omega (arith, ap length e, length-append old rest)

joined : (old mid new a b : List Instruction) → mid ≡ old ++ a → new ≡ mid ++ b → new ≡ old ++ (a ++ b)
joined old mid new a b e f = f ∙ (ap (λ l. l ++ b) e ∙ append_assoc old a b)

-- ---- stages

pub emitted_none : (old : List Instruction) (next : ℕ) → IsForward old → next ≤ length old → Emitted old old next next []
emitted_none old next forward h = record {
  rest = [];
  is = sym (append-nil old);
  forward = forward;
  within = h;
  low = λ bound l. tt;
  makes = λ width quads active m. makes_none (gives width quads active) old next m;
}

more_makes : (mid more : List Instruction) (start at next : ℕ) (s : Stage) (ss : List Stage) → at ≤ length mid → next ≤ length mid
    → ((width : ℕ) (quads : List Statement) (active : Graph) → Makes (gives width quads active) mid at next ss)
    → (new : List Instruction) → new ≡ mid ++ more
    → ((width : ℕ) (quads : List Statement) (active : Graph) → Makes (gives width quads active) new start at (s ∷ []))
    → (width : ℕ) (quads : List Statement) (active : Graph) → Makes (gives width quads active) new start next (s ∷ ss)
more_makes mid more start at next s ss h k x new e y width quads active =
    subst (λ (c : List Instruction). Makes (gives width quads active) c start at (s ∷ []) → Makes (gives width quads active) c start next (s ∷ ss)) (sym e)
    (makes_more (gives width quads active) mid more start at next s ss h k (x width quads active)) (y width quads active)

-- one stage before the others
pub emitted_more : (old mid new : List Instruction) (start at next : ℕ) (s : Stage) (ss : List Stage) → next ≤ length old → Emitted old mid at next ss → Emitted mid new start at (s ∷ []) → Emitted old new start next (s ∷ ss)
emitted_more old mid new start at next s ss h x y = record {
  rest = x.rest ++ y.rest;
  is = joined old mid new x.rest y.rest x.is y.is;
  forward = y.forward;
  within = y.within;
  low = λ bound l. all_join (IsLow bound) x.rest y.rest (x.low bound (omega (arith, l))) (y.low bound (omega (arith, l)));
  makes = more_makes mid y.rest start at next s ss x.within (omega (arith, h, longer old x.rest mid x.is)) x.makes new y.is y.makes;
}

-- no stage is left
pub emitted_end : (old : List Instruction) (next : ℕ) (stages : List Stage) → IsForward old → next ≤ length old → Emitted old old next next (drop (length stages) stages)
emitted_end old next stages forward h = subst (Emitted old old next next) (sym (none stages)) (emitted_none old next forward h)
  where
    none : (ss : List Stage) → drop (length ss) ss ≡ []
    none [] = refl
    none (s ∷ ss) = none ss

-- the stage before those that are done
pub emitted_back : (old mid new : List Instruction) (start at next : ℕ) (stages : List Stage) (left : ℕ) (s : Stage) → 0 < left → left ≤ length stages → s ≡ get_or stages (left - 1) s → next ≤ length old
    → Emitted old mid at next (drop left stages) → Emitted mid new start at (s ∷ []) → Emitted old new start next (drop (left - 1) stages)
emitted_back old mid new start at next stages left s lt le is h x y =
    let e : (left - 1) + 1 ≡ left = omega arith in
    let d : drop (left - 1) stages ≡ s ∷ drop left stages = drop_more stages (left - 1) s (omega arith) ∙ (ap (λ q. q ∷ drop ((left - 1) + 1) stages) (sym is) ∙ ap (λ n. s ∷ drop n stages) e) in
    subst (Emitted old new start next) (sym d) (emitted_more old mid new start at next s (drop left stages) h x y)

-- all of it, in a program of its own
pub whole_made : (new : List Instruction) (start : ℕ) (stages : List Stage) → Emitted [] new start 0 stages → (width : ℕ) (quads : List Statement) (active : Graph) (m : Solution) → flow (gives width quads active) new start m ≡ through width quads active stages m
whole_made new start stages x width quads active m = x.makes width quads active m ∙ ended (through width quads active stages m)
  where
    ended : (ms : List Solution) → flat_map (flow (gives width quads active) new 0) ms ≡ ms
    ended [] = refl
    ended (m ∷ ms) = ap (λ l. m ∷ l) (ended ms)

pub whole_low : (new : List Instruction) (start bound : ℕ) (stages : List Stage) → Emitted [] new start 0 stages → stages_height stages ≤ bound → AllByRecursion (IsLow bound) new
whole_low new start bound stages x l = subst (AllByRecursion (IsLow bound)) (sym x.is) (x.low bound l)

-- a stage that is no union
pub emitted_step : (old new : List Instruction) (s : Stage) (next at : ℕ) (starts : List ℕ) → IsForward old → next ≤ length old → is_union s ≡ false → starts ≡ []
    → new ≡ old ++ record { stage = s; next = next; starts = starts } ∷ [] → at ≡ length old + 1 → Emitted old new at next (s ∷ [])
emitted_step old new s next at starts forward h u none e p =
    subst (λ (c : List Instruction). Emitted old c at next (s ∷ [])) (sym e) (subst (λ (n : ℕ). Emitted old (old ++ i ∷ []) n next (s ∷ [])) (sym p) (record {
      rest = i ∷ [];
      is = refl;
      forward = onward;
      within = omega (arith, length-append old (i ∷ []));
      low = λ bound l. (omega (arith, l), tt);
      makes = λ width quads active m. makes_step (gives width quads active) old i onward u m;
    }))
  where
    i : Instruction
    i = record { stage = s; next = next; starts = starts }

    onward : IsForward (old ++ i ∷ [])
    onward = forward_push old i forward (record { next = h; starts = subst (AllByRecursion (λ start. start ≤ length old)) (sym none) tt })

branches_low : (bound : ℕ) (branches : List Group) → most (map (λ (g : Group). stages_height g.stages) branches) ≤ bound → AllByRecursion (λ (g : Group). stages_height g.stages ≤ bound) branches
branches_low bound [] h = tt
branches_low bound (b ∷ bs) h = (omega (arith, h), branches_low bound bs (omega (arith, h)))

module _ (old mid : List Instruction) (branches : List Group) (next : ℕ) (starts : List ℕ) (h : next ≤ length old) (f : Forked old mid starts next branches) where
  abbrev fork : Instruction
  fork = record { stage = Union branches; next = next; starts = starts }

  fork_next : next ≤ length mid
  fork_next = omega (arith, h, longer old f.rest mid f.is)

  fork_forward : IsForward (mid ++ fork ∷ [])
  fork_forward = forward_push mid fork f.forward (record { next = fork_next; starts = f.within })

  fork_emitted : Emitted old (mid ++ fork ∷ []) (length mid + 1) next (Union branches ∷ [])
  fork_emitted = record {
    rest = f.rest ++ fork ∷ [];
    is = joined old mid (mid ++ fork ∷ []) f.rest (fork ∷ []) f.is refl;
    forward = fork_forward;
    within = omega (arith, length-append mid (fork ∷ []));
    low = λ bound l. all_join (IsLow bound) f.rest (fork ∷ []) (f.low bound (branches_low bound branches (omega (arith, l, union_height branches)))) (omega (arith, l), tt);
    makes = λ width quads active m.
        makes_fork (gives width quads active) mid fork fork_forward (λ (g : Group). through width quads active g.stages) branches (union_is_union branches) fork_next f.within
        (λ x. gives_union width quads active x branches) (f.makes width quads active) m;
  }

-- a union
pub emitted_fork : (old mid new : List Instruction) (s : Stage) (branches : List Group) (next at : ℕ) (starts : List ℕ) → s ≡ Union branches → next ≤ length old → Forked old mid starts next branches
    → new ≡ mid ++ record { stage = s; next = next; starts = starts } ∷ [] → at ≡ length mid + 1 → Emitted old new at next (s ∷ [])
emitted_fork old mid new s branches next at starts is h f e p =
    subst (λ (x : Stage). new ≡ mid ++ record { stage = x; next = next; starts = starts } ∷ [] → Emitted old new at next (x ∷ [])) (sym is)
    (λ g. subst (λ (c : List Instruction). Emitted old c at next (Union branches ∷ [])) (sym g)
    (subst (λ (n : ℕ). Emitted old (mid ++ fork old mid branches next starts h f ∷ []) n next (Union branches ∷ [])) (sym p) (fork_emitted old mid branches next starts h f)))
    e

-- ---- branches

pub forked_none : (old : List Instruction) (next : ℕ) → IsForward old → Forked old old [] next []
forked_none old next forward = record {
  rest = [];
  is = sym (append-nil old);
  forward = forward;
  within = tt;
  low = λ bound l. tt;
  makes = λ width quads active m. refl;
}

more_forks : (mid more : List Instruction) (starts : List ℕ) (start next : ℕ) (done : List Group) (b : Group) → next ≤ length mid → AllByRecursion (λ start. start ≤ length mid) starts
    → ((width : ℕ) (quads : List Statement) (active : Graph) (m : Solution)
    → flat_map (λ start. flow (gives width quads active) mid start m) starts ≡ flat_map (λ (g : Group). flat_map (flow (gives width quads active) mid next) (through width quads active g.stages m)) done)
    → (new : List Instruction) → new ≡ mid ++ more
    → ((width : ℕ) (quads : List Statement) (active : Graph) → Makes (gives width quads active) new start next b.stages)
    → (width : ℕ) (quads : List Statement) (active : Graph) (m : Solution)
    → flat_map (λ start. flow (gives width quads active) new start m) (starts ++ start ∷ []) ≡ flat_map (λ (g : Group). flat_map (flow (gives width quads active) new next) (through width quads active g.stages m)) (done ++ b ∷ [])
more_forks mid more starts start next done b h k x new e y width quads active =
    subst (λ (c : List Instruction). Makes (gives width quads active) c start next b.stages → (m : Solution)
    → flat_map (λ start. flow (gives width quads active) c start m) (starts ++ start ∷ []) ≡ flat_map (λ (g : Group). flat_map (flow (gives width quads active) c next) (through width quads active g.stages m)) (done ++ b ∷ [])) (sym e)
    (forks_more (gives width quads active) (λ (g : Group). through width quads active g.stages) mid more starts start next done b h k (x width quads active)) (y width quads active)

branch_forked : (old mid new : List Instruction) (starts : List ℕ) (start next : ℕ) (done : List Group) (b : Group) → next ≤ length old → Forked old mid starts next done → Emitted mid new start next b.stages → Forked old new (starts ++ start ∷ []) next (done ++ b ∷ [])
branch_forked old mid new starts start next done b h x y = record {
  rest = x.rest ++ y.rest;
  is = joined old mid new x.rest y.rest x.is y.is;
  forward = y.forward;
  within = all_join (λ start. start ≤ length new) starts (start ∷ []) (all_less (length mid) (length new) (longer mid y.rest new y.is) starts x.within) (y.within, tt);
  low = λ bound l.
      all_join (IsLow bound) x.rest y.rest (x.low bound (all_left (λ (g : Group). stages_height g.stages ≤ bound) done (b ∷ []) l))
      (y.low bound (all_right (λ (g : Group). stages_height g.stages ≤ bound) done (b ∷ []) l).0);
  makes = more_forks mid y.rest starts start next done b (omega (arith, h, longer old x.rest mid x.is)) x.within x.makes new y.is y.makes;
}

-- one branch more
pub forked_more : (old mid new : List Instruction) (starts starts' : List ℕ) (start next : ℕ) (branches : List Group) (k : ℕ) (b : Group) → k < length branches → b ≡ get_or branches k b → next ≤ length old
    → Forked old mid starts next (take k branches) → Emitted mid new start next b.stages → starts' ≡ starts ++ start ∷ [] → Forked old new starts' next (take (k + 1) branches)
forked_more old mid new starts starts' start next branches k b lt is h x y e =
    subst (λ (l : List ℕ). Forked old new l next (take (k + 1) branches)) (sym e)
    (subst (λ (l : List Group). Forked old new (starts ++ start ∷ []) next l) (sym (take_more branches k b lt ∙ ap (λ x. take k branches ++ x ∷ []) (sym is)))
    (branch_forked old mid new starts start next (take k branches) b h x y))

-- The place from which on no stage changes what is bound to the variables of a filter.
use Rattle.std.proofs.Common.{◌≡◌, ◌⊎◌, inl, inr, ℕ, ◌+◌, ◌≤◌, ◌<◌, Bool, true, List, [], ◌∷◌, ◌++◌, take, drop, length, get_or, refl, sym, ◌∙◌, ap, subst, arith}
use Rattle.std.specs.List.{AllByRecursion, flat_map}
use Rattle.std.proofs.lemmas.Bool.{cases_lt}
use Rattle.std.proofs.lemmas.List.{take_more, take_all, take-append-le, drop-append-le, drop_all, take-append-drop, length-append, length-take-le}
use Rattle.std.proofs.lemmas.List.Sorted.{IsPermutation-refl, IsPermutation-trans}
use Rattle.qs_terms.specs.Bag.{SameBag}
use Rattle.qs_terms.specs.Statement.{Statement}
use Rattle.qs_expr_meaning.specs.declared.expr.Expr.{Expr}
use Rattle.qs_expr_meaning.specs.Meaning.{meaning, holds}
use Rattle.qs_algebra_solutions.specs.Solution.{Solution, term_at}
use Rattle.qs_algebra_patterns.specs.Basic.{Graph}
use Rattle.qs_plan.specs.declared.certain.Size.{Size}
use Rattle.qs_plan_meaning.specs.declared.stage.Stage.{Stage}
use Rattle.qs_plan_meaning.specs.inner.Stages.{Made, through}
use Rattle.qs_plan.specs.inner.Certain.{Bound, Alike, Begun, Keeps, Binds, Steady, SameFrom}
use Rattle.qs_plan.specs.inner.Reads.{Agree, Settles, Leaves}
use Rattle.qs_plan.proofs.Commutes.{all_map}
use Rattle.qs_plan.proofs.Getting.{binds_to, given_none}
use Rattle.qs_plan.proofs.Keeping.{all_more}
use Rattle.qs_plan.proofs.Laying.{flat_each}
use Rattle.qs_plan.proofs.Leaving.{taken_agree, all_agree}
use Rattle.qs_plan.proofs.Levels.{through_append, through_one}
use Rattle.qs_plan.proofs.Onward.{Onward, stages_onward}
use Rattle.qs_plan.proofs.Operators.{flat_map_same}
use Rattle.qs_plan.proofs.Widths.{all_append}

-- ---- lists

all_of_flat : {X Y : Type 0} (P : Y → Type 0) (f : X → List Y) (xs : List X) → AllByRecursion P (flat_map f xs) → AllByRecursion (λ x. AllByRecursion P (f x)) xs
all_of_flat {Y = Y} P f [] h = tt
all_of_flat {Y = Y} P f (x ∷ xs) h = let k = split (f x) (flat_map f xs) h in (k.0, all_of_flat P f xs k.1)
  where
    split : (ys zs : List Y) → AllByRecursion P (ys ++ zs) → AllByRecursion P ys × AllByRecursion P zs
    split [] zs h = (tt, h)
    split (y ∷ ys) zs h = let k = split ys zs h.1 in ((h.0, k.0), k.1)

pub all_both : {X : Type 0} (P Q : X → Type 0) (xs : List X) → AllByRecursion P xs → AllByRecursion Q xs → AllByRecursion (λ x. P x × Q x) xs
all_both P Q [] h k = tt
all_both P Q (x ∷ xs) h k = ((h.0, k.0), all_both P Q xs h.1 k.1)

-- ---- stages that make the same of rows that bind what is given

module _ (size : Size) where
  pub from_refl : (given : List ℕ) (ss : List Stage) → SameFrom size given ss ss
  from_refl given ss = record { same = λ quads active m b. IsPermutation-refl (through size.width quads active ss m) }

  pub from_trans : (given : List ℕ) (ss ts us : List Stage) → SameFrom size given ss ts → SameFrom size given ts us → SameFrom size given ss us
  from_trans given ss ts us a b = record { same = λ quads active m k. IsPermutation-trans _ _ _ (a.same quads active m k) (b.same quads active m k) }

  pub from_same : (given : List ℕ) (ss ts : List Stage) → ((width : ℕ) (quads : List Statement) (active : Graph) (m : Solution) → SameBag (through width quads active ss m) (through width quads active ts m)) → SameFrom size given ss ts
  from_same given ss ts h = record { same = λ quads active m b. h size.width quads active m }

  pub from_none : (given : List ℕ) (ss ts : List Stage) → SameFrom size [] ss ts → SameFrom size given ss ts
  from_none given ss ts h = record { same = λ quads active m b. h.same quads active m (record { wide = b.wide; binds = tt }) }

  -- before the same stages
  pub from_before : (given : List ℕ) (ss ts us : List Stage) → SameFrom size given ss ts → SameFrom size given (ss ++ us) (ts ++ us)
  from_before given ss ts us h = record {
    same = λ quads active m b.
        subst (λ (l : List Solution). SameBag l (through size.width quads active (ts ++ us) m)) (sym (through_append size.width quads active ss us m))
        (subst (λ (l : List Solution). SameBag (flat_map (through size.width quads active us) (through size.width quads active ss m)) l) (sym (through_append size.width quads active ts us m))
        (flat_map_same (through size.width quads active us) (through size.width quads active us) (through size.width quads active ss m) (through size.width quads active ts m) (h.same quads active m b) (λ x. IsPermutation-refl (through size.width quads active us x))));
  }

  -- the rows that come of the stages begin a group that is given what they bind
  pub begun_after : (given known : List ℕ) (ss : List Stage) → AllByRecursion (λ v. Binds size given v ss) known → (quads : List Statement) (active : Graph) (m : Solution) → Begun size given m → AllByRecursion (Begun size known) (through size.width quads active ss m)
  begun_after given known ss h quads active m b = each (through size.width quads active ss m) (stages_onward size.width quads active ss m) (all known h)
    where
      all : (vs : List ℕ) → AllByRecursion (λ v. Binds size given v ss) vs → AllByRecursion (λ v. AllByRecursion (Bound v) (through size.width quads active ss m)) vs
      all [] k = tt
      all (v ∷ vs) k = (k.0.bound quads active m b, all vs k.1)

      firsts : (x : Solution) (xs : List Solution) (vs : List ℕ) → AllByRecursion (λ v. AllByRecursion (Bound v) (x ∷ xs)) vs → AllByRecursion (λ v. Bound v x) vs
      firsts x xs [] k = tt
      firsts x xs (v ∷ vs) k = (k.0.0, firsts x xs vs k.1)

      rests : (x : Solution) (xs : List Solution) (vs : List ℕ) → AllByRecursion (λ v. AllByRecursion (Bound v) (x ∷ xs)) vs → AllByRecursion (λ v. AllByRecursion (Bound v) xs) vs
      rests x xs [] k = tt
      rests x xs (v ∷ vs) k = (k.0.1, rests x xs vs k.1)

      each : (xs : List Solution) → AllByRecursion (Onward m) xs → AllByRecursion (λ v. AllByRecursion (Bound v) xs) known → AllByRecursion (Begun size known) xs
      each [] o k = tt
      each (x ∷ xs) o k = (record { wide = omega (arith, o.0.wide, b.wide); binds = firsts x xs known k }, each xs o.1 (rests x xs known k))

  -- after the same stages
  pub from_after : (given known : List ℕ) (ss ts us : List Stage) → AllByRecursion (λ v. Binds size given v ss) known → SameFrom size known ts us → SameFrom size given (ss ++ ts) (ss ++ us)
  from_after given known ss ts us k h = record {
    same = λ quads active m b.
        subst (λ (l : List Solution). SameBag l (through size.width quads active (ss ++ us) m)) (sym (through_append size.width quads active ss ts m))
        (subst (λ (l : List Solution). SameBag (flat_map (through size.width quads active ts) (through size.width quads active ss m)) l) (sym (through_append size.width quads active ss us m))
        (flat_each (Begun size known) (through size.width quads active ts) (through size.width quads active us) (λ q c. h.same quads active q c) (through size.width quads active ss m) (begun_after given known ss k quads active m b)));
  }

  pub from_append : (ss ts us vs : List Stage) → SameFrom size [] ss ts → SameFrom size [] us vs → SameFrom size [] (ss ++ us) (ts ++ vs)
  from_append ss ts us vs a b = from_trans [] (ss ++ us) (ts ++ us) (ts ++ vs) (from_before [] ss ts us a) (from_after [] [] ts us vs tt b)

  -- ---- from which place on a variable stays

  module _ (given : List ℕ) where
    module _ (v : ℕ) where
      steady_long : (ss : List Stage) (k : ℕ) → length ss ≤ k → (quads : List Statement) (active : Graph) (m : Solution) → AllByRecursion (λ q. AllByRecursion (Alike v q) (through size.width quads active (drop k ss) q)) (through size.width quads active (take k ss) m)
      steady_long ss k le quads active m = subst (λ (l : List Stage). AllByRecursion (λ q. AllByRecursion (Alike v q) (through size.width quads active l q)) (through size.width quads active (take k ss) m)) (sym (drop_all k ss le)) (each (through size.width quads active (take k ss) m))
        where
          each : (xs : List Solution) → AllByRecursion (λ q. AllByRecursion (Alike v q) (through size.width quads active [] q)) xs
          each [] = tt
          each (x ∷ xs) = ((refl, tt), each xs)

      -- nothing stands after the end
      pub steady_end : (ss : List Stage) (place : ℕ) → length ss ≤ place → Steady size given v place ss
      steady_end ss place le = record { alike = λ k h quads active m b. steady_long ss k (omega (arith, le, h)) quads active m }

      pub steady_later : (ss : List Stage) (place later : ℕ) → place ≤ later → Steady size given v place ss → Steady size given v later ss
      steady_later ss place later le h = record { alike = λ k g quads active m b. h.alike k (omega (arith, le, g)) quads active m b }

      module _ (ss : List Stage) (s : Stage) (is_known : Bool) (known : is_known ≡ true → Binds size given v ss) (stays : Leaves v s ⊎ ((is_known ≡ true) × Keeps v s)) (quads : List Statement) (active : Graph) (m : Solution) (b : Begun size given m) where
        last_alike : AllByRecursion (λ q. AllByRecursion (Alike v q) (through size.width quads active (s ∷ []) q)) (through size.width quads active ss m)
        last_alike = at stays
          where
            at : Leaves v s ⊎ ((is_known ≡ true) × Keeps v s) → AllByRecursion (λ q. AllByRecursion (Alike v q) (through size.width quads active (s ∷ []) q)) (through size.width quads active ss m)
            at (inl h) = each (through size.width quads active ss m)
              where
                each : (xs : List Solution) → AllByRecursion (λ q. AllByRecursion (Alike v q) (through size.width quads active (s ∷ []) q)) xs
                each [] = tt
                each (x ∷ xs) = (subst (AllByRecursion (Alike v x)) (sym (through_one size.width quads active s x)) (h.same size.width quads active x), each xs)
            at (inr h) =
                all_map (Bound v) (λ q. AllByRecursion (Alike v q) (through size.width quads active (s ∷ []) q))
                (λ q k. subst (AllByRecursion (Alike v q)) (sym (through_one size.width quads active s q)) (h.1.alike size.width quads active q k)) (through size.width quads active ss m) ((known h.0).bound quads active m b)

        inner_alike : (ts : List Stage) (q : Solution) → AllByRecursion (Alike v q) (through size.width quads active ts q) → AllByRecursion (λ r. AllByRecursion (Alike v r) (through size.width quads active (s ∷ []) r)) (through size.width quads active ts q) → AllByRecursion (Alike v q) (through size.width quads active (ts ++ s ∷ []) q)
        inner_alike ts q h k = subst (AllByRecursion (Alike v q)) (sym (through_append size.width quads active ts (s ∷ []) q)) (each (through size.width quads active ts q) h k)
          where
            on : (x : Solution) → Alike v q x → (ys : List Solution) → AllByRecursion (Alike v x) ys → AllByRecursion (Alike v q) ys
            on x a [] g = tt
            on x a (y ∷ ys) g = (g.0 ∙ a, on x a ys g.1)

            each : (xs : List Solution) → AllByRecursion (Alike v q) xs → AllByRecursion (λ r. AllByRecursion (Alike v r) (through size.width quads active (s ∷ []) r)) xs → AllByRecursion (Alike v q) (flat_map (through size.width quads active (s ∷ [])) xs)
            each [] a g = tt
            each (x ∷ xs) a g = all_append (Alike v q) (through size.width quads active (s ∷ []) x) _ (on x a.0 (through size.width quads active (s ∷ []) x) g.0) (each xs a.1 g.1)

        both_alike : (k : ℕ) → k ≤ length ss → AllByRecursion (λ q. AllByRecursion (Alike v q) (through size.width quads active (drop k ss) q)) (through size.width quads active (take k ss) m)
            → AllByRecursion (λ q. AllByRecursion (Alike v q) (through size.width quads active (drop k (ss ++ s ∷ [])) q)) (through size.width quads active (take k (ss ++ s ∷ [])) m)
        both_alike k le h =
            subst (λ (l : List Stage). AllByRecursion (λ q. AllByRecursion (Alike v q) (through size.width quads active l q)) (through size.width quads active (take k (ss ++ s ∷ [])) m)) (sym (drop-append-le k ss (s ∷ []) le))
            (subst (λ (l : List Stage). AllByRecursion (λ q. AllByRecursion (Alike v q) (through size.width quads active (drop k ss ++ s ∷ []) q)) (through size.width quads active l m)) (sym (take-append-le k ss (s ∷ []) le))
            (all_map (λ q. AllByRecursion (Alike v q) (through size.width quads active (drop k ss) q) × AllByRecursion (λ r. AllByRecursion (Alike v r) (through size.width quads active (s ∷ []) r)) (through size.width quads active (drop k ss) q))
            (λ q. AllByRecursion (Alike v q) (through size.width quads active (drop k ss ++ s ∷ []) q)) (λ q g. inner_alike (drop k ss) q g.0 g.1) (through size.width quads active (take k ss) m)
            (all_both _ _ (through size.width quads active (take k ss) m) h
            (all_of_flat (λ r. AllByRecursion (Alike v r) (through size.width quads active (s ∷ []) r)) (through size.width quads active (drop k ss)) (through size.width quads active (take k ss) m)
            (subst (AllByRecursion (λ r. AllByRecursion (Alike v r) (through size.width quads active (s ∷ []) r))) (ap (λ (l : List Stage). through size.width quads active l m) (sym (take-append-drop k ss)) ∙ through_append size.width quads active (take k ss) (drop k ss) m) last_alike)))))

      steady_push : (ss : List Stage) (s : Stage) (place : ℕ) (is_known : Bool) → (is_known ≡ true → Binds size given v ss) → Leaves v s ⊎ ((is_known ≡ true) × Keeps v s) → Steady size given v place ss → Steady size given v place (ss ++ s ∷ [])
      steady_push ss s place is_known known stays h = record { alike = λ k g quads active m b. at k g quads active m b (cases_lt (length ss) k) }
        where
          at : (k : ℕ) → place ≤ k → (quads : List Statement) (active : Graph) (m : Solution) → Begun size given m → (length ss < k) ⊎ (k ≤ length ss)
              → AllByRecursion (λ q. AllByRecursion (Alike v q) (through size.width quads active (drop k (ss ++ s ∷ [])) q)) (through size.width quads active (take k (ss ++ s ∷ [])) m)
          at k g quads active m b (inl lt) = steady_long (ss ++ s ∷ []) k (omega (arith, lt, length-append ss (s ∷ []))) quads active m
          at k g quads active m b (inr le) = both_alike ss s is_known known stays quads active m b k le (h.alike k g quads active m b)

      -- one stage more, that stays
      pub steady_more : (ss : List Stage) (i : ℕ) (s : Stage) (place : ℕ) (is_known : Bool) → i < length ss → s ≡ get_or ss i s → (is_known ≡ true → Binds size given v (take i ss)) → Leaves v s ⊎ ((is_known ≡ true) × Keeps v s) → Steady size given v place (take i ss) → Steady size given v place (take (i + 1) ss)
      steady_more ss i s place is_known lt is known stays h =
          subst (Steady size given v place) (sym (take_more ss i s lt ∙ ap (λ x. take i ss ++ x ∷ []) (sym is))) (steady_push (take i ss) s place is_known known stays h)

      -- and one that doesn't
      pub steady_next : (ss : List Stage) (i : ℕ) → i < length ss → Steady size given v (i + 1) (take (i + 1) ss)
      steady_next ss i lt = steady_end (take (i + 1) ss) (i + 1) (omega (arith, length-take-le (i + 1) ss (omega (arith, lt))))

      pub steady_step : (ss : List Stage) (i : ℕ) (s : Stage) (place new : ℕ) (known knows : Bool) → i < length ss → s ≡ get_or ss i s
          → (place ≤ i) × (known ≡ true → Binds size given v (take i ss)) × Steady size given v place (take i ss) → (new ≡ i + 1) ⊎ ((new ≡ place) × (Leaves v s ⊎ ((known ≡ true) × Keeps v s))) → (knows ≡ true → (known ≡ true) ⊎ Binds size [] v (take (i + 1) ss))
          → (new ≤ i + 1) × (knows ≡ true → Binds size given v (take (i + 1) ss)) × Steady size given v new (take (i + 1) ss)
      steady_step ss i s place new known knows lt is inv way k = (up way, (λ h. on (k h)), steady way)
        where
          up : (new ≡ i + 1) ⊎ ((new ≡ place) × (Leaves v s ⊎ ((known ≡ true) × Keeps v s))) → new ≤ i + 1
          up (inl e) = omega (arith, e)
          up (inr e) = omega (arith, e.0, inv.0)

          on : (known ≡ true) ⊎ Binds size [] v (take (i + 1) ss) → Binds size given v (take (i + 1) ss)
          on (inl e) = binds_to v size given ss i (i + 1) (omega arith) (inv.1 e)
          on (inr h) = given_none v size given (take (i + 1) ss) h

          steady : (new ≡ i + 1) ⊎ ((new ≡ place) × (Leaves v s ⊎ ((known ≡ true) × Keeps v s))) → Steady size given v new (take (i + 1) ss)
          steady (inl e) = subst (λ n. Steady size given v n (take (i + 1) ss)) (sym e) (steady_next ss i lt)
          steady (inr e) = subst (λ n. Steady size given v n (take (i + 1) ss)) (sym e.0) (steady_more ss i s place known lt is inv.1 e.1 inv.2)

      pub steady_all : (ss : List Stage) (i place : ℕ) → length ss ≤ i → Steady size given v place (take i ss) → Steady size given v place ss
      steady_all ss i place le h = subst (Steady size given v place) (take_all i ss le) h

    pub all_later : (ss : List Stage) (place later : ℕ) → place ≤ later → (us : List ℕ) → AllByRecursion (λ v. Steady size given v place ss) us → AllByRecursion (λ v. Steady size given v later ss) us
    all_later ss place later le [] h = tt
    all_later ss place later le (u ∷ us) h = (steady_later u ss place later le h.0, all_later ss place later le us h.1)

    -- one variable more
    pub all_steady_step : (ss : List Stage) (vs : List ℕ) (i d v place one new : ℕ) → i < length vs → v ≡ get_or vs i d → one ≤ length ss → Steady size given v one ss → (place ≤ length ss) × AllByRecursion (λ v. Steady size given v place ss) (take i vs) → ((new ≡ one) × (place ≤ one)) ⊎ ((new ≡ place) × (one ≤ place))
        → (new ≤ length ss) × AllByRecursion (λ v. Steady size given v new ss) (take (i + 1) vs)
    all_steady_step ss vs i d v place one new lt is le h inv (inl e) = (
      omega (arith, e.0, le),
      subst (λ n. AllByRecursion (λ v. Steady size given v n ss) (take (i + 1) vs)) (sym e.0) (all_more (λ v. Steady size given v one ss) vs i d v lt is (all_later ss place one e.1 (take i vs) inv.1) h),
    )
    all_steady_step ss vs i d v place one new lt is le h inv (inr e) = (
      omega (arith, e.0, inv.0),
      subst (λ n. AllByRecursion (λ v. Steady size given v n ss) (take (i + 1) vs)) (sym e.0) (all_more (λ v. Steady size given v place ss) vs i d v lt is inv.1 (steady_later v ss one place e.1 h)),
    )

    -- ---- the filter

    module _ (vs : List ℕ) (e : Expr) (settled : Settles vs e) where
      pub holds_alike : (width : ℕ) (m q : Solution) → Agree vs m q → holds (take width q) e ≡ holds (take width m) e
      holds_alike width m q h = let k : meaning (take width q) e ≡ meaning (take width m) e = settled.same (take width m) (take width q) (taken_agree width vs m q h) in cc

      -- the rows past the place agree with those at it
      pub agree_each : (f : Made) (us : List ℕ) (xs : List Solution) → AllByRecursion (λ v. AllByRecursion (λ q. AllByRecursion (Alike v q) (f q)) xs) us → AllByRecursion (λ q. AllByRecursion (Agree us q) (f q)) xs
      agree_each f us [] h = tt
      agree_each f us (x ∷ xs) h = (all_agree us x (f x) (firsts us h), agree_each f us xs (rests us h))
        where
          firsts : (ws : List ℕ) → AllByRecursion (λ v. AllByRecursion (λ q. AllByRecursion (Alike v q) (f q)) (x ∷ xs)) ws → AllByRecursion (λ v. AllByRecursion (λ q. term_at q v ≡ term_at x v) (f x)) ws
          firsts [] k = tt
          firsts (w ∷ ws) k = (k.0.0, firsts ws k.1)

          rests : (ws : List ℕ) → AllByRecursion (λ v. AllByRecursion (λ q. AllByRecursion (Alike v q) (f q)) (x ∷ xs)) ws → AllByRecursion (λ v. AllByRecursion (λ q. AllByRecursion (Alike v q) (f q)) xs) ws
          rests [] k = tt
          rests (w ∷ ws) k = (k.0.1, rests ws k.1)

-- What instructions make that are put after others.
use Rattle.std.proofs.Common.{◌≡◌, ℕ, ◌+◌, ◌<◌, ◌≤◌, true, false, List, [], ◌∷◌, ◌++◌, map, length, get_or, refl, sym, ◌∙◌, ap, add-one, append-nil, arith}
use Rattle.std.specs.List.{AllByRecursion, flat_map}
use Rattle.std.proofs.lemmas.Grind.{flat_map-append}
use Rattle.std.proofs.lemmas.List.{get_or_at, length-append}
use Rattle.qs_algebra_solutions.specs.Solution.{Solution}
use Rattle.qs_plan_meaning.specs.declared.stage.Stage.{Stage}
use Rattle.qs_plan_meaning.specs.inner.Stages.{Made, along}
use Rattle.qs_ops_program.specs.inner.Flow.{is_union}
use Rattle.qs_ops_program.specs.inner.Flow.{Instruction, IsForward, meanings, flow}
use Rattle.qs_ops_program.proofs.Levels.{flat_flat, one_each, flat_ap}
use Rattle.qs_ops_program.proofs.Flows.{forks_same, flow_keeps, flow_fork, flow_step}

module _ (gives : Stage → Made) where
  -- a row at `at` goes through the stages, and on at `next`
  abbrev pub Makes : List Instruction → ℕ → ℕ → List Stage → Type 0
  Makes code start next ss = (m : Solution) → flow gives code start m ≡ flat_map (flow gives code next) (along (map gives ss) m)

  pub makes_none : (code : List Instruction) (next : ℕ) → Makes code next next []
  makes_none code next m = sym (append-nil (flow gives code next m))

  -- one stage before the others
  pub makes_more : (code more : List Instruction) (start mid next : ℕ) (s : Stage) (ss : List Stage) → mid ≤ length code → next ≤ length code → Makes code mid next ss → Makes (code ++ more) start mid (s ∷ []) → Makes (code ++ more) start next (s ∷ ss)
  makes_more code more start mid next s ss h k rest one m =
      one m
      ∙ (ap (flat_map (flow gives (code ++ more) mid)) (one_each (gives s m))
      ∙ (ap (λ (f : Made). flat_map f (gives s m)) (flow_keeps gives code more mid h)
      ∙ (flat_ap (flow gives code mid) (λ x. flat_map (flow gives code next) (along (map gives ss) x)) rest (gives s m)
      ∙ (flat_flat (along (map gives ss)) (flow gives code next) (gives s m)
      ∙ ap (λ (f : Made). flat_map f (along (map gives (s ∷ ss)) m)) (sym (flow_keeps gives code more next k))))))

  module _ (code : List Instruction) (i : Instruction) (forward : IsForward (code ++ i ∷ [])) where
    last_at : i ≡ get_or (code ++ i ∷ []) (length code) i
    last_at = sym (get_or_at code i [] i (length code) refl)

    last_below : length code < length (code ++ i ∷ [])
    last_below = omega (arith, length-append code (i ∷ []))

    -- a stage that is no union
    pub makes_step : is_union i.stage ≡ false → Makes (code ++ i ∷ []) (length code + 1) i.next (i.stage ∷ [])
    makes_step u m =
        rw add-one (flow_step gives (code ++ i ∷ []) (length code) i m forward last_below last_at u)
        ∙ ap (flat_map (flow gives (code ++ i ∷ []) i.next)) (sym (one_each (gives i.stage m)))

    -- a union
    pub makes_fork : {X : Type 0} (made : X → Made) (branches : List X) → is_union i.stage ≡ true → i.next ≤ length code → AllByRecursion (λ start. start ≤ length code) i.starts
        → ((m : Solution) → gives i.stage m ≡ flat_map (λ b. made b m) branches)
        → ((m : Solution) → flat_map (λ start. flow gives code start m) i.starts ≡ flat_map (λ b. flat_map (flow gives code i.next) (made b m)) branches)
        → Makes (code ++ i ∷ []) (length code + 1) i.next (i.stage ∷ [])
    makes_fork made branches u h k is forks m =
        let new : List Instruction = code ++ i ∷ [] in
        rw add-one (flow_fork gives new (length code) i m forward last_below last_at u)
        ∙ (forks_same (meanings gives new) (meanings gives code) (length code) (λ p l. flow_keeps gives code (i ∷ []) p l) i.starts k m
        ∙ (forks m
        ∙ (flat_flat (λ b. made b m) (flow gives code i.next) branches
        ∙ (ap (λ (f : Made). flat_map f (flat_map (λ b. made b m) branches)) (sym (flow_keeps gives code (i ∷ []) i.next h))
        ∙ ap (flat_map (flow gives new i.next)) (sym (is m) ∙ sym (one_each (gives i.stage m)))))))

  -- one branch more
  pub forks_more : {X : Type 0} (made : X → Made) (code more : List Instruction) (starts : List ℕ) (start next : ℕ) (done : List X) (b : X) → next ≤ length code → AllByRecursion (λ start. start ≤ length code) starts
      → ((m : Solution) → flat_map (λ start. flow gives code start m) starts ≡ flat_map (λ b. flat_map (flow gives code next) (made b m)) done)
      → ((m : Solution) → flow gives (code ++ more) start m ≡ flat_map (flow gives (code ++ more) next) (made b m))
      → (m : Solution) → flat_map (λ start. flow gives (code ++ more) start m) (starts ++ start ∷ []) ≡ flat_map (λ b. flat_map (flow gives (code ++ more) next) (made b m)) (done ++ b ∷ [])
  forks_more made code more starts start next done b h k old one m =
      let new : List Instruction = code ++ more in
      let F : List Solution = flat_map (λ (b : _). flat_map (flow gives new next) (made b m)) done in
      flat_map-append (λ start. flow gives new start m) starts (start ∷ [])
      ∙ (ap (λ l. flat_map (λ start. flow gives new start m) starts ++ l) (append-nil (flow gives new start m) ∙ one m)
      ∙ (ap (λ l. l ++ flat_map (flow gives new next) (made b m))
      (forks_same (meanings gives new) (meanings gives code) (length code) (λ p l. flow_keeps gives code more p l) starts k m
      ∙ (old m ∙ ap (λ (f : Made). flat_map (λ b. flat_map f (made b m)) done) (sym (flow_keeps gives code more next h))))
      ∙ (ap (λ l. F ++ l) (sym (append-nil (flat_map (flow gives new next) (made b m))))
      ∙ sym (flat_map-append (λ b. flat_map (flow gives new next) (made b m)) done (b ∷ [])))))

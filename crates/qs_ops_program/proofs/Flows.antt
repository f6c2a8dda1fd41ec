-- What comes of a row at a position of a program.
use Rattle.std.proofs.Common.{◌≡◌, ℕ, suc, ◌<◌, ◌≤◌, Bool, true, false, cond, List, [], ◌∷◌, ◌++◌, length, get_or, refl, ◌∙◌, ap, add-one, arith}
use Rattle.std.specs.List.{AllByRecursion, flat_map}
use Rattle.std.proofs.lemmas.List.{get_or_past}
use Rattle.qs_algebra_solutions.specs.Solution.{Solution}
use Rattle.qs_plan_meaning.specs.declared.stage.Stage.{Stage}
use Rattle.qs_plan_meaning.specs.inner.Stages.{Made}
use Rattle.qs_ops_program.specs.inner.Flow.{is_union}
use Rattle.qs_ops_program.specs.inner.Flow.{Instruction, IsForward, finished, nothing, at, instr_made, meanings, flow}
use Rattle.qs_ops_program.proofs.Positions.{same_functions, LooksBefore, values_length, values_keep, values_at}

-- the same from each of the starts
pub forks_same : (fs gs : List Made) (k : ℕ) → ((p : ℕ) → p ≤ k → at fs p ≡ at gs p) → (starts : List ℕ) → AllByRecursion (λ start. start ≤ k) starts → (m : Solution)
    → flat_map (λ start. at fs start m) starts ≡ flat_map (λ start. at gs start m) starts
forks_same fs gs k h [] a m = refl
forks_same fs gs k h (start ∷ starts) a m = ap (λ (f : Made). f m ++ flat_map (λ start. at fs start m) starts) (h start a.0) ∙ ap (λ l. at gs start m ++ l) (forks_same fs gs k h starts a.1 m)

module _ (gives : Stage → Made) where
  looks_made : LooksBefore Made finished nothing (instr_made gives)
  looks_made k i n fs gs h = same_functions _ _ (λ m. each (is_union i.stage) m)
    where
      each : (b : Bool) (m : Solution) → cond b (flat_map (λ start. at fs start m) i.starts) (flat_map (at fs i.next) (gives i.stage m)) ≡ cond b (flat_map (λ start. at gs start m) i.starts) (flat_map (at gs i.next) (gives i.stage m))
      each true m = forks_same fs gs k h i.starts n.starts m
      each false m = ap (λ f. flat_map f (gives i.stage m)) (h i.next n.next)

  -- more instructions change nothing at the positions before them
  pub flow_keeps : (code more : List Instruction) (p : ℕ) → p ≤ length code → flow gives (code ++ more) p ≡ flow gives code p
  flow_keeps code more p h = values_keep Made (instr_made gives) finished nothing code more p h

  -- past the last instruction comes nothing
  pub past_end : (code : List Instruction) (k : ℕ) (m : Solution) → length code ≤ k → flow gives code (suc k) m ≡ []
  past_end code k m h = ap (λ (f : Made). f m) (get_or_past (meanings gives code) k nothing (omega (arith, values_length Made (instr_made gives) code)))

  module _ (code : List Instruction) (k : ℕ) (i : Instruction) (m : Solution) (forward : IsForward code) (h : k < length code) (e : i ≡ get_or code k i) where
    -- at an instruction
    pub flow_at : flow gives code (suc k) m ≡ instr_made gives (meanings gives code) i m
    flow_at = ap (λ (f : Made). f m) (rw add-one at (values_at Made (instr_made gives) finished nothing looks_made code forward k i h e))

    -- at a union
    pub flow_fork : is_union i.stage ≡ true → flow gives code (suc k) m ≡ flat_map (λ start. flow gives code start m) i.starts
    flow_fork u = flow_at ∙ ap (λ b. cond b (flat_map (λ start. flow gives code start m) i.starts) (flat_map (flow gives code i.next) (gives i.stage m))) u

    -- at another stage
    pub flow_step : is_union i.stage ≡ false → flow gives code (suc k) m ≡ flat_map (flow gives code i.next) (gives i.stage m)
    flow_step u = flow_at ∙ ap (λ b. cond b (flat_map (λ start. flow gives code start m) i.starts) (flat_map (flow gives code i.next) (gives i.stage m))) u

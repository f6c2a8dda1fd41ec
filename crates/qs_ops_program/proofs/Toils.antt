-- The moves with a row at a position of a program.
use Rattle.std.proofs.Common.{◌≡◌, ℕ, suc, ◌+◌, ◌<◌, ◌≤◌, Bool, true, false, cond, List, [], ◌∷◌, ◌++◌, length, get_or, refl, ◌∙◌, ap, add-one, arith}
use Rattle.std.specs.List.{AllByRecursion, sum_by}
use Rattle.std.specs.List.Sorted.{IsPermutation}
use Rattle.std.proofs.lemmas.List.Sums.{sum_by-cons}
use Rattle.std.proofs.lemmas.List.Sorted.{sum_by-IsPermutation}
use Rattle.qs_algebra_solutions.specs.Solution.{Solution}
use Rattle.qs_plan_meaning.specs.declared.stage.Stage.{Stage}
use Rattle.qs_plan_meaning.specs.inner.Stages.{Made}
use Rattle.qs_ops_program.specs.inner.Flow.{is_union}
use Rattle.qs_ops_program.specs.inner.Flow.{Instruction, IsForward}
use Rattle.qs_ops_program.specs.inner.Toil.{summed, Moves, no_moves, moves_at, instr_moves, all_moves, toil}
use Rattle.qs_ops_program.proofs.Positions.{same_functions, LooksBefore, values_at}

-- ---- sums

pub summed_append : {A : Type 0} (f : A → ℕ) (xs ys : List A) → summed f (xs ++ ys) ≡ summed f xs + summed f ys
summed_append f [] ys = omega arith
summed_append f (x ∷ xs) ys = omega (arith, summed_append f xs ys)

summed_is : {A : Type 0} (f : A → ℕ) (xs : List A) → summed f xs ≡ sum_by (λ x. 1 + f x) xs
summed_is f [] = refl
summed_is f (x ∷ xs) = omega (arith, summed_is f xs, sum_by-cons (λ x. 1 + f x) x xs)

-- a bag has one sum
pub summed_same : {A : Type 0} (f : A → ℕ) (xs ys : List A) → IsPermutation xs ys → summed f xs ≡ summed f ys
summed_same f xs ys h = omega (arith, summed_is f xs, summed_is f ys, sum_by-IsPermutation (λ x. 1 + f x) xs ys h)

pub summed_ap : {A : Type 0} (f g : A → ℕ) → ((x : A) → f x ≡ g x) → (xs : List A) → summed f xs ≡ summed g xs
summed_ap f g h [] = refl
summed_ap f g h (x ∷ xs) = omega (arith, h x, summed_ap f g h xs)

-- ---- moves

-- the same from each of the starts
forks_same : (ts us : List Moves) (k : ℕ) → ((p : ℕ) → p ≤ k → moves_at ts p ≡ moves_at us p) → (starts : List ℕ) → AllByRecursion (λ start. start ≤ k) starts → (m : Solution)
    → summed (λ start. moves_at ts start m) starts ≡ summed (λ start. moves_at us start m) starts
forks_same ts us k h [] a m = refl
forks_same ts us k h (start ∷ starts) a m = ap (λ (f : Moves). (1 + f m) + summed (λ start. moves_at ts start m) starts) (h start a.0) ∙ ap (λ n. (1 + moves_at us start m) + n) (forks_same ts us k h starts a.1 m)

module _ (gives : Stage → Made) where
  looks_moves : LooksBefore Moves no_moves no_moves (instr_moves gives)
  looks_moves k i n ts us h = same_functions _ _ (λ m. ap (λ x. 1 + x) (each (is_union i.stage) m))
    where
      each : (b : Bool) (m : Solution) → cond b (summed (λ start. moves_at ts start m) i.starts) (summed (moves_at ts i.next) (gives i.stage m)) ≡ cond b (summed (λ start. moves_at us start m) i.starts) (summed (moves_at us i.next) (gives i.stage m))
      each true m = forks_same ts us k h i.starts n.starts m
      each false m = ap (λ f. summed f (gives i.stage m)) (h i.next n.next)

  module _ (code : List Instruction) (k : ℕ) (i : Instruction) (m : Solution) (forward : IsForward code) (h : k < length code) (e : i ≡ get_or code k i) where
    -- at an instruction
    pub toil_at : toil gives code (suc k) m ≡ instr_moves gives (all_moves gives code) i m
    toil_at = ap (λ (f : Moves). f m) (rw add-one at (values_at Moves (instr_moves gives) no_moves no_moves looks_moves code forward k i h e))

    -- at a union
    pub toil_fork : is_union i.stage ≡ true → toil gives code (suc k) m ≡ 1 + summed (λ start. toil gives code start m) i.starts
    toil_fork u = toil_at ∙ ap (λ b. 1 + cond b (summed (λ start. toil gives code start m) i.starts) (summed (toil gives code i.next) (gives i.stage m))) u

    -- at another stage
    pub toil_step : is_union i.stage ≡ false → toil gives code (suc k) m ≡ 1 + summed (toil gives code i.next) (gives i.stage m)
    toil_step u = toil_at ∙ ap (λ b. 1 + cond b (summed (λ start. toil gives code start m) i.starts) (summed (toil gives code i.next) (gives i.stage m))) u

-- What stands at the positions of a program, where it follows from what stands before.
use Rattle.std.proofs.Common.{◌≡◌, ℕ, zero, suc, ◌+◌, ◌<◌, ◌≤◌, List, [], ◌∷◌, ◌++◌, length, get_or, take, drop, refl, sym, ◌∙◌, ap, subst, add-one, inl, inr, arith}
use Rattle.std.specs.List.{AllByRecursion, fold}
use Rattle.std.proofs.lemmas.List.{get_or_append_left, get_or_at, length-append, length-take-le, take-append-drop, drop_more}
use Rattle.std.proofs.lemmas.Bool.{cases_lt}
use Rattle.std.proofs.lemmas.List.Sums.{fold_push, fold-append}
use Rattle.qs_ops_program.specs.inner.Flow.{Instruction, value_at, values_of, NamesBefore, IsForward}

pub same_functions : {X Y : Type 0} (f g : X → Y) → ((x : X) → f x ≡ g x) → f ≡ g
same_functions f g h = λ i x. h x i

-- ---- lists of what stands at each instruction

pub at_append : {A : Type 0} (finished past : A) (vs ws : List A) (p : ℕ) → p ≤ length vs → value_at finished past (vs ++ ws) p ≡ value_at finished past vs p
at_append finished past vs ws zero h = refl
at_append finished past vs ws (suc k) h = get_or_append_left vs ws past k (omega arith)

module _ (A : Type 0) (f : List A → Instruction → A) where
  abbrev step : List A → Instruction → List A
  step values i = values ++ f values i ∷ []

  fold_length : (vs : List A) (code : List Instruction) → length (fold step vs code) ≡ length vs + length code
  fold_length vs [] = omega arith
  fold_length vs (i ∷ code) = omega (arith, fold_length (vs ++ f vs i ∷ []) code, length-append vs (f vs i ∷ []))

  pub values_length : (code : List Instruction) → length (values_of f code) ≡ length code
  values_length code = omega (arith, fold_length [] code)

  pub values_push : (code : List Instruction) (i : Instruction) → values_of f (code ++ i ∷ []) ≡ values_of f code ++ f (values_of f code) i ∷ []
  values_push code i = fold_push step [] code i

  fold_keeps : (finished past : A) (vs : List A) (code : List Instruction) (p : ℕ) → p ≤ length vs → value_at finished past (fold step vs code) p ≡ value_at finished past vs p
  fold_keeps finished past vs [] p h = refl
  fold_keeps finished past vs (i ∷ code) p h =
      fold_keeps finished past (vs ++ f vs i ∷ []) code p (omega (arith, length-append vs (f vs i ∷ []))) ∙ at_append finished past vs (f vs i ∷ []) p h

  -- more instructions change nothing at the positions before them
  pub values_keep : (finished past : A) (code more : List Instruction) (p : ℕ) → p ≤ length code → value_at finished past (values_of f (code ++ more)) p ≡ value_at finished past (values_of f code) p
  values_keep finished past code more p h =
      ap (λ vs. value_at finished past vs p) (fold-append step [] code more) ∙ fold_keeps finished past (values_of f code) more p (omega (arith, values_length code))

-- what stands at an instruction follows from what stands before it alone
abbrev pub LooksBefore : (A : Type 0) → A → A → (List A → Instruction → A) → Type 0
LooksBefore A finished past f = (k : ℕ) (i : Instruction) → NamesBefore k i → (vs ws : List A) → ((p : ℕ) → p ≤ k → value_at finished past vs p ≡ value_at finished past ws p) → f vs i ≡ f ws i

module _ (A : Type 0) (f : List A → Instruction → A) (finished past : A) (looks : LooksBefore A finished past f) where
  values_between : (before after : List Instruction) (i : Instruction) (k : ℕ) → length before ≡ k → NamesBefore k i → get_or (values_of f (before ++ i ∷ after)) k past ≡ f (values_of f (before ++ i ∷ after)) i
  values_between before after i k e n =
      let vs : List A = values_of f before in
      let l : length vs ≡ k = values_length A f before ∙ e in
      let a : value_at finished past (values_of f (before ++ i ∷ after)) (suc k) ≡ value_at finished past (vs ++ f vs i ∷ []) (suc k) =
      ap (λ ws. value_at finished past ws (suc k)) (fold-append (step A f) [] before (i ∷ after))
      ∙ fold_keeps A f finished past (vs ++ f vs i ∷ []) after (suc k) (omega (arith, length-append vs (f vs i ∷ []))) in
      a ∙ (get_or_at vs (f vs i) [] past k l
      ∙ looks k i n vs (values_of f (before ++ i ∷ after)) (λ p h. sym (values_keep A f finished past before (i ∷ after) p (omega arith))))

  -- what stands at an instruction
  pub values_at : (code : List Instruction) → IsForward code → (k : ℕ) (i : Instruction) → k < length code → i ≡ get_or code k i → value_at finished past (values_of f code) (k + 1) ≡ f (values_of f code) i
  values_at code forward k i h e =
      let split : code ≡ take k code ++ i ∷ drop (k + 1) code = sym (take-append-drop k code) ∙ ap (λ l. take k code ++ l) (drop_more code k i h ∙ ap (λ x. x ∷ drop (k + 1) code) (sym e)) in
      rw add-one (subst (λ (c : List Instruction). get_or (values_of f c) k past ≡ f (values_of f c) i) (sym split)
      (values_between (take k code) (drop (k + 1) code) i k (length-take-le k code (omega arith)) (forward.each k i h e)))

-- ---- programs that go forward

pub no_code : IsForward []
no_code = record { each = λ k i h e. absurd (omega arith) }

pub names_less : (j k : ℕ) (i : Instruction) → j ≤ k → NamesBefore j i → NamesBefore k i
names_less j k i h n = record { next = omega (arith, n.next); starts = each i.starts n.starts }
  where
    each : (xs : List ℕ) → AllByRecursion (λ x. x ≤ j) xs → AllByRecursion (λ x. x ≤ k) xs
    each [] a = tt
    each (x ∷ xs) a = (omega (arith, a.0), each xs a.1)

pub forward_push : (code : List Instruction) (i : Instruction) → IsForward code → NamesBefore (length code) i → IsForward (code ++ i ∷ [])
forward_push code i forward n = record { each = λ k j h e. at k j h e (omega (arith, h, length-append code (i ∷ []))) }
  where
    last : (k : ℕ) (j : Instruction) → k ≡ length code → j ≡ get_or (code ++ i ∷ []) k j → NamesBefore k j
    last k j q e = subst (λ (x : Instruction). NamesBefore k x) (sym (e ∙ get_or_at code i [] j k (sym q))) (subst (λ (x : ℕ). NamesBefore x i) (sym q) n)

    at : (k : ℕ) (j : Instruction) → k < length (code ++ i ∷ []) → j ≡ get_or (code ++ i ∷ []) k j → k < length code + 1 → NamesBefore k j
    at k j h e l = elim (cases_lt k (length code)) [ inl b ↦ forward.each k j b (e ∙ get_or_append_left code (i ∷ []) j k b) | inr b ↦ last k j (omega (arith, b)) e ]

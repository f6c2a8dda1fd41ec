-- Steps that read a tree from left to right: each gives a value and goes on, or stops at the first
-- fault. All that is resolved is defined by such steps, by recursion on the tree.
use Rattle.std.specs.Prelude.{List, [], ◌∷◌, ◌++◌, Option, Some, None, Ok}
use Rattle.qs_terms.specs.Outcome.{Outcome, and_then}
use Rattle.qs_syntax_resolve.specs.declared.resolver.Resolver.{Resolver}

-- a step by what was read so far: the names declared, how many anonymous blank nodes have begun,
-- and whether all literals are lawful
abbrev pub Resolving : Type 0 → Type 0
Resolving A = Resolver → Outcome (A × Resolver)

infixl 10 ◌>>=◌
abbrev pub ◌>>=◌ : {A B : Type 0} → Resolving A → (A → Resolving B) → Resolving B
p >>= f = λ s. and_then (p s) (λ r. f r.0 r.1)

abbrev pub pure : {A : Type 0} → A → Resolving A
pure a = λ s. Ok (a, s)

infixr 11 ◌<$>◌
abbrev pub ◌<$>◌ : {A B : Type 0} → (A → B) → Resolving A → Resolving B
f <$> p = p >>= (λ x. pure (f x))

-- all of them, in turn, after those that are found already
abbrev pub all_after : {A : Type 0} → List A → List (Resolving A) → Resolving (List A)
all_after found [] = pure found
all_after found (p ∷ ps) = p >>= (λ x. all_after (found ++ x ∷ []) ps)

abbrev pub all : {A : Type 0} → List (Resolving A) → Resolving (List A)
all ps = all_after [] ps

-- one step after another, each from what those before it gave
abbrev pub in_turn : {A B : Type 0} → (A → B → Resolving A) → A → List B → Resolving A
in_turn step found [] = pure found
in_turn step found (b ∷ bs) = step found b >>= (λ more. in_turn step more bs)

-- nothing where there is none
abbrev pub optional : {A B : Type 0} → (A → Resolving B) → Option A → Resolving (Option B)
optional step None = pure None
optional step (Some a) = Some <$> step a

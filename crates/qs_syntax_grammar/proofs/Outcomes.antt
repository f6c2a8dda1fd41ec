-- What holds of an outcome, through the steps that make it.
use Rattle.std.proofs.Common.{◌≡◌, ◌≤◌, ◌⊎◌, inl, inr, arith, ℕ, Bool, true, false, cond, List, length, Ok, Err, refl, subst}
use Rattle.qs_syntax_grammar.specs.declared.fault.Fault.TheVariants.{Memory, Deep, Syntax}
use Rattle.qs_syntax_grammar.specs.inner.Reading.{Outcome, and_then}

-- a fact of the tree and the tokens after it
abbrev pub IfRead : {T A : Type 0} → Outcome T A → (A → List T → Type 0) → Type 0
IfRead (Ok p) P = P p.0 p.1
IfRead (Err e) P = Unit {0}

pub IfRead-and_then : {T A B : Type 0} (o : Outcome T A) (f : A → List T → Outcome T B) (P : A → List T → Type 0) (Q : B → List T → Type 0)
    → IfRead o P → ((x : A) (s : List T) → P x s → IfRead (f x s) Q) → IfRead (and_then o f) Q
IfRead-and_then (Ok p) f P Q h k = k p.0 p.1 h
IfRead-and_then (Err e) f P Q h k = tt

pub IfRead-cond : {T A : Type 0} (b : Bool) (o o' : Outcome T A) (P : A → List T → Type 0)
    → (b ≡ true → IfRead o P) → (b ≡ false → IfRead o' P) → IfRead (cond b o o') P
IfRead-cond true o o' P h k = h refl
IfRead-cond false o o' P h k = k refl

pub IfRead-at : {T A : Type 0} (o : Outcome T A) (P : A → List T → Type 0) (x : A) (rest : List T) → IfRead o P → o ≡ Ok (x, rest) → P x rest
IfRead-at {T} {A} o P x rest h e = let Q : Outcome T A → Type 0 = λ v. IfRead v P in subst Q e h

pub IfRead-weaker : {T A : Type 0} (o : Outcome T A) (P Q : A → List T → Type 0) → IfRead o P → ((x : A) (s : List T) → P x s → Q x s) → IfRead o Q
IfRead-weaker (Ok p) P Q h k = k p.0 p.1 h
IfRead-weaker (Err e) P Q h k = tt

-- the steps of a reading that gives a tree
pub and_then_is : {T A B : Type 0} (o : Outcome T A) (f : A → List T → Outcome T B) (x : A) (s : List T) (z : Outcome T B) → o ≡ Ok (x, s) → f x s ≡ z → and_then o f ≡ z
and_then_is o f x s z e h = rw e h

pub cond_is_true : {A : Type 0} (b : Bool) (x y z : A) → b ≡ true → x ≡ z → cond b x y ≡ z
cond_is_true b x y z e h = rw e h

pub cond_is_false : {A : Type 0} (b : Bool) (x y z : A) → b ≡ false → y ≡ z → cond b x y ≡ z
cond_is_false b x y z e h = rw e h

-- two ways to go on that agree where they are needed
pub and_then_alike : {T A B : Type 0} (o : Outcome T A) (f g : A → List T → Outcome T B) → IfRead o (λ x s. f x s ≡ g x s) → and_then o f ≡ and_then o g
and_then_alike (Ok p) f g h = h
and_then_alike (Err e) f g h = refl

pub cond_alike : {A : Type 0} (b : Bool) (x y z : A) → (b ≡ true → x ≡ y) → cond b x z ≡ cond b y z
cond_alike true x y z h = h refl
cond_alike false x y z h = refl

-- ---- how many tokens are left

abbrev pub LeavesAtMost : {T A : Type 0} → ℕ → Outcome T A → Type 0
LeavesAtMost m (Ok p) = length p.1 ≤ m
LeavesAtMost m (Err (Syntax n)) = n ≤ m
LeavesAtMost m (Err Deep) = Unit {0}
LeavesAtMost m (Err Memory) = Unit {0}

pub LeavesAtMost-and_then : {T A B : Type 0} (m : ℕ) (o : Outcome T A) (f : A → List T → Outcome T B) → LeavesAtMost m o
    → ((x : A) (s : List T) → length s ≤ m → LeavesAtMost m (f x s)) → LeavesAtMost m (and_then o f)
LeavesAtMost-and_then m (Ok p) f h k = k p.0 p.1 h
LeavesAtMost-and_then m (Err (Syntax n)) f h k = h
LeavesAtMost-and_then m (Err Deep) f h k = tt
LeavesAtMost-and_then m (Err Memory) f h k = tt

pub LeavesAtMost-weaker : {T A : Type 0} (m n : ℕ) (o : Outcome T A) → m ≤ n → LeavesAtMost m o → LeavesAtMost n o
LeavesAtMost-weaker m n (Ok p) l h = omega arith
LeavesAtMost-weaker m n (Err (Syntax i)) l h = omega arith
LeavesAtMost-weaker m n (Err Deep) l h = tt
LeavesAtMost-weaker m n (Err Memory) l h = tt

pub LeavesAtMost-cond : {T A : Type 0} (m : ℕ) (b : Bool) (o o' : Outcome T A) → LeavesAtMost m o → LeavesAtMost m o' → LeavesAtMost m (cond b o o')
LeavesAtMost-cond m true o o' h k = h
LeavesAtMost-cond m false o o' h k = k

-- ---- rules that do not hold themselves too deep

abbrev pub IsShallow : {T A : Type 0} → Outcome T A → Type 0
IsShallow (Ok p) = Unit {0}
IsShallow (Err (Syntax n)) = Unit {0}
IsShallow (Err Deep) = ⊥
IsShallow (Err Memory) = Unit {0}

pub IsShallow-and_then : {T A B : Type 0} (o : Outcome T A) (f : A → List T → Outcome T B) → IsShallow o → IfRead o (λ x s. IsShallow (f x s)) → IsShallow (and_then o f)
IsShallow-and_then (Ok p) f h k = k
IsShallow-and_then (Err (Syntax n)) f h k = tt
IsShallow-and_then (Err Deep) f h k = h
IsShallow-and_then (Err Memory) f h k = tt

pub IsShallow-cond : {T A : Type 0} (b : Bool) (o o' : Outcome T A) → (b ≡ true → IsShallow o) → IsShallow o' → IsShallow (cond b o o')
IsShallow-cond true o o' h k = h refl
IsShallow-cond false o o' h k = k

-- ---- with more depth the outcome is the same, unless there was too little before

abbrev pub Extends : {T A : Type 0} → Outcome T A → Outcome T A → Type 0
Extends o o' = (o ≡ Err Deep) ⊎ (o' ≡ o)

pub Extends-and_then : {T A B : Type 0} (o o' : Outcome T A) (f g : A → List T → Outcome T B) → Extends o o'
    → ((x : A) (s : List T) → Extends (f x s) (g x s)) → Extends (and_then o f) (and_then o' g)
Extends-and_then o o' f g (inl e) k = inl (rw e refl)
Extends-and_then (Ok p) o' f g (inr e) k = rw e (k p.0 p.1)
Extends-and_then (Err i) o' f g (inr e) k = inr (rw e refl)

pub Extends-cond : {T A : Type 0} (b : Bool) (x x' y y' : Outcome T A) → Extends x x' → Extends y y' → Extends (cond b x y) (cond b x' y')
Extends-cond true x x' y y' h k = h
Extends-cond false x x' y y' h k = k

pub IfRead-always : {T A : Type 0} (o : Outcome T A) (P : A → List T → Type 0) → ((x : A) (s : List T) → P x s) → IfRead o P
IfRead-always (Ok p) P k = k p.0 p.1
IfRead-always (Err e) P k = tt

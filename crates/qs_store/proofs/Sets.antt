-- Lists read as sets.
use Rattle.std.proofs.Common.{List, inl, inr, ⊎_elim}
use Rattle.std.specs.List.{Contains}
use Rattle.std.proofs.lemmas.List.Sorted.{Contains-permutation, IsPermutation-sym}
use Rattle.qs_terms.specs.Bag.{SameBag}
use Rattle.qs_store.specs.Change.{IsChanged}
use Rattle.qs_store.specs.Same.{SameSet}

pub set_refl : {X : Type 0} (a : List X) → SameSet a a
set_refl a x = (λ c. c, λ c. c)

pub set_sym : {X : Type 0} (a b : List X) → SameSet a b → SameSet b a
set_sym a b e x = ((e x).1, (e x).0)

pub set_trans : {X : Type 0} (a b c : List X) → SameSet a b → SameSet b c → SameSet a c
set_trans a b c e f x = (λ m. (f x).0 ((e x).0 m), λ m. (e x).1 ((f x).1 m))

pub set_of_bag : {X : Type 0} (a b : List X) → SameBag a b → SameSet a b
set_of_bag a b e x = (λ m. Contains-permutation a b x e m, λ m. Contains-permutation b a x (IsPermutation-sym a b e) m)

-- a change, in one direction
carried : {X : Type 0} (old removed added new old2 removed2 added2 new2 : List X) → SameSet old old2 → SameSet removed removed2 → SameSet added added2 → IsChanged old removed added new → IsChanged old2 removed2 added2 new2 → (x : X) → Contains new x → Contains new2 x
carried old removed added new old2 removed2 added2 new2 o r a w v x m =
    (v x).1 (⊎_elim (λ k. inl ((o x).0 k.0, λ n. k.1 ((r x).1 n))) (λ k. inr ((a x).0 k)) ((w x).0 m))

pub changed_alike : {X : Type 0} (old removed added new old2 removed2 added2 new2 : List X) → SameSet old old2 → SameSet removed removed2 → SameSet added added2 → IsChanged old removed added new → IsChanged old2 removed2 added2 new2 → SameSet new new2
changed_alike old removed added new old2 removed2 added2 new2 o r a w v x = (
  carried old removed added new old2 removed2 added2 new2 o r a w v x,
  carried old2 removed2 added2 new2 old removed added new (set_sym old old2 o) (set_sym removed removed2 r) (set_sym added added2 a) v w x,
)

-- Lists that ascend by keys: one without another, and two merged.
use Rattle.std.proofs.Common.{◌≡◌, ◌≢◌, ◌⊎◌, ℕ, Bool, true, false, cond, List, [], ◌∷◌, map, Option, Some, None, refl, ap, sym, ◌∙◌, subst, inl, inr, ⊎_elim}
use Rattle.std.specs.Str.{bytes_eq}
use Rattle.std.specs.List.{Contains}
use Rattle.std.proofs.lemmas.Bool.{false≢true}
use Rattle.std.proofs.lemmas.Slice.Eq.{bytes_eq-Decides}
use Rattle.qs_index.specs.inner.Entry.{IsAscending, IsBeforeAll, is_before}
use Rattle.qs_index.proofs.Ascending.{before_trans}
use Rattle.qs_index.proofs.EntryEdits.{same_from_neither}
use Rattle.qs_store.specs.inner.Scans.{without, merged, merged_from, led, is_last}
use Rattle.qs_store.proofs.Members.{Entries, nothing, here, there, head_or_tail, not_before_itself}

abbrev pub Key : Type 0
Key = List ℕ → List ℕ

-- a key stands before those of all of a list, told by its members
pub each_before : (key : Key) (k : List ℕ) (zs : Entries) → ((z : List ℕ) → Contains zs z → is_before k (key z) ≡ true) → IsBeforeAll k (map key zs)
each_before key k [] h = tt
each_before key k (z ∷ zs) h = (h z (here z zs), each_before key k zs (λ y m. h y (there z y zs m)))

pub before_each : (key : Key) (k : List ℕ) (zs : Entries) → IsBeforeAll k (map key zs) → (z : List ℕ) → Contains zs z → is_before k (key z) ≡ true
before_each key k [] u z c = absurd (nothing z c)
before_each key k (y ∷ ys) u z c = ⊎_elim (λ e. subst (λ v. is_before k (key v) ≡ true) e u.0) (λ t. before_each key k ys u.1 z t) (head_or_tail y ys z c)

-- no key stands before one that stands before it
pub not_both : (a b : List ℕ) → is_before a b ≡ true → is_before b a ≡ true → ⊥
not_both a b h g = false≢true (sym (not_before_itself a) ∙ before_trans a b a h g)

-- of two keys that differ one stands before the other
pub other_before : (a b : List ℕ) → is_before a b ≡ false → a ≢ b → is_before b a ≡ true
other_before a b h n = at_test (is_before b a) refl
  where
    at_test : (t : Bool) → is_before b a ≡ t → t ≡ true
    at_test true e = refl
    at_test false e = absurd (n (same_from_neither a b h e))

pub without_nothing : (xs : Entries) → without xs [] ≡ xs
without_nothing [] = refl
without_nothing (x ∷ xs) = refl

pub without_only : (xs ys : Entries) (z : List ℕ) → Contains (without xs ys) z → Contains xs z
without_only [] ys z c = c
without_only (x ∷ xs) [] z c = c
without_only (x ∷ xs) (y ∷ ys) z c =
    at_test (bytes_eq y x) (λ m. without_only xs ys z m) (λ m. without_only xs (y ∷ ys) z m) c
  where
    at_test : (b : Bool) → (Contains (without xs ys) z → Contains xs z) → (Contains (without xs (y ∷ ys)) z → Contains xs z) → Contains (cond b (without xs ys) (x ∷ without xs (y ∷ ys))) z → Contains (x ∷ xs) z
    at_test true i j m = there x z xs (i m)
    at_test false i j m =
        ⊎_elim (λ e. subst (Contains (x ∷ xs)) e (here x xs)) (λ t. there x z xs (j t)) (head_or_tail x (without xs (y ∷ ys)) z m)

pub without_has : (xs ys : Entries) (z : List ℕ) → Contains xs z → (Contains ys z → ⊥) → Contains (without xs ys) z
without_has [] ys z c n = c
without_has (x ∷ xs) [] z c n = c
without_has (x ∷ xs) (y ∷ ys) z c n =
    at_test (bytes_eq y x) refl (λ t. without_has xs ys z t (λ m. n (there y z ys m))) (λ t. without_has xs (y ∷ ys) z t n)
  where
    at_test : (b : Bool) → bytes_eq y x ≡ b → (Contains xs z → Contains (without xs ys) z) → (Contains xs z → Contains (without xs (y ∷ ys)) z) → Contains (cond b (without xs ys) (x ∷ without xs (y ∷ ys))) z
    at_test true e i j =
        ⊎_elim (λ s. absurd (n (subst (Contains (y ∷ ys)) ((bytes_eq-Decides y x).0 e ∙ s) (here y ys)))) i (head_or_tail x xs z c)
    at_test false e i j =
        ⊎_elim (λ s. subst (Contains (x ∷ without xs (y ∷ ys))) s (here x (without xs (y ∷ ys)))) (λ t. there x z (without xs (y ∷ ys)) (j t)) (head_or_tail x xs z c)

-- both lists ascend by their keys, and the second is part of the first
pub record IsPart (key : Key) (xs ys : Entries) : Type 0 where
  pub first : IsAscending (map key xs)
  pub second : IsAscending (map key ys)
  pub stands : (z : List ℕ) → Contains ys z → Contains xs z

-- what is left of both once the first of both is taken
both_later : (key : Key) (x y : List ℕ) (xs ys : Entries) → IsPart key (x ∷ xs) (y ∷ ys) → y ≡ x → IsPart key xs ys
both_later key x y xs ys p e = record {
  first = p.first.1;
  second = p.second.1;
  stands = λ z m. ⊎_elim (λ s. absurd (false≢true (sym (not_before_itself (key y)) ∙ subst (λ v. is_before (key y) (key v) ≡ true) (sym (e ∙ s)) (before_each key (key y) ys p.second.0 z m)))) (λ t. t) (head_or_tail x xs z (p.stands z (there y z ys m)));
}

-- the first of the first list isn't in the second, where it isn't the second's first
not_in : (key : Key) (x y : List ℕ) (xs ys : Entries) → IsPart key (x ∷ xs) (y ∷ ys) → y ≢ x → Contains (y ∷ ys) x → ⊥
not_in key x y xs ys p n c =
    ⊎_elim n (λ t.
    let a = before_each key (key y) ys p.second.0 x t in
    let m : Contains xs y = ⊎_elim (λ s. absurd (n (sym s))) (λ r. r) (head_or_tail x xs y (p.stands y (here y ys))) in
    not_both (key x) (key y) (before_each key (key x) xs p.first.0 y m) a) (head_or_tail y ys x c)

first_later : (key : Key) (x y : List ℕ) (xs ys : Entries) → IsPart key (x ∷ xs) (y ∷ ys) → y ≢ x → IsPart key xs (y ∷ ys)
first_later key x y xs ys p n = record {
  first = p.first.1;
  second = p.second;
  stands = λ z m. ⊎_elim (λ s. absurd (not_in key x y xs ys p n (subst (Contains (y ∷ ys)) (sym s) m))) (λ t. t) (head_or_tail x xs z (p.stands z m));
}

pub without_gone : (key : Key) (xs ys : Entries) → IsPart key xs ys → (z : List ℕ) → Contains (without xs ys) z → Contains ys z → ⊥
without_gone key [] ys p z c m = nothing z c
without_gone key (x ∷ xs) [] p z c m = nothing z m
without_gone key (x ∷ xs) (y ∷ ys) p z c m =
    at_test (bytes_eq y x) refl (λ q k t. without_gone key xs ys q z k t) (λ q t. without_gone key xs (y ∷ ys) q z t m) c
  where
    at_test : (b : Bool) → bytes_eq y x ≡ b → (IsPart key xs ys → Contains (without xs ys) z → Contains ys z → ⊥) → (IsPart key xs (y ∷ ys) → Contains (without xs (y ∷ ys)) z → ⊥) → Contains (cond b (without xs ys) (x ∷ without xs (y ∷ ys))) z → ⊥
    at_test true e i j k =
        let s = (bytes_eq-Decides y x).0 e in
        ⊎_elim (λ f. false≢true (sym (not_before_itself (key x)) ∙ subst (λ v. is_before (key x) (key v) ≡ true) (sym f ∙ s) (before_each key (key x) xs p.first.0 z (without_only xs ys z k))))
        (λ t. i (both_later key x y xs ys p s) k t) (head_or_tail y ys z m)
    at_test false e i j k =
        let n : y ≢ x = λ s. false≢true (sym e ∙ (bytes_eq-Decides y x).1 s) in
        ⊎_elim (λ f. not_in key x y xs ys p n (subst (Contains (y ∷ ys)) (sym f) m))
        (λ t. j (first_later key x y xs ys p n) t) (head_or_tail x (without xs (y ∷ ys)) z k)

pub ascending_without : (key : Key) (xs ys : Entries) → IsAscending (map key xs) → IsAscending (map key (without xs ys))
ascending_without key [] ys u = tt
ascending_without key (x ∷ xs) [] u = u
ascending_without key (x ∷ xs) (y ∷ ys) u =
    at_test (bytes_eq y x) (ascending_without key xs ys u.1) (ascending_without key xs (y ∷ ys) u.1)
  where
    at_test : (b : Bool) → IsAscending (map key (without xs ys)) → IsAscending (map key (without xs (y ∷ ys))) → IsAscending (map key (cond b (without xs ys) (x ∷ without xs (y ∷ ys))))
    at_test true i j = i
    at_test false i j = (each_before key (key x) (without xs (y ∷ ys)) (λ z m. before_each key (key x) xs u.0 z (without_only xs (y ∷ ys) z m)), j)

-- an entry that isn't the next of the removed is handed out
pub kept_step : (all entries : Entries) (x : List ℕ) (xs : Entries) (next : Option (List ℕ)) (removed : Entries) → all ≡ without entries (led next removed) → entries ≡ x ∷ xs → is_last next x ≡ false → all ≡ x ∷ without xs (led next removed)
kept_step all entries x xs None removed h e n = h ∙ ap (λ l. without l []) e ∙ ap (λ l. x ∷ l) (sym (without_nothing xs))
kept_step all entries x xs (Some y) removed h e n =
    h ∙ ap (λ l. without l (y ∷ removed)) e ∙ ap (λ b. cond b (without xs removed) (x ∷ without xs (y ∷ removed))) n

-- the members of two lists that are merged
from_only : (key : Key) (x : List ℕ) (xs : Entries) → ((ys : Entries) (z : List ℕ) → Contains (merged key xs ys) z → Contains xs z ⊎ Contains ys z) → (ys : Entries) (z : List ℕ) → Contains (merged_from key x xs (merged key xs) ys) z → Contains (x ∷ xs) z ⊎ Contains ys z
from_only key x xs i [] z c = inl c
from_only key x xs i (y ∷ ys) z c = at_test (is_before (key x) (key y)) (λ m. from_only key x xs i ys z m) c
  where
    at_test : (b : Bool) → (Contains (merged_from key x xs (merged key xs) ys) z → Contains (x ∷ xs) z ⊎ Contains ys z) → Contains (cond b (x ∷ merged key xs (y ∷ ys)) (y ∷ merged_from key x xs (merged key xs) ys)) z → Contains (x ∷ xs) z ⊎ Contains (y ∷ ys) z
    at_test true j m =
        ⊎_elim (λ e. inl (subst (Contains (x ∷ xs)) e (here x xs))) (λ t. ⊎_elim (λ a. inl (there x z xs a)) (λ b. inr b) (i (y ∷ ys) z t)) (head_or_tail x (merged key xs (y ∷ ys)) z m)
    at_test false j m =
        ⊎_elim (λ e. inr (subst (Contains (y ∷ ys)) e (here y ys))) (λ t. ⊎_elim (λ a. inl a) (λ b. inr (there y z ys b)) (j t)) (head_or_tail y (merged_from key x xs (merged key xs) ys) z m)

pub merged_only : (key : Key) (xs ys : Entries) (z : List ℕ) → Contains (merged key xs ys) z → Contains xs z ⊎ Contains ys z
merged_only key [] ys z c = inr c
merged_only key (x ∷ xs) ys z c = from_only key x xs (λ zs w m. merged_only key xs zs w m) ys z c

from_has : (key : Key) (x : List ℕ) (xs : Entries) → ((ys : Entries) (z : List ℕ) → Contains xs z ⊎ Contains ys z → Contains (merged key xs ys) z) → (ys : Entries) (z : List ℕ) → Contains (x ∷ xs) z ⊎ Contains ys z → Contains (merged_from key x xs (merged key xs) ys) z
from_has key x xs i [] z c = ⊎_elim (λ a. a) (λ b. absurd (nothing z b)) c
from_has key x xs i (y ∷ ys) z c = at_test (is_before (key x) (key y)) (λ m. from_has key x xs i ys z m)
  where
    at_test : (b : Bool) → (Contains (x ∷ xs) z ⊎ Contains ys z → Contains (merged_from key x xs (merged key xs) ys) z) → Contains (cond b (x ∷ merged key xs (y ∷ ys)) (y ∷ merged_from key x xs (merged key xs) ys)) z
    at_test true j =
        let on = merged key xs (y ∷ ys) in
        ⊎_elim (λ a. ⊎_elim (λ e. subst (Contains (x ∷ on)) e (here x on)) (λ t. there x z on (i (y ∷ ys) z (inl t))) (head_or_tail x xs z a)) (λ b. there x z on (i (y ∷ ys) z (inr b))) c
    at_test false j =
        let on = merged_from key x xs (merged key xs) ys in
        ⊎_elim (λ a. there y z on (j (inl a))) (λ b. ⊎_elim (λ e. subst (Contains (y ∷ on)) e (here y on)) (λ t. there y z on (j (inr t))) (head_or_tail y ys z b)) c

pub merged_has : (key : Key) (xs ys : Entries) (z : List ℕ) → Contains xs z ⊎ Contains ys z → Contains (merged key xs ys) z
merged_has key [] ys z c = ⊎_elim (λ a. absurd (nothing z a)) (λ b. b) c
merged_has key (x ∷ xs) ys z c = from_has key x xs (λ zs w m. merged_has key xs zs w m) ys z c

-- no key of the first is one of the second
abbrev pub AreApart : Key → Entries → Entries → Type 0
AreApart key xs ys = (z w : List ℕ) → Contains xs z → Contains ys w → key z ≢ key w

from_ascends : (key : Key) (x : List ℕ) (xs : Entries) → IsAscending (map key (x ∷ xs)) → ((ys : Entries) → IsAscending (map key ys) → AreApart key xs ys → IsAscending (map key (merged key xs ys))) → (ys : Entries) → IsAscending (map key ys) → AreApart key (x ∷ xs) ys → IsAscending (map key (merged_from key x xs (merged key xs) ys))
from_ascends key x xs u i [] v d = u
from_ascends key x xs u i (y ∷ ys) v d =
    at_test (is_before (key x) (key y)) refl (from_ascends key x xs u i ys v.1 (λ z w a b. d z w a (there y w ys b)))
  where
    at_test : (b : Bool) → is_before (key x) (key y) ≡ b → IsAscending (map key (merged_from key x xs (merged key xs) ys)) → IsAscending (map key (cond b (x ∷ merged key xs (y ∷ ys)) (y ∷ merged_from key x xs (merged key xs) ys)))
    at_test true e j = (
      each_before key (key x) (merged key xs (y ∷ ys)) (λ z m.
          ⊎_elim (λ a. before_each key (key x) xs u.0 z a)
          (λ b. ⊎_elim (λ s. subst (λ w. is_before (key x) (key w) ≡ true) s e) (λ t. before_trans (key x) (key y) (key z) e (before_each key (key y) ys v.0 z t)) (head_or_tail y ys z b))
          (merged_only key xs (y ∷ ys) z m)),
      i (y ∷ ys) v (λ z w a b. d z w (there x z xs a) b),
    )
    at_test false e j =
        let g = other_before (key x) (key y) e (d x y (here x xs) (here y ys)) in (
          each_before key (key y) (merged key (x ∷ xs) ys) (λ z m.
              ⊎_elim (λ a. ⊎_elim (λ s. subst (λ w. is_before (key y) (key w) ≡ true) s g) (λ t. before_trans (key y) (key x) (key z) g (before_each key (key x) xs u.0 z t)) (head_or_tail x xs z a))
              (λ b. before_each key (key y) ys v.0 z b)
              (merged_only key (x ∷ xs) ys z m)),
          j,
        )

pub ascending_merged : (key : Key) (xs ys : Entries) → IsAscending (map key xs) → IsAscending (map key ys) → AreApart key xs ys → IsAscending (map key (merged key xs ys))
ascending_merged key [] ys u v d = v
ascending_merged key (x ∷ xs) ys u v d = from_ascends key x xs u (λ zs w a. ascending_merged key xs zs u.1 w a) ys v d

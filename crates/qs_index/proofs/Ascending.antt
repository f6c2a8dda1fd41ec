-- The order of entries, and what a sorted list has at a prefix.
use Rattle.std.proofs.Common.{◌≡◌, ℕ, Bool, true, false, cond, List, [], ◌∷◌, ◌++◌, refl, ap, sym, arith}
use Rattle.std.proofs.lemmas.Bool.{false≢true}
use Rattle.std.proofs.lemmas.Bool.Decides.{nat_tests}
use Rattle.qs_index.specs.inner.Entry.{is_before, begins, beginning, IsBeforeAll, IsAscending, skip_before, run_of}

-- what stands before a prefix does not begin with it
pub not_begins_before : (x p : List ℕ) → is_before x p ≡ true → begins p x ≡ false
not_begins_before x [] h = absurd (false≢true h)
not_begins_before [] (q ∷ p) h = refl
not_begins_before (a ∷ x) (q ∷ p) h =
    let i : is_before x p ≡ true → begins p x ≡ false = not_begins_before x p in grind (arith, nat_tests)

-- what follows an entry that is not before a prefix is not before it either
pub not_before_later : (x y p : List ℕ) → is_before x y ≡ true → is_before x p ≡ false → is_before y p ≡ false
not_before_later x y [] h g = refl
not_before_later [] y (q ∷ p) h g = absurd (false≢true (sym g))
not_before_later (a ∷ x) [] (q ∷ p) h g = absurd (false≢true h)
not_before_later (a ∷ x) (b ∷ y) (q ∷ p) h g =
    let i : is_before x y ≡ true → is_before x p ≡ false → is_before y p ≡ false = not_before_later x y p in grind (arith, nat_tests)

-- once past the entries that begin with a prefix, none does
pub not_begins_later : (x y p : List ℕ) → is_before x y ≡ true → is_before x p ≡ false → begins p x ≡ false → begins p y ≡ false
not_begins_later x y [] h g n = absurd (false≢true (sym n))
not_begins_later [] y (q ∷ p) h g n = absurd (false≢true (sym g))
not_begins_later (a ∷ x) [] (q ∷ p) h g n = refl
not_begins_later (a ∷ x) (b ∷ y) (q ∷ p) h g n =
    let i : is_before x y ≡ true → is_before x p ≡ false → begins p x ≡ false → begins p y ≡ false = not_begins_later x y p in grind (arith, nat_tests)

pub before_trans : (x y z : List ℕ) → is_before x y ≡ true → is_before y z ≡ true → is_before x z ≡ true
before_trans x y [] h g = absurd (false≢true g)
before_trans [] y (c ∷ z) h g = refl
before_trans (a ∷ x) [] (c ∷ z) h g = absurd (false≢true h)
before_trans (a ∷ x) (b ∷ y) (c ∷ z) h g =
    let i : is_before x y ≡ true → is_before y z ≡ true → is_before x z ≡ true = before_trans x y z in grind (arith, nat_tests)

-- none of a list begins with a prefix that its first entry has passed
none_begins_later : (p x : List ℕ) → is_before x p ≡ false → begins p x ≡ false → (xs : List (List ℕ)) → IsBeforeAll x xs → beginning p xs ≡ []
none_begins_later p x g n [] u = refl
none_begins_later p x g n (y ∷ xs) u =
    rw (not_begins_later x y p u.0 g n) (none_begins_later p x g n xs u.1)

run_from_start : (p x : List ℕ) (xs : List (List ℕ)) → IsAscending (x ∷ xs) → is_before x p ≡ false → beginning p (x ∷ xs) ≡ run_of p (x ∷ xs)
run_from_start p x [] u g = refl
run_from_start p x (y ∷ xs) u g =
    let i = run_from_start p y xs u.1 (not_before_later x y p u.0.0 g) in
    let n : begins p x ≡ false → beginning p (y ∷ xs) ≡ [] = λ n. none_begins_later p x g n (y ∷ xs) u.0 in
    at_test (begins p x) i n
  where
    at_test : (b : Bool) → beginning p (y ∷ xs) ≡ run_of p (y ∷ xs) → (b ≡ false → beginning p (y ∷ xs) ≡ []) → cond b (x ∷ beginning p (y ∷ xs)) (beginning p (y ∷ xs)) ≡ cond b (x ∷ run_of p (y ∷ xs)) []
    at_test true i n = ap (λ r. x ∷ r) i
    at_test false i n = n refl

-- in an ascending list the beginning entries are the run that follows those before the prefix
pub beginning_is_run : (p : List ℕ) (xs : List (List ℕ)) → IsAscending xs → beginning p xs ≡ run_of p (skip_before p xs)
beginning_is_run p [] u = refl
beginning_is_run p (x ∷ xs) u = let i = beginning_is_run p xs u.1 in by_test i (is_before x p) refl
  where
    by_test : beginning p xs ≡ run_of p (skip_before p xs) → (b : Bool) → is_before x p ≡ b → beginning p (x ∷ xs) ≡ run_of p (cond b (skip_before p xs) (x ∷ xs))
    by_test i true e = rw (not_begins_before x p e) i
    by_test i false e = run_from_start p x xs u e

before_each : (x : List ℕ) (front : List (List ℕ)) (b : List ℕ) (bs : List (List ℕ)) → IsBeforeAll x (front ++ b ∷ bs) → is_before x b ≡ true
before_each x [] b bs u = u.0
before_each x (a ∷ front) b bs u = before_each x front b bs u.1

-- where an entry is before the prefix, all up to it are
pub skip_past : (p : List ℕ) (front : List (List ℕ)) (b : List ℕ) (bs : List (List ℕ)) → IsAscending (front ++ b ∷ bs) → is_before b p ≡ true → skip_before p (front ++ b ∷ bs) ≡ skip_before p bs
skip_past p [] b bs u h = rw h refl
skip_past p (a ∷ front) b bs u h =
    rw (before_trans a b p (before_each a front b bs u.0) h) (skip_past p front b bs u.1 h)

-- An entry put in its place, and one taken out.
use Rattle.std.proofs.Common.{◌≡◌, ◌≢◌, ℕ, ◌+◌, ◌<◌, ◌≤◌, Bool, true, false, cond, List, [], ◌∷◌, ◌++◌, length, take, drop, set, refl, ap, sym, ◌∙◌, arith, append_assoc, add-one}
use Rattle.std.proofs.lemmas.Bool.{false≢true}
use Rattle.std.proofs.lemmas.Bool.Decides.{nat_tests}
use Rattle.std.specs.List.{insert}
use Rattle.std.proofs.lemmas.List.{take-append-drop, append_cancel_right, drop-append-le, set_split}
use Rattle.qs_index.specs.inner.Entry.{is_before, IsBeforeAll, IsAscending, skip_before, keep_before, with_entry, without_entry, IsNotFirst}
use Rattle.qs_index.specs.inner.Layout.{joined, page_at, rest_at}
use Rattle.qs_index.proofs.Ascending.{before_trans}
use Rattle.qs_index.proofs.Places.{joined-append, joined-at}

pub same_from_neither : (x y : List ℕ) → is_before x y ≡ false → is_before y x ≡ false → x ≡ y
same_from_neither [] [] h g = refl
same_from_neither [] (b ∷ y) h g = absurd (false≢true (sym h))
same_from_neither (a ∷ x) [] h g = absurd (false≢true (sym g))
same_from_neither (a ∷ x) (b ∷ y) h g =
    let i : is_before x y ≡ false → is_before y x ≡ false → x ≡ y = same_from_neither x y in grind (arith, nat_tests)

pub not_before_itself : (x : List ℕ) → is_before x x ≡ false
not_before_itself [] = refl
not_before_itself (a ∷ x) = let i = not_before_itself x in grind (arith, nat_tests)

pub keep-skip : (x : List ℕ) (xs : List (List ℕ)) → keep_before x xs ++ skip_before x xs ≡ xs
keep-skip x [] = refl
keep-skip x (y ∷ ys) = at_test (is_before y x) (keep-skip x ys)
  where
    at_test : (b : Bool) → keep_before x ys ++ skip_before x ys ≡ ys → cond b (y ∷ keep_before x ys) [] ++ cond b (skip_before x ys) (y ∷ ys) ≡ y ∷ ys
    at_test true i = ap (λ r. y ∷ r) i
    at_test false i = refl

-- what stands in front of the entries that aren't before x
pub front_is : (x : List ℕ) (xs front back : List (List ℕ)) → xs ≡ front ++ back → back ≡ skip_before x xs → front ≡ keep_before x xs
front_is x xs front back e b =
    append_cancel_right front (keep_before x xs) (skip_before x xs) (ap (λ r. front ++ r) (sym b) ∙ sym e ∙ sym (keep-skip x xs))

before_with : (y x : List ℕ) (xs : List (List ℕ)) → is_before y x ≡ true → IsBeforeAll y xs → IsBeforeAll y (with_entry x xs)
before_with y x [] h u = (h, tt)
before_with y x (z ∷ zs) h u = at_test (is_before z x) (before_with y x zs h u.1)
  where
    at_test : (b : Bool) → IsBeforeAll y (with_entry x zs) → IsBeforeAll y (cond b (z ∷ keep_before x zs) [] ++ x ∷ cond b (skip_before x zs) (z ∷ zs))
    at_test true i = (u.0, i)
    at_test false i = (h, u)

before_all_trans : (x y : List ℕ) (ys : List (List ℕ)) → is_before x y ≡ true → IsBeforeAll y ys → IsBeforeAll x ys
before_all_trans x y [] h u = tt
before_all_trans x y (z ∷ zs) h u = (before_trans x y z h u.0, before_all_trans x y zs h u.1)

before_from : (x y : List ℕ) → is_before y x ≡ false → y ≢ x → is_before x y ≡ true
before_from x y h n = by_test (is_before x y) refl
  where
    by_test : (b : Bool) → is_before x y ≡ b → b ≡ true
    by_test true e = refl
    by_test false e = absurd (n (same_from_neither y x h e))

pub IsAscending-with : (x : List ℕ) (xs : List (List ℕ)) → IsAscending xs → IsNotFirst x (skip_before x xs) → IsAscending (with_entry x xs)
IsAscending-with x [] u n = (tt, tt)
IsAscending-with x (y ∷ ys) u n =
    at_test (is_before y x) refl (λ m. IsAscending-with x ys u.1 m) n
  where
    at_test : (b : Bool) → is_before y x ≡ b → (IsNotFirst x (skip_before x ys) → IsAscending (with_entry x ys)) → IsNotFirst x (cond b (skip_before x ys) (y ∷ ys)) → IsAscending (cond b (y ∷ keep_before x ys) [] ++ x ∷ cond b (skip_before x ys) (y ∷ ys))
    at_test true e i n = (before_with y x ys e u.0, i n)
    at_test false e i n =
        let h = before_from x y e n in ((h, before_all_trans x y ys h u.0), u)

before_without : (y x : List ℕ) (xs : List (List ℕ)) → IsBeforeAll y xs → IsBeforeAll y (without_entry x xs)
before_without y x [] u = tt
before_without y x (z ∷ zs) u = at_test (is_before z x) (before_without y x zs u.1)
  where
    at_test : (b : Bool) → IsBeforeAll y (without_entry x zs) → IsBeforeAll y (cond b (z ∷ keep_before x zs) [] ++ drop 1 (cond b (skip_before x zs) (z ∷ zs)))
    at_test true i = (u.0, i)
    at_test false i = u.1

pub IsAscending-without : (x : List ℕ) (xs : List (List ℕ)) → IsAscending xs → IsAscending (without_entry x xs)
IsAscending-without x [] u = tt
IsAscending-without x (y ∷ ys) u = at_test (is_before y x) (IsAscending-without x ys u.1)
  where
    at_test : (b : Bool) → IsAscending (without_entry x ys) → IsAscending (cond b (y ∷ keep_before x ys) [] ++ drop 1 (cond b (skip_before x ys) (y ∷ ys)))
    at_test true i = (before_without y x ys u.0, i)
    at_test false i = u.1

-- the entries in front of a place, and from it on
pub split_front : (pages : List (List (List ℕ))) (m k : ℕ) → m < length pages → k ≤ length (page_at pages m) → joined pages ≡ (joined (take m pages) ++ take k (page_at pages m)) ++ rest_at pages m k
split_front pages m k h l =
    let all = ap joined (sym (take-append-drop m pages)) ∙ joined-append (take m pages) (drop m pages) in
    let page = page_at pages m in
    let rest = joined (drop (m + 1) pages) in
    let here : joined (drop m pages) ≡ take k page ++ (drop k page ++ rest) = joined-at pages m h ∙ ap (λ r. r ++ rest) (sym (take-append-drop k page)) ∙ append_assoc (take k page) (drop k page) rest in
    let same : rest_at pages m k ≡ drop k page ++ rest = ap (drop k) (joined-at pages m h) ∙ drop-append-le k page rest l in
    all ∙ ap (λ r. joined (take m pages) ++ r) (here ∙ ap (λ r. take k page ++ r) (sym same)) ∙ sym (append_assoc (joined (take m pages)) (take k page) (rest_at pages m k))

pub joined-set : (pages : List (List (List ℕ))) (m : ℕ) (page : List (List ℕ)) → m < length pages → joined (set pages m page) ≡ joined (take m pages) ++ (page ++ joined (drop (m + 1) pages))
joined-set pages m page h =
    ap joined (set_split pages m page h ∙ ap (λ j. take m pages ++ page ∷ drop j pages) (sym (add-one m))) ∙ joined-append (take m pages) (page ∷ drop (m + 1) pages)

pub rest_is : (pages : List (List (List ℕ))) (m k : ℕ) → m < length pages → k ≤ length (page_at pages m) → rest_at pages m k ≡ drop k (page_at pages m) ++ joined (drop (m + 1) pages)
rest_is pages m k h l = ap (drop k) (joined-at pages m h) ∙ drop-append-le k (page_at pages m) (joined (drop (m + 1) pages)) l

-- an entry put in front of those that aren't before it
pub put_in_order : (x : List ℕ) (pages : List (List (List ℕ))) (m k : ℕ) → m < length pages → k ≤ length (page_at pages m) → rest_at pages m k ≡ skip_before x (joined pages) → joined (set pages m (insert (page_at pages m) k x)) ≡ with_entry x (joined pages)
put_in_order x pages m k h l b =
    let page = page_at pages m in
    let front = joined (take m pages) ++ take k page in
    let f = front_is x (joined pages) front (rest_at pages m k) (split_front pages m k h l) b in
    joined-set pages m (insert page k x) h
    ∙ ap (λ r. joined (take m pages) ++ r) (append_assoc (take k page) (x ∷ drop k page) (joined (drop (m + 1) pages)))
    ∙ sym (append_assoc (joined (take m pages)) (take k page) (x ∷ (drop k page ++ joined (drop (m + 1) pages))))
    ∙ ap (λ r. front ++ x ∷ r) (sym (rest_is pages m k h l) ∙ b)
    ∙ ap (λ r. r ++ x ∷ skip_before x (joined pages)) f

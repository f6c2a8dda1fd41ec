-- What is left of a scan that goes on at a later entry.
use Rattle.std.proofs.Common.{◌≡◌, ℕ, ◌+◌, ◌<◌, ◌≤◌, Bool, true, false, cond, List, [], ◌∷◌, length, get_or, refl, ap, sym, ◌∙◌, subst, ⊎_elim, arith}
use Rattle.std.specs.List.{Contains}
use Rattle.std.proofs.lemmas.Bool.{false≢true, cases_lt}
use Rattle.qs_index.specs.inner.Entries.{HaveFour}
use Rattle.qs_index.specs.inner.Entry.{is_before, begins, run_of, skip_before, IsBeforeAll, IsAscending}
use Rattle.qs_index.specs.inner.Layout.{joined, page_at, rest_at}
use Rattle.qs_index.specs.inner.OrderScan.{left_from, StartsBefore}
use Rattle.qs_index.proofs.Ascending.{not_begins_before, not_before_later, not_begins_later}
use Rattle.qs_index.proofs.Members.{head_or_tail, here, there}
use Rattle.qs_index.proofs.Places.{IsAscending-drop, IsAscending-pages, rest_end, rest_more, skip_place}
use Rattle.qs_index.proofs.Prefixes.{HaveFour-rest}

-- ---- the run of a prefix

run_before : (x p : List ℕ) (xs : List (List ℕ)) → IsBeforeAll x xs → IsBeforeAll x (run_of p xs)
run_before x p [] u = tt
run_before x p (y ∷ ys) u = at_test (begins p y) (run_before x p ys u.1)
  where
    at_test : (b : Bool) → IsBeforeAll x (run_of p ys) → IsBeforeAll x (cond b (y ∷ run_of p ys) [])
    at_test true i = (u.0, i)
    at_test false i = tt

run_ascends : (p : List ℕ) (xs : List (List ℕ)) → IsAscending xs → IsAscending (run_of p xs)
run_ascends p [] u = tt
run_ascends p (x ∷ xs) u = at_test (begins p x) (run_ascends p xs u.1)
  where
    at_test : (b : Bool) → IsAscending (run_of p xs) → IsAscending (cond b (x ∷ run_of p xs) [])
    at_test true i = (run_before x p xs u.0, i)
    at_test false i = tt

member_of_run : (p : List ℕ) (xs : List (List ℕ)) (y : List ℕ) → Contains (run_of p xs) y → Contains xs y
member_of_run p [] y c = c
member_of_run p (x ∷ xs) y c = at_test (begins p x) (member_of_run p xs y) c
  where
    at_test : (b : Bool) → (Contains (run_of p xs) y → Contains xs y) → Contains (cond b (x ∷ run_of p xs) []) y → Contains (x ∷ xs) y
    at_test true i c = ⊎_elim (λ e. subst (Contains (x ∷ xs)) e (here x xs)) (λ t. there x y xs (i t)) (head_or_tail x (run_of p xs) y c)
    at_test false i c = absurd (omega (arith, c.1))

pub left_ascends : (pages : List (List (List ℕ))) (p : List ℕ) (m k : ℕ) → IsAscending (joined pages) → IsAscending (left_from pages p m k)
left_ascends pages p m k u = run_ascends p (rest_at pages m k) (IsAscending-drop k _ (IsAscending-pages pages m u))

pub left_four : (pages : List (List (List ℕ))) (p : List ℕ) (m k : ℕ) → HaveFour (joined pages) → HaveFour (left_from pages p m k)
left_four pages p m k all = λ x c. HaveFour-rest pages m k all x (member_of_run p (rest_at pages m k) x c)

-- ---- a later entry

not_before_if_begins : (p x : List ℕ) → begins p x ≡ true → is_before x p ≡ false
not_before_if_begins p x h = by_test (is_before x p) refl
  where
    by_test : (b : Bool) → is_before x p ≡ b → b ≡ false
    by_test true e = absurd (false≢true (sym (not_begins_before x p e) ∙ h))
    by_test false e = refl

-- past the entries that begin with a prefix none does
none_run : (p to x : List ℕ) (xs : List (List ℕ)) → IsAscending (x ∷ xs) → is_before x p ≡ false → begins p x ≡ false → run_of p (skip_before to (x ∷ xs)) ≡ []
none_run p to x [] u g n = by_test (is_before x to)
  where
    by_test : (b : Bool) → run_of p (cond b [] (x ∷ [])) ≡ []
    by_test true = refl
    by_test false = rw n refl
none_run p to x (y ∷ ys) u g n = by_test (is_before x to) (none_run p to y ys u.1 (not_before_later x y p u.0.0 g) (not_begins_later x y p u.0.0 g n))
  where
    by_test : (b : Bool) → run_of p (skip_before to (y ∷ ys)) ≡ [] → run_of p (cond b (skip_before to (y ∷ ys)) (x ∷ y ∷ ys)) ≡ []
    by_test true i = i
    by_test false i = rw n refl

seek_run : (p to x : List ℕ) (xs : List (List ℕ)) → IsAscending (x ∷ xs) → begins p x ≡ true → run_of p (skip_before to (x ∷ xs)) ≡ skip_before to (run_of p (x ∷ xs))
seek_run p to x [] u b = by_test (is_before x to) refl
  where
    by_test : (t : Bool) → is_before x to ≡ t → run_of p (cond t [] (x ∷ [])) ≡ skip_before to (cond (begins p x) (x ∷ []) [])
    by_test true e = rw (b, e) refl
    by_test false e = rw (b, e) refl
seek_run p to x (y ∷ ys) u b = by_test (is_before x to) refl (later (begins p y) refl (λ e. seek_run p to y ys u.1 e))
  where
    later : (t : Bool) → begins p y ≡ t → (begins p y ≡ true → run_of p (skip_before to (y ∷ ys)) ≡ skip_before to (run_of p (y ∷ ys))) → run_of p (skip_before to (y ∷ ys)) ≡ skip_before to (cond t (y ∷ run_of p ys) [])
    later true e i = subst (λ r. run_of p (skip_before to (y ∷ ys)) ≡ skip_before to (cond r (y ∷ run_of p ys) [])) e (i e)
    later false e i = none_run p to y ys u.1 (not_before_later x y p u.0.0 (not_before_if_begins p x b)) e

    by_test : (t : Bool) → is_before x to ≡ t → run_of p (skip_before to (y ∷ ys)) ≡ skip_before to (run_of p (y ∷ ys)) → run_of p (cond t (skip_before to (y ∷ ys)) (x ∷ y ∷ ys)) ≡ skip_before to (cond (begins p x) (x ∷ run_of p (y ∷ ys)) [])
    by_test true e i = rw (b, e) i
    by_test false e i = rw (b, e) refl

-- a scan that stands at an entry of its prefix, which is before another one
pub seek_left : (pages : List (List (List ℕ))) (p to : List ℕ) (m k : ℕ) → IsAscending (joined pages) → m < length pages → k < length (page_at pages m) → begins p (get_or (page_at pages m) k []) ≡ true → is_before (get_or (page_at pages m) k []) to ≡ true → run_of p (skip_before to (joined pages)) ≡ skip_before to (left_from pages p m k)
seek_left pages p to m k u h l b t =
    let x = get_or (page_at pages m) k [] in
    let later = rest_at pages m (k + 1) in
    let more : rest_at pages m k ≡ x ∷ later = rest_more pages m k h l in
    let v : IsAscending (x ∷ later) = subst IsAscending more (IsAscending-drop k _ (IsAscending-pages pages m u)) in
    let same : skip_before to (x ∷ later) ≡ skip_before to later = ap (λ r. cond r (skip_before to later) (x ∷ later)) t in
    ap (run_of p) (skip_place to pages m k u h l t ∙ sym same) ∙ seek_run p to x later v b ∙ ap (λ r. skip_before to (run_of p r)) (sym more)

pub seek_none : (pages : List (List (List ℕ))) (p to : List ℕ) (m k : ℕ) → IsAscending (joined pages) → m < length pages → k < length (page_at pages m) → begins p (get_or (page_at pages m) k []) ≡ true → is_before (get_or (page_at pages m) k []) to ≡ true → skip_before to (joined pages) ≡ [] → [] ≡ skip_before to (left_from pages p m k)
seek_none pages p to m k u h l b t n = sym (ap (run_of p) n) ∙ seek_left pages p to m k u h l b t

-- ---- the next entry

-- the next entry of a scan at this place is before another one
pub record StandsBefore (pages : List (List (List ℕ))) (p to : List ℕ) (m k : ℕ) : Type 0 where
  pub page_in : m < length pages
  pub at_in : k < length (page_at pages m)
  pub begun : begins p (get_or (page_at pages m) k []) ≡ true
  pub before : is_before (get_or (page_at pages m) k []) to ≡ true

starts_parts : (p to e : List ℕ) (later : List (List ℕ)) → StartsBefore to (run_of p (e ∷ later)) → (begins p e ≡ true) × (is_before e to ≡ true)
starts_parts p to e later h = at_test (begins p e) refl h
  where
    at_test : (b : Bool) → begins p e ≡ b → StartsBefore to (cond b (e ∷ run_of p later) []) → (begins p e ≡ true) × (is_before e to ≡ true)
    at_test true s h = (s, h)
    at_test false s h = absurd h

pub stands_before : (pages : List (List (List ℕ))) (p to : List ℕ) (m k : ℕ) → (m < length pages → k < length (page_at pages m)) → StartsBefore to (left_from pages p m k) → StandsBefore pages p to m k
stands_before pages p to m k w h = ⊎_elim inside outside (cases_lt m (length pages))
  where
    inside : m < length pages → StandsBefore pages p to m k
    inside l =
        let parts = starts_parts p to (get_or (page_at pages m) k []) (rest_at pages m (k + 1)) (subst (λ r. StartsBefore to (run_of p r)) (rest_more pages m k l (w l)) h) in
        record { page_in = l; at_in = w l; begun = parts.0; before = parts.1 }

    outside : length pages ≤ m → StandsBefore pages p to m k
    outside l = absurd (subst (λ r. StartsBefore to (run_of p r)) (rest_end pages m k l) h)

-- it is skipped, as all up to the other one are
skip_few : (to : List ℕ) (xs : List (List ℕ)) → length (skip_before to xs) ≤ length xs
skip_few to [] = omega arith
skip_few to (x ∷ xs) = at_test (is_before x to) (skip_few to xs)
  where
    at_test : (b : Bool) → length (skip_before to xs) ≤ length xs → length (cond b (skip_before to xs) (x ∷ xs)) ≤ length (x ∷ xs)
    at_test true h = omega arith
    at_test false h = omega arith

skip_some : (to : List ℕ) (xs : List (List ℕ)) → StartsBefore to xs → length (skip_before to xs) + 1 ≤ length xs
skip_some to [] h = absurd h
skip_some to (x ∷ xs) h = rw h (omega (arith, skip_few to xs))

pub fewer_left : (to : List ℕ) (xs ys : List (List ℕ)) → ys ≡ skip_before to xs → StartsBefore to xs → length ys + 1 ≤ length xs
fewer_left to xs ys e h = subst (λ r. length r + 1 ≤ length xs) (sym e) (skip_some to xs h)

-- The entries at the front of a list that begin with a prefix.
use Rattle.std.proofs.Common.{◌≡◌, ℕ, ◌+◌, ◌<◌, ◌≤◌, Bool, true, false, cond, List, [], ◌∷◌, ◌++◌, length, get_or, take, drop, refl, ap, sym, ◌∙◌, arith, append_assoc, length-append}
use Rattle.std.proofs.lemmas.List.{drop_more, drop_all, drop-append-le, length-take-le, take_at}
use Rattle.qs_index.specs.inner.Entry.{begins, run_of}
use Rattle.qs_index.specs.inner.Layout.{joined, page_at, rest_at}
use Rattle.qs_index.proofs.Places.{joined-at}

abbrev Entries' : Type 0
Entries' = List (List ℕ)

-- all begin with nothing
pub run_of_none : (xs : Entries') → run_of [] xs ≡ xs
run_of_none [] = refl
run_of_none (x ∷ xs) = ap (λ r. x ∷ r) (run_of_none xs)

pub run_short : (p : List ℕ) (xs : Entries') → length (run_of p xs) ≤ length xs
run_short p [] = omega arith
run_short p (x ∷ xs) = let i = run_short p xs in by_test (begins p x) i
  where
    by_test : (b : Bool) → length (run_of p xs) ≤ length xs → length (cond b (x ∷ run_of p xs) []) ≤ length (x ∷ xs)
    by_test true i = omega (arith, i)
    by_test false i = omega arith

pub run_take : (p : List ℕ) (xs : Entries') → take (length (run_of p xs)) xs ≡ run_of p xs
run_take p [] = refl
run_take p (x ∷ xs) = by_test (begins p x) (run_take p xs)
  where
    by_test : (b : Bool) → take (length (run_of p xs)) xs ≡ run_of p xs → take (length (cond b (x ∷ run_of p xs) [])) (x ∷ xs) ≡ cond b (x ∷ run_of p xs) []
    by_test true i = ap (λ r. x ∷ r) i
    by_test false i = refl

-- the run of two lists one after another
pub run_whole : (p : List ℕ) (xs ys : Entries') → length xs ≤ length (run_of p xs) → run_of p (xs ++ ys) ≡ run_of p xs ++ run_of p ys
run_whole p [] ys h = refl
run_whole p (x ∷ xs) ys h = by_test (begins p x) (run_whole p xs ys) h
  where
    by_test : (b : Bool) → (length xs ≤ length (run_of p xs) → run_of p (xs ++ ys) ≡ run_of p xs ++ run_of p ys) → length (x ∷ xs) ≤ length (cond b (x ∷ run_of p xs) []) → cond b (x ∷ run_of p (xs ++ ys)) [] ≡ cond b (x ∷ run_of p xs) [] ++ run_of p ys
    by_test true i h = ap (λ r. x ∷ r) (i (omega (arith, h)))
    by_test false i h = absurd (omega (arith, h))

pub run_part : (p : List ℕ) (xs ys : Entries') → length (run_of p xs) < length xs → run_of p (xs ++ ys) ≡ run_of p xs
run_part p [] ys h = absurd (omega (arith, h))
run_part p (x ∷ xs) ys h = by_test (begins p x) (run_part p xs ys) h
  where
    by_test : (b : Bool) → (length (run_of p xs) < length xs → run_of p (xs ++ ys) ≡ run_of p xs) → length (cond b (x ∷ run_of p xs) []) < length (x ∷ xs) → cond b (x ∷ run_of p (xs ++ ys)) [] ≡ cond b (x ∷ run_of p xs) []
    by_test true i h = ap (λ r. x ∷ r) (i (omega (arith, h)))
    by_test false i h = refl

pub run_more : (p : List ℕ) (xs ys : Entries') → length (run_of p xs) ≤ length (run_of p (xs ++ ys))
run_more p [] ys = omega arith
run_more p (x ∷ xs) ys = by_test (begins p x) (run_more p xs ys)
  where
    by_test : (b : Bool) → length (run_of p xs) ≤ length (run_of p (xs ++ ys)) → length (cond b (x ∷ run_of p xs) []) ≤ length (cond b (x ∷ run_of p (xs ++ ys)) [])
    by_test true i = omega (arith, i)
    by_test false i = omega arith

-- a list that is gone through: one entry more begins with the prefix, or none does from there on
pub run_step : (p : List ℕ) (xs : Entries') (i : ℕ) → i < length xs → begins p (get_or xs i []) ≡ true → length (run_of p (drop i xs)) ≡ length (run_of p (drop (i + 1) xs)) + 1
run_step p xs i h b = ap (λ r. length (run_of p r)) (drop_more xs i [] h) ∙ (ap (λ t. length (cond t (get_or xs i [] ∷ run_of p (drop (i + 1) xs)) [])) b ∙ omega arith)

pub run_stop : (p : List ℕ) (xs : Entries') (i : ℕ) → i < length xs → begins p (get_or xs i []) ≡ false → length (run_of p (drop i xs)) ≡ 0
run_stop p xs i h b = ap (λ r. length (run_of p r)) (drop_more xs i [] h) ∙ ap (λ t. length (cond t (get_or xs i [] ∷ run_of p (drop (i + 1) xs)) [])) b

pub run_end : (p : List ℕ) (xs : Entries') (i : ℕ) → length xs ≤ i → length (run_of p (drop i xs)) ≡ 0
run_end p xs i h = ap (λ r. length (run_of p r)) (drop_all i xs h)

-- the entries from a place on are those of its page, and those of the next ones
pub rest_of_page : (pages : List Entries') (m k : ℕ) → m < length pages → k ≤ length (page_at pages m) → rest_at pages m k ≡ drop k (page_at pages m) ++ rest_at pages (m + 1) 0
rest_of_page pages m k h l = ap (drop k) (joined-at pages m h) ∙ drop-append-le k (page_at pages m) (joined (drop (m + 1) pages)) l

-- what is copied, with a part that is put after it
pub copied_part : (batch part rest tail new : Entries') (count run : ℕ) → new ≡ part ++ rest → run ≡ length part → count ≤ length batch → take (count + run) (take count batch ++ (new ++ tail)) ≡ take count batch ++ part
copied_part batch part rest tail new count run e n h =
    let front = take count batch in
    let shape : front ++ (new ++ tail) ≡ (front ++ part) ++ (rest ++ tail) =
    ap (λ r. front ++ (r ++ tail)) e ∙ ap (λ r. front ++ r) (append_assoc part rest tail) ∙ sym (append_assoc front part (rest ++ tail)) in
    let long = length-append front part in
    let short = length-take-le count batch h in
    ap (take (count + run)) shape ∙ take_at (front ++ part) (rest ++ tail) (count + run) (omega (arith, long, short, n))

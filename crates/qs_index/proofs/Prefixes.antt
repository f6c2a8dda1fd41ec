-- Prefixes that are filled up, and what a whole one leaves.
use Rattle.std.proofs.Common.{◌≡◌, ℕ, ◌+◌, ◌-◌, ◌<◌, ◌≤◌, zero, suc, Bool, true, false, cond, ltb, eqb, ◌||◌, List, [], ◌∷◌, ◌++◌, length, get_or, set, take, drop, refl, ap, sym, ◌∙◌, subst, arith}
use Rattle.std.specs.List.{Contains}
use Rattle.std.proofs.lemmas.Bool.{false≢true, eqb-true}
use Rattle.std.proofs.lemmas.Bool.Decides.{nat_tests}
use Rattle.std.proofs.lemmas.List.{take-append-drop, take_more, take_more_set}
use Rattle.std.proofs.lemmas.List.Elements.{Contains-append_right}
use Rattle.qs_index.specs.inner.Entries.{HaveFour}
use Rattle.qs_index.specs.inner.Entry.{is_before, begins, run_of, IsAscending}
use Rattle.qs_index.specs.inner.Layout.{joined, page_at, rest_at}
use Rattle.qs_index.specs.inner.Prefix.{AreZeros, IsAfter}
use Rattle.qs_index.proofs.EntryEdits.{not_before_itself}
use Rattle.qs_index.proofs.Members.{here, there}
use Rattle.qs_index.proofs.Places.{joined_drop, rest_more, IsAscending-drop, IsAscending-pages}

-- nothing of a length stands before its zeros
not_before_zeros : (x zeros : List ℕ) → length x ≡ length zeros → AreZeros zeros → is_before x zeros ≡ false
not_before_zeros x [] h z = refl
not_before_zeros [] (b ∷ zeros) h z = absurd (omega (arith, h))
not_before_zeros (a ∷ x) (b ∷ zeros) h z =
    let i : is_before x zeros ≡ false = not_before_zeros x zeros (omega (arith, h)) z.1 in let e : b ≡ 0 = z.0 in grind (arith, nat_tests)

-- an entry is before a prefix where it is before the prefix filled up with zeros
pub before_filled : (x filled : List ℕ) (k : ℕ) → length x ≡ length filled → AreZeros (drop k filled) → is_before x filled ≡ is_before x (take k filled)
before_filled x filled zero h z = not_before_zeros x filled h z
before_filled x [] (suc k) h z = refl
before_filled [] (b ∷ filled) (suc k) h z = refl
before_filled (a ∷ x) (b ∷ filled) (suc k) h z = ap (λ r. cond (ltb a b) true (cond (eqb a b) r false)) (before_filled x filled k (omega (arith, h)) z)

-- what begins with a list of its own length is that list
begins_same : (p x : List ℕ) → length p ≡ length x → begins p x ≡ true → p ≡ x
begins_same [] [] h b = refl
begins_same [] (a ∷ x) h b = absurd (omega (arith, h))
begins_same (q ∷ p) [] h b = absurd (omega (arith, h))
begins_same (q ∷ p) (a ∷ x) h b = at_test (eqb a q) refl (λ t. begins_same p x (omega (arith, h)) t) b
  where
    at_test : (t : Bool) → eqb a q ≡ t → (begins p x ≡ true → p ≡ x) → cond t (begins p x) false ≡ true → q ∷ p ≡ a ∷ x
    at_test true e i b = let s = i b in let k : a ≡ q = eqb-true a q e in cc
    at_test false e i b = absurd (false≢true b)

-- after an entry that begins with four numbers none does
run_ends : (p e : List ℕ) (rest : List (List ℕ)) → length p ≡ 4 → IsAscending (e ∷ rest) → HaveFour (e ∷ rest) → begins p e ≡ true → run_of p rest ≡ []
run_ends p e [] n u all b = refl
run_ends p e (x ∷ xs) n u all b = at_test (begins p x) refl
  where
    at_test : (t : Bool) → begins p x ≡ t → cond t (x ∷ run_of p xs) [] ≡ []
    at_test false s = refl
    at_test true s =
        let first = begins_same p e (n ∙ sym (all e (here e (x ∷ xs)))) b in
        let second = begins_same p x (n ∙ sym (all x (there e x (x ∷ xs) (here x xs)))) s in
        absurd (false≢true (sym (not_before_itself p) ∙ ap (λ r. is_before r p) first ∙ ap (is_before e) second ∙ u.0.0))

HaveFour-drop : (k : ℕ) (xs : List (List ℕ)) → HaveFour xs → HaveFour (drop k xs)
HaveFour-drop k xs all = λ x c. all x (subst (λ r. Contains r x) (take-append-drop k xs) (Contains-append_right (take k xs) (drop k xs) x c))

pub HaveFour-rest : (pages : List (List (List ℕ))) (m k : ℕ) → HaveFour (joined pages) → HaveFour (rest_at pages m k)
HaveFour-rest pages m k all =
    HaveFour-drop k (joined (drop m pages)) (subst HaveFour (joined_drop pages m) (HaveFour-drop (length (joined (take m pages))) (joined pages) all))

-- a scan of one entry has handed it out
pub whole_ends : (p : List ℕ) (pages : List (List (List ℕ))) (m k : ℕ) → length p ≡ 4 → m < length pages → k < length (page_at pages m) → IsAscending (joined pages) → HaveFour (joined pages) → begins p (get_or (page_at pages m) k []) ≡ true → run_of p (rest_at pages m (k + 1)) ≡ []
whole_ends p pages m k n h l u all b =
    let more = rest_more pages m k h l in
    run_ends p (get_or (page_at pages m) k []) (rest_at pages m (k + 1)) n (subst IsAscending more (IsAscending-drop k (joined (drop m pages)) (IsAscending-pages pages m u))) (subst HaveFour more (HaveFour-rest pages m k all)) b

-- ---- the prefix after all entries that begin with another one

before_by_tests : (less same b f g : Bool) → b ≡ (f || g) → cond less true (cond same b false) ≡ (cond less true (cond same f false) || cond same g false)
before_by_tests true same b f g h = refl
before_by_tests false true b f g h = h
before_by_tests false false b f g h = refl

before_raised : (a n : ℕ) → cond (ltb a (n + 1)) true false ≡ (cond (ltb a n) true false || cond (eqb a n) true false)
before_raised a n = grind (arith, nat_tests)

nothing_else : (b : Bool) → cond b false false ≡ false
nothing_else true = refl
nothing_else false = refl

raised_after : (p : List ℕ) (n : ℕ) (x : List ℕ) → is_before x (p ++ (n + 1) ∷ []) ≡ (is_before x (p ++ n ∷ []) || begins (p ++ n ∷ []) x)
raised_after [] n [] = refl
raised_after [] n (a ∷ x) = rw (nothing_else (eqb a (n + 1)), nothing_else (eqb a n)) (before_raised a n)
raised_after (q ∷ p) n [] = refl
raised_after (q ∷ p) n (a ∷ x) = before_by_tests (ltb a q) (eqb a q) _ _ _ (raised_after p n x)

-- some numbers, the last of them raised by one
pub after_last : (xs : List ℕ) (given n : ℕ) → 0 < given → given ≤ length xs → n ≡ get_or xs (given - 1) 0 + 1 → IsAfter (take given xs) (take given (set xs (given - 1) n))
after_last xs given n h l s =
    let k = given - 1 in
    let e : k + 1 ≡ given = omega arith in
    let own = take_more xs k 0 (omega arith) in
    let new = take_more_set xs k n (omega arith) in
    let parts : IsAfter (take k xs ++ get_or xs k 0 ∷ []) (take k xs ++ n ∷ []) =
    subst (λ m. IsAfter (take k xs ++ get_or xs k 0 ∷ []) (take k xs ++ m ∷ [])) (sym s) (raised_after (take k xs) (get_or xs k 0)) in
    subst (λ m. IsAfter (take m xs) (take m (set xs k n))) e
    (subst (λ r. IsAfter r (take (k + 1) (set xs k n))) (sym own) (subst (IsAfter (take k xs ++ get_or xs k 0 ∷ [])) (sym new) parts))

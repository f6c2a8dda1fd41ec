-- What the list after an edit contains.
use Rattle.std.proofs.Common.{◌≡◌, ◌≢◌, ◌⊎◌, ℕ, Bool, true, false, cond, List, [], ◌∷◌, ◌++◌, ◌+◌, length, take, drop, refl, ap, sym, ◌∙◌, subst, arith, inl, inr, ⊎_elim}
use Rattle.std.specs.List.{Contains}
use Rattle.std.specs.List.Sorted.{IsPermutation}
use Rattle.std.proofs.lemmas.List.{take-append-drop}
use Rattle.std.proofs.lemmas.List.Sorted.{IsPermutation-sym, IsPermutation-middle, length_permutation}
use Rattle.std.specs.Cmp.Lexicographic.{bytes_decides}
use Rattle.std.proofs.lemmas.Bool.{false≢true}
use Rattle.std.proofs.lemmas.List.Elements.{Contains-get_or, Contains-append_left, Contains-append_right, Contains-append_cases, Contains-push_cases}
use Rattle.qs_index.specs.inner.Entry.{is_before, IsBeforeAll, IsAscending, skip_before, keep_before, with_entry, without_entry, IsNotFirst}
use Rattle.qs_index.proofs.EntryEdits.{keep-skip, not_before_itself}

pub head_or_tail : (y : List ℕ) (ys : List (List ℕ)) (x : List ℕ) → Contains (y ∷ ys) x → (y ≡ x) ⊎ Contains ys x
head_or_tail y ys x c =
    ⊎_elim (λ h. ⊎_elim (λ n. absurd (omega (arith, n.1))) (λ e. inl e) (Contains-push_cases [] y x h)) (λ t. inr t) (Contains-append_cases (y ∷ []) ys x c)

pub before_member : (y : List ℕ) (ys : List (List ℕ)) (x : List ℕ) → IsBeforeAll y ys → Contains ys x → is_before y x ≡ true
before_member y [] x u c = absurd (omega (arith, c.1))
before_member y (z ∷ zs) x u c = ⊎_elim (λ e. subst (λ r. is_before y r ≡ true) e u.0) (λ t. before_member y zs x u.1 t) (head_or_tail z zs x c)

-- an entry that the list contains stands first among those that aren't before it
pub first_if_member : (x : List ℕ) (xs : List (List ℕ)) → IsAscending xs → Contains xs x → IsNotFirst x (skip_before x xs) → ⊥
first_if_member x [] u c n = omega (arith, c.1)
first_if_member x (y ∷ ys) u c n =
    at_test (is_before y x) refl (λ t m. first_if_member x ys u.1 t m) n
  where
    at_test : (b : Bool) → is_before y x ≡ b → (Contains ys x → IsNotFirst x (skip_before x ys) → ⊥) → IsNotFirst x (cond b (skip_before x ys) (y ∷ ys)) → ⊥
    at_test true e i n = ⊎_elim (λ s. false≢true (sym (not_before_itself x) ∙ subst (λ r. is_before r x ≡ true) s e)) (λ t. i t n) (head_or_tail y ys x c)
    at_test false e i n = ⊎_elim n (λ t. false≢true (sym e ∙ before_member y ys x u.0 t)) (head_or_tail y ys x c)

pub member_if_first : (x : List ℕ) (xs : List (List ℕ)) → (IsNotFirst x (skip_before x xs) → ⊥) → Contains xs x
member_if_first x xs f = subst (λ r. Contains r x) (keep-skip x xs) (Contains-append_right (keep_before x xs) (skip_before x xs) x (at_front (skip_before x xs) f))
  where
    same : (y : List ℕ) (b : Bool) → ((b ≡ true) → y ≡ x) → ((y ≡ x) → b ≡ true) → (((y ≡ x) → ⊥) → ⊥) → y ≡ x
    same y true there back f = there refl
    same y false there back f = absurd (f (λ e. false≢true (back e)))

    at_front : (rest : List (List ℕ)) → (IsNotFirst x rest → ⊥) → Contains rest x
    at_front [] f = absurd (f tt)
    at_front (y ∷ ys) f = let d = bytes_decides y x in subst (λ r. Contains (y ∷ ys) r) (same y _ d.0 d.1 f) (Contains-get_or (y ∷ ys) 0 [] (omega arith))

-- an entry that isn't among those of a list isn't the first of those that aren't before it
pub not_first_if_missing : (x : List ℕ) (xs : List (List ℕ)) → (Contains xs x → ⊥) → IsNotFirst x (skip_before x xs)
not_first_if_missing x xs n =
    at_front (skip_before x xs) (λ m. n (subst (λ r. Contains r x) (keep-skip x xs) (Contains-append_right (keep_before x xs) (skip_before x xs) x m)))
  where
    at_front : (rest : List (List ℕ)) → (Contains rest x → ⊥) → IsNotFirst x rest
    at_front [] m = tt
    at_front (y ∷ ys) m = λ e. m (subst (Contains (y ∷ ys)) e (Contains-get_or (y ∷ ys) 0 [] (omega arith)))

-- the members after an entry is put in
pub member_of_with : (x y : List ℕ) (xs : List (List ℕ)) → Contains (with_entry x xs) y → (x ≡ y) ⊎ Contains xs y
member_of_with x y xs c =
    ⊎_elim (λ a. inr (subst (λ r. Contains r y) (keep-skip x xs) (Contains-append_left (keep_before x xs) (skip_before x xs) y a)))
    (λ b. ⊎_elim (λ e. inl e) (λ t. inr (subst (λ r. Contains r y) (keep-skip x xs) (Contains-append_right (keep_before x xs) (skip_before x xs) y t))) (head_or_tail x (skip_before x xs) y b))
    (Contains-append_cases (keep_before x xs) (x ∷ skip_before x xs) y c)

pub here : (x : List ℕ) (xs : List (List ℕ)) → Contains (x ∷ xs) x
here x xs = Contains-get_or (x ∷ xs) 0 [] (omega arith)

pub there : (y x : List ℕ) (xs : List (List ℕ)) → Contains xs x → Contains (y ∷ xs) x
there y x xs c = Contains-append_right (y ∷ []) xs x c

pub with_has_it : (x : List ℕ) (xs : List (List ℕ)) → Contains (with_entry x xs) x
with_has_it x xs = Contains-append_right (keep_before x xs) (x ∷ skip_before x xs) x (here x (skip_before x xs))

pub with_has_old : (x y : List ℕ) (xs : List (List ℕ)) → Contains xs y → Contains (with_entry x xs) y
with_has_old x y xs c =
    ⊎_elim (λ a. Contains-append_left (keep_before x xs) (x ∷ skip_before x xs) y a)
    (λ b. Contains-append_right (keep_before x xs) (x ∷ skip_before x xs) y (there x y (skip_before x xs) b))
    (Contains-append_cases (keep_before x xs) (skip_before x xs) y (subst (λ r. Contains r y) (sym (keep-skip x xs)) c))

-- an entry of an ascending list is the first of those that aren't before it
pub skip_of_member : (x : List ℕ) (xs : List (List ℕ)) → IsAscending xs → Contains xs x → skip_before x xs ≡ x ∷ drop 1 (skip_before x xs)
skip_of_member x xs u c = at_front (skip_before x xs) (first_if_member x xs u c)
  where
    same : (y : List ℕ) (b : Bool) → ((b ≡ true) → y ≡ x) → ((y ≡ x) → b ≡ true) → (((y ≡ x) → ⊥) → ⊥) → y ≡ x
    same y true there back f = there refl
    same y false there back f = absurd (f (λ e. false≢true (back e)))

    at_front : (rest : List (List ℕ)) → (IsNotFirst x rest → ⊥) → rest ≡ x ∷ drop 1 rest
    at_front [] f = absurd (f tt)
    at_front (y ∷ ys) f = let d = bytes_decides y x in ap (λ r. r ∷ ys) (same y _ d.0 d.1 f)

-- the members after an entry is taken out
pub member_of_without : (x y : List ℕ) (xs : List (List ℕ)) → Contains (without_entry x xs) y → Contains xs y
member_of_without x y xs c =
    let skip = skip_before x xs in
    subst (λ r. Contains r y) (keep-skip x xs)
    (⊎_elim (λ a. Contains-append_left (keep_before x xs) skip y a)
    (λ b. Contains-append_right (keep_before x xs) skip y (subst (λ r. Contains r y) (take-append-drop 1 skip) (Contains-append_right (take 1 skip) (drop 1 skip) y b)))
    (Contains-append_cases (keep_before x xs) (drop 1 skip) y c))

pub without_has_other : (x y : List ℕ) (xs : List (List ℕ)) → skip_before x xs ≡ x ∷ drop 1 (skip_before x xs) → (x ≢ y) → Contains xs y → Contains (without_entry x xs) y
without_has_other x y xs e n c =
    let rest = drop 1 (skip_before x xs) in
    let whole : xs ≡ keep_before x xs ++ x ∷ rest = sym (keep-skip x xs) ∙ ap (λ r. keep_before x xs ++ r) e in
    ⊎_elim (λ a. Contains-append_left (keep_before x xs) rest y a)
    (λ b. Contains-append_right (keep_before x xs) rest y (⊎_elim (λ s. absurd (n s)) (λ t. t) (head_or_tail x rest y b)))
    (Contains-append_cases (keep_before x xs) (x ∷ rest) y (subst (λ r. Contains r y) whole c))

pub without_lacks_it : (x : List ℕ) (xs : List (List ℕ)) → IsAscending xs → Contains xs x → Contains (without_entry x xs) x → ⊥
without_lacks_it x [] u c n = omega (arith, c.1)
without_lacks_it x (y ∷ ys) u c n =
    at_test (is_before y x) refl (λ t m. without_lacks_it x ys u.1 t m) n
  where
    at_test : (b : Bool) → is_before y x ≡ b → (Contains ys x → Contains (without_entry x ys) x → ⊥) → Contains (cond b (y ∷ keep_before x ys) [] ++ drop 1 (cond b (skip_before x ys) (y ∷ ys))) x → ⊥
    at_test true e i n =
        let other : y ≢ x = λ s. false≢true (sym (not_before_itself x) ∙ subst (λ r. is_before r x ≡ true) s e) in
        i (⊎_elim (λ s. absurd (other s)) (λ t. t) (head_or_tail y ys x c)) (⊎_elim (λ s. absurd (other s)) (λ t. t) (head_or_tail y (without_entry x ys) x n))
    at_test false e i n = false≢true (sym e ∙ before_member y ys x u.0 n)

pub IsPermutation-with : (x : List ℕ) (xs : List (List ℕ)) → IsPermutation (x ∷ xs) (with_entry x xs)
IsPermutation-with x xs =
    subst (λ r. IsPermutation (x ∷ r) (with_entry x xs)) (keep-skip x xs) (IsPermutation-sym _ _ (IsPermutation-middle (keep_before x xs) x (skip_before x xs)))

pub IsPermutation-without : (x : List ℕ) (xs : List (List ℕ)) → skip_before x xs ≡ x ∷ drop 1 (skip_before x xs) → IsPermutation xs (x ∷ without_entry x xs)
IsPermutation-without x xs e =
    let rest = drop 1 (skip_before x xs) in
    let whole : keep_before x xs ++ x ∷ rest ≡ xs = ap (λ r. keep_before x xs ++ r) (sym e) ∙ keep-skip x xs in
    subst (λ r. IsPermutation r (x ∷ without_entry x xs)) whole (IsPermutation-middle (keep_before x xs) x rest)

pub length-with : (x : List ℕ) (xs : List (List ℕ)) → length (with_entry x xs) ≡ length xs + 1
length-with x xs = let e = length_permutation (x ∷ xs) (with_entry x xs) (IsPermutation-with x xs) in omega arith

pub length-without : (x : List ℕ) (xs : List (List ℕ)) → IsAscending xs → Contains xs x → length xs ≡ length (without_entry x xs) + 1
length-without x xs u c =
    let e = length_permutation xs (x ∷ without_entry x xs) (IsPermutation-without x xs (skip_of_member x xs u c)) in omega arith

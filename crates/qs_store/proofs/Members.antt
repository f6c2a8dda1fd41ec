-- Members of lists of entries.
use Rattle.std.proofs.Common.{◌≡◌, ◌≢◌, ◌⊎◌, ℕ, ◌≤◌, Bool, true, false, cond, not, ◌||◌, List, [], ◌∷◌, ◌++◌, length, refl, ap, sym, ◌∙◌, subst, arith, inl, inr, ⊎_elim, length-append}
use Rattle.std.specs.Str.{bytes_eq}
use Rattle.std.specs.List.{Contains, filter, list_any}
use Rattle.std.proofs.lemmas.Bool.{false≢true}
use Rattle.std.proofs.lemmas.Bool.Decides.{nat_tests}
use Rattle.std.proofs.lemmas.Slice.Eq.{bytes_eq-Decides}
use Rattle.std.proofs.lemmas.List.Elements.{Contains-get_or, Contains-push_cases, Contains-append_left, Contains-append_right, Contains-append_cases}
use Rattle.qs_index.specs.inner.Entry.{IsAscending, IsBeforeAll, is_before}
use Rattle.qs_terms.specs.Bag.{Distinct}

abbrev pub Entries : Type 0
Entries = List (List ℕ)

pub nothing : {X : Type 0} (x : X) → Contains [] x → ⊥
nothing x c = omega (arith, c.1)

pub head_or_tail : {X : Type 0} (y : X) (ys : List X) (x : X) → Contains (y ∷ ys) x → (y ≡ x) ⊎ Contains ys x
head_or_tail y ys x c =
    ⊎_elim (λ h. ⊎_elim (λ n. absurd (omega (arith, n.1))) (λ e. inl e) (Contains-push_cases [] y x h)) (λ t. inr t) (Contains-append_cases (y ∷ []) ys x c)

pub here : {X : Type 0} (x : X) (xs : List X) → Contains (x ∷ xs) x
here x xs = Contains-get_or (x ∷ xs) 0 x (omega arith)

pub there : {X : Type 0} (y x : X) (xs : List X) → Contains xs x → Contains (y ∷ xs) x
there y x xs c = Contains-append_right (y ∷ []) xs x c

pub member_of_filter : {X : Type 0} (p : X → Bool) (y : X) (xs : List X) → Contains (filter p xs) y → Contains xs y × (p y ≡ true)
member_of_filter p y [] c = absurd (nothing y c)
member_of_filter p y (x ∷ xs) c = at_test (p x) refl (λ t. member_of_filter p y xs t) c
  where
    at_test : (b : Bool) → p x ≡ b → (Contains (filter p xs) y → Contains xs y × (p y ≡ true)) → Contains (cond b (x ∷ filter p xs) (filter p xs)) y → Contains (x ∷ xs) y × (p y ≡ true)
    at_test true e i m =
        ⊎_elim (λ s. (subst (Contains (x ∷ xs)) s (here x xs), ap p (sym s) ∙ e)) (λ t. let f = i t in (there x y xs f.0, f.1)) (head_or_tail x (filter p xs) y m)
    at_test false e i m = let f = i m in (there x y xs f.0, f.1)

pub filter_has : {X : Type 0} (p : X → Bool) (y : X) (xs : List X) → Contains xs y → p y ≡ true → Contains (filter p xs) y
filter_has p y [] c h = absurd (nothing y c)
filter_has p y (x ∷ xs) c h = at_test (p x) refl (λ t. filter_has p y xs t h)
  where
    at_test : (b : Bool) → p x ≡ b → (Contains xs y → Contains (filter p xs) y) → Contains (cond b (x ∷ filter p xs) (filter p xs)) y
    at_test true e i =
        ⊎_elim (λ s. subst (Contains (x ∷ filter p xs)) s (here x (filter p xs))) (λ t. there x y (filter p xs) (i t)) (head_or_tail x xs y c)
    at_test false e i =
        ⊎_elim (λ s. absurd (false≢true (sym e ∙ ap p s ∙ h))) i (head_or_tail x xs y c)

-- a member stands between two parts of its list
pub record Parts {X : Type 0} (y : X) (xs : List X) : Type 0 where
  pub front : List X
  pub back : List X
  pub is : xs ≡ front ++ y ∷ back

pub parts_at : {X : Type 0} (y : X) (xs : List X) → Contains xs y → Parts y xs
parts_at y [] c = absurd (nothing y c)
parts_at y (x ∷ xs) c =
    ⊎_elim (λ s. record { front = []; back = xs; is = ap (λ r. r ∷ xs) s }) (λ t. let m = parts_at y xs t in record { front = x ∷ m.front; back = m.back; is = ap (λ r. x ∷ r) m.is }) (head_or_tail x xs y c)

pub without_middle : {X : Type 0} (x y : X) (front back : List X) → Contains (front ++ x ∷ back) y → (x ≢ y) → Contains (front ++ back) y
without_middle x y front back c n =
    ⊎_elim (λ a. Contains-append_left front back y a) (λ b. Contains-append_right front back y (⊎_elim (λ s. absurd (n s)) (λ t. t) (head_or_tail x back y b))) (Contains-append_cases front (x ∷ back) y c)

pub before_member : (y : List ℕ) (ys : Entries) (x : List ℕ) → IsBeforeAll y ys → Contains ys x → is_before y x ≡ true
before_member y [] x u c = absurd (nothing x c)
before_member y (z ∷ zs) x u c = ⊎_elim (λ s. subst (λ v. is_before y v ≡ true) s u.0) (λ t. before_member y zs x u.1 t) (head_or_tail z zs x c)

pub not_before_itself : (x : List ℕ) → is_before x x ≡ false
not_before_itself [] = refl
not_before_itself (x ∷ xs) = let e = not_before_itself xs in grind (arith, nat_tests)

-- an ascending list is no longer than one that has its members
pub ascending_fits : (xs ys : Entries) → IsAscending xs → ((x : List ℕ) → Contains xs x → Contains ys x) → length xs ≤ length ys
ascending_fits [] ys u to = omega arith
ascending_fits (x ∷ xs) ys u to =
    let m = parts_at x ys (to x (here x xs)) in
    let other : (y : List ℕ) → Contains xs y → x ≢ y = λ y c s. false≢true (sym (not_before_itself x) ∙ before_member x xs x u.0 (subst (Contains xs) (sym s) c)) in
    let i = ascending_fits xs (m.front ++ m.back) u.1 (λ y c. without_middle x y m.front m.back (subst (λ r. Contains r y) m.is (to y (there x y xs c))) (other y c)) in
    let l = ap length m.is in
    omega (arith, i, l, length-append m.front m.back, length-append m.front (x ∷ m.back))

-- whether an entry is in the list, by the test
pub any_if : (x : List ℕ) (r : Entries) → Contains r x → list_any (bytes_eq x) r ≡ true
any_if x [] c = absurd (nothing x c)
any_if x (y ∷ ys) c = ⊎_elim (λ e. rw ((bytes_eq-Decides x y).1 (sym e)) refl) (λ t. or_right (bytes_eq x y) (any_if x ys t)) (head_or_tail y ys x c)
  where
    or_right : (b : Bool) {d : Bool} → d ≡ true → (b || d) ≡ true
    or_right true e = refl
    or_right false e = e

pub only_if : (x : List ℕ) (r : Entries) → list_any (bytes_eq x) r ≡ true → Contains r x
only_if x [] h = absurd (false≢true h)
only_if x (y ∷ ys) h = at_test (bytes_eq x y) refl (λ f. only_if x ys f) h
  where
    at_test : (b : Bool) → bytes_eq x y ≡ b → (list_any (bytes_eq x) ys ≡ true → Contains ys x) → (b || list_any (bytes_eq x) ys) ≡ true → Contains (y ∷ ys) x
    at_test true e i f = subst (Contains (y ∷ ys)) (sym ((bytes_eq-Decides x y).0 e)) (here y ys)
    at_test false e i f = there y x ys (i f)

pub not_true : (b : Bool) → (b ≡ true → ⊥) → not b ≡ true
not_true true f = absurd (f refl)
not_true false f = refl

not_not : (b : Bool) → not b ≡ true → b ≡ true → ⊥
not_not true f g = false≢true f
not_not false f g = false≢true g

pub record Stays (i r : Entries) (x : List ℕ) : Type 0 where
  pub stands : Contains i x
  pub left : Contains r x → ⊥

-- the entries of a list that another lacks
pub lacking : (r i : Entries) (x : List ℕ) → Contains (filter (λ y. not (list_any (bytes_eq y) r)) i) x → Stays i r x
lacking r i x h = let f = member_of_filter (λ y. not (list_any (bytes_eq y) r)) x i h in record { stands = f.0; left = λ m. not_not (list_any (bytes_eq x) r) f.1 (any_if x r m) }

pub lacks : (r i : Entries) (x : List ℕ) → Contains i x → (Contains r x → ⊥) → Contains (filter (λ y. not (list_any (bytes_eq y) r)) i) x
lacks r i x m n = filter_has (λ y. not (list_any (bytes_eq y) r)) x i m (not_true (list_any (bytes_eq x) r) (λ h. n (only_if x r h)))

pub is_in : (x : List ℕ) (r : Entries) → Contains r x ⊎ (Contains r x → ⊥)
is_in x r = at_test (list_any (bytes_eq x) r) refl
  where
    at_test : (b : Bool) → list_any (bytes_eq x) r ≡ b → Contains r x ⊎ (Contains r x → ⊥)
    at_test true e = inl (only_if x r e)
    at_test false e = inr (λ m. false≢true (sym e ∙ any_if x r m))

not_any : (x : List ℕ) (xs : Entries) → (Contains xs x → ⊥) → list_any (bytes_eq x) xs ≡ false
not_any x xs n = at_test (list_any (bytes_eq x) xs) refl
  where
    at_test : (b : Bool) → list_any (bytes_eq x) xs ≡ b → b ≡ false
    at_test true e = absurd (n (only_if x xs e))
    at_test false e = refl

-- an ascending list has each entry once
pub ascending_once : (xs : Entries) → IsAscending xs → Distinct bytes_eq xs
ascending_once [] u = tt
ascending_once (x ∷ xs) u = (not_any x xs (λ m. false≢true (sym (not_before_itself x) ∙ before_member x xs x u.0 m)), ascending_once xs u.1)

-- and so have two lists that have none in common
pub both_once : (xs ys : Entries) → Distinct bytes_eq xs → Distinct bytes_eq ys → ((x : List ℕ) → Contains xs x → Contains ys x → ⊥) → Distinct bytes_eq (xs ++ ys)
both_once [] ys u v n = v
both_once (x ∷ xs) ys u v n = (
  not_any x (xs ++ ys) (λ m. ⊎_elim (λ c. false≢true (sym u.0 ∙ any_if x xs c)) (λ c. n x (here x xs) c) (Contains-append_cases xs ys x m)),
  both_once xs ys u.1 v (λ y c. n y (there x y xs c)),
)

-- a test leaves an ascending list ascending
before_those : (p : List ℕ → Bool) (x : List ℕ) (xs : Entries) → IsBeforeAll x xs → IsBeforeAll x (filter p xs)
before_those p x [] u = tt
before_those p x (y ∷ ys) u = at_test (p y) (before_those p x ys u.1)
  where
    at_test : (b : Bool) → IsBeforeAll x (filter p ys) → IsBeforeAll x (cond b (y ∷ filter p ys) (filter p ys))
    at_test true h = (u.0, h)
    at_test false h = h

pub filter_ascends : (p : List ℕ → Bool) (xs : Entries) → IsAscending xs → IsAscending (filter p xs)
filter_ascends p [] u = tt
filter_ascends p (x ∷ xs) u = at_test (p x) (filter_ascends p xs u.1)
  where
    at_test : (b : Bool) → IsAscending (filter p xs) → IsAscending (cond b (x ∷ filter p xs) (filter p xs))
    at_test true h = (before_those p x xs u.0, h)
    at_test false h = h

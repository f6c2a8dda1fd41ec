-- An order of distinct rows has an order of all solutions behind it: each row in turn is that of all its solutions.
use Rattle.std.proofs.Common.{◌≡◌, ℕ, ◌+◌, ◌*◌, ◌<◌, ◌≤◌, Bool, true, false, cond, not, min, suc, zero, List, [], ◌∷◌, ◌++◌, length, map, get_or, refl, sym, ◌∙◌, ap, subst, arith}
use Rattle.std.proofs.Math.Nat.{suc-mul}
use Rattle.std.proofs.lemmas.List.{map-append}
use Rattle.std.proofs.lemmas.List.Concat.{flat_map-cons}
use Rattle.std.proofs.lemmas.List.Elements.{All-nil, All-cons, All-head, All-tail, All-append}
use Rattle.std.specs.Bool.{Decides}
use Rattle.std.specs.Cmp.{IsStrictWeakOrder}
use Rattle.std.specs.List.{All, filter, flat_map, list_any}
use Rattle.qs_terms.specs.Bag.{Distinct, SameBag, once}
use Rattle.qs_terms.specs.inner.Bag.{times}
use Rattle.qs_terms.proofs.Counts.{same_from_times, times-filter, times-flat_map, times-same, total, total-ap}
use Rattle.qs_terms.proofs.FirstOnes.{or_left_false, or_right_false}
use Rattle.qs_query_forms.proofs.Once.{times-once}

module _ {X : Type 0} (same : X → X → Bool) (exact : (a b : X) → Decides (same a b) (a ≡ b)) (p : X → X) (some : List X) where
  -- the solutions of a row
  abbrev pub group : X → List X
  group d = filter (λ m. same (p m) d) some

  -- ---- as many as there are

  total_times : (k : ℕ) (b : X) (ds : List X) → total (λ d. cond (same b d) k 0) ds ≡ times same b ds * k
  total_times k b [] = let z : 0 ≡ 0 * k = omega arith in z
  total_times k b (d ∷ ds) = at (same b d) (total_times k b ds)
    where
      at : (e : Bool) → total (λ d. cond (same b d) k 0) ds ≡ times same b ds * k → cond e k 0 + total (λ d. cond (same b d) k 0) ds ≡ (cond e 1 0 + times same b ds) * k
      at true h =
          let one : 1 + times same b ds ≡ suc (times same b ds) = omega arith in
          let s : suc (times same b ds) * k ≡ times same b ds * k + k = suc-mul (times same b ds) k in
          let t : (1 + times same b ds) * k ≡ times same b ds * k + k = ap (λ n. n * k) one ∙ s in
          omega (arith, h, t)
      at false h =
          let none : 0 + times same b ds ≡ times same b ds = omega arith in
          let t : (0 + times same b ds) * k ≡ times same b ds * k = ap (λ n. n * k) none in
          omega (arith, h, t)

  mapped : (a : X) (xs : List X) → times same a xs ≤ times same (p a) (map p xs)
  mapped a [] = omega arith
  mapped a (x ∷ xs) = at (same a x) refl (mapped a xs)
    where
      at : (e : Bool) → same a x ≡ e → times same a xs ≤ times same (p a) (map p xs) → cond e 1 0 + times same a xs ≤ cond (same (p a) (p x)) 1 0 + times same (p a) (map p xs)
      at true e h =
          let k : same (p a) (p x) ≡ true = (exact (p a) (p x)).1 (ap p ((exact a x).0 e)) in
          rw k (omega (arith, h))
      at false e h = omega (arith, h)

  module _ (ds : List X) (bag : SameBag ds (once same (map p some))) where
    row_times : (b : X) → times same b ds ≡ min 1 (times same b (map p some))
    row_times b = times-same same b ds (once same (map p some)) bag ∙ times-once same exact b (map p some)

    pub all_grouped : SameBag (flat_map group ds) some
    all_grouped = same_from_times same exact (flat_map group ds) some (λ a.
        times-flat_map same group a ds
        ∙ (total-ap (λ d. times same a (group d)) (λ d. cond (same (p a) d) (times same a some) 0) (λ d. times-filter same exact (λ m. same (p m) d) a some) ds
        ∙ (total_times (times same a some) (p a) ds
        ∙ once_or_none (times same a some) (times same (p a) ds) (times same (p a) (map p some)) (row_times (p a)) (mapped a some))))
      where
        once_or_none : (k n t : ℕ) → n ≡ min 1 t → k ≤ t → n * k ≡ k
        once_or_none k n zero e h = let z : k ≡ 0 = omega (arith, h) in subst (λ (j : ℕ). n * j ≡ j) (sym z) (omega arith)
        once_or_none k n (suc t) e h = let one : n ≡ 1 = omega (arith, e) in subst (λ (j : ℕ). j * k ≡ k) (sym one) (omega arith)

    -- each row has a solution
    times_first : (d : X) (xs : List X) → 0 < times same d (d ∷ xs)
    times_first d xs = rw ((exact d d).1 refl) (omega arith)

    none_there : (d : X) (xs : List X) → filter (λ m. same (p m) d) xs ≡ [] → times same d (map p xs) ≡ 0
    none_there d [] h = refl
    none_there d (x ∷ xs) h = at (same (p x) d) refl (none_there d xs) h
      where
        at : (e : Bool) → same (p x) d ≡ e → (filter (λ m. same (p m) d) xs ≡ [] → times same d (map p xs) ≡ 0) → cond e (x ∷ filter (λ m. same (p m) d) xs) (filter (λ m. same (p m) d) xs) ≡ [] → cond (same d (p x)) 1 0 + times same d (map p xs) ≡ 0
        at true e rest k = absurd (cc)
        at false e rest k =
            let other : same d (p x) ≡ false = apart (same d (p x)) refl e in
            rw other (let z = rest k in omega (arith, z))
          where
            apart : (f : Bool) → same d (p x) ≡ f → same (p x) d ≡ false → f ≡ false
            apart false q r = refl
            apart true q r = let t : same (p x) d ≡ true = (exact (p x) d).1 (sym ((exact d (p x)).0 q)) in let u : true ≡ false = sym t ∙ r in cc

    pub some_there : (d : X) → 0 < times same d ds → group d ≡ [] → ⊥
    some_there d h e =
        let t = row_times d in
        let z = none_there d some e in
        omega (arith, h, t, z)

    times_at : (xs : List X) (i : ℕ) (d : X) → i < length xs → 0 < times same (get_or xs i d) xs
    times_at [] i d h = absurd (omega (arith, h))
    times_at (x ∷ xs) zero d h = times_first x xs
    times_at (x ∷ xs) (suc i) d h = let k = times_at xs i d (omega (arith, h)) in more (cond (same (get_or xs i d) x) 1 0) (times same (get_or xs i d) xs) k
      where
        more : (n k : ℕ) → 0 < k → 0 < n + k
        more n k h = omega (arith, h)

    pub all_there : All (λ d. group d ≡ [] → ⊥) ds
    all_there = λ i d lt. some_there (get_or ds i d) (times_at ds i d lt)

    any_of : (d : X) (xs : List X) (b : Bool) → list_any (same d) xs ≡ b → times same d xs ≡ 0 → b ≡ false
    any_of d xs false e h = refl
    any_of d [] true e h = cc
    any_of d (x ∷ xs) true e h = at (same d x) refl (any_of d xs true)
      where
        at : (f : Bool) → same d x ≡ f → (list_any (same d) xs ≡ true → times same d xs ≡ 0 → true ≡ false) → true ≡ false
        at true g rest = absurd (let k : cond (same d x) 1 0 + times same d xs ≡ 0 = h in omega (arith, rw g at k))
        at false g rest = rest (rw g at e) (let k : cond (same d x) 1 0 + times same d xs ≡ 0 = h in omega (arith, rw g at k))

    distinct_of : (xs : List X) → ((a : X) → times same a xs ≤ 1) → Distinct same xs
    distinct_of [] h = tt
    distinct_of (x ∷ xs) h = (
      any_of x xs (list_any (same x) xs) refl (let k : cond (same x x) 1 0 + times same x xs ≤ 1 = h x in let t : same x x ≡ true = (exact x x).1 refl in omega (arith, rw t at k)),
      distinct_of xs (λ a. let k : cond (same a x) 1 0 + times same a xs ≤ 1 = h a in less (cond (same a x) 1 0) (times same a xs) k),
    )
      where
        less : (n k : ℕ) → n + k ≤ 1 → k ≤ 1
        less n k h = omega (arith, h)

    pub rows_distinct : Distinct same ds
    rows_distinct = distinct_of ds (λ a. let e = row_times a in omega (arith, e))

  -- ---- the rows are the first occurrences

  abbrev AllAre : X → List X → Type 0
  AllAre d ws = All (λ w. w ≡ d) ws

  group_is : (d : X) (xs : List X) → AllAre d (map p (filter (λ m. same (p m) d) xs))
  group_is d [] = All-nil (λ w. w ≡ d)
  group_is d (x ∷ xs) = at (same (p x) d) refl (group_is d xs)
    where
      at : (e : Bool) → same (p x) d ≡ e → AllAre d (map p (filter (λ m. same (p m) d) xs)) → AllAre d (map p (cond e (x ∷ filter (λ m. same (p m) d) xs) (filter (λ m. same (p m) d) xs)))
      at true e h = All-cons (λ w. w ≡ d) (p x) (map p (filter (λ m. same (p m) d) xs)) ((exact (p x) d).0 e) h
      at false e h = h

  abbrev without : X → List X → List X
  without d xs = filter (λ y. not (same d y)) xs

  without_twice : (d : X) (xs : List X) → without d (without d xs) ≡ without d xs
  without_twice d [] = refl
  without_twice d (x ∷ xs) = at (same d x) refl (without_twice d xs)
    where
      at : (e : Bool) → same d x ≡ e → without d (without d xs) ≡ without d xs → without d (cond (not e) (x ∷ without d xs) (without d xs)) ≡ cond (not e) (x ∷ without d xs) (without d xs)
      at true e h = h
      at false e h = rw e (ap (λ l. x ∷ l) h)

  without_first : (d : X) (xs : List X) → without d (d ∷ xs) ≡ without d xs
  without_first d xs = rw ((exact d d).1 refl) refl

  without_none : (d : X) (xs : List X) → list_any (same d) xs ≡ false → without d xs ≡ xs
  without_none d [] h = refl
  without_none d (x ∷ xs) h =
      rw (or_left_false (same d x) (list_any (same d) xs) h) (ap (λ l. x ∷ l) (without_none d xs (or_right_false (same d x) (list_any (same d) xs) h)))

  once_without : (d : X) (ws us : List X) → AllAre d ws → without d (once same (ws ++ us)) ≡ without d (once same us)
  once_without d [] us h = refl
  once_without d (w ∷ ws) us h =
      let is : w ≡ d = All-head (λ w. w ≡ d) w ws h in
      ap (λ x. without d (x ∷ without x (once same (ws ++ us)))) is
      ∙ (without_first d (without d (once same (ws ++ us)))
      ∙ (without_twice d (once same (ws ++ us)) ∙ once_without d ws us (All-tail (λ w. w ≡ d) w ws h)))

  once_all : (d : X) (ws us : List X) → AllAre d ws → (ws ≡ [] → ⊥) → once same (ws ++ us) ≡ d ∷ without d (once same us)
  once_all d [] us h some = absurd (some refl)
  once_all d (w ∷ ws) us h some =
      let is : w ≡ d = All-head (λ w. w ≡ d) w ws h in
      ap (λ x. x ∷ without x (once same (ws ++ us))) is ∙ ap (λ l. d ∷ l) (once_without d ws us (All-tail (λ w. w ≡ d) w ws h))

  map_some : (ms : List X) → (ms ≡ [] → ⊥) → map p ms ≡ [] → ⊥
  map_some [] h e = h refl
  map_some (m ∷ ms) h e = let k : p m ∷ map p ms ≡ [] = e in cc

  pub once_grouped : (ds : List X) → Distinct same ds → All (λ d. group d ≡ [] → ⊥) ds → once same (map p (flat_map group ds)) ≡ ds
  once_grouped [] distinct there = refl
  once_grouped (d ∷ ds) distinct there =
      let rest = once_grouped ds distinct.1 (All-tail (λ d. group d ≡ [] → ⊥) d ds there) in
      ap (λ l. once same (map p l)) (flat_map-cons group d ds)
      ∙ (ap (once same) (map-append p (group d) (flat_map group ds))
      ∙ (once_all d (map p (group d)) (map p (flat_map group ds)) (group_is d some) (map_some (group d) (All-head (λ d. group d ≡ [] → ⊥) d ds there))
      ∙ ap (λ l. d ∷ l) (ap (without d) rest ∙ without_none d ds distinct.0)))

  -- ---- and in order

  module _ (lower : X → X → Bool) (lower_row : X → X → Bool) (o : IsStrictWeakOrder lower_row) (alike : (a b : X) → lower_row (p a) (p b) ≡ lower a b) where
    -- none is lower than one before it
    abbrev Up : (X → X → Bool) → List X → Type 0
    Up lt [] = Unit {0}
    Up lt (x ∷ xs) = All (λ y. lt y x ≡ false) xs × Up lt xs

    not_itself : (d : X) → lower_row d d ≡ false
    not_itself d = at (lower_row d d) refl
      where
        at : (e : Bool) → lower_row d d ≡ e → e ≡ false
        at false h = refl
        at true h = let t = o.one_way d d h in let f : true ≡ false = sym h ∙ t in cc

    ap_all : {P Q : X → Type 0} (xs : List X) → ((x : X) → P x → Q x) → All P xs → All Q xs
    ap_all xs f h = λ i d lt. f (get_or xs i d) (h i d lt)

    group_rows : (d : X) (xs : List X) → All (λ m. p m ≡ d) (filter (λ m. same (p m) d) xs)
    group_rows d [] = All-nil (λ m. p m ≡ d)
    group_rows d (x ∷ xs) = at (same (p x) d) refl (group_rows d xs)
      where
        at : (e : Bool) → same (p x) d ≡ e → All (λ m. p m ≡ d) (filter (λ m. same (p m) d) xs) → All (λ m. p m ≡ d) (cond e (x ∷ filter (λ m. same (p m) d) xs) (filter (λ m. same (p m) d) xs))
        at true e h = All-cons (λ m. p m ≡ d) x (filter (λ m. same (p m) d) xs) ((exact (p x) d).0 e) h
        at false e h = h

    tie : (d a b : X) → p a ≡ d → p b ≡ d → lower b a ≡ false
    tie d a b e f = sym (alike b a) ∙ (ap (λ x. lower_row x (p a)) f ∙ (ap (lower_row d) e ∙ not_itself d))

    group_up : (d : X) (ms : List X) → All (λ m. p m ≡ d) ms → Up lower ms
    group_up d [] h = tt
    group_up d (m ∷ ms) h =
        let e = All-head (λ m. p m ≡ d) m ms h in
        let rest = All-tail (λ m. p m ≡ d) m ms h in
        (ap_all ms (λ x f. tie d m x e f) rest, group_up d ms rest)

    later : (d : X) (ds : List X) → All (λ e. lower_row e d ≡ false) ds → All (λ m. lower_row (p m) d ≡ false) (flat_map group ds)
    later d [] h = All-nil (λ m. lower_row (p m) d ≡ false)
    later d (e ∷ ds) h =
        subst (All (λ m. lower_row (p m) d ≡ false)) (sym (flat_map-cons group e ds))
        (All-append (λ m. lower_row (p m) d ≡ false) (group e) (flat_map group ds)
        (ap_all {P = λ m. p m ≡ e} {Q = λ m. lower_row (p m) d ≡ false} (group e) (λ m f. ap (λ x. lower_row x d) f ∙ All-head (λ e. lower_row e d ≡ false) e ds h) (group_rows e some)) (later d ds (All-tail (λ e. lower_row e d ≡ false) e ds h)))

    joined : (front back : List X) → Up lower front → Up lower back → All (λ x. All (λ y. lower y x ≡ false) back) front → Up lower (front ++ back)
    joined [] back up rest h = rest
    joined (x ∷ xs) back up rest h =
        (All-append (λ y. lower y x ≡ false) xs back up.0 (All-head (λ x. All (λ y. lower y x ≡ false) back) x xs h), joined xs back up.1 rest (All-tail (λ x. All (λ y. lower y x ≡ false) back) x xs h))

    grouped_up : (ds : List X) → Up lower_row ds → Up lower (flat_map group ds)
    grouped_up [] up = tt
    grouped_up (d ∷ ds) up =
        subst (Up lower) (sym (flat_map-cons group d ds))
        (joined (group d) (flat_map group ds) (group_up d (group d) (group_rows d some)) (grouped_up ds up.1)
        (ap_all {P = λ a. p a ≡ d} {Q = λ a. All (λ b. lower b a ≡ false) (flat_map group ds)} (group d) (λ a e. ap_all {P = λ b. lower_row (p b) d ≡ false} {Q = λ b. lower b a ≡ false} (flat_map group ds) (λ b f. sym (alike b a) ∙ (ap (lower_row (p b)) e ∙ f)) (later d ds up.0)) (group_rows d some)))

    abbrev Far : (X → X → Bool) → List X → Type 0
    Far lt xs = (i j : ℕ) (d : X) → i < j → j < length xs → lt (get_or xs j d) (get_or xs i d) ≡ false

    up_from_far : (xs : List X) → Far lower_row xs → Up lower_row xs
    up_from_far [] h = tt
    up_from_far (x ∷ xs) h = (λ i d lt. h 0 (suc i) d (omega arith) (omega (arith, lt)), up_from_far xs (λ i j d k l. h (suc i) (suc j) d (omega (arith, k)) (omega (arith, l))))

    far_from_up : (xs : List X) → Up lower xs → Far lower xs
    far_from_up [] up i j d k l = absurd (omega (arith, l))
    far_from_up (x ∷ xs) up i zero d k l = absurd (omega (arith, k))
    far_from_up (x ∷ xs) up zero (suc j) d k l = up.0 j d (omega (arith, l))
    far_from_up (x ∷ xs) up (suc i) (suc j) d k l = far_from_up xs up.1 i j d (omega (arith, k)) (omega (arith, l))

    pub grouped_in_order : (ds : List X) → Far lower_row ds → Far lower (flat_map group ds)
    grouped_in_order ds h = far_from_up (flat_map group ds) (grouped_up ds (up_from_far ds h))

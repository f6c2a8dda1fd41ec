-- Entries that leave a page together.
use Rattle.std.proofs.Common.{◌≡◌, ◌⊎◌, ℕ, ◌+◌, ◌-◌, ◌<◌, ◌≤◌, Bool, true, false, List, [], ◌∷◌, ◌++◌, length, get_or, take, drop, set, suc, zero, refl, ap, sym, ◌∙◌, subst, arith, inl, inr, ⊎_elim, append-nil, append_assoc, drop-set-lt, length-append, add-one}
use Rattle.std.specs.Prelude.{if◌then◌else◌}
use Rattle.std.specs.List.{Contains, remove}
use Rattle.std.specs.Str.{bytes_eq}
use Rattle.std.specs.Cmp.Lexicographic.{bytes_decides}
use Rattle.std.proofs.lemmas.Bool.{false≢true}
use Rattle.std.proofs.lemmas.Grind.{drop_more_same}
use Rattle.std.proofs.lemmas.List.{at_drop_more, drop_all, length-set, take-append-drop, take_more_set}
use Rattle.std.proofs.lemmas.List.Elements.{Contains-append_left, Contains-append_right, Contains-append_cases}
use Rattle.qs_index.specs.inner.Entries.{IsDifference}
use Rattle.qs_index.specs.inner.Entry.{is_before, IsBeforeAll, IsAscending, skip_before}
use Rattle.qs_index.specs.inner.Layout.{joined, page_at, rest_at, over, first_page, room_of}
use Rattle.qs_index.specs.inner.Leaving.{met, unmet, left_from, with_page, with_spare}
use Rattle.qs_index.specs.inner.PagePosition.{IsPlaceOf}
use Rattle.qs_index.proofs.Distinct.{nothing_in_nil}
use Rattle.qs_index.proofs.EntryEdits.{joined-set, not_before_itself, rest_is, split_front}
use Rattle.qs_index.proofs.Members.{before_member, head_or_tail, here, skip_of_member, there}
use Rattle.qs_index.proofs.Places.{joined-append, rest_more}
use Rattle.qs_index.proofs.Spares.{first_page_none, over-append, over-at, over-set}

-- ---- a page and the entries that it meets

pub unmet_in : (ps es : List (List ℕ)) (y : List ℕ) → Contains (unmet ps es) y → Contains ps y
unmet_in [] es y c = c
unmet_in (p ∷ ps) [] y c = c
unmet_in (p ∷ ps) (e ∷ es) y c = by_test (bytes_eq p e) (unmet_in ps es y) (unmet_in ps (e ∷ es) y) c
  where
    by_test : (b : Bool) → (Contains (unmet ps es) y → Contains ps y) → (Contains (unmet ps (e ∷ es)) y → Contains ps y) → Contains (if b then unmet ps es else (p ∷ unmet ps (e ∷ es))) y → Contains (p ∷ ps) y
    by_test true i j c = there p y ps (i c)
    by_test false i j c = ⊎_elim (λ s. subst (Contains (p ∷ ps)) s (here p ps)) (λ t. there p y ps (j t)) (head_or_tail p (unmet ps (e ∷ es)) y c)

same_of : (p e : List ℕ) → bytes_eq p e ≡ true → p ≡ e
same_of p e s = (bytes_decides p e).0 s

taken_suc : (n : ℕ) (e : List ℕ) (es : List (List ℕ)) → take (n + 1) (e ∷ es) ≡ e ∷ take n es
taken_suc n e es = ap (λ k. take k (e ∷ es)) (add-one n)

pub met_in : (ps es : List (List ℕ)) (y : List ℕ) → Contains (take (met ps es) es) y → Contains ps y
met_in [] es y c = c
met_in (p ∷ ps) [] y c = absurd (nothing_in_nil y c)
met_in (p ∷ ps) (e ∷ es) y c = by_test (bytes_eq p e) refl (met_in ps es y) (met_in ps (e ∷ es) y) c
  where
    by_test : (b : Bool) → bytes_eq p e ≡ b → (Contains (take (met ps es) es) y → Contains ps y) → (Contains (take (met ps (e ∷ es)) (e ∷ es)) y → Contains ps y) → Contains (take (if b then met ps es + 1 else met ps (e ∷ es)) (e ∷ es)) y → Contains (p ∷ ps) y
    by_test true s i j c = ⊎_elim (λ q. subst (Contains (p ∷ ps)) (same_of p e s ∙ q) (here p ps)) (λ t. there p y ps (i t)) (head_or_tail e (take (met ps es) es) y (subst (λ r. Contains r y) (taken_suc (met ps es) e es) c))
    by_test false s i j c = there p y ps (j c)

pub met_or_unmet : (ps es : List (List ℕ)) (y : List ℕ) → Contains ps y → Contains (unmet ps es) y ⊎ Contains (take (met ps es) es) y
met_or_unmet [] es y c = inl c
met_or_unmet (p ∷ ps) [] y c = inl c
met_or_unmet (p ∷ ps) (e ∷ es) y c = by_test (bytes_eq p e) refl (met_or_unmet ps es y) (met_or_unmet ps (e ∷ es) y) (head_or_tail p ps y c)
  where
    by_test : (b : Bool) → bytes_eq p e ≡ b → (Contains ps y → Contains (unmet ps es) y ⊎ Contains (take (met ps es) es) y) → (Contains ps y → Contains (unmet ps (e ∷ es)) y ⊎ Contains (take (met ps (e ∷ es)) (e ∷ es)) y) → (p ≡ y) ⊎ Contains ps y → Contains (if b then unmet ps es else (p ∷ unmet ps (e ∷ es))) y ⊎ Contains (take (if b then met ps es + 1 else met ps (e ∷ es)) (e ∷ es)) y
    by_test true s i j (inl q) = inr (subst (λ r. Contains r y) (sym (taken_suc (met ps es) e es)) (subst (Contains (e ∷ take (met ps es) es)) (sym (same_of p e s) ∙ q) (here e (take (met ps es) es))))
    by_test true s i j (inr t) = ⊎_elim (λ l. inl l) (λ r. inr (subst (λ k. Contains k y) (sym (taken_suc (met ps es) e es)) (there e y (take (met ps es) es) r))) (i t)
    by_test false s i j (inl q) = inl (subst (Contains (p ∷ unmet ps (e ∷ es))) q (here p (unmet ps (e ∷ es))))
    by_test false s i j (inr t) = ⊎_elim (λ l. inl (there p y (unmet ps (e ∷ es)) l)) (λ r. inr r) (j t)

never_itself : (y : List ℕ) → is_before y y ≡ true → ⊥
never_itself y b = false≢true (sym (not_before_itself y) ∙ b)

pub met_is_gone : (ps es : List (List ℕ)) (y : List ℕ) → IsAscending ps → Contains (unmet ps es) y → Contains (take (met ps es) es) y → ⊥
met_is_gone [] es y u c d = nothing_in_nil y c
met_is_gone (p ∷ ps) [] y u c d = nothing_in_nil y d
met_is_gone (p ∷ ps) (e ∷ es) y u c d = by_test (bytes_eq p e) refl (met_is_gone ps es y u.1) (met_is_gone ps (e ∷ es) y u.1) c d
  where
    by_test : (b : Bool) → bytes_eq p e ≡ b → (Contains (unmet ps es) y → Contains (take (met ps es) es) y → ⊥) → (Contains (unmet ps (e ∷ es)) y → Contains (take (met ps (e ∷ es)) (e ∷ es)) y → ⊥) → Contains (if b then unmet ps es else (p ∷ unmet ps (e ∷ es))) y → Contains (take (if b then met ps es + 1 else met ps (e ∷ es)) (e ∷ es)) y → ⊥
    by_test true s i j c d =
        ⊎_elim (λ q. never_itself y (subst (λ r. is_before r y ≡ true) (same_of p e s ∙ q) (before_member p ps y u.0 (unmet_in ps es y c))))
        (λ t. i c t) (head_or_tail e (take (met ps es) es) y (subst (λ r. Contains r y) (taken_suc (met ps es) e es) d))
    by_test false s i j c d =
        ⊎_elim (λ q. never_itself y (subst (λ r. is_before r y ≡ true) q (before_member p ps y u.0 (met_in ps (e ∷ es) y d)))) (λ t. j t d) (head_or_tail p (unmet ps (e ∷ es)) y c)

pub length-unmet : (ps es : List (List ℕ)) → length (unmet ps es) + met ps es ≡ length ps
length-unmet [] es = refl
length-unmet (p ∷ ps) [] = omega arith
length-unmet (p ∷ ps) (e ∷ es) = by_test (bytes_eq p e) (length-unmet ps es) (length-unmet ps (e ∷ es))
  where
    by_test : (b : Bool) → length (unmet ps es) + met ps es ≡ length ps → length (unmet ps (e ∷ es)) + met ps (e ∷ es) ≡ length ps → length (if b then unmet ps es else (p ∷ unmet ps (e ∷ es))) + (if b then met ps es + 1 else met ps (e ∷ es)) ≡ length (p ∷ ps)
    by_test true i j = omega (arith, i)
    by_test false i j = omega (arith, j)

pub met_few : (ps es : List (List ℕ)) → met ps es ≤ length es
met_few [] es = omega arith
met_few (p ∷ ps) [] = omega arith
met_few (p ∷ ps) (e ∷ es) = by_test (bytes_eq p e) (met_few ps es) (met_few ps (e ∷ es))
  where
    by_test : (b : Bool) → met ps es ≤ length es → met ps (e ∷ es) ≤ length (e ∷ es) → (if b then met ps es + 1 else met ps (e ∷ es)) ≤ length (e ∷ es)
    by_test true i j = omega (arith, i)
    by_test false i j = j

-- the first of the page is the first of the entries
pub met_some : (p : List ℕ) (ps es : List (List ℕ)) → 0 < met (p ∷ ps) (p ∷ es)
met_some p ps es = by_test (bytes_eq p p) refl
  where
    by_test : (b : Bool) → bytes_eq p p ≡ b → 0 < (if b then met ps es + 1 else met ps (p ∷ es))
    by_test true s = omega arith
    by_test false s = absurd (false≢true (sym s ∙ (bytes_decides p p).1 refl))

-- ---- one pass over a page

drop_here : (k : ℕ) (xs : List (List ℕ)) → k < length xs → drop k xs ≡ get_or xs k [] ∷ drop (k + 1) xs
drop_here k xs h = at_drop_more (λ r. r) xs k [] h

unmet_none : (ps : List (List ℕ)) → unmet ps [] ≡ ps
unmet_none [] = refl
unmet_none (p ∷ ps) = refl

met_none : (ps : List (List ℕ)) → met ps [] ≡ 0
met_none [] = refl
met_none (p ∷ ps) = refl

-- what holds of a page in which some places were passed: so many entries were met, and so many others were kept in front
pub record IsPassing (from : ℕ) (old entries : List (List ℕ)) (at kept count : ℕ) (now : List (List ℕ)) : Type 0 where
  pub long : length now ≡ length old
  pub kept_in : kept ≤ at
  pub few : count ≤ length entries
  pub rest : drop at now ≡ drop at old
  pub left : take kept now ++ unmet (drop at old) (drop count entries) ≡ left_from from old entries
  pub sum : count + met (drop at old) (drop count entries) ≡ met (drop from old) entries

pub passing_start : (from : ℕ) (old es : List (List ℕ)) → IsPassing from old es from from 0 old
passing_start from old es = record {
  long = refl;
  kept_in = omega arith;
  few = omega arith;
  rest = refl;
  left = refl;
  sum = omega arith;
}

same_read : (at : ℕ) (now old : List (List ℕ)) → at < length old → length now ≡ length old → drop at now ≡ drop at old → get_or now at [] ≡ get_or old at []
same_read at now old h n e = ap (λ r. get_or r 0 []) (sym (drop_here at now (omega (arith, h, n))) ∙ e ∙ drop_here at old h)

pub passing_hit : (from : ℕ) (old es : List (List ℕ)) (at kept count : ℕ) (now : List (List ℕ)) → IsPassing from old es at kept count now → at < length now → count < length es → bytes_eq (get_or now at []) (get_or es count []) ≡ true → IsPassing from old es (at + 1) kept (count + 1) now
passing_hit from old es at kept count now u h c s =
    let x = get_or old at [] in
    let e = get_or es count [] in
    let ps = drop (at + 1) old in
    let rest = drop (count + 1) es in
    let within : at < length old = omega (arith, h, u.long) in
    let same : bytes_eq x e ≡ true = ap (λ r. bytes_eq r e) (sym (same_read at now old within u.long u.rest)) ∙ s in
    let split = drop_here at old within in
    let split2 = drop_here count es c in
    let hit : unmet (drop at old) (drop count es) ≡ unmet ps rest = ap (λ r. unmet r (drop count es)) split ∙ ap (unmet (x ∷ ps)) split2 ∙ ap (λ b. if b then unmet ps rest else (x ∷ unmet ps (e ∷ rest))) same in
    let more : met (drop at old) (drop count es) ≡ met ps rest + 1 = ap (λ r. met r (drop count es)) split ∙ ap (met (x ∷ ps)) split2 ∙ ap (λ b. if b then met ps rest + 1 else met ps (e ∷ rest)) same in
    record {
      long = u.long;
      kept_in = omega (arith, u.kept_in);
      few = omega (arith, c);
      rest = drop_more_same now old at u.rest;
      left = ap (λ r. take kept now ++ r) (sym hit) ∙ u.left;
      sum = omega (arith, u.sum);
    }

-- the entry at the place isn't the next of the entries, or none is left
passing_over : (from : ℕ) (old es : List (List ℕ)) (at kept count : ℕ) (now : List (List ℕ)) → IsPassing from old es at kept count now → at < length now → unmet (drop at old) (drop count es) ≡ get_or old at [] ∷ unmet (drop (at + 1) old) (drop count es) → met (drop at old) (drop count es) ≡ met (drop (at + 1) old) (drop count es) → IsPassing from old es (at + 1) (kept + 1) count (set now kept (get_or now at []))
passing_over from old es at kept count now u h miss same =
    let x = get_or now at [] in
    let within : at < length old = omega (arith, h, u.long) in
    let rest = unmet (drop (at + 1) old) (drop count es) in
    let read = same_read at now old within u.long u.rest in
    record {
      long = length-set now kept x ∙ u.long;
      kept_in = omega (arith, u.kept_in);
      few = u.few;
      rest = drop-set-lt (at + 1) now kept x (omega (arith, u.kept_in)) ∙ drop_more_same now old at u.rest;
      left = ap (λ r. r ++ rest) (take_more_set now kept x (omega (arith, h, u.kept_in))) ∙ append_assoc (take kept now) (x ∷ []) rest ∙ ap (λ r. take kept now ++ r ∷ rest) read ∙ ap (λ r. take kept now ++ r) (sym miss) ∙ u.left;
      sum = omega (arith, u.sum);
    }

pub passing_miss : (from : ℕ) (old es : List (List ℕ)) (at kept count : ℕ) (now : List (List ℕ)) → IsPassing from old es at kept count now → at < length now → count < length es → bytes_eq (get_or now at []) (get_or es count []) ≡ false → IsPassing from old es (at + 1) (kept + 1) count (set now kept (get_or now at []))
passing_miss from old es at kept count now u h c s =
    let x = get_or old at [] in
    let e = get_or es count [] in
    let ps = drop (at + 1) old in
    let rest = drop (count + 1) es in
    let within : at < length old = omega (arith, h, u.long) in
    let other : bytes_eq x e ≡ false = ap (λ r. bytes_eq r e) (sym (same_read at now old within u.long u.rest)) ∙ s in
    let split = drop_here at old within in
    let split2 = drop_here count es c in
    let miss : unmet (drop at old) (drop count es) ≡ x ∷ unmet ps (drop count es) = ap (λ r. unmet r (drop count es)) split ∙ ap (unmet (x ∷ ps)) split2 ∙ ap (λ b. if b then unmet ps rest else (x ∷ unmet ps (e ∷ rest))) other ∙ ap (λ r. x ∷ unmet ps r) (sym split2) in
    let same : met (drop at old) (drop count es) ≡ met ps (drop count es) = ap (λ r. met r (drop count es)) split ∙ ap (met (x ∷ ps)) split2 ∙ ap (λ b. if b then met ps rest + 1 else met ps (e ∷ rest)) other ∙ ap (met ps) (sym split2) in
    passing_over from old es at kept count now u h miss same

pub passing_end : (from : ℕ) (old es : List (List ℕ)) (at kept count : ℕ) (now : List (List ℕ)) → IsPassing from old es at kept count now → at < length now → length es ≤ count → IsPassing from old es (at + 1) (kept + 1) count (set now kept (get_or now at []))
passing_end from old es at kept count now u h c =
    let x = get_or old at [] in
    let ps = drop (at + 1) old in
    let within : at < length old = omega (arith, h, u.long) in
    let none : drop count es ≡ [] = drop_all count es c in
    let split = drop_here at old within in
    let miss : unmet (drop at old) (drop count es) ≡ x ∷ unmet ps (drop count es) = ap (unmet (drop at old)) none ∙ unmet_none (drop at old) ∙ split ∙ ap (λ r. x ∷ r) (sym (unmet_none ps) ∙ ap (unmet ps) (sym none)) in
    let same : met (drop at old) (drop count es) ≡ met ps (drop count es) = ap (met (drop at old)) none ∙ met_none (drop at old) ∙ sym (met_none ps) ∙ ap (met ps) (sym none) in
    passing_over from old es at kept count now u h miss same

-- all places were passed
pub passed_left : (from : ℕ) (old es : List (List ℕ)) (at kept count : ℕ) (now : List (List ℕ)) → IsPassing from old es at kept count now → length old ≤ at → take kept now ≡ left_from from old es
passed_left from old es at kept count now u h =
    let none : drop at old ≡ [] = drop_all at old h in
    sym (append-nil (take kept now)) ∙ ap (λ r. take kept now ++ unmet r (drop count es)) (sym none) ∙ u.left

pub passed_count : (from : ℕ) (old es : List (List ℕ)) (at kept count : ℕ) (now : List (List ℕ)) → IsPassing from old es at kept count now → length old ≤ at → count ≡ met (drop from old) es
passed_count from old es at kept count now u h =
    let none : met (drop at old) (drop count es) ≡ 0 = ap (λ r. met r (drop count es)) (drop_all at old h) in
    omega (arith, u.sum)

-- ---- ascending lists

before_fewer : (x : List ℕ) (ys xs : List (List ℕ)) → IsBeforeAll x xs → ((y : List ℕ) → Contains ys y → Contains xs y) → IsBeforeAll x ys
before_fewer x [] xs u f = tt
before_fewer x (y ∷ ys) xs u f = (before_member x xs y u (f y (here y ys)), before_fewer x ys xs u (λ z c. f z (there y z ys c)))

pub in_order : (front back : List (List ℕ)) (y z : List ℕ) → IsAscending (front ++ back) → Contains front y → Contains back z → is_before y z ≡ true
in_order [] back y z u c d = absurd (nothing_in_nil y c)
in_order (x ∷ front) back y z u c d =
    ⊎_elim (λ s. subst (λ r. is_before r z ≡ true) s (before_member x (front ++ back) z u.0 (Contains-append_right front back z d))) (λ t. in_order front back y z u.1 t d) (head_or_tail x front y c)

pub behind_front : (front back : List (List ℕ)) → IsAscending (front ++ back) → IsAscending back
behind_front [] back u = u
behind_front (x ∷ front) back u = behind_front front back u.1

pub in_front : (front back : List (List ℕ)) → IsAscending (front ++ back) → IsAscending front
in_front [] back u = tt
in_front (x ∷ front) back u = (before_fewer x front (front ++ back) u.0 (λ y c. Contains-append_left front back y c), in_front front back u.1)

-- the members of a list in three parts, of which the middle one has fewer
fewer_behind : (ps es back : List (List ℕ)) (y : List ℕ) → Contains (unmet ps es ++ back) y → Contains (ps ++ back) y
fewer_behind ps es back y c =
    ⊎_elim (λ l. Contains-append_left ps back y (unmet_in ps es y l)) (λ r. Contains-append_right ps back y r) (Contains-append_cases (unmet ps es) back y c)

fewer_within : (front ps es back : List (List ℕ)) (y : List ℕ) → Contains (front ++ (unmet ps es ++ back)) y → Contains (front ++ (ps ++ back)) y
fewer_within front ps es back y c =
    ⊎_elim (λ l. Contains-append_left front (ps ++ back) y l) (λ r. Contains-append_right front (ps ++ back) y (fewer_behind ps es back y r)) (Contains-append_cases front (unmet ps es ++ back) y c)

IsAscending-unmet : (ps es back : List (List ℕ)) → IsAscending (ps ++ back) → IsAscending (unmet ps es ++ back)
IsAscending-unmet [] es back u = u
IsAscending-unmet (p ∷ ps) [] back u = u
IsAscending-unmet (p ∷ ps) (e ∷ es) back u = by_test (bytes_eq p e) (IsAscending-unmet ps es back u.1) (IsAscending-unmet ps (e ∷ es) back u.1)
  where
    by_test : (b : Bool) → IsAscending (unmet ps es ++ back) → IsAscending (unmet ps (e ∷ es) ++ back) → IsAscending ((if b then unmet ps es else (p ∷ unmet ps (e ∷ es))) ++ back)
    by_test true i j = i
    by_test false i j = (before_fewer p (unmet ps (e ∷ es) ++ back) (ps ++ back) u.0 (fewer_behind ps (e ∷ es) back), j)

IsAscending-within : (front ps es back : List (List ℕ)) → IsAscending (front ++ (ps ++ back)) → IsAscending (front ++ (unmet ps es ++ back))
IsAscending-within [] ps es back u = IsAscending-unmet ps es back u
IsAscending-within (x ∷ front) ps es back u =
    (before_fewer x (front ++ (unmet ps es ++ back)) (front ++ (ps ++ back)) u.0 (fewer_within front ps es back), IsAscending-within front ps es back u.1)

-- the entries that a part of a list meets, taken out of the list
pub difference_of_met : (front ps es back : List (List ℕ)) → IsAscending (front ++ (ps ++ back)) → IsDifference (front ++ (ps ++ back)) (take (met ps es) es) (front ++ (unmet ps es ++ back))
difference_of_met front ps es back u =
    let v = behind_front front (ps ++ back) u in
    record {
      ascending = IsAscending-within front ps es back u;
      kept = λ y c.
          ⊎_elim (λ l. inl (Contains-append_left front (unmet ps es ++ back) y l))
          (λ r. ⊎_elim (λ p. ⊎_elim (λ k. inl (Contains-append_right front (unmet ps es ++ back) y (Contains-append_left (unmet ps es) back y k))) (λ g. inr g) (met_or_unmet ps es y p))
          (λ b. inl (Contains-append_right front (unmet ps es ++ back) y (Contains-append_right (unmet ps es) back y b))) (Contains-append_cases ps back y r))
          (Contains-append_cases front (ps ++ back) y c);
      gone = λ y c d.
          let p = met_in ps es y d in
          ⊎_elim (λ l. never_itself y (in_order front (ps ++ back) y y u l (Contains-append_left ps back y p)))
          (λ r. ⊎_elim (λ k. met_is_gone ps es y (in_front ps back v) k d) (λ b. never_itself y (in_order ps back y y v p b)) (Contains-append_cases (unmet ps es) back y r))
          (Contains-append_cases front (unmet ps es ++ back) y c);
      only = λ y c. fewer_within front ps es back y c;
    }

-- one list after another
pub IsDifference-then : (xs a b ys zs : List (List ℕ)) → IsDifference xs a ys → IsDifference ys b zs → IsDifference xs (a ++ b) zs
IsDifference-then xs a b ys zs u v = record {
  ascending = v.ascending;
  kept = λ y c. ⊎_elim (λ k. ⊎_elim (λ z. inl z) (λ r. inr (Contains-append_right a b y r)) (v.kept y k)) (λ l. inr (Contains-append_left a b y l)) (u.kept y c);
  gone = λ y c d. ⊎_elim (λ l. u.gone y (v.only y c) l) (λ r. v.gone y c r) (Contains-append_cases a b y d);
  only = λ y c. u.only y (v.only y c);
}

-- an entry that isn't there
pub difference_of_missing : (xs es : List (List ℕ)) (e : List ℕ) → IsAscending xs → e ≡ get_or es 0 [] → 0 < length es → (Contains xs e → ⊥) → IsDifference xs (take 1 es) xs
difference_of_missing xs [] e u s h n = absurd (omega (arith, h))
difference_of_missing xs (x ∷ es) e u s h n = record {
  ascending = u;
  kept = λ y c. inl c;
  gone = λ y c d. ⊎_elim (λ q. n (subst (Contains xs) (sym (s ∙ q)) c)) (λ t. nothing_in_nil y t) (head_or_tail x [] y d);
  only = λ y c. c;
}

pub difference_of_none : (xs es : List (List ℕ)) → xs ≡ [] → IsDifference xs es xs
difference_of_none xs es n = record {
  ascending = subst IsAscending (sym n) tt;
  kept = λ y c. inl c;
  gone = λ y c d. nothing_in_nil y (subst (λ r. Contains r y) n c);
  only = λ y c. c;
}

-- ---- the pages

pub joined_with_page : (pages : List (List (List ℕ))) (m : ℕ) (page : List (List ℕ)) → m < length pages → joined (with_page pages m page) ≡ joined (take m pages) ++ (page ++ joined (drop (m + 1) pages))
joined_with_page pages m [] h = joined-append (take m pages) (drop (suc m) pages) ∙ ap (λ j. joined (take m pages) ++ joined (drop j pages)) (sym (add-one m))
joined_with_page pages m (x ∷ page) h = joined-set pages m (x ∷ page) h

-- the entries in front of a place of a page
abbrev pub in_front_of : List (List (List ℕ)) → ℕ → ℕ → List (List ℕ)
in_front_of pages m k = joined (take m pages) ++ take k (page_at pages m)

pub joined_before : (pages : List (List (List ℕ))) (m k : ℕ) → m < length pages → k ≤ length (page_at pages m) → joined pages ≡ in_front_of pages m k ++ (drop k (page_at pages m) ++ joined (drop (m + 1) pages))
joined_before pages m k h l = split_front pages m k h l ∙ ap (λ r. in_front_of pages m k ++ r) (rest_is pages m k h l)

pub joined_after : (pages : List (List (List ℕ))) (m k : ℕ) (es : List (List ℕ)) → m < length pages → joined (with_page pages m (left_from k (page_at pages m) es)) ≡ in_front_of pages m k ++ (unmet (drop k (page_at pages m)) es ++ joined (drop (m + 1) pages))
joined_after pages m k es h =
    let page = page_at pages m in
    let back = joined (drop (m + 1) pages) in
    joined_with_page pages m (left_from k page es) h
    ∙ ap (λ r. joined (take m pages) ++ r) (append_assoc (take k page) (unmet (drop k page) es) back)
    ∙ sym (append_assoc (joined (take m pages)) (take k page) (unmet (drop k page) es ++ back))

pub left_difference : (pages new : List (List (List ℕ))) (m k : ℕ) (es : List (List ℕ)) → m < length pages → k ≤ length (page_at pages m) → IsAscending (joined pages) → new ≡ with_page pages m (left_from k (page_at pages m) es) → IsDifference (joined pages) (take (met (drop k (page_at pages m)) es) es) (joined new)
left_difference pages new m k es h l u e =
    let page = page_at pages m in
    let back = joined (drop (m + 1) pages) in
    let before = joined_before pages m k h l in
    let after = ap joined e ∙ joined_after pages m k es h in
    subst (λ r. IsDifference r (take (met (drop k page) es) es) (joined new)) (sym before)
    (subst (λ r. IsDifference (in_front_of pages m k ++ (drop k page ++ back)) (take (met (drop k page) es) es) r) (sym after)
    (difference_of_met (in_front_of pages m k) (drop k page) es back (subst IsAscending before u)))

pub left_count : (pages new : List (List (List ℕ))) (m k : ℕ) (es : List (List ℕ)) → m < length pages → k ≤ length (page_at pages m) → new ≡ with_page pages m (left_from k (page_at pages m) es) → length (joined new) + met (drop k (page_at pages m)) es ≡ length (joined pages)
left_count pages new m k es h l e =
    let page = page_at pages m in
    let back = joined (drop (m + 1) pages) in
    let front = in_front_of pages m k in
    let before = ap length (joined_before pages m k h l) ∙ length-append front (drop k page ++ back) in
    let before2 = length-append (drop k page) back in
    let after = ap length (ap joined e ∙ joined_after pages m k es h) ∙ length-append front (unmet (drop k page) es ++ back) in
    let after2 = length-append (unmet (drop k page) es) back in
    let n = length-unmet (drop k page) es in
    omega arith

-- no page grows
pub length-left : (k : ℕ) (page es : List (List ℕ)) → length (left_from k page es) + met (drop k page) es ≡ length page
length-left k page es =
    let a = length-append (take k page) (unmet (drop k page) es) in
    let n = length-unmet (drop k page) es in
    let w = ap length (sym (take-append-drop k page)) ∙ length-append (take k page) (drop k page) in
    omega arith

pub left_room : (pages : List (List (List ℕ))) (page : List (List ℕ)) (spare m : ℕ) → m < length pages → length page ≤ length (page_at pages m) → room_of pages spare ≤ room_of (with_page pages m page) (with_spare spare page)
left_room pages [] spare m h l =
    let a = over-at pages m h in
    let b = over-append (take m pages) (drop (suc m) pages) in
    let j = ap (λ i. over (drop i pages)) (add-one m) in
    let f = few (remove pages m) in
    let s = first_page_none pages m h in
    omega (arith, l)
  where
    few : (ps : List (List (List ℕ))) → first_page ps ≤ 128
    few [] = omega arith
    few (p ∷ ps) = omega arith
left_room pages (x ∷ page) spare m h l =
    let a = over-set pages m (x ∷ page) h in
    let f = first_page_none (set pages m (x ∷ page)) m (let g = length-set pages m (x ∷ page) in omega arith) in
    let s = first_page_none pages m h in
    omega (arith, l)

pub with_none : (pages : List (List (List ℕ))) (m : ℕ) (page : List (List ℕ)) → page ≡ [] → with_page pages m page ≡ remove pages m
with_none pages m page e = ap (with_page pages m) e

-- how many entries the pages have above their halves, without one of them
pub over_without : (pages : List (List (List ℕ))) (m : ℕ) → m < length pages → over (remove pages m) + (length (page_at pages m) - 128) ≡ over pages
over_without pages m h =
    let a = over-at pages m h in
    let b = over-append (take m pages) (drop (suc m) pages) in
    let j = ap (λ i. over (drop i pages)) (add-one m) in
    omega arith

-- an entry that stands at a place is met there
pub met_at_place : (pages : List (List (List ℕ))) (m k : ℕ) (e : List ℕ) (es : List (List ℕ)) → IsAscending (joined pages) → IsPlaceOf e pages m k → e ≡ get_or es 0 [] → 0 < length es → 0 < met (drop k (page_at pages m)) es
met_at_place pages m k e [] u p s h = absurd (omega (arith, h))
met_at_place pages m k e (x ∷ es) u p s h =
    let first : get_or (page_at pages m) k [] ∷ rest_at pages m (k + 1) ≡ e ∷ drop 1 (skip_before e (joined pages)) = sym (rest_more pages m k p.page_in p.at_in) ∙ p.before ∙ skip_of_member e (joined pages) u p.stands in
    let it : get_or (page_at pages m) k [] ≡ x = ap (λ r. get_or r 0 []) first ∙ s in
    subst (λ r. 0 < met r (x ∷ es)) (sym (drop_first k (page_at pages m) x p.at_in it)) (met_some x (drop (suc k) (page_at pages m)) es)
  where
    drop_first : (k : ℕ) (page : List (List ℕ)) (x : List ℕ) → k < length page → get_or page k [] ≡ x → drop k page ≡ x ∷ drop (suc k) page
    drop_first k [] x h s = absurd (omega (arith, h))
    drop_first zero (p ∷ page) x h s = ap (λ r. r ∷ page) s
    drop_first (suc k) (p ∷ page) x h s = drop_first k page x (omega (arith, h)) s

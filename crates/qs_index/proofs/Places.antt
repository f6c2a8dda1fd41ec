-- Entries by their places in the pages.
use Rattle.std.proofs.Common.{◌≡◌, ℕ, ◌+◌, ◌-◌, ◌*◌, ◌<◌, ◌≤◌, true, false, List, [], ◌∷◌, ◌++◌, length, get_or, take, drop, refl, ap, sym, ◌∙◌, arith, subst, zero, suc, append_assoc, length-append}
use Rattle.std.proofs.lemmas.List.{get_or-drop, drop_more, drop_all, take-append-drop, get_or_append_left, drop-drop, drop_at}
use Rattle.std.proofs.lemmas.List.Elements.{All-tail, All-head}
use Rattle.qs_index.specs.inner.Entry.{is_before, IsAscending, skip_before}
use Rattle.qs_index.specs.inner.Layout.{joined, page_at, rest_at, HasPageSizes, IsPageSize}
use Rattle.qs_index.proofs.Ascending.{skip_past}

pub IsAscending-drop : (k : ℕ) (xs : List (List ℕ)) → IsAscending xs → IsAscending (drop k xs)
IsAscending-drop zero xs u = u
IsAscending-drop (suc k) [] u = u
IsAscending-drop (suc k) (x ∷ xs) u = IsAscending-drop k xs u.1

split_at : (xs : List (List ℕ)) (k : ℕ) → k < length xs → xs ≡ take k xs ++ get_or xs k [] ∷ drop (k + 1) xs
split_at xs k h = sym (take-append-drop k xs) ∙ ap (λ r. take k xs ++ r) (drop_more xs k [] h)

-- where the entry at k is before the prefix, all up to it are
pub skip_to : (p : List ℕ) (xs : List (List ℕ)) (k : ℕ) → IsAscending xs → k < length xs → is_before (get_or xs k []) p ≡ true → skip_before p xs ≡ skip_before p (drop (k + 1) xs)
skip_to p xs k u h b =
    let e = split_at xs k h in
    let v : IsAscending (take k xs ++ get_or xs k [] ∷ drop (k + 1) xs) = subst IsAscending e u in
    ap (skip_before p) e ∙ skip_past p (take k xs) (get_or xs k []) (drop (k + 1) xs) v b

pub skip_none : (p : List ℕ) (xs : List (List ℕ)) (k : ℕ) → k < length xs → is_before (get_or xs k []) p ≡ false → skip_before p (drop k xs) ≡ drop k xs
skip_none p xs k h b = rw (drop_more xs k [] h, b) refl

pub joined-append : (xs ys : List (List (List ℕ))) → joined (xs ++ ys) ≡ joined xs ++ joined ys
joined-append [] ys = refl
joined-append (x ∷ xs) ys = ap (λ r. x ++ r) (joined-append xs ys) ∙ sym (append_assoc x (joined xs) (joined ys))

pub joined-at : (pages : List (List (List ℕ))) (m : ℕ) → m < length pages → joined (drop m pages) ≡ page_at pages m ++ joined (drop (m + 1) pages)
joined-at pages m h = ap joined (drop_more pages m [] h)

pub joined_drop : (pages : List (List (List ℕ))) (m : ℕ) → drop (length (joined (take m pages))) (joined pages) ≡ joined (drop m pages)
joined_drop pages m =
    let e = ap joined (sym (take-append-drop m pages)) ∙ joined-append (take m pages) (drop m pages) in
    ap (drop (length (joined (take m pages)))) e ∙ drop_at (joined (take m pages)) (joined (drop m pages)) _ refl

pub IsAscending-pages : (pages : List (List (List ℕ))) (m : ℕ) → IsAscending (joined pages) → IsAscending (joined (drop m pages))
IsAscending-pages pages m u = subst IsAscending (joined_drop pages m) (IsAscending-drop (length (joined (take m pages))) (joined pages) u)

pub get_joined : (pages : List (List (List ℕ))) (m k : ℕ) → m < length pages → k < length (page_at pages m) → get_or (joined (drop m pages)) k [] ≡ get_or (page_at pages m) k []
get_joined pages m k h l = ap (λ r. get_or r k []) (joined-at pages m h) ∙ get_or_append_left (page_at pages m) (joined (drop (m + 1) pages)) [] k l

pub length_joined_at : (pages : List (List (List ℕ))) (m : ℕ) → m < length pages → length (joined (drop m pages)) ≡ length (page_at pages m) + length (joined (drop (m + 1) pages))
length_joined_at pages m h = ap length (joined-at pages m h) ∙ length-append (page_at pages m) (joined (drop (m + 1) pages))

-- all entries of a page gone, those of the next ones are left
pub drop_page : (pages : List (List (List ℕ))) (m : ℕ) → m < length pages → drop (length (page_at pages m)) (joined (drop m pages)) ≡ joined (drop (m + 1) pages)
drop_page pages m h = ap (drop (length (page_at pages m))) (joined-at pages m h) ∙ drop_at (page_at pages m) (joined (drop (m + 1) pages)) _ refl

-- where the last entry of page m is before the prefix, all up to the end of that page are
pub skip_page : (p : List ℕ) (pages : List (List (List ℕ))) (low m : ℕ) → HasPageSizes pages → IsAscending (joined pages) → m < length pages → is_before (get_or (page_at pages m) (length (page_at pages m) - 1) []) p ≡ true → skip_before p (joined pages) ≡ skip_before p (joined (drop (m + 1) pages))
skip_page p pages low m sizes u h b =
    let some : 0 < length (page_at pages m) = (sizes m [] h).0 in
    let all = ap joined (sym (take-append-drop m pages)) ∙ joined-append (take m pages) (drop m pages) in
    let before = length (joined (take m pages)) in
    let last = length (page_at pages m) - 1 in
    let n = length_joined_at pages m h in
    let whole : length (joined pages) ≡ before + length (joined (drop m pages)) = ap length all ∙ length-append (joined (take m pages)) (joined (drop m pages)) in
    let at : get_or (joined pages) (before + last) [] ≡ get_or (page_at pages m) last [] =
    sym (get_or-drop before (joined pages) last []) ∙ ap (λ r. get_or r last []) (joined_drop pages m) ∙ get_joined pages m last h (omega arith) in
    let e = skip_to p (joined pages) (before + last) u (omega arith) (ap (λ r. is_before r p) at ∙ b) in
    let after : drop (before + last + 1) (joined pages) ≡ joined (drop (m + 1) pages) =
    ap (λ k. drop k (joined pages)) (the_same before last (length (page_at pages m)) (omega arith)) ∙ sym (drop-drop (length (page_at pages m)) before (joined pages)) ∙ ap (drop (length (page_at pages m))) (joined_drop pages m) ∙ drop_page pages m h in
    e ∙ ap (skip_before p) after
  where
    the_same : (a k n : ℕ) → k + 1 ≡ n → a + k + 1 ≡ a + n
    the_same a k n e = omega arith

-- the entries from a place on
pub rest_more : (pages : List (List (List ℕ))) (m k : ℕ) → m < length pages → k < length (page_at pages m) → rest_at pages m k ≡ get_or (page_at pages m) k [] ∷ rest_at pages m (k + 1)
rest_more pages m k h l =
    let n = length_joined_at pages m h in
    drop_more (joined (drop m pages)) k [] (omega arith) ∙ ap (λ x. x ∷ rest_at pages m (k + 1)) (get_joined pages m k h l)

pub rest_next_page : (pages : List (List (List ℕ))) (m k : ℕ) → m < length pages → k ≡ length (page_at pages m) → rest_at pages m k ≡ rest_at pages (m + 1) 0
rest_next_page pages m k h e = ap (λ j. rest_at pages m j) e ∙ drop_page pages m h

pub rest_end : (pages : List (List (List ℕ))) (m k : ℕ) → length pages ≤ m → rest_at pages m k ≡ []
rest_end pages m k h = ap (λ r. drop k (joined r)) (drop_all m pages h) ∙ drop_nil k
  where
    drop_nil : (k : ℕ) → drop {A = List ℕ} k [] ≡ []
    drop_nil zero = refl
    drop_nil (suc k) = refl

-- how many entries and pages there are
pub page_le : (pages : List (List (List ℕ))) (m : ℕ) → m < length pages → length (page_at pages m) ≤ length (joined pages)
page_le pages m h =
    let all = ap joined (sym (take-append-drop m pages)) ∙ joined-append (take m pages) (drop m pages) in
    let whole : length (joined pages) ≡ length (joined (take m pages)) + length (joined (drop m pages)) = ap length all ∙ length-append (joined (take m pages)) (joined (drop m pages)) in
    let n = length_joined_at pages m h in omega arith

pub pages_le : (pages : List (List (List ℕ))) → HasPageSizes pages → length pages ≤ length (joined pages)
pages_le [] u = omega arith
pages_le (x ∷ xs) u =
    let i = pages_le xs (All-tail IsPageSize x xs u) in let s = All-head IsPageSize x xs u in let n = length-append x (joined xs) in
    let some : 0 < length x = s.0 in omega arith

pub joined_le : (pages : List (List (List ℕ))) → HasPageSizes pages → length (joined pages) ≤ 256 * length pages
joined_le [] u = omega arith
joined_le (x ∷ xs) u =
    let i = joined_le xs (All-tail IsPageSize x xs u) in let s = All-head IsPageSize x xs u in let n = length-append x (joined xs) in
    let few : length x ≤ 256 = s.1 in omega arith

-- where the entry at k of page m is before the prefix, all up to it are; where it isn't, none is from there on
pub skip_in_page : (p : List ℕ) (pages : List (List (List ℕ))) (m k : ℕ) → IsAscending (joined pages) → m < length pages → k < length (page_at pages m) → is_before (get_or (page_at pages m) k []) p ≡ true → skip_before p (joined (drop m pages)) ≡ skip_before p (rest_at pages m (k + 1))
skip_in_page p pages m k u h l b =
    let n = length_joined_at pages m h in
    skip_to p (joined (drop m pages)) k (IsAscending-pages pages m u) (omega arith) (ap (λ r. is_before r p) (get_joined pages m k h l) ∙ b)

pub skip_done : (p : List ℕ) (pages : List (List (List ℕ))) (m k : ℕ) → m < length pages → k < length (page_at pages m) → is_before (get_or (page_at pages m) k []) p ≡ false → skip_before p (rest_at pages m k) ≡ rest_at pages m k
skip_done p pages m k h l b =
    let n = length_joined_at pages m h in
    skip_none p (joined (drop m pages)) k (omega arith) (ap (λ r. is_before r p) (get_joined pages m k h l) ∙ b)

-- where the entry at k of page m is before the prefix, all up to it are
pub skip_place : (p : List ℕ) (pages : List (List (List ℕ))) (m k : ℕ) → IsAscending (joined pages) → m < length pages → k < length (page_at pages m) → is_before (get_or (page_at pages m) k []) p ≡ true → skip_before p (joined pages) ≡ skip_before p (rest_at pages m (k + 1))
skip_place p pages m k u h l b =
    let all = ap joined (sym (take-append-drop m pages)) ∙ joined-append (take m pages) (drop m pages) in
    let before = length (joined (take m pages)) in
    let n = length_joined_at pages m h in
    let whole : length (joined pages) ≡ before + length (joined (drop m pages)) = ap length all ∙ length-append (joined (take m pages)) (joined (drop m pages)) in
    let at : get_or (joined pages) (before + k) [] ≡ get_or (page_at pages m) k [] = sym (get_or-drop before (joined pages) k []) ∙ ap (λ r. get_or r k []) (joined_drop pages m) ∙ get_joined pages m k h l in
    let e = skip_to p (joined pages) (before + k) u (omega arith) (ap (λ r. is_before r p) at ∙ b) in
    let after : drop (before + k + 1) (joined pages) ≡ rest_at pages m (k + 1) = ap (λ j. drop j (joined pages)) (the_same before k) ∙ sym (drop-drop (k + 1) before (joined pages)) ∙ ap (drop (k + 1)) (joined_drop pages m) in
    e ∙ ap (skip_before p) after
  where
    the_same : (a k : ℕ) → a + k + 1 ≡ a + (k + 1)
    the_same a k = omega arith

-- so those of its page that aren't are those of all
pub skip_to_page : (p : List ℕ) (pages : List (List (List ℕ))) (m k : ℕ) → IsAscending (joined pages) → m < length pages → k < length (page_at pages m) → is_before (get_or (page_at pages m) k []) p ≡ true → skip_before p (joined pages) ≡ skip_before p (joined (drop m pages))
skip_to_page p pages m k u h l b = skip_place p pages m k u h l b ∙ sym (skip_in_page p pages m k u h l b)

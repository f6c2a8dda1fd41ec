-- What a split and an insert leave, and that the pages set aside suffice.
use Rattle.std.proofs.Common.{◌≡◌, ℕ, ◌+◌, ◌-◌, ◌*◌, ◌<◌, ◌≤◌, List, [], ◌∷◌, ◌++◌, length, get_or, take, drop, set, refl, ap, sym, ◌∙◌, arith, suc, zero, append_assoc, length-append, add-one, length-take, length-drop}
use Rattle.std.specs.List.{insert, remove}
use Rattle.std.proofs.lemmas.List.{length-set, take-append-drop, drop-append-le, drop-drop, drop_at, length-take-le, get_or_at, get_or-drop}
use Rattle.std.proofs.lemmas.List.Edits.{length-insert}
use Rattle.std.proofs.lemmas.List.Elements.{All-head, All-tail}
use Rattle.qs_index.specs.inner.Layout.{joined, page_at, rest_at, split_at, over, first_page, room_of, open_room_of, HasPageSizes, IsPageSize}
use Rattle.qs_index.proofs.Places.{joined-append, joined-at}

abbrev Pages' : Type 0
Pages' = List (List (List ℕ))

pub drop_split : (pages : Pages') (m : ℕ) → m < length pages → drop m (split_at pages m) ≡ take 128 (page_at pages m) ∷ drop 128 (page_at pages m) ∷ drop (m + 1) pages
drop_split pages m h = drop_at (take m pages) (take 128 (page_at pages m) ∷ drop 128 (page_at pages m) ∷ drop (m + 1) pages) m (length-take-le m pages (omega arith))

pub joined_split_at : (pages : Pages') (m : ℕ) → m < length pages → joined (drop m (split_at pages m)) ≡ joined (drop m pages)
joined_split_at pages m h =
    ap joined (drop_split pages m h) ∙ sym (append_assoc (take 128 (page_at pages m)) (drop 128 (page_at pages m)) (joined (drop (m + 1) pages)))
    ∙ ap (λ r. r ++ joined (drop (m + 1) pages)) (take-append-drop 128 (page_at pages m)) ∙ sym (joined-at pages m h)

pub joined-split : (pages : Pages') (m : ℕ) → m < length pages → joined (split_at pages m) ≡ joined pages
joined-split pages m h =
    let halves = take 128 (page_at pages m) ∷ drop 128 (page_at pages m) ∷ drop (m + 1) pages in
    joined-append (take m pages) halves
    ∙ ap (λ r. joined (take m pages) ++ r) (ap joined (sym (drop_split pages m h)) ∙ joined_split_at pages m h)
    ∙ sym (joined-append (take m pages) (drop m pages)) ∙ ap joined (take-append-drop m pages)

pub rest_split_low : (pages : Pages') (m k : ℕ) → m < length pages → rest_at (split_at pages m) m k ≡ rest_at pages m k
rest_split_low pages m k h = ap (drop k) (joined_split_at pages m h)

pub rest_split_high : (pages : Pages') (m k : ℕ) → m < length pages → length (page_at pages m) ≡ 256 → rest_at (split_at pages m) (m + 1) k ≡ rest_at pages m (128 + k)
rest_split_high pages m k h e =
    let page = page_at pages m in
    let rest = joined (drop (m + 1) pages) in
    ap (λ r. drop k (joined r)) (sym (drop-drop 1 m (split_at pages m)) ∙ ap (drop 1) (drop_split pages m h))
    ∙ ap (drop k) (sym (drop-append-le 128 page rest (omega arith)))
    ∙ drop-drop k 128 (page ++ rest)
    ∙ ap (drop (128 + k)) (sym (joined-at pages m h))

pub page_split_low : (pages : Pages') (m : ℕ) → m < length pages → page_at (split_at pages m) m ≡ take 128 (page_at pages m)
page_split_low pages m h = get_or_at (take m pages) _ _ [] m (length-take-le m pages (omega arith))

pub page_split_high : (pages : Pages') (m : ℕ) → m < length pages → page_at (split_at pages m) (m + 1) ≡ drop 128 (page_at pages m)
page_split_high pages m h = sym (get_or-drop m (split_at pages m) 1 []) ∙ ap (λ r. get_or r 1 []) (drop_split pages m h)

pub length-split : (pages : Pages') (m : ℕ) → m < length pages → length (split_at pages m) ≡ length pages + 1
length-split pages m h =
    let a = length-append (take m pages) (take 128 (page_at pages m) ∷ drop 128 (page_at pages m) ∷ drop (m + 1) pages) in
    let b = length-take m pages in
    let d = length-drop (m + 1) pages in
    omega arith

pub over-append : (xs ys : Pages') → over (xs ++ ys) ≡ over xs + over ys
over-append [] ys = omega arith
over-append (x ∷ xs) ys = let i = over-append xs ys in omega arith

pub over-set : (pages : Pages') (m : ℕ) (page : List (List ℕ)) → m < length pages → over (set pages m page) + (length (page_at pages m) - 128) ≡ over pages + (length page - 128)
over-set [] m page h = absurd (omega (arith, h))
over-set (x ∷ xs) zero page h = omega arith
over-set (x ∷ xs) (suc m) page h = let i = over-set xs m page (omega (arith, h)) in omega arith

over-at_next : (pages : Pages') (m : ℕ) → m < length pages → over pages ≡ over (take m pages) + ((length (page_at pages m) - 128) + over (drop (suc m) pages))
over-at_next [] m h = absurd (omega (arith, h))
over-at_next (x ∷ xs) zero h = omega arith
over-at_next (x ∷ xs) (suc m) h = let i = over-at_next xs m (omega (arith, h)) in omega arith

pub over-at : (pages : Pages') (m : ℕ) → m < length pages → over pages ≡ over (take m pages) + ((length (page_at pages m) - 128) + over (drop (m + 1) pages))
over-at pages m h = rw (add-one m) (over-at_next pages m h)

pub first_page_none : (pages : Pages') (m : ℕ) → m < length pages → first_page pages ≡ 0
first_page_none [] m h = absurd (omega (arith, h))
first_page_none (x ∷ xs) m h = refl

pub over-split : (pages : Pages') (m : ℕ) → m < length pages → length (page_at pages m) ≡ 256 → over (split_at pages m) + 128 ≡ over pages
over-split pages m h e =
    let a = over-append (take m pages) (take 128 (page_at pages m) ∷ drop 128 (page_at pages m) ∷ drop (m + 1) pages) in
    let b = over-at pages m h in
    let t = length-take 128 (page_at pages m) in
    let d = length-drop 128 (page_at pages m) in
    omega arith

-- a full page shows that a page is set aside
pub spare_for_split : (pages : Pages') (spare m : ℕ) → m < length pages → length (page_at pages m) ≡ 256 → 0 < room_of pages spare → 0 < spare
spare_for_split pages spare m h e r = let b = over-at pages m h in omega arith

pub room_split : (pages : Pages') (spare less m : ℕ) → m < length pages → length (page_at pages m) ≡ 256 → less + 1 ≡ spare → room_of pages spare ≤ open_room_of (split_at pages m) less
room_split pages spare less m h e s =
    let a = over-split pages m h e in
    let f = first_page_none pages m h in
    let g = first_page_none (split_at pages m) m (let l = length-split pages m h in omega arith) in
    omega arith

pub room_put : (pages : Pages') (spare m k : ℕ) (x : List ℕ) → m < length pages → k ≤ length (page_at pages m) → open_room_of pages spare ≤ room_of (set pages m (insert (page_at pages m) k x)) spare + 1
room_put pages spare m k x h l =
    let a = over-set pages m (insert (page_at pages m) k x) h in
    let n = length-insert (page_at pages m) k x l in
    let f = first_page_none pages m h in
    let g = first_page_none (set pages m (insert (page_at pages m) k x)) m (let s = length-set pages m (insert (page_at pages m) k x) in omega arith) in
    omega arith

pub room_first : (spare less : ℕ) (x : List ℕ) → less + 1 ≡ spare → room_of [] spare ≤ room_of ((x ∷ []) ∷ []) less + 1
room_first spare less x s = omega arith

pub room_kept : (pages : Pages') (spare more : ℕ) → spare ≤ more → room_of pages spare ≤ room_of pages more
room_kept pages spare more h = omega arith

pub room_made : (pages : Pages') (n splits spare : ℕ) → over pages + first_page pages + (n + 127) < (splits + 1) * 128 → splits ≤ spare → n ≤ room_of pages spare
room_made pages n splits spare h l = omega arith

pub over_few : (pages : Pages') → HasPageSizes pages → over pages ≤ 128 * length pages
over_few [] u = omega arith
over_few (x ∷ xs) u = let i = over_few xs (All-tail IsPageSize x xs u) in let s : length x ≤ 256 = (All-head IsPageSize x xs u).1 in omega arith

-- a page of one entry has none above its half
pub over-remove_one : (pages : Pages') (m : ℕ) → m < length pages → length (page_at pages m) ≡ 1 → over (remove pages m) ≡ over pages
over-remove_one pages m h e =
    let a = over-at pages m h in
    let b = over-append (take m pages) (drop (suc m) pages) in
    let j = ap (λ i. over (drop i pages)) (add-one m) in omega arith

-- An entry taken out.
use Rattle.std.proofs.Common.{◌≡◌, ℕ, ◌+◌, ◌<◌, ◌≤◌, Bool, true, false, List, [], ◌∷◌, ◌++◌, length, take, drop, set, refl, ap, sym, ◌∙◌, arith, suc, append_assoc, add-one}
use Rattle.std.specs.Prelude.{if◌then◌else◌, ◌==◌}
use Rattle.std.specs.List.{remove}
use Rattle.std.proofs.lemmas.Bool.{eqb-true}
use Rattle.std.proofs.lemmas.List.{drop-drop, length-set}
use Rattle.std.proofs.lemmas.List.Edits.{length-remove}
use Rattle.qs_index.specs.inner.Entry.{skip_before, without_entry}
use Rattle.qs_index.specs.inner.Layout.{joined, page_at, rest_at, over, first_page, room_of}
use Rattle.qs_index.proofs.Places.{joined-append}
use Rattle.qs_index.proofs.EntryEdits.{front_is, split_front, joined-set, rest_is}
use Rattle.qs_index.proofs.PageEdits.{emptied}
use Rattle.qs_index.proofs.Spares.{over-set, over-at, over-append, first_page_none}

take_in_order : (x : List ℕ) (pages : List (List (List ℕ))) (m k : ℕ) → m < length pages → k < length (page_at pages m) → rest_at pages m k ≡ skip_before x (joined pages) → joined (set pages m (remove (page_at pages m) k)) ≡ without_entry x (joined pages)
take_in_order x pages m k h l b =
    let page = page_at pages m in
    let rest = joined (drop (m + 1) pages) in
    let front = joined (take m pages) ++ take k page in
    let f = front_is x (joined pages) front (rest_at pages m k) (split_front pages m k h (omega arith)) b in
    let next : drop (suc k) page ++ rest ≡ drop 1 (rest_at pages m k) =
    sym (rest_is pages m (suc k) h l) ∙ ap (λ j. drop j (joined (drop m pages))) (sym (add-one k)) ∙ sym (drop-drop 1 k (joined (drop m pages))) in
    joined-set pages m (remove page k) h
    ∙ ap (λ r. joined (take m pages) ++ r) (append_assoc (take k page) (drop (suc k) page) rest)
    ∙ sym (append_assoc (joined (take m pages)) (take k page) (drop (suc k) page ++ rest))
    ∙ ap (λ r. front ++ r) (next ∙ ap (drop 1) b)
    ∙ ap (λ r. r ++ drop 1 (skip_before x (joined pages))) f

take_page : (x : List ℕ) (pages : List (List (List ℕ))) (m k : ℕ) → m < length pages → k < length (page_at pages m) → length (page_at pages m) ≡ 1 → rest_at pages m k ≡ skip_before x (joined pages) → joined (remove pages m) ≡ without_entry x (joined pages)
take_page x pages m k h l e b =
    joined-append (take m pages) (drop (suc m) pages)
    ∙ ap (λ j. joined (take m pages) ++ joined (drop j pages)) (sym (add-one m))
    ∙ sym (joined-set pages m [] h)
    ∙ ap (λ r. joined (set pages m r)) (sym (emptied (page_at pages m) k e l))
    ∙ take_in_order x pages m k h l b

pub taken_entries : (x : List ℕ) (pages new : List (List (List ℕ))) (m k : ℕ) → m < length pages → k < length (page_at pages m) → rest_at pages m k ≡ skip_before x (joined pages) → new ≡ (if length (page_at pages m) == 1 then remove pages m else set pages m (remove (page_at pages m) k)) → joined new ≡ without_entry x (joined pages)
taken_entries x pages new m k h l b e = by_test (length (page_at pages m) == 1) refl e
  where
    by_test : (t : Bool) → (length (page_at pages m) == 1) ≡ t → new ≡ (if t then remove pages m else set pages m (remove (page_at pages m) k)) → joined new ≡ without_entry x (joined pages)
    by_test true s e = ap joined e ∙ take_page x pages m k h l (eqb-true _ _ s) b
    by_test false s e = ap joined e ∙ take_in_order x pages m k h l b

pub taken_room : (pages new : List (List (List ℕ))) (spare now m k : ℕ) → m < length pages → k < length (page_at pages m) → new ≡ (if length (page_at pages m) == 1 then remove pages m else set pages m (remove (page_at pages m) k)) → now ≡ (if length (page_at pages m) == 1 then spare + 1 else spare) → room_of pages spare ≤ room_of new now
taken_room pages new spare now m k h l e s = by_test (length (page_at pages m) == 1) e s
  where
    few : (ps : List (List (List ℕ))) → first_page ps ≤ 128
    few [] = omega arith
    few (p ∷ ps) = omega arith

    by_test : (t : Bool) → new ≡ (if t then remove pages m else set pages m (remove (page_at pages m) k)) → now ≡ (if t then spare + 1 else spare) → room_of pages spare ≤ room_of new now
    by_test true e s =
        let a = over-at pages m h in
        let b = over-append (take m pages) (drop (suc m) pages) in
        let j = ap (λ i. over (drop i pages)) (add-one m) in
        let f = few new in
        let o = ap over e in omega arith
    by_test false e s =
        let a = over-set pages m (remove (page_at pages m) k) h in
        let n = length-remove (page_at pages m) k l in
        let f = first_page_none new m (let g = ap length e ∙ length-set pages m (remove (page_at pages m) k) in omega arith) in
        let o = ap over e in omega arith

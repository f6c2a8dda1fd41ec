-- Entries that a page takes after its last one.
use Rattle.std.proofs.Common.{◌≡◌, ◌⊎◌, ℕ, ◌+◌, ◌<◌, ◌≤◌, Bool, true, false, List, [], ◌∷◌, ◌++◌, length, get_or, drop, refl, ap, sym, ◌∙◌, arith, inl, inr, length-append, Result, Ok, Err}
use Rattle.std.specs.Prelude.{if◌then◌else◌, nat_lt, is_ok, IsOk}
use Rattle.std.specs.Str.{bytes_eq}
use Rattle.std.proofs.lemmas.Bool.{false≢true, lt-ltb, le-ltb, ltb-true, ltb-false}
use Rattle.std.proofs.lemmas.List.{at_drop_more, drop_all}
use Rattle.qs_index.specs.inner.Entry.{is_before}
use Rattle.qs_index.specs.inner.Extending.{extended, taken_in}

abbrev pub after : List ℕ → List (List ℕ) → List (List ℕ) → List ℕ → Bool → Bool → List (List ℕ)
after last page es e before same = if before then extended e (page ++ e ∷ []) es else (if same then extended last page es else page)

abbrev pub read_after : List ℕ → List (List ℕ) → List (List ℕ) → List ℕ → Bool → Bool → ℕ
read_after last page es e before same = if before then taken_in e (page ++ e ∷ []) es + 1 else (if same then taken_in last page es + 1 else 0)

-- one step, where there is room
pub extended_step : (last : List ℕ) (page es : List (List ℕ)) (e : List ℕ) (b s : Bool) → length page < 256 → is_before last e ≡ b → bytes_eq e last ≡ s → extended last page (e ∷ es) ≡ after last page es e b s
extended_step last page es e b s h before same =
    ap (λ r. if r then after last page es e (is_before last e) (bytes_eq e last) else page) (lt-ltb (length page) 256 h) ∙ ap (λ r. after last page es e r (bytes_eq e last)) before ∙ ap (after last page es e b) same

pub taken_step : (last : List ℕ) (page es : List (List ℕ)) (e : List ℕ) (b s : Bool) → length page < 256 → is_before last e ≡ b → bytes_eq e last ≡ s → taken_in last page (e ∷ es) ≡ read_after last page es e b s
taken_step last page es e b s h before same =
    ap (λ r. if r then read_after last page es e (is_before last e) (bytes_eq e last) else 0) (lt-ltb (length page) 256 h) ∙ ap (λ r. read_after last page es e r (bytes_eq e last)) before ∙ ap (read_after last page es e b) same

-- a full page stays
pub extended_full : (last : List ℕ) (page es : List (List ℕ)) → 256 ≤ length page → extended last page es ≡ page
extended_full last page [] h = refl
extended_full last page (e ∷ es) h =
    ap (λ r. if r then after last page es e (is_before last e) (bytes_eq e last) else page) (le-ltb (length page) 256 h)

pub taken_full : (last : List ℕ) (page es : List (List ℕ)) → 256 ≤ length page → taken_in last page es ≡ 0
taken_full last page [] h = refl
taken_full last page (e ∷ es) h =
    ap (λ r. if r then read_after last page es e (is_before last e) (bytes_eq e last) else 0) (le-ltb (length page) 256 h)

-- what holds of a page that was extended by the first of the entries
pub record IsExtending (first : List ℕ) (old entries : List (List ℕ)) (read : ℕ) (last : List ℕ) (now : List (List ℕ)) : Type 0 where
  pub few : read ≤ length entries
  pub goes : extended last now (drop read entries) ≡ extended first old entries
  pub sum : taken_in last now (drop read entries) + read ≡ taken_in first old entries

pub extending_start : (first : List ℕ) (old entries : List (List ℕ)) → IsExtending first old entries 0 first old
extending_start first old entries = record { few = omega arith; goes = refl; sum = omega arith }

drop_here : (k : ℕ) (xs : List (List ℕ)) → k < length xs → drop k xs ≡ get_or xs k [] ∷ drop (k + 1) xs
drop_here k xs h = at_drop_more (λ r. r) xs k [] h

pub extending_put : (first : List ℕ) (old es : List (List ℕ)) (read : ℕ) (last : List ℕ) (now : List (List ℕ)) → IsExtending first old es read last now → read < length es → length now < 256 → is_before last (get_or es read []) ≡ true → IsExtending first old es (read + 1) (get_or es read []) (now ++ get_or es read [] ∷ [])
extending_put first old es read last now u h r b =
    let e = get_or es read [] in
    let rest = drop (read + 1) es in
    let split = drop_here read es h in
    let step = ap (extended last now) split ∙ extended_step last now rest e true (bytes_eq e last) r b refl in
    let count = ap (taken_in last now) split ∙ taken_step last now rest e true (bytes_eq e last) r b refl in
    record { few = omega (arith, h); goes = sym step ∙ u.goes; sum = omega (arith, count, u.sum) }

pub extending_same : (first : List ℕ) (old es : List (List ℕ)) (read : ℕ) (last : List ℕ) (now : List (List ℕ)) → IsExtending first old es read last now → read < length es → length now < 256 → is_before last (get_or es read []) ≡ false → bytes_eq (get_or es read []) last ≡ true → IsExtending first old es (read + 1) last now
extending_same first old es read last now u h r b s =
    let e = get_or es read [] in
    let rest = drop (read + 1) es in
    let split = drop_here read es h in
    let step = ap (extended last now) split ∙ extended_step last now rest e false true r b s in
    let count = ap (taken_in last now) split ∙ taken_step last now rest e false true r b s in
    record { few = omega (arith, h); goes = sym step ∙ u.goes; sum = omega (arith, count, u.sum) }

pub extending_stop : (first : List ℕ) (old es : List (List ℕ)) (read : ℕ) (last : List ℕ) (now : List (List ℕ)) → IsExtending first old es read last now → read < length es → length now < 256 → is_before last (get_or es read []) ≡ false → bytes_eq (get_or es read []) last ≡ false → (now ≡ extended first old es) × (read ≡ taken_in first old es)
extending_stop first old es read last now u h r b s =
    let e = get_or es read [] in
    let rest = drop (read + 1) es in
    let split = drop_here read es h in
    let step = ap (extended last now) split ∙ extended_step last now rest e false false r b s in
    let count = ap (taken_in last now) split ∙ taken_step last now rest e false false r b s in
    (sym step ∙ u.goes, omega (arith, count, u.sum))

pub extending_end : (first : List ℕ) (old es : List (List ℕ)) (read : ℕ) (last : List ℕ) (now : List (List ℕ)) → IsExtending first old es read last now → (length es ≤ read) ⊎ (256 ≤ length now) → (now ≡ extended first old es) × (read ≡ taken_in first old es)
extending_end first old es read last now u (inl h) =
    let none = drop_all read es h in
    let count = ap (taken_in last now) none in
    (sym (ap (extended last now) none) ∙ u.goes, omega (arith, count, u.sum))
extending_end first old es read last now u (inr h) =
    let count = taken_full last now (drop read es) h in
    (sym (extended_full last now (drop read es) h) ∙ u.goes, omega (arith, count, u.sum))

-- how long the page is then
pub length-extended : (last : List ℕ) (page es : List (List ℕ)) → length page ≤ 256 → (length page ≤ length (extended last page es)) × (length (extended last page es) ≤ 256)
length-extended last page [] h = (omega arith, h)
length-extended last page (e ∷ es) h =
    by_room (nat_lt (length page) 256) refl (λ r. length-extended e (page ++ e ∷ []) es (let n = length-append page (e ∷ []) in omega (arith, r))) (length-extended last page es h)
  where
    by_test : (b s : Bool) → is_before last e ≡ b → bytes_eq e last ≡ s → length page < 256 → (length (page ++ e ∷ []) ≤ length (extended e (page ++ e ∷ []) es)) × (length (extended e (page ++ e ∷ []) es) ≤ 256) → (length page ≤ length (extended last page es)) × (length (extended last page es) ≤ 256) → (length page ≤ length (extended last page (e ∷ es))) × (length (extended last page (e ∷ es)) ≤ 256)
    by_test true s b k r i j =
        let n = length-append page (e ∷ []) in
        let step = ap length (extended_step last page es e true s r b k) in
        (omega (arith, i.0, step), omega (arith, i.1, step))
    by_test false true b k r i j =
        let step = ap length (extended_step last page es e false true r b k) in
        (omega (arith, j.0, step), omega (arith, j.1, step))
    by_test false false b k r i j =
        let step = ap length (extended_step last page es e false false r b k) in
        (omega (arith, step), omega (arith, step, h))

    by_room : (b : Bool) → nat_lt (length page) 256 ≡ b → (length page < 256 → (length (page ++ e ∷ []) ≤ length (extended e (page ++ e ∷ []) es)) × (length (extended e (page ++ e ∷ []) es) ≤ 256)) → (length page ≤ length (extended last page es)) × (length (extended last page es) ≤ 256) → (length page ≤ length (extended last page (e ∷ es))) × (length (extended last page (e ∷ es)) ≤ 256)
    by_room true r i j =
        let room = ltb-true (length page) 256 r in
        by_test (is_before last e) (bytes_eq e last) refl refl room (i room) j
    by_room false r i j =
        let step = ap length (extended_full last page (e ∷ es) (ltb-false (length page) 256 r)) in
        (omega (arith, step), omega (arith, step, h))

pub extended_small : (last : List ℕ) (page es : List (List ℕ)) → length page ≤ 256 → length (extended last page es) ≤ 256
extended_small last page es h = (length-extended last page es h).1

-- what a push with room leaves
pub pushed_of_ok : {E : Type 0} (r : Result (Unit {0}) E) (xs ys zs : List (List ℕ)) → IsOk r → zs ≡ (if is_ok r then xs else ys) → zs ≡ xs
pushed_of_ok (Ok u) xs ys zs h e = e
pushed_of_ok (Err u) xs ys zs h e = absurd (false≢true h)

-- Rows that a search collects.
use Rattle.std.proofs.Common.{◌≡◌, ◌⊎◌, ◌+◌, ◌-◌, ℕ, arith, drop, length-append, Bool, true, Option, Some, None, List, [], ◌∷◌, ◌++◌, length, map, refl, sym, ◌∙◌, ap, subst, append-nil, append_assoc, inl, inr}
use Rattle.std.specs.List.{fold}
use Rattle.std.proofs.lemmas.List.Sorted.{IsPermutation-refl, IsPermutation-trans, IsPermutation-append_right, length_permutation}
use Rattle.std.proofs.lemmas.Bool.{le-leb, leb-true}
use Rattle.std.proofs.lemmas.List.{length-map, map-id, nil_from_length, drop_at, drop_all}
use Rattle.qs_terms.specs.Bag.{SameBag}
use Rattle.qs_algebra_solutions.specs.Solution.{Solution, projected}
use Rattle.qs_algebra_solutions.specs.inner.Some.{AreSome, is_enough}
use Rattle.qs_query_solutions.specs.inner.After.{AreSomeAfter, projected_if}
use Rattle.qs_query_solutions.specs.inner.Collected.{Collection, Collects, CollectsAfter, IsPart, most_left, nothing, with_row, with_rows}

-- ---- rows one after another

fold-append : {A B : Type 0} (h : B → A → B) (n : B) (xs ys : List A) → fold h n (xs ++ ys) ≡ fold h (fold h n xs) ys
fold-append h n [] ys = refl
fold-append h n (x ∷ xs) ys = fold-append h (h n x) xs ys

abbrev with_these : Collection → List Solution → Collection
with_these c rows = record { rows = rows; columns = c.columns; most = c.most }

with_rows_more : (c : Collection) (xs ys : List Solution) → with_rows (with_rows c xs) ys ≡ with_rows c (xs ++ ys)
with_rows_more c xs ys = ap (with_these c) (sym (fold-append (with_row c.columns) c.rows xs ys))

one_put : (c mid new : Collection) (xs ys : List Solution) (m : Solution) → mid ≡ with_rows c xs → new ≡ with_rows mid (m ∷ []) → ys ≡ xs ++ m ∷ [] → new ≡ with_rows c ys
one_put c mid new xs ys m e f g = f ∙ (ap (λ (d : Collection). with_rows d (m ∷ [])) e ∙ (with_rows_more c xs (m ∷ []) ∙ ap (with_rows c) (sym g)))

-- ---- without columns, and with some

plain : (rows xs : List Solution) → fold (with_row None) rows xs ≡ rows ++ xs
plain rows [] = sym (append-nil rows)
plain rows (x ∷ xs) = plain (rows ++ x ∷ []) xs ∙ append_assoc rows (x ∷ []) xs

kept : (columns : List ℕ) (rows xs : List Solution) → fold (with_row (Some columns)) rows xs ≡ rows ++ map (projected columns) xs
kept columns rows [] = sym (append-nil rows)
kept columns rows (x ∷ xs) = kept columns (rows ++ projected columns x ∷ []) xs ∙ append_assoc rows (projected columns x ∷ []) (map (projected columns) xs)

module _ (new : Collection) (all : List Solution) where
  pub are_some : (most : Option ℕ) (rows : List Solution) → rows ≡ new.rows → Collects (nothing None most) new all → AreSome most rows all
  are_some most rows e h =
      let some : List Solution = h.0 in
      let is : rows ≡ some = e ∙ (ap (λ (c : Collection). c.rows) h.3 ∙ plain [] some) in
      (h.1, subst (λ (l : List Solution). SameBag all (l ++ h.1)) (sym is) h.2, rest h.4)
    where
      rest : (h.1 ≡ []) ⊎ (is_enough new.most (length new.rows) ≡ true) → (h.1 ≡ []) ⊎ (is_enough most (length rows) ≡ true)
      rest (inl q) = inl q
      rest (inr q) = inr (ap (λ (l : List Solution). is_enough most (length l)) e ∙ (sym (ap (λ (c : Collection). is_enough c.most (length new.rows)) h.3) ∙ q))

-- ---- parts of all solutions

module _ (old : Collection) (all : List Solution) where
  pub begun : IsPart old all old all
  begun = ([], IsPermutation-refl all, refl)

  pub one_came : (mid new : Collection) (left left2 : List Solution) (m : Solution) → IsPart old all mid left → SameBag left (m ∷ left2) → new ≡ with_rows mid (m ∷ []) → IsPart old all new left2
  one_came mid new left left2 m h g e =
      let some : List Solution = h.0 in (
        some ++ m ∷ [],
        subst (SameBag all) (sym (append_assoc some (m ∷ []) left2)) (IsPermutation-trans all (some ++ left) (some ++ m ∷ left2) h.1 (IsPermutation-append_right some left (m ∷ left2) g)),
        one_put old mid new some (some ++ m ∷ []) m h.2 e refl,
      )

  pub nothing_left : (new : Collection) (left : List Solution) → IsPart old all new left → left ≡ [] → Collects old new all
  nothing_left new left h e = (h.0, left, h.1, h.2, inl e)

  pub enough_came : (new : Collection) (left : List Solution) (b : Bool) → IsPart old all new left → b ≡ is_enough new.most (length new.rows) → b ≡ true → Collects old new all
  enough_came new left b h e k = (h.0, left, h.1, h.2, inr (sym e ∙ k))

pub collects_same : (old new : Collection) (a b : List Solution) → SameBag b a → Collects old new a → Collects old new b
collects_same old new a b h k = (k.0, k.1, IsPermutation-trans b a (k.0 ++ k.1) h k.2, k.3, k.4)

-- ---- after those that are passed over

pub after_same : (offset : ℕ) (old new : Collection) (a b : List Solution) → SameBag b a → CollectsAfter offset old new a → CollectsAfter offset old new b
after_same offset old new a b h k = (k.0, k.1, (IsPermutation-trans b a (k.0 ++ k.1) h k.2.0, k.2.1), k.3)

pub after_none : (old new : Collection) (all : List Solution) → CollectsAfter 0 old new all → Collects old new all
after_none old new all k =
    let none : k.0 ≡ [] = elim k.2.1 as (λ _. k.0 ≡ []) [
      | inl e ↦ nil_from_length k.0 e
      | inr e ↦ nil_from_length k.0 (omega (arith, e.1))
    ] in
    collects_same old new k.1 all (subst (λ (l : List Solution). SameBag all (l ++ k.1)) none k.2.0) k.3

more_than_left : (most : Option ℕ) (offset n long : ℕ) → offset + n ≡ long → is_enough (most_left most offset) n ≡ true → is_enough most long ≡ true
more_than_left None offset n long e h = h
more_than_left (Some m) offset n long e h = le-leb m long (let l = leb-true (m - offset) n h in omega (arith, l, e))

kept_if : (columns : Option (List ℕ)) (rows xs : List Solution) → fold (with_row columns) rows xs ≡ rows ++ map (projected_if columns) xs
kept_if None rows xs = plain rows xs ∙ ap (λ l. rows ++ l) (sym (map-id xs))
kept_if (Some columns) rows xs = kept columns rows xs

pub are_after : (columns : Option (List ℕ)) (offset : ℕ) (most : Option ℕ) (new : Collection) (all rows : List Solution) → rows ≡ new.rows → CollectsAfter offset (nothing columns (most_left most offset)) new all → AreSomeAfter columns offset most rows all
are_after columns offset most new all rows e k =
    let passed = k.0 in
    let left = k.1 in
    let found = k.3.0 in
    let rest = k.3.1 in
    let p : Solution → Solution = projected_if columns in
    let is : rows ≡ map p found = e ∙ (ap (λ (c : Collection). c.rows) k.3.3 ∙ kept_if columns [] found) in
    let bag : SameBag all ((passed ++ found) ++ rest) = subst (SameBag all) (sym (append_assoc passed found rest)) (IsPermutation-trans all (passed ++ left) (passed ++ (found ++ rest)) k.2.0 (IsPermutation-append_right passed left (found ++ rest) k.3.2)) in
    let long : length new.rows ≡ length found = ap length (sym e ∙ is) ∙ length-map found p in
    elim k.2.1 as (λ _. AreSomeAfter columns offset most rows all) [
      | inl n ↦ (passed ++ found, (rest, bag, enough passed found rest long (ap (λ (c : Collection). c.most) k.3.3) n k.3.4), is ∙ ap (map p) (sym (drop_at passed found offset n)))
      | inr n ↦
          let empty = end left found rest n.0 k.3.2 in
          (passed ++ found, (rest, bag, inl empty.1), is ∙ ap (map p) (empty.0 ∙ sym (ap (λ (l : List Solution). drop offset (passed ++ l)) empty.0 ∙ ap (drop offset) (append-nil passed) ∙ drop_all offset passed n.1)))
    ]
  where
    enough : (passed found rest : List Solution) → length new.rows ≡ length found → new.most ≡ most_left most offset → length passed ≡ offset → (rest ≡ []) ⊎ (is_enough new.most (length new.rows) ≡ true) → (rest ≡ []) ⊎ (is_enough most (length (passed ++ found)) ≡ true)
    enough passed found rest l m n (inl q) = inl q
    enough passed found rest l m n (inr q) =
        inr (more_than_left most offset (length found) (length (passed ++ found)) (let w = length-append passed found in omega (arith, w, n)) (ap (λ (k : ℕ). is_enough (most_left most offset) k) (sym l) ∙ ap (λ (o : Option ℕ). is_enough o (length new.rows)) (sym m) ∙ q))

    end : (left found rest : List Solution) → left ≡ [] → SameBag left (found ++ rest) → (found ≡ []) × (rest ≡ [])
    end left found rest e g =
        let n = length_permutation left (found ++ rest) g in
        let w = length-append found rest in
        let z = ap length e in
        (nil_from_length found (omega (arith, n, w, z)), nil_from_length rest (omega (arith, n, w, z)))

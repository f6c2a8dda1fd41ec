-- Conditions over the rows of some columns, and rows in their order.
use Rattle.std.proofs.Common.{◌≡◌, ◌<◌, ℕ, zero, suc, get_or, Option, Some, None, List, [], ◌∷◌, ◌++◌, length, refl, sym, ◌∙◌, ap, subst, arith, append-nil, append_assoc}
use Rattle.std.specs.List.Sorted.{IsPermutation}
use Rattle.std.specs.Ordering.{ordering_then}
use Rattle.std.proofs.lemmas.List.Sorted.{IsPermutation-trans, IsPermutation-append_right, IsPermutation-append_comm}
use Rattle.qs_terms.specs.Bag.{SameBag}
use Rattle.qs_algebra_solutions.specs.Solution.{Solution, projected, term_at}
use Rattle.qs_query_order.specs.Order.{compare, directed, key}
use Rattle.qs_query_order.specs.inner.Order.{compare_by}
use Rattle.qs_query_order.specs.declared.condition.OrderCondition.{OrderCondition}
use Rattle.qs_query_order.specs.inner.Keyed.{AreKeptIf}
use Rattle.qs_query_forms.specs.inner.Placed.{ArePlaced, IsPlaced}

pub column_term : (columns : List ℕ) (m : Solution) (i : ℕ) → i < length columns → term_at (projected columns m) i ≡ term_at m (get_or columns i 0)
column_term [] m i h = absurd (omega (arith, h))
column_term (c ∷ columns) m zero h = refl
column_term (c ∷ columns) m (suc i) h = column_term columns m i (omega (arith, h))

pub placed_more : (columns : List ℕ) (cs ds : List OrderCondition) (c d : OrderCondition) → ArePlaced columns cs ds → IsPlaced columns c d → ArePlaced columns (cs ++ c ∷ []) (ds ++ d ∷ [])
placed_more columns [] [] c d h p = (p, tt)
placed_more columns (x ∷ cs) [] c d h p = absurd h
placed_more columns [] (y ∷ ds) c d h p = absurd h
placed_more columns (x ∷ cs) (y ∷ ds) c d h p = (h.0, placed_more columns cs ds c d h.1 p)

pub compared_alike : (columns : List ℕ) (cs ds : List OrderCondition) → ArePlaced columns cs ds → (a b : Solution) → compare ds (projected columns a) (projected columns b) ≡ compare cs a b
compared_alike columns [] [] h a b = refl
compared_alike columns (c ∷ cs) [] h a b = absurd h
compared_alike columns [] (d ∷ ds) h a b = absurd h
compared_alike columns (c ∷ cs) (d ∷ ds) h a b =
    let pa : Solution = projected columns a in
    let pb : Solution = projected columns b in
    let one : compare_by d pa pb ≡ compare_by c a b = ap (λ e. directed e (key d pa) (key d pb)) h.0.direction ∙ (ap (λ k. directed c.direction k (key d pb)) (h.0.key_is a) ∙ ap (directed c.direction (key c a)) (h.0.key_is b)) in
    ap (λ o. ordering_then o (compare ds pa pb)) one ∙ ap (ordering_then (compare_by c a b)) (compared_alike columns cs ds h.1 a b)

-- the rows that were seen are all
pub kept_same : (cs : List OrderCondition) (count : Option ℕ) (seen all kept : List Solution) → SameBag all seen → AreKeptIf cs count seen kept → AreKeptIf cs count all kept
kept_same cs None seen all kept h k = IsPermutation-trans all seen kept h k
kept_same cs (Some n) seen all kept h k = (k.0, IsPermutation-trans all seen (kept ++ k.0) h k.1, k.2)

-- one row more was seen, which was the last of the rest
pub one_seen : (all seen rest left : List Solution) (row : Solution) → rest ≡ left ++ row ∷ [] → SameBag all (seen ++ rest) → SameBag all ((seen ++ row ∷ []) ++ left)
one_seen all seen rest left row e h =
    subst (SameBag all) (sym (append_assoc seen (row ∷ []) left))
    (IsPermutation-trans all (seen ++ rest) (seen ++ (row ∷ [] ++ left)) h (subst (λ l. IsPermutation (seen ++ l) (seen ++ (row ∷ [] ++ left))) (sym e) (IsPermutation-append_right seen (left ++ row ∷ []) (row ∷ [] ++ left) (IsPermutation-append_comm left (row ∷ [])))))

pub all_seen : (cs : List OrderCondition) (count : Option ℕ) (all seen rest kept : List Solution) → rest ≡ [] → SameBag all (seen ++ rest) → AreKeptIf cs count seen kept → AreKeptIf cs count all kept
all_seen cs count all seen rest kept e h k = kept_same cs count seen all kept (subst (SameBag all) (ap (λ l. seen ++ l) e ∙ append-nil seen) h) k

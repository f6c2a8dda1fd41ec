-- What holds of a scan when it begins, and when it goes on after a skip.
use Rattle.std.proofs.Common.{◌≡◌, ℕ, ◌+◌, ◌*◌, ◌<◌, ◌≤◌, Bool, true, false, cond, List, [], ◌∷◌, length, drop, length-drop, Option, Some, None, ap, sym, ◌∙◌, arith}
use Rattle.qs_index.specs.inner.Digits.{digits}
use Rattle.qs_index.specs.inner.Entries.{HaveFour}
use Rattle.qs_index.specs.inner.Entry.{begins, beginning, run_of, skip_before, IsAscending}
use Rattle.qs_index.specs.inner.Layout.{joined, page_at, rest_at, HasPageSizes}
use Rattle.qs_index.specs.inner.OrderScan.{left_from, IsSound, waiting, IsHead}
use Rattle.qs_index.specs.inner.PagePosition.{IsFound}
use Rattle.qs_index.proofs.Ascending.{beginning_is_run}
use Rattle.qs_index.proofs.Places.{joined_drop, rest_end}

pub run_at_end : (p : List ℕ) (pages : List (List (List ℕ))) (m k : ℕ) → length pages ≤ m → run_of p (rest_at pages m k) ≡ []
run_at_end p pages m k h = ap (run_of p) (rest_end pages m k h)

pub begin_at : (p : List ℕ) (pages : List (List (List ℕ))) (m k : ℕ) (entry : List ℕ) → IsAscending (joined pages) → IsFound p pages m k entry → run_of p (rest_at pages m k) ≡ beginning p (joined pages)
begin_at p pages m k entry u f = ap (run_of p) f.before ∙ sym (beginning_is_run p (joined pages) u)

pub begin_none : (p : List ℕ) (pages : List (List (List ℕ))) (end : ℕ) → IsAscending (joined pages) → end ≡ length pages → skip_before p (joined pages) ≡ [] → run_of p (rest_at pages end 0) ≡ beginning p (joined pages)
begin_none p pages end u q n = run_at_end p pages end 0 (omega arith) ∙ sym (beginning_is_run p (joined pages) u ∙ ap (run_of p) n)

run_few : (p : List ℕ) (xs : List (List ℕ)) → length (run_of p xs) ≤ length xs
run_few p [] = omega arith
run_few p (x ∷ xs) = at_test (begins p x) (run_few p xs)
  where
    at_test : (b : Bool) → length (run_of p xs) ≤ length xs → length (cond b (x ∷ run_of p xs) []) ≤ length (x ∷ xs)
    at_test true h = omega arith
    at_test false h = omega arith

-- a scan has no more to hand out than there is
pub left_few : (pages : List (List (List ℕ))) (p : List ℕ) (m k : ℕ) → length (left_from pages p m k) ≤ length (joined pages)
left_few pages p m k =
    let few = run_few p (rest_at pages m k) in
    let some = length-drop k (joined (drop m pages)) in
    let later = ap length (sym (joined_drop pages m)) ∙ length-drop _ (joined pages) in
    omega (arith, few, some, later)

pub waiting_few : (head : Option (List ℕ)) → waiting head ≤ 1
waiting_few None = omega arith
waiting_few (Some entry) = omega arith

pub sound_begin : (pages : List (List (List ℕ))) (p : List ℕ) (m k looked : ℕ) (head : Option (List ℕ)) → HasPageSizes pages → IsAscending (joined pages) → HaveFour (joined pages) → (m < length pages → k < length (page_at pages m)) → IsHead pages m k head → waiting head ≤ looked → looked ≤ 2 * digits (length (joined pages)) + 2 → (m < length pages → waiting head ≡ 1) → IsSound pages p m k head 0 0 looked
sound_begin pages p m k looked head sizes u all w hd some few one =
    let left = left_few pages p m k in
    record {
      sizes = sizes;
      ascending = u;
      entries = all;
      within = w;
      head_is = hd;
      most = omega (arith, left);
      enough = omega arith;
      few = omega arith;
      going = λ l. omega (arith, one l);
    }

-- a search has led to a later place, and has skipped one entry at least
pub sound_skipped : (pages : List (List (List ℕ))) (p : List ℕ) (m k n j handed skips looked more : ℕ) (head next : Option (List ℕ)) → IsSound pages p m k head handed skips looked → (n < length pages → j < length (page_at pages n)) → IsHead pages n j next → length (left_from pages p n j) + 1 ≤ length (left_from pages p m k) → looked + 1 ≤ more → more ≤ looked + 1 + 2 * digits (length (joined pages)) → (n < length pages → waiting next ≡ 1) → IsSound pages p n j next handed (skips + 1) more
sound_skipped pages p m k n j handed skips looked more head next s w hd less some few one = record {
  sizes = s.sizes;
  ascending = s.ascending;
  entries = s.entries;
  within = w;
  head_is = hd;
  most = omega (arith, s.most);
  enough = omega (arith, s.enough, waiting_few next);
  few = omega (arith, s.few);
  going = λ l. omega (arith, s.few, one l);
}

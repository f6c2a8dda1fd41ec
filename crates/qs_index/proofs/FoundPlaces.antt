-- What a found place says of an entry.
use Rattle.std.proofs.Common.{◌≡◌, ◌≢◌, ℕ, ◌+◌, ◌-◌, ◌<◌, ◌≤◌, List, [], length, get_or, refl, sym, ◌∙◌, arith, subst}
use Rattle.qs_index.specs.inner.Layout.{joined, page_at, rest_at}
use Rattle.qs_index.specs.inner.Entry.{IsNotFirst, IsAscending, skip_before}
use Rattle.qs_index.specs.inner.PagePosition.{IsPlaceFor, IsPlaceOf}
use Rattle.qs_index.proofs.Members.{first_if_member, member_if_first}
use Rattle.qs_index.proofs.Places.{rest_more, rest_next_page, rest_end}

pub not_first_at : (x : List ℕ) (pages : List (List (List ℕ))) (m k : ℕ) (rest : List (List ℕ)) → m < length pages → k < length (page_at pages m) → rest_at pages m k ≡ rest → get_or (page_at pages m) k [] ≢ x → IsNotFirst x rest
not_first_at x pages m k rest h l e n = subst (IsNotFirst x) (sym (rest_more pages m k h l) ∙ e) n

pub first_at : (x : List ℕ) (pages : List (List (List ℕ))) (m k : ℕ) (rest : List (List ℕ)) → m < length pages → k < length (page_at pages m) → rest_at pages m k ≡ rest → get_or (page_at pages m) k [] ≡ x → IsNotFirst x rest → ⊥
first_at x pages m k rest h l e same n = let d : get_or (page_at pages m) k [] ≢ x = subst (IsNotFirst x) (sym e ∙ rest_more pages m k h l) n in d same

-- the end of the last page, where no entry stands after x
pub place_at_end : (x : List ℕ) (pages : List (List (List ℕ))) (m at : ℕ) → IsAscending (joined pages) → 0 < length pages → length pages ≤ m → rest_at pages m at ≡ skip_before x (joined pages) → IsPlaceFor x pages (length pages - 1) (length (page_at pages (length pages - 1)))
place_at_end x pages m at u h l e =
    let last = length pages - 1 in
    let none : rest_at pages last (length (page_at pages last)) ≡ [] = rest_next_page pages last (length (page_at pages last)) (omega arith) refl ∙ rest_end pages (last + 1) 0 (omega arith) in
    let all : skip_before x (joined pages) ≡ [] = sym e ∙ rest_end pages m at l in
    record {
      page_in = omega arith;
      at_in = omega arith;
      before = none ∙ sym all;
      missing = λ c. first_if_member x (joined pages) u c (subst (IsNotFirst x) (sym all) tt);
    }

-- a place whose entry isn't x, as all before it are before x
pub place_of_other : (x : List ℕ) (pages : List (List (List ℕ))) (m k : ℕ) → IsAscending (joined pages) → m < length pages → k < length (page_at pages m) → rest_at pages m k ≡ skip_before x (joined pages) → get_or (page_at pages m) k [] ≢ x → IsPlaceFor x pages m k
place_of_other x pages m k u h l e n = record {
  page_in = h;
  at_in = omega arith;
  before = e;
  missing = λ c. first_if_member x (joined pages) u c (not_first_at x pages m k (skip_before x (joined pages)) h l e n);
}

-- a place whose entry is x
pub place_of_it : (x : List ℕ) (pages : List (List (List ℕ))) (m k : ℕ) → m < length pages → k < length (page_at pages m) → rest_at pages m k ≡ skip_before x (joined pages) → get_or (page_at pages m) k [] ≡ x → IsPlaceOf x pages m k
place_of_it x pages m k h l e same = record {
  page_in = h;
  at_in = l;
  before = e;
  stands = member_if_first x (joined pages) (first_at x pages m k (skip_before x (joined pages)) h l e same);
}

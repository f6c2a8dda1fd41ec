-- Columns in the order of their names give the members that the names give.
use Rattle.std.proofs.Common.{◌≡◌, ℕ, Bool, false, true≢false, zero, suc, ◌+◌, ◌<◌, List, [], ◌∷◌, Option, Some, None, length, take, get_or, refl, sym, ◌∙◌, ap, cond, add-one, arith, Ordering, Less, Equal, Greater}
use Rattle.std.specs.Bool.{⊤}
use Rattle.std.specs.Option.{is_some}
use Rattle.std.specs.Cmp.Lexicographic.{slice_cmp}
use Rattle.std.specs.Ordering.{nat_cmp, match_ordering, is_eq, ordering_reverse}
use Rattle.std.specs.BTreeMap.{insert_entry, is_at}
use Rattle.std.specs.Map.{lookup}
use Rattle.std.proofs.lemmas.Option.{none-some}
use Rattle.std.proofs.lemmas.Cmp.{nat_list_cmp_total}
use Rattle.serde_json.specs.Data.{Data, Members, no_members, member, put}
use Rattle.qs_terms.specs.declared.term.Term.{Term}
use Rattle.qs_algebra_solutions.specs.Solution.{Solution, term_at}
use Rattle.qs_results.specs.Json.{term_data, with_bindings}
use Rattle.qs_results.specs.inner.Json.{with_binding}
use Rattle.qs_results.specs.inner.Columns.{with_front, members_of}

abbrev Columns : Type 0
Columns = List (List ℕ × ℕ)

abbrev by_bytes : List ℕ → List ℕ → Ordering
by_bytes = slice_cmp nat_cmp

-- all names of the columns are after the name
abbrev pub Above : List ℕ → Columns → Type 0
Above n [] = ⊤
Above n (c ∷ cs) = (by_bytes n c.0 ≡ Less) × Above n cs

-- each name is before those after it
abbrev pub Ascend : Columns → Type 0
Ascend [] = ⊤
Ascend (c ∷ cs) = Above c.0 cs × Ascend cs

-- no column has the name
abbrev pub Fresh : List ℕ → Columns → Type 0
Fresh n cs = lookup (is_at (by_bytes n)) cs ≡ None

before_all : (n m : List ℕ) (cs : Columns) → by_bytes n m ≡ Less → Above m cs → Above n cs
before_all n m [] l a = tt
before_all n m (c ∷ cs) l a = (nat_list_cmp_total.trans n m c.0 l a.0, before_all n m cs l a.1)

turned : (n m : List ℕ) → by_bytes n m ≡ Greater → by_bytes m n ≡ Less
turned n m e = nat_list_cmp_total.antisymm m n ∙ ap ordering_reverse e

-- ---- one column more

above_at : (o : Ordering) (m n : List ℕ) (i : ℕ) (c : List ℕ × ℕ) (cs : Columns) → by_bytes m n ≡ Less → Above m (c ∷ cs) → Above m (insert_entry by_bytes cs n i)
    → Above m (match_ordering o ((n, i) ∷ c ∷ cs) ((c.0, i) ∷ cs) (c ∷ insert_entry by_bytes cs n i))
above_at Less m n i c cs l a more = (l, a)
above_at Equal m n i c cs l a more = a
above_at Greater m n i c cs l a more = (a.0, more)

above_more : (m n : List ℕ) (i : ℕ) (cs : Columns) → by_bytes m n ≡ Less → Above m cs → Above m (insert_entry by_bytes cs n i)
above_more m n i [] l a = (l, tt)
above_more m n i (c ∷ cs) l a = above_at (by_bytes n c.0) m n i c cs l a (above_more m n i cs l a.1)

ascend_at : (o : Ordering) (n : List ℕ) (i : ℕ) (c : List ℕ × ℕ) (cs : Columns) → by_bytes n c.0 ≡ o → Ascend (c ∷ cs) → Ascend (insert_entry by_bytes cs n i)
    → Ascend (match_ordering o ((n, i) ∷ c ∷ cs) ((c.0, i) ∷ cs) (c ∷ insert_entry by_bytes cs n i))
ascend_at Less n i c cs e a more = ((e, before_all n c.0 cs e a.0), a)
ascend_at Equal n i c cs e a more = a
ascend_at Greater n i c cs e a more = (above_more c.0 n i cs (turned n c.0 e) a.0, more)

pub ascend_more : (n : List ℕ) (i : ℕ) (cs : Columns) → Ascend cs → Ascend (insert_entry by_bytes cs n i)
ascend_more n i [] a = (tt, tt)
ascend_more n i (c ∷ cs) a = ascend_at (by_bytes n c.0) n i c cs refl a (ascend_more n i cs a.1)

-- a name before all others comes first
first_at : (cell : Option Term) (n : List ℕ) (d : Data) (c : List ℕ) (ms : Members) → by_bytes n c ≡ Less → put n d ms ≡ member n d ms → put n d (with_front c cell ms) ≡ member n d (with_front c cell ms)
first_at None n d c ms e more = more
first_at (Some t) n d c ms e more = rw e refl

first : (n : List ℕ) (d : Data) (cs : Columns) (row : Solution) → Above n cs → put n d (members_of cs row) ≡ member n d (members_of cs row)
first n d [] row above = refl
first n d (c ∷ cs) row above = first_at (term_at row c.1) n d c.0 (members_of cs row) above.0 (first n d cs row above.1)

in_front : (cell : Option Term) (n : List ℕ) (cs : Columns) (row : Solution) → Above n cs → with_front n cell (members_of cs row) ≡ with_binding n cell (members_of cs row)
in_front None n cs row above = refl
in_front (Some t) n cs row above = sym (first n (term_data t) cs row above)

behind : (cell other : Option Term) (n c : List ℕ) (ms : Members) → by_bytes n c ≡ Greater → with_front c other (with_binding n cell ms) ≡ with_binding n cell (with_front c other ms)
behind None other n c ms e = refl
behind (Some t) None n c ms e = refl
behind (Some t) (Some x) n c ms e = rw e refl

member_at : (o : Ordering) (n : List ℕ) (i : ℕ) (c : List ℕ × ℕ) (cs : Columns) (row : Solution) → by_bytes n c.0 ≡ o → Ascend (c ∷ cs) → cond (is_eq o) (Some c.1) (lookup (is_at (by_bytes n)) cs) ≡ None
    → (Fresh n cs → members_of (insert_entry by_bytes cs n i) row ≡ with_binding n (term_at row i) (members_of cs row))
    → members_of (match_ordering o ((n, i) ∷ c ∷ cs) ((c.0, i) ∷ cs) (c ∷ insert_entry by_bytes cs n i)) row ≡ with_binding n (term_at row i) (members_of (c ∷ cs) row)
member_at Less n i c cs row e a fresh more = in_front (term_at row i) n (c ∷ cs) row (e, before_all n c.0 cs e a.0)
member_at Equal n i c cs row e a fresh more = absurd (none-some c.1 (sym fresh))
member_at Greater n i c cs row e a fresh more =
    ap (λ ms. with_front c.0 (term_at row c.1) ms) (more fresh) ∙ behind (term_at row i) (term_at row c.1) n c.0 (members_of cs row) e

pub member_more : (n : List ℕ) (i : ℕ) (cs : Columns) (row : Solution) → Ascend cs → Fresh n cs → members_of (insert_entry by_bytes cs n i) row ≡ with_binding n (term_at row i) (members_of cs row)
member_more n i [] row a fresh = in_front (term_at row i) n [] row tt
member_more n i (c ∷ cs) row a fresh = member_at (by_bytes n c.0) n i c cs row refl a fresh (member_more n i cs row a.1)

-- ---- one column more of those that are bound

abbrev pub AreBound : Solution → Columns → Type 0
AreBound row [] = ⊤
AreBound row (c ∷ cs) = ((t : Term) × (term_at row c.1 ≡ Some t)) × AreBound row cs

bound_at : (o : Ordering) (row : Solution) (n : List ℕ) (i : ℕ) (t : Term) (c : List ℕ × ℕ) (cs : Columns) → term_at row i ≡ Some t → AreBound row (c ∷ cs) → AreBound row (insert_entry by_bytes cs n i)
    → AreBound row (match_ordering o ((n, i) ∷ c ∷ cs) ((c.0, i) ∷ cs) (c ∷ insert_entry by_bytes cs n i))
bound_at Less row n i t c cs b a more = ((t, b), a)
bound_at Equal row n i t c cs b a more = ((t, b), a.1)
bound_at Greater row n i t c cs b a more = (a.0, more)

pub bound_more : (row : Solution) (n : List ℕ) (i : ℕ) (t : Term) (cs : Columns) → term_at row i ≡ Some t → AreBound row cs → AreBound row (insert_entry by_bytes cs n i)
bound_more row n i t [] b a = ((t, b), tt)
bound_more row n i t (c ∷ cs) b a = bound_at (by_bytes n c.0) row n i t c cs b a (bound_more row n i t cs b a.1)

put_at : (o : Ordering) (row : Solution) (n : List ℕ) (i : ℕ) (t x : Term) (c : List ℕ × ℕ) (cs : Columns) → by_bytes n c.0 ≡ o → term_at row i ≡ Some t → term_at row c.1 ≡ Some x
    → members_of (insert_entry by_bytes cs n i) row ≡ put n (term_data t) (members_of cs row)
    → members_of (match_ordering o ((n, i) ∷ c ∷ cs) ((c.0, i) ∷ cs) (c ∷ insert_entry by_bytes cs n i)) row ≡ put n (term_data t) (members_of (c ∷ cs) row)
put_at Less row n i t x c cs e b d more = rw (b, d, e) refl
put_at Equal row n i t x c cs e b d more = rw (b, d, e) refl
put_at Greater row n i t x c cs e b d more = rw (d, e, more) refl

pub put_more : (row : Solution) (n : List ℕ) (i : ℕ) (t : Term) (cs : Columns) → term_at row i ≡ Some t → AreBound row cs → members_of (insert_entry by_bytes cs n i) row ≡ put n (term_data t) (members_of cs row)
put_more row n i t [] b a = rw b refl
put_more row n i t (c ∷ cs) b a = put_at (by_bytes n c.0) row n i t a.0.0 c cs refl b a.0.1 (put_more row n i t cs b a.1)

-- ---- the next variable

next_one : (at : ℕ) (names : List (List ℕ)) (row : Solution) (ms : Members) (other : List ℕ) → at < length names
    → with_bindings (take (suc at) names) row ms ≡ with_binding (get_or names at other) (term_at row at) (with_bindings (take at names) row ms)
next_one at [] row ms other l = absurd (omega arith)
next_one zero (name ∷ names) [] ms other l = refl
next_one zero (name ∷ names) (cell ∷ row) ms other l = refl
next_one (suc at) (name ∷ names) [] ms other l = refl
next_one (suc at) (name ∷ names) (cell ∷ row) ms other l = next_one at names row (with_binding name cell ms) other (omega arith)

pub next : (at : ℕ) (names : List (List ℕ)) (row : Solution) (ms : Members) (name : List ℕ) → at < length names → name ≡ get_or names at name
    → with_bindings (take (at + 1) names) row ms ≡ with_binding name (term_at row at) (with_bindings (take at names) row ms)
next at names row ms name l e = rw (add-one) (next_one at names row ms name l ∙ ap (λ z. with_binding z (term_at row at) (with_bindings (take at names) row ms)) (sym e))

-- ---- the columns of one variable more

unbound_before : (old : Option ℕ) → is_some old ≡ false → old ≡ None
unbound_before None e = refl
unbound_before (Some n) e = absurd (true≢false e)

pub column_more : (names : List (List ℕ)) (at : ℕ) (name text : List ℕ) (cs new : Columns) (old : Option ℕ) → at < length names → name ≡ get_or names at name → text ≡ name
    → Ascend cs × ((row : Solution) → members_of cs row ≡ with_bindings (take at names) row no_members)
    → new ≡ insert_entry by_bytes cs text at → old ≡ lookup (is_at (by_bytes text)) cs → is_some old ≡ false
    → Ascend new × ((row : Solution) → members_of new row ≡ with_bindings (take (at + 1) names) row no_members)
column_more names at name text cs new old l named same inv put there is_new =
    let fresh : lookup (is_at (by_bytes name)) cs ≡ None = ap (λ z. lookup (is_at (by_bytes z)) cs) (sym same) ∙ (sym there ∙ unbound_before old is_new) in
    let whole : new ≡ insert_entry by_bytes cs name at = put ∙ ap (λ z. insert_entry by_bytes cs z at) same in (
      rw whole (ascend_more name at cs inv.0),
      λ row. rw whole (member_more name at cs row inv.0 fresh ∙ (ap (λ ms. with_binding name (term_at row at) ms) (inv.1 row) ∙ sym (next at names row no_members name l named))),
    )

bound_by : (cell : Option Term) (row : Solution) (name : List ℕ) (at : ℕ) (cs : Columns) → term_at row at ≡ cell → AreBound row cs
    → AreBound row (cond (is_some cell) (insert_entry by_bytes cs name at) cs) × (members_of (cond (is_some cell) (insert_entry by_bytes cs name at) cs) row ≡ with_binding name cell (members_of cs row))
bound_by None row name at cs e a = (a, refl)
bound_by (Some t) row name at cs e a = (bound_more row name at t cs e a, put_more row name at t cs e a)

pub bound_next : (names : List (List ℕ)) (row : Solution) (at : ℕ) (name : List ℕ) (cs new : Columns) (b : Bool) → at < length names → name ≡ get_or names at name
    → AreBound row cs × (members_of cs row ≡ with_bindings (take at names) row no_members)
    → new ≡ cond b (insert_entry by_bytes cs name at) cs → b ≡ is_some (term_at row at)
    → AreBound row new × (members_of new row ≡ with_bindings (take (at + 1) names) row no_members)
bound_next names row at name cs new b l named inv put is =
    let whole : new ≡ cond (is_some (term_at row at)) (insert_entry by_bytes cs name at) cs = put ∙ ap (λ z. cond z (insert_entry by_bytes cs name at) cs) is in
    let more = bound_by (term_at row at) row name at cs refl inv.0 in
    (rw whole more.0, rw whole (more.1 ∙ (ap (λ ms. with_binding name (term_at row at) ms) inv.1 ∙ sym (next at names row no_members name l named))))

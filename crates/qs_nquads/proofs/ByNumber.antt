-- A new key with a number above all others comes last by number, wherever an ordered map has it.
use Rattle.std.proofs.Common.{◌≡◌, ℕ, ◌<◌, nat_lt, Bool, true, false, cond, List, [], ◌∷◌, ◌++◌, Option, Some, None, String, BTreeMap, refl, sym, ap, ◌∙◌, subst, arith}
use Rattle.std.specs.Prelude.{if◌then◌else◌, string_bytes}
use Rattle.std.specs.BTreeMap.{Updates, get_by_text, insert_entry, is_at}
use Rattle.std.specs.List.{AllByRecursion}
use Rattle.std.specs.Map.{lookup, values_of}
use Rattle.std.specs.Ordering.{is_eq, match_ordering}
use Rattle.std.specs.Str.{bytes_eq}
use Rattle.std.specs.String.{string_cmp}
use Rattle.std.specs.declared.cmp.Ordering.{Ordering}
use Rattle.std.specs.declared.cmp.Ordering.TheVariants.{Less, Equal, Greater}
use Rattle.std.proofs.lemmas.Bool.Decides.{nat_tests}
use Rattle.std.proofs.lemmas.Cmp.{nat_list_eq_equiv}
use Rattle.std.proofs.lemmas.List.Elements.{recursion_from_All}
use Rattle.std.proofs.lemmas.Map.Text.{btree_map_updates_text}
use Rattle.qs_nquads.specs.inner.Entries.{seen, put_by_number, by_number, FindsAmong, AreBelow}
use Rattle.qs_nquads.proofs.Numbers.{put_last}

-- the numbers are below v, by recursion
abbrev pub Below : ℕ → List (List ℕ × ℕ) → Type 0
Below v es = AllByRecursion (λ k. k < v) (values_of es)

-- ---- one entry among others

less : (m n : ℕ) → m < n → nat_lt m n ≡ true
less m n h = grind (arith, nat_tests)

not_less : (m n : ℕ) → n < m → nat_lt m n ≡ false
not_less m n h = grind (arith, nat_tests)

largest : (e : List ℕ × ℕ) (xs : List (List ℕ × ℕ)) → Below e.1 xs → put_by_number e xs ≡ xs ++ e ∷ []
largest e [] h = refl
largest e (x ∷ xs) h =
    ap (λ (b : Bool). if b then (e ∷ x ∷ xs) else (x ∷ put_by_number e xs)) (not_less e.1 x.1 h.0)
    ∙ ap (λ ys. x ∷ ys) (largest e xs h.1)

before_last : (e l : List ℕ × ℕ) (xs : List (List ℕ × ℕ)) → e.1 < l.1 → put_by_number e (xs ++ l ∷ []) ≡ put_by_number e xs ++ l ∷ []
before_last e l [] h = ap (λ (b : Bool). if b then (e ∷ l ∷ []) else (l ∷ e ∷ [])) (less e.1 l.1 h)
before_last e l (x ∷ xs) h = by (before_last e l xs h) (nat_lt e.1 x.1)
  where
    by : put_by_number e (xs ++ l ∷ []) ≡ put_by_number e xs ++ l ∷ [] → (b : Bool)
        → (if b then (e ∷ x ∷ (xs ++ l ∷ [])) else (x ∷ put_by_number e (xs ++ l ∷ []))) ≡ (if b then (e ∷ x ∷ xs) else (x ∷ put_by_number e xs)) ++ l ∷ []
    by rest true = refl
    by rest false = ap (λ ys. x ∷ ys) rest

-- what is below v with an entry is so without it, and so is the entry
below_parts : (v : ℕ) (e : List ℕ × ℕ) (xs : List (List ℕ × ℕ)) → Below v (put_by_number e xs) → (e.1 < v) × Below v xs
below_parts v e [] h = h
below_parts v e (x ∷ xs) h = by (below_parts v e xs) (nat_lt e.1 x.1) h
  where
    by : (Below v (put_by_number e xs) → (e.1 < v) × Below v xs) → (b : Bool) → Below v (if b then (e ∷ x ∷ xs) else (x ∷ put_by_number e xs)) → (e.1 < v) × Below v (x ∷ xs)
    by rest true k = k
    by rest false k = let r = rest k.1 in (r.0, (k.0, r.1))

-- ---- the map

module _ {K : Type 0} (cmp : K → K → Ordering) (bytes : K → List ℕ) (k : K) (v : ℕ) where
  abbrev IsLast : List (K × ℕ) → Type 0
  IsLast es = by_number (seen bytes (insert_entry cmp es k v)) ≡ by_number (seen bytes es) ++ (bytes k, v) ∷ []

  -- after the first entry, by how the key compares to it
  later : (e : K × ℕ) (es : List (K × ℕ)) (o : Ordering) → cond (is_eq o) (Some e.1) (lookup (is_at (cmp k)) es) ≡ None → Below v (by_number (seen bytes (e ∷ es)))
      → (lookup (is_at (cmp k)) es ≡ None → IsLast es)
      → by_number (seen bytes (match_ordering o ((k, v) ∷ e ∷ es) ((e.0, v) ∷ es) (e ∷ insert_entry cmp es k v))) ≡ by_number (seen bytes (e ∷ es)) ++ (bytes k, v) ∷ []
  later e es Less none below rest = largest (bytes k, v) (by_number (seen bytes (e ∷ es))) below
  later e es Equal none below rest = cc
  later e es Greater none below rest =
      ap (put_by_number (bytes e.0, e.1)) (rest none)
      ∙ before_last (bytes e.0, e.1) (bytes k, v) (by_number (seen bytes es)) (below_parts v (bytes e.0, e.1) (by_number (seen bytes es)) below).0

  pub inserted_last : (es : List (K × ℕ)) → lookup (is_at (cmp k)) es ≡ None → Below v (by_number (seen bytes es)) → IsLast es
  inserted_last [] none below = refl
  inserted_last (e ∷ es) none below =
      later e es (cmp k e.0) none below (λ n. inserted_last es n (below_parts v (bytes e.0, e.1) (by_number (seen bytes es)) below).1)

-- after a new label was put: what is seen, and that it is found, and all others as before
pub record PutsLast {Y : Type 0} (n : BTreeMap (String Y) ℕ) (numbers : List (List ℕ × ℕ)) : Type 0 where
  pub is : by_number (seen string_bytes n.entries) ≡ numbers
  pub finds : FindsAmong (get_by_text n) (by_number (seen string_bytes n.entries))

module _ {Y : Type 0} (m n : BTreeMap (String Y) ℕ) (numbers : List (List ℕ × ℕ)) (label : String Y) (v : ℕ) where
  abbrev after : List (List ℕ × ℕ)
  after = numbers ++ (string_bytes label, v) ∷ []

  found : lookup (bytes_eq (string_bytes label)) numbers ≡ None → FindsAmong (get_by_text m) numbers → Updates string_cmp m n label (Some v) → FindsAmong (get_by_text n) after
  found new finds updated q =
      btree_map_updates_text (string_bytes label) m n (Some v) updated q
      ∙ (ap (λ (b : Bool). cond b (Some v) (get_by_text m q)) (nat_list_eq_equiv.symm (string_bytes label) q)
      ∙ (ap (λ (o : Option ℕ). cond (bytes_eq q (string_bytes label)) (Some v) o) (finds q) ∙ sym (put_last numbers (string_bytes label) v q new)))

  pub puts_last : by_number (seen string_bytes m.entries) ≡ numbers → FindsAmong (get_by_text m) (by_number (seen string_bytes m.entries))
      → lookup (bytes_eq (string_bytes label)) numbers ≡ None → AreBelow v numbers → n.entries ≡ insert_entry string_cmp m.entries label v → Updates string_cmp m n label (Some v)
      → PutsLast n after
  puts_last is finds new below entries updated =
      let among : FindsAmong (get_by_text m) numbers = subst (FindsAmong (get_by_text m)) is finds in
      let none : lookup (is_at (string_cmp label)) m.entries ≡ None = among (string_bytes label) ∙ new in
      let small : Below v (by_number (seen string_bytes m.entries)) = subst (Below v) (sym is) (recursion_from_All (λ k. k < v) (values_of numbers) below) in
      let whole : by_number (seen string_bytes n.entries) ≡ after =
      ap (λ es. by_number (seen string_bytes es)) entries
      ∙ (inserted_last string_cmp string_bytes label v m.entries none small ∙ ap (λ es. es ++ (string_bytes label, v) ∷ []) is) in
      record { is = whole; finds = subst (FindsAmong (get_by_text n)) (sym whole) (found new among updated) }

-- The entries that a scan skips.
use Rattle.std.proofs.Common.{◌≡◌, ℕ, ◌+◌, ◌<◌, ◌≤◌, zero, suc, Bool, true, false, cond, eqb, ◌&&◌, ◌||◌, List, [], ◌∷◌, ◌++◌, map, length, get_or, take, Option, Some, None, refl, ap, sym, ◌∙◌, subst, arith}
use Rattle.std.specs.List.{AllByRecursion, Contains}
use Rattle.std.proofs.lemmas.Bool.{false≢true, eqb-true}
use Rattle.std.proofs.lemmas.Bool.Decides.{nat_tests}
use Rattle.std.proofs.lemmas.List.{map-append}
use Rattle.std.proofs.lemmas.List.Elements.{Contains-append_left}
use Rattle.qs_index.specs.inner.Agreeing.{fits, agrees_anywhere}
use Rattle.qs_index.specs.inner.Entries.{HaveFour}
use Rattle.qs_index.specs.inner.Entry.{is_before, begins, keep_before, skip_before, IsAscending}
use Rattle.qs_index.specs.inner.Permutation.{restored}
use Rattle.qs_index.specs.inner.Skipped.{IsSkipped}
use Rattle.qs_index.specs.inner.Depth.{depth, depth_of}
use Rattle.qs_index.specs.inner.OrderScan.{StartsBefore}
use Rattle.qs_index.specs.inner.Prefix.{IsAfter}
use Rattle.qs_index.specs.declared.permutation.Permutation.{Permutation}
use Rattle.qs_index.specs.declared.permutation.Permutation.TheVariants.{Gspo, Gpos, Gosp, Spog, Posg, Ospg}
use Rattle.qs_index.proofs.Ascending.{not_before_later}
use Rattle.qs_index.proofs.EntryEdits.{keep-skip}
use Rattle.qs_index.proofs.Members.{here, there}

-- ---- what is skipped

-- an entry isn't before its own front, and begins with it
not_before_front : (k : ℕ) (x : List ℕ) → is_before x (take k x) ≡ false
not_before_front zero x = refl
not_before_front (suc k) [] = refl
not_before_front (suc k) (a ∷ x) = let i = not_before_front k x in grind (arith, nat_tests)

begins_front : (k : ℕ) (x : List ℕ) → begins (take k x) x ≡ true
begins_front zero x = refl
begins_front (suc k) [] = refl
begins_front (suc k) (a ∷ x) = let i = begins_front k x in grind (arith, nat_tests)

-- so it is before what is after its front
front_before : (k : ℕ) (x to : List ℕ) → IsAfter (take k x) to → is_before x to ≡ true
front_before k x to f = f x ∙ (ap (λ b. b || begins (take k x) x) (not_before_front k x) ∙ begins_front k x)

pub starts_before : (k : ℕ) (next to : List ℕ) (rest all : List (List ℕ)) → all ≡ next ∷ rest → IsAfter (take k next) to → StartsBefore to all
starts_before k next to rest all e f = subst (StartsBefore to) (sym e) (front_before k next to f)

-- what is before `to` and not before `front` begins with `front`, where `to` is after it
begins_between : (front to x : List ℕ) → IsAfter front to → is_before x front ≡ false → is_before x to ≡ true → begins front x ≡ true
begins_between front to x f n e =
    let same : (is_before x front || begins front x) ≡ begins front x = ap (λ b. b || begins front x) n in sym same ∙ (sym (f x) ∙ e)

-- what comes from an entry on and is before what is after a prefix begins with it
kept_begin : (front to x : List ℕ) (xs : List (List ℕ)) → IsAfter front to → is_before x front ≡ false → IsAscending (x ∷ xs) → AllByRecursion (λ y. begins front y ≡ true) (keep_before to (x ∷ xs))
kept_begin front to x [] f n u = by_test (is_before x to) refl
  where
    by_test : (b : Bool) → is_before x to ≡ b → AllByRecursion (λ y. begins front y ≡ true) (cond b (x ∷ []) [])
    by_test true e = (begins_between front to x f n e, tt)
    by_test false e = tt
kept_begin front to x (y ∷ ys) f n u = by_test (is_before x to) refl (kept_begin front to y ys f (not_before_later x y front u.0.0 n) u.1)
  where
    by_test : (b : Bool) → is_before x to ≡ b → AllByRecursion (λ z. begins front z ≡ true) (keep_before to (y ∷ ys)) → AllByRecursion (λ z. begins front z ≡ true) (cond b (x ∷ keep_before to (y ∷ ys)) [])
    by_test true e i = (begins_between front to x f n e, i)
    by_test false e i = tt

-- ---- entries that begin alike

begins_parts : (a b : ℕ) (p x : List ℕ) → begins (a ∷ p) (b ∷ x) ≡ true → (b ≡ a) × (begins p x ≡ true)
begins_parts a b p x h = at_test (eqb b a) refl h
  where
    at_test : (t : Bool) → eqb b a ≡ t → cond t (begins p x) false ≡ true → (b ≡ a) × (begins p x ≡ true)
    at_test true e h = (eqb-true b a e, h)
    at_test false e h = absurd (false≢true h)

begins_at : (k i : ℕ) (e x : List ℕ) → i < k → i < length e → begins (take k e) x ≡ true → get_or x i 0 ≡ get_or e i 0
begins_at zero i e x l h b = absurd (omega (arith, l))
begins_at (suc k) i [] x l h b = absurd (omega (arith, h))
begins_at (suc k) i (a ∷ e) [] l h b = absurd (false≢true b)
begins_at (suc k) zero (a ∷ e) (c ∷ x) l h b = (begins_parts a c (take k e) x b).0
begins_at (suc k) (suc i) (a ∷ e) (c ∷ x) l h b = begins_at k i e x (omega (arith, l)) (omega (arith, h)) (begins_parts a c (take k e) x b).1

given : Option ℕ → Bool
given None = false
given (Some n) = true

first_within : (a b c : Option ℕ) → given a ≡ true → 1 ≤ depth_of a b c
unfolding given
first_within a b (Some n) h = omega arith
first_within a (Some n) None h = omega arith
first_within (Some n) None None h = omega arith
first_within None None None h = absurd (false≢true h)

second_within : (a b c : Option ℕ) → given b ≡ true → 2 ≤ depth_of a b c
unfolding given
second_within a b (Some n) h = omega arith
second_within a (Some n) None h = omega arith
second_within a None None h = absurd (false≢true h)

third_within : (a b c : Option ℕ) → given c ≡ true → 3 ≤ depth_of a b c
unfolding given
third_within a b (Some n) h = omega arith
third_within a b None h = absurd (false≢true h)

same_fit : (o : Option ℕ) (x y : ℕ) → (given o ≡ true → x ≡ y) → fits o x ≡ fits o y
unfolding given
same_fit None x y h = refl
same_fit (Some n) x y h = ap (fits (Some n)) (h refl)

record SameFits (a b c : Option ℕ) (x1 x2 x3 y1 y2 y3 : ℕ) : Type 0 where
  first : fits a x1 ≡ fits a y1
  second : fits b x2 ≡ fits b y2
  third : fits c x3 ≡ fits c y3

same_fits : (a b c : Option ℕ) (x1 x2 x3 y1 y2 y3 : ℕ) → (1 ≤ depth_of a b c → x1 ≡ y1) → (2 ≤ depth_of a b c → x2 ≡ y2) → (3 ≤ depth_of a b c → x3 ≡ y3) → SameFits a b c x1 x2 x3 y1 y2 y3
same_fits a b c x1 x2 x3 y1 y2 y3 f s t = record {
  first = same_fit a x1 y1 (λ h. f (first_within a b c h));
  second = same_fit b x2 y2 (λ h. s (second_within a b c h));
  third = same_fit c x3 y3 (λ h. t (third_within a b c h));
}

-- the numbers after the first, and the first three, where entries begin alike
after_first : (a b c : Option ℕ) (x0 x1 x2 x3 y0 y1 y2 y3 : ℕ) → begins (take (1 + depth_of a b c) (y0 ∷ y1 ∷ y2 ∷ y3 ∷ [])) (x0 ∷ x1 ∷ x2 ∷ x3 ∷ []) ≡ true → SameFits a b c x1 x2 x3 y1 y2 y3
after_first a b c x0 x1 x2 x3 y0 y1 y2 y3 h =
    let k = 1 + depth_of a b c in
    let y : List ℕ = y0 ∷ y1 ∷ y2 ∷ y3 ∷ [] in
    let x : List ℕ = x0 ∷ x1 ∷ x2 ∷ x3 ∷ [] in
    same_fits a b c x1 x2 x3 y1 y2 y3 (λ l. begins_at k 1 y x (omega (arith, l)) (omega arith) h) (λ l. begins_at k 2 y x (omega (arith, l)) (omega arith) h) (λ l. begins_at k 3 y x (omega (arith, l)) (omega arith) h)

first_three : (a b c : Option ℕ) (x0 x1 x2 x3 y0 y1 y2 y3 : ℕ) → begins (take (depth_of a b c) (y0 ∷ y1 ∷ y2 ∷ y3 ∷ [])) (x0 ∷ x1 ∷ x2 ∷ x3 ∷ []) ≡ true → SameFits a b c x0 x1 x2 y0 y1 y2
first_three a b c x0 x1 x2 x3 y0 y1 y2 y3 h =
    let k = depth_of a b c in
    let y : List ℕ = y0 ∷ y1 ∷ y2 ∷ y3 ∷ [] in
    let x : List ℕ = x0 ∷ x1 ∷ x2 ∷ x3 ∷ [] in
    same_fits a b c x0 x1 x2 y0 y1 y2 (λ l. begins_at k 0 y x (omega (arith, l)) (omega arith) h) (λ l. begins_at k 1 y x (omega (arith, l)) (omega arith) h) (λ l. begins_at k 2 y x (omega (arith, l)) (omega arith) h)

three_agree : (s p o : Option ℕ) (x1 x2 x3 y1 y2 y3 : ℕ) → fits s x1 ≡ fits s y1 → fits p x2 ≡ fits p y2 → fits o x3 ≡ fits o y3 → (fits s x1 && fits p x2 && fits o x3) ≡ (fits s y1 && fits p y2 && fits o y3)
three_agree s p o x1 x2 x3 y1 y2 y3 a b c = rw (a, b, c) refl

four_agree : (order : Permutation) (s p o : Option ℕ) (x0 x1 x2 x3 y0 y1 y2 y3 : ℕ) → begins (take (depth order s p o) (y0 ∷ y1 ∷ y2 ∷ y3 ∷ [])) (x0 ∷ x1 ∷ x2 ∷ x3 ∷ []) ≡ true → agrees_anywhere s p o (restored order (x0 ∷ x1 ∷ x2 ∷ x3 ∷ [])) ≡ agrees_anywhere s p o (restored order (y0 ∷ y1 ∷ y2 ∷ y3 ∷ []))
four_agree Gspo s p o x0 x1 x2 x3 y0 y1 y2 y3 h = let f = after_first s p o x0 x1 x2 x3 y0 y1 y2 y3 h in three_agree s p o x1 x2 x3 y1 y2 y3 f.first f.second f.third
four_agree Gpos s p o x0 x1 x2 x3 y0 y1 y2 y3 h = let f = after_first p o s x0 x1 x2 x3 y0 y1 y2 y3 h in three_agree s p o x3 x1 x2 y3 y1 y2 f.third f.first f.second
four_agree Gosp s p o x0 x1 x2 x3 y0 y1 y2 y3 h = let f = after_first o s p x0 x1 x2 x3 y0 y1 y2 y3 h in three_agree s p o x2 x3 x1 y2 y3 y1 f.second f.third f.first
four_agree Spog s p o x0 x1 x2 x3 y0 y1 y2 y3 h = let f = first_three s p o x0 x1 x2 x3 y0 y1 y2 y3 h in three_agree s p o x0 x1 x2 y0 y1 y2 f.first f.second f.third
four_agree Posg s p o x0 x1 x2 x3 y0 y1 y2 y3 h = let f = first_three p o s x0 x1 x2 x3 y0 y1 y2 y3 h in three_agree s p o x2 x0 x1 y2 y0 y1 f.third f.first f.second
four_agree Ospg s p o x0 x1 x2 x3 y0 y1 y2 y3 h = let f = first_three o s p x0 x1 x2 x3 y0 y1 y2 y3 h in three_agree s p o x1 x2 x0 y1 y2 y0 f.second f.third f.first

-- a list of four numbers
record Four (x : List ℕ) : Type 0 where
  a : ℕ
  b : ℕ
  c : ℕ
  d : ℕ
  is : x ≡ a ∷ b ∷ c ∷ d ∷ []

four_of : (x : List ℕ) → length x ≡ 4 → Four x
four_of [] h = absurd (omega arith)
four_of (a ∷ []) h = absurd (omega arith)
four_of (a ∷ b ∷ []) h = absurd (omega arith)
four_of (a ∷ b ∷ c ∷ []) h = absurd (omega arith)
four_of (a ∷ b ∷ c ∷ d ∷ []) h = record { a = a; b = b; c = c; d = d; is = refl }
four_of (a ∷ b ∷ c ∷ d ∷ e ∷ rest) h = absurd (omega arith)

front_agrees : (order : Permutation) (s p o : Option ℕ) (x y : List ℕ) → length x ≡ 4 → length y ≡ 4 → begins (take (depth order s p o) y) x ≡ true → agrees_anywhere s p o (restored order x) ≡ agrees_anywhere s p o (restored order y)
front_agrees order s p o x y l m h =
    let v = four_of x l in
    let w = four_of y m in
    let own : begins (take (depth order s p o) (w.a ∷ w.b ∷ w.c ∷ w.d ∷ [])) (v.a ∷ v.b ∷ v.c ∷ v.d ∷ []) ≡ true = sym (ap (λ r. begins (take (depth order s p o) r) x) w.is ∙ ap (begins (take (depth order s p o) (w.a ∷ w.b ∷ w.c ∷ w.d ∷ []))) v.is) ∙ h in
    ap (λ r. agrees_anywhere s p o (restored order r)) v.is ∙ four_agree order s p o v.a v.b v.c v.d w.a w.b w.c w.d own ∙ sym (ap (λ r. agrees_anywhere s p o (restored order r)) w.is)

all_agree : (order : Permutation) (s p o : Option ℕ) (y : List ℕ) → length y ≡ 4 → agrees_anywhere s p o (restored order y) ≡ true → (xs : List (List ℕ)) → HaveFour xs → AllByRecursion (λ x. begins (take (depth order s p o) y) x ≡ true) xs → AllByRecursion (λ x. agrees_anywhere s p o x ≡ true) (map (restored order) xs)
all_agree order s p o y m a [] four b = tt
all_agree order s p o y m a (x ∷ xs) four b = (front_agrees order s p o x y (four x (here x xs)) m b.0 ∙ a, all_agree order s p o y m a xs (λ z c. four z (there x z xs c)) b.1)

-- ---- a scan

-- where the next entry agrees, all are skipped up to what is after its front
pub skipped_front : (order : Permutation) (s p o : Option ℕ) (next to : List ℕ) (rest left : List (List ℕ)) → IsAscending (next ∷ rest) → HaveFour (next ∷ rest) → agrees_anywhere s p o (restored order next) ≡ true → IsAfter (take (depth order s p o) next) to → left ≡ skip_before to (next ∷ rest)
    → IsSkipped (λ x. agrees_anywhere s p o x ≡ true) (map (restored order) (next ∷ rest)) (map (restored order) left)
skipped_front order s p o next to rest left u four a f e =
    let all = next ∷ rest in
    let kept = keep_before to all in
    let begun = kept_begin (take (depth order s p o) next) to next rest f (not_before_front (depth order s p o) next) u in
    let own : HaveFour kept = λ x c. four x (subst (λ r. Contains r x) (keep-skip to all) (Contains-append_left kept (skip_before to all) x c)) in
    record {
      skipped = map (restored order) kept;
      are = ap (map (restored order)) (sym (keep-skip to all)) ∙ map-append (restored order) kept (skip_before to all) ∙ ap (λ r. map (restored order) kept ++ map (restored order) r) (sym e);
      each = all_agree order s p o next (four next (here next rest)) a kept own begun;
    }

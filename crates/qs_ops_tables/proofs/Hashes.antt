-- Compatible rows have one hash.
use Rattle.std.proofs.Common.{◌≡◌, ℕ, zero, suc, ◌<◌, ◌≤◌, Bool, true, false, ◌&&◌, List, [], ◌∷◌, take, Option, Some, None, subst, refl, sym, ap, ◌∙◌, arith}
use Rattle.std.specs.Option.{option_map, option_and_then}
use Rattle.std.proofs.lemmas.Bool.Decides.{Decides-eqb}
use Rattle.qs_expr.specs.declared.cell.Cell.{Cell}
use Rattle.qs_expr.specs.declared.cell.Cell.TheVariants.{Known, Scratch}
use Rattle.qs_expr.specs.inner.Cell.{Cells, cell_at, same_cell}
use Rattle.qs_expr.specs.inner.Row.{agree, compatible_cells}
use Rattle.qs_ops_tables.specs.inner.Keys.{number, mix, mix_cell, hash_from, upper, key_hash}

same_from : (c d : Cell) → same_cell c d ≡ true → c ≡ d
same_from (Known m) (Known n) h = ap Known ((Decides-eqb m n).0 h)
same_from (Known m) (Scratch k) h = let f : false ≡ true = h in cc
same_from (Scratch j) (Known n) h = let f : false ≡ true = h in cc
same_from (Scratch j) (Scratch k) h = ap Scratch ((Decides-eqb j k).0 h)

no_cell : (v : ℕ) (c : Cell) → cell_at [] v ≡ Some c → ⊥
no_cell zero c e = cc
no_cell (suc v) c e = cc

first_of : (x y : Bool) → (x && y) ≡ true → x ≡ true
first_of true y h = refl
first_of false y h = h

second_of : (x y : Bool) → (x && y) ≡ true → y ≡ true
second_of true y h = h
second_of false y h = let f : false ≡ true = h in cc

agreed : (x y : Option Cell) (c d : Cell) → agree x y ≡ true → x ≡ Some c → y ≡ Some d → c ≡ d
agreed x y c d h e f = same_from c d (sym (ap (λ z. agree z (Some d)) e) ∙ (sym (ap (agree x) f) ∙ h))

-- where both are bound, compatible rows have the same cell
pub at_both : (a b : Cells) (v : ℕ) (c d : Cell) → compatible_cells a b ≡ true → cell_at a v ≡ Some c → cell_at b v ≡ Some d → c ≡ d
at_both [] b v c d h e f = absurd (no_cell v c e)
at_both (x ∷ a) [] v c d h e f = absurd (no_cell v d f)
at_both (x ∷ a) (y ∷ b) zero c d h e f = agreed x y c d (first_of (agree x y) (compatible_cells a b) h) e f
at_both (x ∷ a) (y ∷ b) (suc v) c d h e f = at_both a b v c d (second_of (agree x y) (compatible_cells a b) h) e f

-- one cell more
same_at : (key : List ℕ) (v hash : ℕ) (a b : Cells) (x y : ℕ) (p q : Option Cell) → compatible_cells a b ≡ true → cell_at a v ≡ p → cell_at b v ≡ q
    → ((n : ℕ) → hash_from n key a ≡ Some x → hash_from n key b ≡ Some y → x ≡ y)
    → option_and_then (λ n. hash_from n key a) (mix_cell hash p) ≡ Some x → option_and_then (λ n. hash_from n key b) (mix_cell hash q) ≡ Some y → x ≡ y
same_at key v hash a b x y None q h i j f k l = cc
same_at key v hash a b x y (Some c) None h i j f k l = cc
same_at key v hash a b x y (Some c) (Some d) h i j f k l =
    let same : c ≡ d = at_both a b v c d h i j in
    f (mix hash (number c)) k (subst (λ (z : Cell). hash_from (mix hash (number z)) key b ≡ Some y) (sym same) l)

same_from_key : (key : List ℕ) (hash : ℕ) (a b : Cells) (x y : ℕ) → compatible_cells a b ≡ true → hash_from hash key a ≡ Some x → hash_from hash key b ≡ Some y → x ≡ y
same_from_key [] hash a b x y h e f = cc
same_from_key (v ∷ key) hash a b x y h e f = same_at key v hash a b x y (cell_at a v) (cell_at b v) h refl refl (λ n k l. same_from_key key n a b x y h k l) e f

-- rows of two hashes are not compatible
pub apart : (key : List ℕ) (a b : Cells) (x y : ℕ) → key_hash key a ≡ Some x → key_hash key b ≡ Some y → (x ≡ y → ⊥) → compatible_cells a b ≡ false
apart key a b x y e f h = at (compatible_cells a b) refl
  where
    uppers : (p q : Option ℕ) → hash_from 0 key a ≡ p → hash_from 0 key b ≡ q → compatible_cells a b ≡ true → option_map upper p ≡ Some x → option_map upper q ≡ Some y → x ≡ y
    uppers None q i j g k l = cc
    uppers (Some s) None i j g k l = cc
    uppers (Some s) (Some t) i j g k l = let m : s ≡ t = same_from_key key 0 a b s t g i j in cc

    at : (r : Bool) → compatible_cells a b ≡ r → compatible_cells a b ≡ false
    at true g = absurd (h (uppers (hash_from 0 key a) (hash_from 0 key b) refl refl g e f))
    at false g = g

-- ---- the loop over a key

pub hash_more : (key : List ℕ) (v : ℕ) (rest : List ℕ) (hash : ℕ) (m : Cells) (c : Cell) → key ≡ v ∷ rest → cell_at m v ≡ Some c → hash_from hash key m ≡ hash_from (mix hash (number c)) rest m
hash_more key v rest hash m c e f = rw e (rw f refl)

pub hash_none : (key : List ℕ) (v : ℕ) (rest : List ℕ) (hash : ℕ) (m : Cells) → key ≡ v ∷ rest → cell_at m v ≡ None → hash_from hash key m ≡ None
hash_none key v rest hash m e f = rw e (rw f refl)

-- ---- the front of a row

pub front_below : (m : Cells) (n v : ℕ) → v < n → cell_at (take n m) v ≡ cell_at m v
front_below m zero v h = absurd (omega arith)
front_below [] (suc n) v h = refl
front_below (x ∷ m) (suc n) zero h = refl
front_below (x ∷ m) (suc n) (suc v) h = front_below m n v (omega arith)

pub front_past : (m : Cells) (n v : ℕ) → n ≤ v → cell_at (take n m) v ≡ None
front_past m zero zero h = refl
front_past m zero (suc v) h = refl
front_past [] (suc n) zero h = refl
front_past [] (suc n) (suc v) h = refl
front_past (x ∷ m) (suc n) zero h = absurd (omega arith)
front_past (x ∷ m) (suc n) (suc v) h = front_past m n v (omega arith)

-- A text that stands in a text.
use Rattle.std.proofs.Common.{◌≡◌, ◌↔◌, ◌⊎◌, inl, inr, ℕ, Bool, true, ◌||◌, nat_eq, List, [], ◌∷◌, ◌++◌, ◌<◌, ◌+◌, Option, None, Some, take, drop, length, refl, ap, sym, ◌∙◌, arith}
use Rattle.std.specs.Bool.{Decides}
use Rattle.std.specs.List.{starts_with}
use Rattle.std.specs.Str.Iter.{HasSubslice}
use Rattle.std.specs.Cmp.Lexicographic.{bytes_decides}
use Rattle.std.proofs.lemmas.Bool.{false≢true}
use Rattle.std.proofs.lemmas.Bool.Decides.{same_from_decides, Decides-like, Decides-or}
use Rattle.std.proofs.lemmas.List.{take-append-drop, length-append}
use Rattle.std.specs.Option.{is_some}
use Rattle.std.proofs.Math.Seq.{take-append_seam, drop-append_seam}
use Rattle.memchr.specs.Find.{OccursAt, FindsNeedle}
use Rattle.memchr.proofs.lemmas.MatchLemmas.{OccursAt-from_part, OccursAt-split}
use Rattle.qs_expr_values.specs.Text.{stands_in}

abbrev pub HasFront : List ℕ → List ℕ → Type 0
HasFront s n = (b : List ℕ) × (s ≡ n ++ b)

pub front : (n s : List ℕ) → Decides (starts_with nat_eq s n) (HasFront s n)
front n s =
    Decides-like (starts_with nat_eq s n)
    (λ (e : n ≡ take (length n) s). (drop (length n) s, sym (take-append-drop (length n) s) ∙ ap (λ l. l ++ drop (length n) s) (sym e)))
    (λ (h : HasFront s n). sym (ap (take (length n)) h.1 ∙ take-append_seam n h.0))
    (bytes_decides n (take (length n) s))

in_none : (n : List ℕ) (a b : List ℕ) → [] ≡ a ++ (n ++ b) → HasFront [] n
in_none n [] b e = (b, e)
in_none n (x ∷ a) b e = cc

in_some : (n : List ℕ) (c : ℕ) (cs a b : List ℕ) → c ∷ cs ≡ a ++ (n ++ b) → HasFront (c ∷ cs) n ⊎ HasSubslice cs n
in_some n c cs [] b e = inl (b, e)
in_some n c cs (x ∷ a) b e = inr (a, b, cc)

found : (n : List ℕ) (c : ℕ) (cs : List ℕ) → HasFront (c ∷ cs) n ⊎ HasSubslice cs n → HasSubslice (c ∷ cs) n
found n c cs (inl (b, e)) = ([], b, e)
found n c cs (inr (a, b, e)) = (c ∷ a, b, ap (λ l. c ∷ l) e)

pub standing : (n s : List ℕ) → Decides (stands_in n s) (HasSubslice s n)
standing n [] = Decides-like (starts_with nat_eq [] n) (λ (h : HasFront [] n). ([], h.0, h.1)) (λ (h : HasSubslice [] n). in_none n h.0 h.1 h.2) (front n [])
standing n (c ∷ cs) =
    Decides-like (starts_with nat_eq (c ∷ cs) n || stands_in n cs) (found n c cs) (λ (h : HasSubslice (c ∷ cs) n). in_some n c cs h.0 h.1 h.2)
    (Decides-or (starts_with nat_eq (c ∷ cs) n) (stands_in n cs) (front n (c ∷ cs)) (standing n cs))

pub stands : (r : Bool) (n s : List ℕ) → (r ≡ true) ↔ HasSubslice s n → r ≡ stands_in n s
stands r n s h = same_from_decides r (stands_in n s) h (standing n s)

occurs : (s n a b : List ℕ) → s ≡ a ++ (n ++ b) → OccursAt s n (length a)
occurs s n a b e =
    let long : length s ≡ length a + (length n + length b) = ap length e ∙ (length-append a (n ++ b) ∙ ap (λ x. length a + x) (length-append n b)) in
    OccursAt-from_part s n (length a) (omega (arith, long))
    (ap (λ l. take (length n) (drop (length a) l)) e ∙ (ap (take (length n)) (drop-append_seam a (n ++ b)) ∙ take-append_seam n b))

fits : (s n : List ℕ) (k : ℕ) → OccursAt s n k → k < length s + 1
fits s n k h = omega (arith, h.fits)

by_search : (s n : List ℕ) (r : Option ℕ) → FindsNeedle s n 0 r → (is_some r ≡ true) ↔ HasSubslice s n
by_search s n None h = (λ no. absurd (false≢true no), λ (g : HasSubslice s n). let at = occurs s n g.0 g.1 g.2 in absurd (h (length g.0) (omega arith) (fits s n (length g.0) at) at))
by_search s n (Some k) h = (λ yes. (take k s, drop (k + length n) s, sym (take-append-drop k s) ∙ ap (λ l. take k s ++ l) (OccursAt-split s n k h.1)), λ g. refl)

pub found_by : (s n : List ℕ) (r : Option ℕ) → FindsNeedle s n 0 r → is_some r ≡ stands_in n s
found_by s n r h = stands (is_some r) n s (by_search s n r h)

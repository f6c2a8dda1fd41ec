-- The variables that triple patterns mention, and those at ends of path patterns: one pattern more.
use Rattle.std.proofs.Common.{◌≡◌, ℕ, zero, suc, ◌+◌, ◌<◌, Bool, true, false, ◌||◌, ◌==◌, List, [], ◌∷◌, ◌++◌, length, take, get_or, slice_set, refl, sym, ap, ◌∙◌, arith, inl, inr}
use Rattle.std.proofs.lemmas.List.{take_more}
use Rattle.std.proofs.lemmas.Bool.Decides.{eqb_tells}
use Rattle.qs_algebra_patterns.specs.declared.pattern.Slot.{Slot}
use Rattle.qs_algebra_patterns.specs.declared.pattern.Slot.TheVariants as slot
use Rattle.qs_algebra_patterns.specs.declared.pattern.TriplePattern.{TriplePattern}
use Rattle.qs_algebra_patterns.specs.declared.pattern.PathPattern.{PathPattern}
use Rattle.qs_algebra_patterns.specs.Basic.{is_variable, mentions}
use Rattle.qs_algebra_patterns.specs.inner.Basic.{is_end}
use Rattle.qs_algebra.specs.inner.Flags.{flags_from}
use Rattle.qs_algebra.specs.inner.Flags.{with_slot, with_triple, with_ends}
use Rattle.qs_algebra.proofs.FlagLaws.{same_flags}

or_true : (b : Bool) → (b || true) ≡ true
or_true true = refl
or_true false = refl

or_false : (b : Bool) → (b || false) ≡ b
or_false true = refl
or_false false = refl

or_assoc : (a b c : Bool) → ((a || b) || c) ≡ (a || (b || c))
or_assoc true b c = refl
or_assoc false b c = refl

same_number : (a b : ℕ) → a ≡ b → (a == b) ≡ true
same_number a b e = elim (eqb_tells a b) as (λ w. (a == b) ≡ true) [ inl p ↦ p.0 | inr p ↦ absurd (p.1 e) ]

other_number : (a b : ℕ) → a < b → (a == b) ≡ false
other_number a b h = elim (eqb_tells a b) as (λ w. (a == b) ≡ false) [ inl p ↦ absurd (omega (arith, h, p.1)) | inr p ↦ p.0 ]

pub set_one : (f : ℕ → Bool) (v n k : ℕ) → slice_set (flags_from f v n) k true ≡ flags_from (λ w. f w || ((v + k) == w)) v n
set_one f v zero k = refl
set_one f v (suc n) zero =
    ap (λ b. b ∷ flags_from f (v + 1) n) (sym (ap (λ b. f v || b) (same_number (v + 0) v (omega arith)) ∙ or_true (f v)))
    ∙ ap (λ l. (f v || ((v + 0) == v)) ∷ l)
    (same_flags _ _ (v + 1) n (λ w low high. sym (ap (λ b. f w || b) (other_number (v + 0) w (omega (arith, low))) ∙ or_false (f w))))
set_one f v (suc n) (suc k) =
    ap (λ b. b ∷ slice_set (flags_from f (v + 1) n) k true) (sym (ap (λ b. f v || b) (first k) ∙ or_false (f v)))
    ∙ ap (λ l. (f v || ((v + suc k) == v)) ∷ l)
    (set_one f (v + 1) n k ∙ same_flags _ _ (v + 1) n (λ w low high. ap (λ x. f w || (x == w)) (omega arith)))
  where
    first : (k : ℕ) → ((v + suc k) == v) ≡ false
    first k = elim (eqb_tells (v + suc k) v) as (λ w. ((v + suc k) == v) ≡ false) [ inl p ↦ absurd (omega (arith, p.1)) | inr p ↦ p.0 ]

slot_more : (f : ℕ → Bool) (n : ℕ) (s : Slot) → with_slot (flags_from f 0 n) s ≡ flags_from (λ w. f w || is_variable s w) 0 n
slot_more f n (slot.Term t) = same_flags _ _ 0 n (λ w low high. sym (or_false (f w)))
slot_more f n (slot.Variable k) = set_one f 0 n k ∙ same_flags _ _ 0 n (λ w low high. ap (λ x. f w || (x == w)) (omega arith))

triple_more : (f : ℕ → Bool) (n : ℕ) (p : TriplePattern) → with_triple (flags_from f 0 n) p ≡ flags_from (λ w. ((f w || is_variable p.subject w) || is_variable p.predicate w) || is_variable p.object w) 0 n
triple_more f n p =
    ap (λ l. with_slot (with_slot l p.predicate) p.object) (slot_more f n p.subject)
    ∙ ap (λ l. with_slot l p.object) (slot_more _ n p.predicate)
    ∙ slot_more _ n p.object

mentions_last : (ps : List TriplePattern) (p : TriplePattern) (v : ℕ) → (((mentions ps v || is_variable p.subject v) || is_variable p.predicate v) || is_variable p.object v) ≡ mentions (ps ++ p ∷ []) v
mentions_last [] p v =
    or_assoc (is_variable p.subject v) (is_variable p.predicate v) (is_variable p.object v)
    ∙ ap (λ b. is_variable p.subject v || (is_variable p.predicate v || b)) (sym (or_false (is_variable p.object v)))
mentions_last (q ∷ ps) p v =
    step (is_variable q.subject v) (is_variable q.predicate v) (is_variable q.object v) (mentions ps v) (is_variable p.subject v) (is_variable p.predicate v) (is_variable p.object v) _ (mentions_last ps p v)
  where
    step : (a b c d x y z e : Bool) → (((d || x) || y) || z) ≡ e → ((((a || (b || (c || d))) || x) || y) || z) ≡ (a || (b || (c || e)))
    step true b c d x y z e h = refl
    step false true c d x y z e h = refl
    step false false true d x y z e h = refl
    step false false false d x y z e h = h

-- one triple pattern more
pub mentions_more : (triples : List TriplePattern) (i n : ℕ) (p : TriplePattern) (flags flags' : List Bool) → i < length triples → p ≡ get_or triples i p → flags ≡ flags_from (mentions (take i triples)) 0 n
    → flags' ≡ with_triple flags p → flags' ≡ flags_from (mentions (take (i + 1) triples)) 0 n
mentions_more triples i n p flags flags' lt is h e =
    e ∙ (ap (λ l. with_triple l p) h ∙ (triple_more (mentions (take i triples)) n p
    ∙ (same_flags _ _ 0 n (λ w low high. mentions_last (take i triples) p w)
    ∙ ap (λ l. flags_from (mentions l) 0 n) (ap (λ q. take i triples ++ q ∷ []) is ∙ sym (take_more triples i p lt)))))

ends_here : (f : ℕ → Bool) (n : ℕ) (p : PathPattern) → with_ends (flags_from f 0 n) p ≡ flags_from (λ w. (f w || is_variable p.subject w) || is_variable p.object w) 0 n
ends_here f n p = ap (λ l. with_slot l p.object) (slot_more f n p.subject) ∙ slot_more _ n p.object

ends_last : (ps : List PathPattern) (p : PathPattern) (v : ℕ) → ((is_end ps v || is_variable p.subject v) || is_variable p.object v) ≡ is_end (ps ++ p ∷ []) v
ends_last [] p v = ap (λ b. is_variable p.subject v || b) (sym (or_false (is_variable p.object v)))
ends_last (q ∷ ps) p v = step (is_variable q.subject v) (is_variable q.object v) (is_end ps v) (is_variable p.subject v) (is_variable p.object v) _ (ends_last ps p v)
  where
    step : (a b c x y e : Bool) → ((c || x) || y) ≡ e → (((a || (b || c)) || x) || y) ≡ (a || (b || e))
    step true b c x y e h = refl
    step false true c x y e h = refl
    step false false c x y e h = h

-- one path pattern more
pub ends_more : (paths : List PathPattern) (i n : ℕ) (p : PathPattern) (flags flags' : List Bool) → i < length paths → p ≡ get_or paths i p → flags ≡ flags_from (is_end (take i paths)) 0 n
    → flags' ≡ with_ends flags p → flags' ≡ flags_from (is_end (take (i + 1) paths)) 0 n
ends_more paths i n p flags flags' lt is h e =
    e ∙ (ap (λ l. with_ends l p) h ∙ (ends_here (is_end (take i paths)) n p
    ∙ (same_flags _ _ 0 n (λ w low high. ends_last (take i paths) p w)
    ∙ ap (λ l. flags_from (is_end l) 0 n) (ap (λ q. take i paths ++ q ∷ []) is ∙ sym (take_more paths i p lt)))))

-- What a map has to be, so that the search reaches it from a solution.
use Rattle.std.proofs.Common.{◌≡◌, ◌≢◌, ℕ, ◌<◌, Bool, true, false, ◌||◌, ◌==◌, Option, Some, None, if◌then◌else◌, length, refl, sym, ◌∙◌, ap, subst}
use Rattle.std.proofs.Math.ListN.{set, length-set}
use Rattle.std.proofs.lemmas.Bool.Decides.{Decides-eqb}
use Rattle.std.proofs.lemmas.List.{get_or-set_same, get_or-set_other}
use Rattle.qs_terms.specs.declared.term.Term.{Term}
use Rattle.qs_terms.specs.Term.{same_term}
use Rattle.qs_terms.proofs.SameTerm.{same_term-Decides}
use Rattle.qs_algebra_patterns.specs.declared.pattern.Slot.{Slot}
use Rattle.qs_algebra_patterns.specs.declared.pattern.Slot.TheVariants as slot
use Rattle.qs_algebra_solutions.specs.Solution.{Solution, term_at}
use Rattle.qs_algebra_patterns.specs.Basic.{is_variable, value}
use Rattle.qs_plan_meaning.specs.inner.Scans.{bound_at, bound_slot}
use Rattle.qs_plan.proofs.Below.{SlotBelow}

-- where a variable is bound it stays so; where it isn't, it may be bound later if `later` says so
abbrev pub ReachAt : Bool → Option Term → Option Term → Type 0
ReachAt later None y = later ≡ false → y ≡ None
ReachAt later (Some x) y = y ≡ Some x

pub record Reach (later : ℕ → Bool) (row m : Solution) : Type 0 where
  pub wide : length m ≡ length row
  pub at : (v : ℕ) → ReachAt (later v) (term_at row v) (term_at m v)

pub reach_with : (p q : Bool) (c y : Option Term) → (c ≡ None → q ≡ false → p ≡ false) → ReachAt p c y → ReachAt q c y
reach_with p q None y f h = λ k. h (f refl k)
reach_with p q (Some x) y f h = h

pub or_right : (a b : Bool) → (a || b) ≡ false → b ≡ false
or_right true b h = let f : true ≡ false = h in cc
or_right false b h = h

or_of : (a b : Bool) → a ≡ false → b ≡ false → (a || b) ≡ false
or_of a b e f = rw (e, f) refl

test_some : (c t : Term) (row row' : Solution) (b : Bool) → same_term c t ≡ b → (if b then Some row else None) ≡ Some row' → (c ≡ t) × (row ≡ row')
test_some c t row row' true q h = ((same_term-Decides c t).0 q, cc)
test_some c t row row' false q h = let f : None ≡ Some row' = h in cc

test_none : (c t : Term) (row : Solution) (b : Bool) → same_term c t ≡ b → (if b then Some row else None) ≡ None → c ≡ t → ⊥
test_none c t row true q h e = let f : Some row ≡ None = h in cc
test_none c t row false q h e = let f : same_term c t ≡ true = (same_term-Decides c t).1 e in cc

-- what follows from one slot's step
pub record Stepped (later : ℕ → Bool) (s : Slot) (t : Term) (row row' : Solution) : Type 0 where
  pub kept : length row' ≡ length row
  pub back : (m : Solution) → Reach later row' m → Reach (λ v. is_variable s v || later v) row m × (value m s ≡ Some t)
  pub on : (m : Solution) → Reach (λ v. is_variable s v || later v) row m → value m s ≡ Some t → Reach later row' m

unbound_back : (later : Bool) (v w : ℕ) (t : Term) (row m : Solution) (b : Bool) → (v == w) ≡ b → v < length row → term_at row v ≡ None → ReachAt later (term_at (set row v (Some t)) w) (term_at m w) → ReachAt (b || later) (term_at row w) (term_at m w)
unbound_back later v w t row m true q lt none h =
    let e : v ≡ w = (Decides-eqb v w).0 q in
    subst (λ (c : Option Term). ReachAt (true || later) c (term_at m w)) (sym (ap (term_at row) (sym e) ∙ none)) (λ k. let f : true ≡ false = k in cc)
unbound_back later v w t row m false q lt none h =
    let ne : w ≢ v = λ e. (let f : (v == w) ≡ true = (Decides-eqb v w).1 (sym e) in cc) in
    subst (λ (c : Option Term). ReachAt later c (term_at m w)) (get_or-set_other row v w (Some t) None ne) h

unbound_on : (later : Bool) (v w : ℕ) (t : Term) (row m : Solution) (b : Bool) → (v == w) ≡ b → v < length row → term_at m v ≡ Some t → ReachAt (b || later) (term_at row w) (term_at m w) → ReachAt later (term_at (set row v (Some t)) w) (term_at m w)
unbound_on later v w t row m true q lt is h =
    let e : v ≡ w = (Decides-eqb v w).0 q in
    subst (λ (x : ℕ). ReachAt later (term_at (set row v (Some t)) x) (term_at m x)) e
    (subst (λ (c : Option Term). ReachAt later c (term_at m v)) (sym (get_or-set_same row v (Some t) None lt)) is)
unbound_on later v w t row m false q lt is h =
    let ne : w ≢ v = λ e. (let f : (v == w) ≡ true = (Decides-eqb v w).1 (sym e) in cc) in
    subst (λ (c : Option Term). ReachAt later c (term_at m w)) (sym (get_or-set_other row v w (Some t) None ne)) h

apart : (v w : ℕ) (row : Solution) (x : Term) → term_at row v ≡ Some x → term_at row w ≡ None → (v == w) ≡ false
apart v w row x is none =
    elim (v == w) as (λ b. (v == w) ≡ b → b ≡ false)
    [ true ↦ (λ q. let e : v ≡ w = (Decides-eqb v w).0 q in let f : term_at row v ≡ term_at row w = ap (term_at row) e in cc) | false ↦ (λ q. refl) ] refl

-- the variable is bound already, to t
stays : (later : ℕ → Bool) (v : ℕ) (t : Term) (row : Solution) → term_at row v ≡ Some t → Stepped later (slot.Variable v) t row row
stays later v t row is = record {
  kept = refl;
  back = λ m r. (record { wide = r.wide; at = λ w. reach_with (later w) ((v == w) || later w) (term_at row w) (term_at m w) (λ _ k. or_right (v == w) (later w) k) (r.at w) }, subst (λ (c : Option Term). ReachAt (later v) c (term_at m v)) is (r.at v));
  on = λ m r e. record { wide = r.wide; at = λ w. reach_with ((v == w) || later w) (later w) (term_at row w) (term_at m w) (λ none k. or_of (v == w) (later w) (apart v w row t is none) k) (r.at w) };
}

var_stepped : (later : ℕ → Bool) (v : ℕ) (t : Term) (row row' : Solution) (c : Option Term) → v < length row → term_at row v ≡ c → bound_at c v t row ≡ Some row' → Stepped later (slot.Variable v) t row row'
var_stepped later v t row row' None lt none h =
    let e : set row v (Some t) ≡ row' = cc in
    subst (λ (r : Solution). Stepped later (slot.Variable v) t row r) e (record {
      kept = length-set row v (Some t);
      back = λ m r. (record { wide = r.wide ∙ length-set row v (Some t); at = λ w. unbound_back (later w) v w t row m (v == w) refl lt none (r.at w) }, subst (λ (c : Option Term). ReachAt (later v) c (term_at m v)) (get_or-set_same row v (Some t) None lt) (r.at v));
      on = λ m r is. record { wide = r.wide ∙ sym (length-set row v (Some t)); at = λ w. unbound_on (later w) v w t row m (v == w) refl lt is (r.at w) };
    })
var_stepped later v t row row' (Some x) lt is h =
    let p = test_some x t row row' (same_term x t) refl h in
    subst (λ (r : Solution). Stepped later (slot.Variable v) t row r) p.1 (stays later v t row (is ∙ ap Some p.0))

pub slot_stepped : (later : ℕ → Bool) (s : Slot) (t : Term) (row row' : Solution) → SlotBelow (length row) s → bound_slot s t row ≡ Some row' → Stepped later s t row row'
slot_stepped later (slot.Term c) t row row' lt h =
    let p = test_some c t row row' (same_term c t) refl h in
    subst (λ (r : Solution). Stepped later (slot.Term c) t row r) p.1 (record {
      kept = refl;
      back = λ m r. (record { wide = r.wide; at = r.at }, ap Some p.0);
      on = λ m r e. record { wide = r.wide; at = r.at };
    })
slot_stepped later (slot.Variable v) t row row' lt h = var_stepped later v t row row' (term_at row v) lt refl h

var_stopped : (later : ℕ → Bool) (v : ℕ) (t : Term) (row m : Solution) (c : Option Term) → term_at row v ≡ c → bound_at c v t row ≡ None → Reach later row m → term_at m v ≡ Some t → ⊥
var_stopped later v t row m None none h r is = let f : Some (set row v (Some t)) ≡ None = h in cc
var_stopped later v t row m (Some x) eq h r is =
    let e : term_at m v ≡ Some x = subst (λ (c : Option Term). ReachAt (later v) c (term_at m v)) eq (r.at v) in
    test_none x t row (same_term x t) refl h (let f : Some x ≡ Some t = sym e ∙ is in cc)

-- no map is reached where the step fails
pub slot_stopped : (later : ℕ → Bool) (s : Slot) (t : Term) (row m : Solution) → bound_slot s t row ≡ None → Reach later row m → value m s ≡ Some t → ⊥
slot_stopped later (slot.Term c) t row m h r is = test_none c t row (same_term c t) refl h (let f : Some c ≡ Some t = is in cc)
slot_stopped later (slot.Variable v) t row m h r is = var_stopped later v t row m (term_at row v) refl h r is

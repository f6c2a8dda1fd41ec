-- What is left to do for a triple of a scan makes of the row what its three numbers make of it.
use Rattle.std.proofs.Common.{◌≡◌, ◌≢◌, ⊎_elim, ℕ, Bool, true, false, ◌==◌, ◌&&◌, Option, Some, None, if◌then◌else◌, List, length, nat_lt, slice_index, slice_set, refl, sym, ◌∙◌, ap, subst, arith}
use Rattle.std.proofs.lemmas.Bool.{cases_eq}
use Rattle.std.proofs.lemmas.Bool.Decides.{Decides-eqb, nat_tests}
use Rattle.std.proofs.lemmas.List.{get_or-set_same, get_or-set_other, length-set, set_past}
use Rattle.qs_index.specs.inner.Agreeing.{fits}
use Rattle.qs_expr.specs.declared.cell.Cell.{Cell}
use Rattle.qs_expr.specs.declared.cell.Cell.TheVariants.{Known, Scratch}
use Rattle.qs_expr.specs.inner.Cell.{Cells, cell_at, same_cell}
use Rattle.qs_ops_scans.specs.declared.opened.Act.{Act}
use Rattle.qs_ops_scans.specs.declared.opened.Act.TheVariants.{Pass, Bind, AsSubject, AsPredicate}
use Rattle.qs_ops_scans.specs.declared.opened.Given.{Given}
use Rattle.qs_ops_scans.specs.declared.pattern.Place.{Place}
use Rattle.qs_ops_scans.specs.declared.pattern.Place.TheVariants as place
use Rattle.qs_ops_scans.specs.declared.pattern.PreparedTriple.{PreparedTriple}
use Rattle.qs_ops_scans.specs.inner.Opened.{act_bound, act_passes, acts_of, binds, bound, given_cell, given_of, given_three, givens, if_open, object_act, predicate_act, row_made, subject_act}
use Rattle.qs_ops_scans.proofs.Steps.{cell_bound, place_bound, then_cells, three_bound}

-- ---- what is given

pub record GivenAre (k : PreparedTriple) (m : Cells) (g : Given) : Type 0 where
  pub subject : given_of k.subject m ≡ Some g.subject
  pub predicate : given_of k.predicate m ≡ Some g.predicate
  pub object : given_of k.object m ≡ Some g.object

record Threes (s p o : Option (Option ℕ)) (g : Given) : Type 0 where
  subject : s ≡ Some g.subject
  predicate : p ≡ Some g.predicate
  object : o ≡ Some g.object

threes : (s p o : Option (Option ℕ)) (g : Given) → given_three s p o ≡ Some g → Threes s p o g
threes None p o g h = absurd (let f : None ≡ Some g = h in cc)
threes (Some s) None o g h = absurd (let f : None ≡ Some g = h in cc)
threes (Some s) (Some p) None g h = absurd (let f : None ≡ Some g = h in cc)
threes (Some s) (Some p) (Some o) g h =
    let r : Given = record { subject = s; predicate = p; object = o } in
    let f : Some r ≡ Some g = h in
    let e : r ≡ g = cc in
    record { subject = ap (λ (q : Given). Some q.subject) e; predicate = ap (λ (q : Given). Some q.predicate) e; object = ap (λ (q : Given). Some q.object) e }

pub givens_are : (k : PreparedTriple) (m : Cells) (g : Given) → givens k m ≡ Some g → GivenAre k m g
givens_are k m g h =
    let t = threes (given_of k.subject m) (given_of k.predicate m) (given_of k.object m) g h in
    record { subject = t.subject; predicate = t.predicate; object = t.object }

-- ---- the cell of a variable after a place is bound

abbrev after : Option Cell → Bool → ℕ → Option Cell
after None false n = None
after None true n = Some (Known n)
after (Some c) b n = Some c

after_false : (o : Option Cell) (n : ℕ) → after o false n ≡ o
after_false None n = refl
after_false (Some c) n = refl

after_some : (o : Option Cell) (b : Bool) (n : ℕ) (c : Cell) → o ≡ Some c → after o b n ≡ Some c
after_some None b n c e = absurd (let f : None ≡ Some c = e in cc)
after_some (Some d) b n c e = e

-- what is done for a variable, which has a cell in the row so far or none
abbrev IsRight : Option Cell → ℕ → Act → List ℕ → ℕ → Cells → Type 0
IsRight None v act x n m = act ≡ Bind v
IsRight (Some c) v act x n m = (act_passes act x n ≡ same_cell c (Known n)) × (act_bound act n m ≡ m)

-- it makes of the row so far what the place makes of it
abbrev act_step : Act → List ℕ → ℕ → Cells → Option Cells
act_step act x n m = if act_passes act x n then Some (act_bound act n m) else None

right_steps : (o : Option Cell) (v : ℕ) (act : Act) (x : List ℕ) (n : ℕ) (m : Cells) → IsRight o v act x n m → cell_bound o v (Known n) m ≡ act_step act x n m
right_steps None v act x n m h = rw h refl
right_steps (Some c) v act x n m h = rw (h.0, h.1) refl

none_binds : (m : Cells) (v w : ℕ) → (v ≡ w → ⊥) → ((v == w) && nat_lt w (length m)) ≡ false
none_binds m v w ne = at (v == w) refl
  where
    at : (b : Bool) → (v == w) ≡ b → (b && nat_lt w (length m)) ≡ false
    at true e = absurd (ne ((Decides-eqb v w).0 e))
    at false e = refl

self_binds : (m : Cells) (v w : ℕ) → v ≡ w → ((v == w) && nat_lt w (length m)) ≡ nat_lt w (length m)
self_binds m v w e = rw ((Decides-eqb v w).1 e) refl

set_at_variable : (m a : Cells) (v n : ℕ) (b : Bool) → length a ≡ length m → nat_lt v (length m) ≡ b → cell_at a v ≡ None → cell_at (slice_set a v (Some (Known n))) v ≡ after None b n
set_at_variable m a v n true l h e = get_or-set_same a v (Some (Known n)) None (grind (arith, nat_tests))
set_at_variable m a v n false l h e = ap (λ r. cell_at r v) (set_past a v (Some (Known n)) (grind (arith, nat_tests))) ∙ e

cell_after : (o : Option Cell) (m a : Cells) (v w : ℕ) (act : Act) (x : List ℕ) (n : ℕ) → length a ≡ length m → cell_at a v ≡ o → IsRight o v act x n a
    → cell_at (act_bound act n a) w ≡ after (cell_at a w) ((v == w) && nat_lt w (length m)) n
cell_after None m a v w act x n l e h =
    ap (λ z. cell_at (act_bound z n a) w) h
    ∙ ⊎_elim (λ (q : v ≡ w).
    subst (λ (z : ℕ). cell_at (slice_set a v (Some (Known n))) z ≡ after (cell_at a z) ((v == z) && nat_lt z (length m)) n) q
    (rw (self_binds m v v refl, e) (set_at_variable m a v n (nat_lt v (length m)) l refl e)))
    (λ (ne : v ≢ w). get_or-set_other a v w (Some (Known n)) None (λ q. ne (sym q)) ∙ (sym (after_false (cell_at a w) n) ∙ ap (λ b. after (cell_at a w) b n) (sym (none_binds m v w ne)))) (cases_eq v w)
cell_after (Some c) m a v w act x n l e h =
    ap (λ r. cell_at r w) h.1
    ∙ ⊎_elim (λ (q : v ≡ w). let f : cell_at a w ≡ Some c = ap (cell_at a) (sym q) ∙ e in f ∙ sym (after_some (cell_at a w) ((v == w) && nat_lt w (length m)) n c f))
    (λ (ne : v ≢ w). sym (after_false (cell_at a w) n) ∙ ap (λ b. after (cell_at a w) b n) (sym (none_binds m v w ne))) (cases_eq v w)

pub act_length : (act : Act) (n : ℕ) (a : Cells) → length (act_bound act n a) ≡ length a
act_length Pass n a = refl
act_length (Bind v) n a = length-set a v (Some (Known n))
act_length AsSubject n a = refl
act_length AsPredicate n a = refl

-- ---- the three places

-- the number that is given for a cell, and that the scan's triple has
pass_right : (o : Option Cell) (g : Option ℕ) (n : ℕ) → given_cell o ≡ Some g → fits g n ≡ true → (c : Cell) → o ≡ Some c → true ≡ same_cell c (Known n)
pass_right None g n h f c e = absurd (let i : None ≡ Some c = e in cc)
pass_right (Some (Known j)) g n h f c e =
    let i : Known j ≡ c = (let q : Some (Known j) ≡ Some c = e in cc) in
    let k : Some j ≡ g = (let q : Some (Some j) ≡ Some g = h in cc) in
    let l : n ≡ j = (Decides-eqb n j).0 (subst (λ (y : Option ℕ). fits y n ≡ true) (sym k) f) in
    subst (λ (d : Cell). true ≡ same_cell d (Known n)) i (sym ((Decides-eqb j n).1 (sym l)))
pass_right (Some (Scratch k)) g n h f c e = absurd (let i : None ≡ Some g = h in cc)

number_step : (j n : ℕ) (g : Option ℕ) (a : Cells) → Some (Some j) ≡ Some g → fits g n ≡ true → (if j == n then Some a else None) ≡ Some a
number_step j n g a h f =
    let k : Some j ≡ g = cc in
    let l : n ≡ j = (Decides-eqb n j).0 (subst (λ (y : Option ℕ). fits y n ≡ true) (sym k) f) in
    rw ((Decides-eqb j n).1 (sym l)) refl

module _ (k : PreparedTriple) (m : Cells) (g : Given) (x : List ℕ) (are : GivenAre k m g)
    (fs : fits g.subject (slice_index x 0) ≡ true) (fp : fits g.predicate (slice_index x 1) ≡ true) (fo : fits g.object (slice_index x 2) ≡ true) where
  abbrev s : ℕ
  s = slice_index x 0

  abbrev p : ℕ
  p = slice_index x 1

  abbrev o : ℕ
  o = slice_index x 2

  -- ---- the subject

  subject_right : (e : Option Cell) (v : ℕ) → given_cell e ≡ Some g.subject → IsRight e v (if_open e (Bind v)) x s m
  subject_right None v h = refl
  subject_right (Some c) v h = (pass_right (Some c) g.subject s h fs c refl, refl)

  subject_step : (q : Place) → given_of q m ≡ Some g.subject → place_bound q s m ≡ act_step (subject_act m q) x s m
  subject_step place.Absent h = absurd (let i : None ≡ Some g.subject = h in cc)
  subject_step (place.Number j) h = number_step j s g.subject m h fs
  subject_step (place.Variable v) h = right_steps (cell_at m v) v _ x s m (subject_right (cell_at m v) v h)

  subject_after : (q : Place) (w : ℕ) → given_of q m ≡ Some g.subject → cell_at (act_bound (subject_act m q) s m) w ≡ after (cell_at m w) (binds m q w) s
  subject_after place.Absent w h = sym (after_false (cell_at m w) s)
  subject_after (place.Number j) w h = sym (after_false (cell_at m w) s)
  subject_after (place.Variable v) w h = cell_after (cell_at m v) m m v w _ x s refl refl (subject_right (cell_at m v) v h)

  -- ---- the predicate, in the row so far

  abbrev a : Cells
  a = act_bound (subject_act m k.subject) s m

  a_long : length a ≡ length m
  a_long = act_length (subject_act m k.subject) s m

  abbrev p_act : ℕ → Bool → Option Cell → Act
  p_act v b e = if_open e (if b then AsSubject else Bind v)

  predicate_right : (e : Option Cell) (b : Bool) (v : ℕ) → given_cell e ≡ Some g.predicate → IsRight (after e b s) v (p_act v b e) x p a
  predicate_right None true v h = (refl, refl)
  predicate_right None false v h = refl
  predicate_right (Some c) b v h = (pass_right (Some c) g.predicate p h fp c refl, refl)

  predicate_right_at : (v : ℕ) → given_cell (cell_at m v) ≡ Some g.predicate → IsRight (cell_at a v) v (p_act v (binds m k.subject v) (cell_at m v)) x p a
  predicate_right_at v h =
      subst (λ (e : Option Cell). IsRight e v (p_act v (binds m k.subject v) (cell_at m v)) x p a) (sym (subject_after k.subject v are.subject))
      (predicate_right (cell_at m v) (binds m k.subject v) v h)

  predicate_step : (q : Place) → given_of q m ≡ Some g.predicate → place_bound q p a ≡ act_step (predicate_act m k.subject q) x p a
  predicate_step place.Absent h = absurd (let i : None ≡ Some g.predicate = h in cc)
  predicate_step (place.Number j) h = number_step j p g.predicate a h fp
  predicate_step (place.Variable v) h = right_steps (cell_at a v) v _ x p a (predicate_right_at v h)

  predicate_after : (q : Place) (w : ℕ) → given_of q m ≡ Some g.predicate → cell_at (act_bound (predicate_act m k.subject q) p a) w ≡ after (cell_at a w) (binds m q w) p
  predicate_after place.Absent w h = sym (after_false (cell_at a w) p)
  predicate_after (place.Number j) w h = sym (after_false (cell_at a w) p)
  predicate_after (place.Variable v) w h = cell_after (cell_at a v) m a v w _ x p a_long refl (predicate_right_at v h)

  -- ---- the object

  abbrev b : Cells
  b = act_bound (predicate_act m k.subject k.predicate) p a

  abbrev o_act : ℕ → Bool → Bool → Option Cell → Act
  o_act v c d e = if_open e (if c then AsSubject else if d then AsPredicate else Bind v)

  object_right : (e : Option Cell) (c d : Bool) (v : ℕ) → given_cell e ≡ Some g.object → IsRight (after (after e c s) d p) v (o_act v c d e) x o b
  object_right None true d v h = (refl, refl)
  object_right None false true v h = (refl, refl)
  object_right None false false v h = refl
  object_right (Some z) c d v h = (pass_right (Some z) g.object o h fo z refl, refl)

  object_right_at : (v : ℕ) → given_cell (cell_at m v) ≡ Some g.object → IsRight (cell_at b v) v (o_act v (binds m k.subject v) (binds m k.predicate v) (cell_at m v)) x o b
  object_right_at v h =
      subst (λ (e : Option Cell). IsRight e v (o_act v (binds m k.subject v) (binds m k.predicate v) (cell_at m v)) x o b)
      (sym (predicate_after k.predicate v are.predicate ∙ ap (λ e. after e (binds m k.predicate v) p) (subject_after k.subject v are.subject)))
      (object_right (cell_at m v) (binds m k.subject v) (binds m k.predicate v) v h)

  object_step : (q : Place) → given_of q m ≡ Some g.object → place_bound q o b ≡ act_step (object_act m k.subject k.predicate q) x o b
  object_step place.Absent h = absurd (let i : None ≡ Some g.object = h in cc)
  object_step (place.Number j) h = number_step j o g.object b h fo
  object_step (place.Variable v) h = right_steps (cell_at b v) v _ x o b (object_right_at v h)

  -- ---- all three

  if_open_passes : (e : Option Cell) (v : ℕ) → act_passes (if_open e (Bind v)) x s ≡ true
  if_open_passes None v = refl
  if_open_passes (Some c) v = refl

  subject_passes : (q : Place) → act_passes (subject_act m q) x s ≡ true
  subject_passes place.Absent = refl
  subject_passes (place.Number j) = refl
  subject_passes (place.Variable v) = if_open_passes (cell_at m v) v

  two : (c d : Bool) (y z : Cells) → then_cells (if c then Some y else None) (λ r. if d then Some z else None) ≡ (if c && d then Some z else None)
  two true d y z = refl
  two false d y z = refl

  then_two : (c d : Bool) (r y : Cells) (f : Cells → Option Cells) (z : Cells) → f y ≡ (if d then Some z else None) → then_cells (if c then Some y else None) f ≡ (if c && d then Some z else None)
  then_two true d r y f z h = h
  then_two false d r y f z h = refl

  pub made_bound : row_made (acts_of k m) m x ≡ three_bound k x m
  made_bound =
      sym (ap (λ r. then_cells r (λ u. then_cells (place_bound k.predicate p u) (λ w. place_bound k.object o w)))
      (subject_step k.subject are.subject ∙ ap (λ t. if t then Some a else None) (subject_passes k.subject))
      ∙ (ap (λ r. then_cells r (λ w. place_bound k.object o w)) (predicate_step k.predicate are.predicate)
      ∙ then_two (act_passes (predicate_act m k.subject k.predicate) x p) (act_passes (object_act m k.subject k.predicate k.object) x o) a b (λ w. place_bound k.object o w) (bound (acts_of k m) x m) (object_step k.object are.object)))

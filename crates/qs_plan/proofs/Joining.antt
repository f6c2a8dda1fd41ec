-- Paths as joins: what the stages of the parts of a path make is what its pairs do.
use Rattle.std.proofs.Common.{◌≡◌, ◌≢◌, ◌⊎◌, inl, inr, ℕ, ◌+◌, ◌≤◌, ◌<◌, List, [], ◌∷◌, ◌++◌, length, map, take, get_or, Option, Some, None, slice_set, refl, sym, ◌∙◌, ap, subst, arith, append_assoc}
use Rattle.std.specs.List.{AllByRecursion, filter, flat_map}
use Rattle.std.proofs.lemmas.Bool.{cases_lt}
use Rattle.std.proofs.lemmas.List.Folds.{flat_map-map}
use Rattle.std.proofs.lemmas.List.{map-append, get_or-take, get_or-set_other, set_past, length-set, take-take, take_all, take_more}
use Rattle.qs_terms.specs.Statement.{Statement}
use Rattle.qs_terms.specs.declared.term.Term.{Term}
use Rattle.qs_syntax_ast.specs.declared.path.Path.{Path}
use Rattle.qs_syntax_ast.specs.declared.path.Path.TheVariants as path
use Rattle.qs_paths_meaning.specs.Pair.{Pair}
use Rattle.qs_paths_meaning.specs.Pairs.{pairs}
use Rattle.qs_paths_meaning.specs.Steps.{composed}
use Rattle.qs_algebra_patterns.specs.declared.pattern.Slot.{Slot}
use Rattle.qs_algebra_patterns.specs.declared.pattern.Slot.TheVariants as slot
use Rattle.qs_algebra_patterns.specs.declared.pattern.PathPattern.{PathPattern}
use Rattle.qs_algebra_patterns.specs.Basic.{Graph, end_of, fits}
use Rattle.qs_algebra_solutions.specs.Solution.{Solution, term_at}
use Rattle.qs_plan_meaning.specs.declared.stage.Group.{Group}
use Rattle.qs_plan_meaning.specs.declared.stage.Look.{Look}
use Rattle.qs_plan_meaning.specs.declared.stage.Look.TheVariants as look
use Rattle.qs_plan_meaning.specs.declared.stage.Stage.{Stage}
use Rattle.qs_plan_meaning.specs.declared.stage.Stage.TheVariants as stage
use Rattle.qs_plan_meaning.specs.inner.Scans.{bound_end, then_bound, bound_ends, extensions, path_extensions, path_pairs}
use Rattle.qs_plan_meaning.specs.inner.Stages.{Made, looked, graph_named, register_of, gives, through}
use Rattle.qs_plan.specs.inner.Joins.{AllJoined, Ended, Free, IsEnd, Joined, Leading, Lower, Stands, Under, between, by_iri}
use Rattle.qs_plan.specs.inner.Numbers.{past}
use Rattle.qs_plan.specs.inner.Sames.{Misses, held}
use Rattle.qs_plan.proofs.Commutes.{SetBy, end_sets, scanned_each, path_even}
use Rattle.qs_plan.proofs.Levels.{gives_triple, gives_path, gives_union, through_append, through_one, flat_ap, map_flat}
use Rattle.qs_plan.proofs.Pairing.{Inside, led, path_led, inverse_led, iri_led, led_take, sequence_led, either_led, neither_led, single_pairs, no_pairs, more_pairs}
use Rattle.qs_plan.proofs.Widths.{all_append, all_flat}

-- ---- slots and rows

pub lower_more : (n k : ℕ) (s : Slot) → n ≤ k → Lower n s → Lower k s
lower_more n k (slot.Term t) le h = tt
lower_more n k (slot.Variable v) le h = omega (arith, le, h)

pub end_more : (n k : ℕ) (place : Look) (s : Slot) → n ≤ k → IsEnd n place s → IsEnd k place s
end_more n k place s le h = (lower_more n k s le h.0, h.1)

misses_above : (n : ℕ) (r : Option ℕ) (v : ℕ) → Under n r → n ≤ v → Misses r (slot.Variable v)
misses_above n None v u le = tt
misses_above n (Some r) v u le = λ e. absurd (omega (arith, e, u, le))

-- a hidden variable from `n` on is an end of what comes after it
pub middle_end : (n k : ℕ) (place : Look) (v : ℕ) → Under n (register_of place) → n ≤ v → v < k → IsEnd k place (slot.Variable v)
middle_end n k place v u le lt = (lt, misses_above n (register_of place) v u le)

pub under_more : (n k : ℕ) (r : Option ℕ) → n ≤ k → Under n r → Under k r
under_more n k None le u = tt
under_more n k (Some r) le u = omega (arith, le, u)

inside : (n : ℕ) (s : Slot) (m : Solution) → n ≤ length m → Lower n s → Inside s m
inside n s m le h = lower_more n (length m) s le h

free_less : (a b c d : ℕ) (m : Solution) → a ≤ b → d ≤ c → Free a c m → Free b d m
free_less a b c d m le less f = record { wide = omega (arith, f.wide, less); short = f.short; free = λ v h. f.free v (omega (arith, h, le)) }

-- rows that hold the same in the register look in the same graph
look_same : (quads : List Statement) (active : Graph) (place : Look) (m r : Solution) → held (register_of place) r ≡ held (register_of place) m → looked quads active place r ≡ looked quads active place m
look_same quads active look.Active m r e = refl
look_same quads active (look.Named name) m r e = refl
look_same quads active (look.Register v) m r e = ap (graph_named quads) e

set_held : (r : Option ℕ) (s : Slot) (t : Term) (m q : Solution) → Misses r s → SetBy s t m q → held r q ≡ held r m
set_held None s t m q w e = refl
set_held (Some r) (slot.Term c) t m q w e = ap (λ l. term_at l r) e
set_held (Some r) (slot.Variable v) t m q w (inl e) = ap (λ l. term_at l r) e
set_held (Some r) (slot.Variable v) t m q w (inr e) = ap (λ l. term_at l r) e.is ∙ get_or-set_other m v r (Some t) None (λ k. w (sym k))

-- what a path makes of a row holds what the row does
path_held : (r : Option ℕ) (p : PathPattern) (graph : Graph) (m : Solution) → Misses r p.subject → Misses r p.object → AllByRecursion (λ q. held r q ≡ held r m) (path_extensions p graph m)
path_held r p graph m a b = scanned_each (λ q. held r q ≡ held r m) (λ e. bound_ends p e m) one (path_pairs p graph)
  where
    one : (e : Pair) (q : Solution) → bound_ends p e m ≡ Some q → held r q ≡ held r m
    one e q h = at (bound_end p.subject e.left m) refl h
      where
        at : (x : Option Solution) → bound_end p.subject e.left m ≡ x → then_bound x (λ y. bound_end p.object e.right y) ≡ Some q → held r q ≡ held r m
        at None f k = let n : None ≡ Some q = k in cc
        at (Some y) f k = set_held r p.object e.right y q b (end_sets p.object e.right y q k) ∙ set_held r p.subject e.left m y a (end_sets p.subject e.left m y f)

-- ---- a path that stays one

set_ended : (n : ℕ) (s : Slot) (t : Term) (m q : Solution) → length m < past → Stands n s → SetBy s t m q → Ended n m m → Ended n m q
set_ended n (slot.Term c) t m q w st e f = subst (Ended n m) (sym e) f
set_ended n (slot.Variable v) t m q w st (inl e) f = subst (Ended n m) (sym e) f
set_ended n (slot.Variable v) t m q w st (inr e) f = subst (Ended n m) (sym e.is) (set st)
  where
    set : (v < n) ⊎ (past ≤ v) → Ended n m (slice_set m v (Some t))
    set (inl lt) = record { wide = length-set m v (Some t); free = λ u h. get_or-set_other m v u (Some t) None (λ k. absurd (omega (arith, k, lt, h))) ∙ f.free u h }
    set (inr le) = record { wide = length-set m v (Some t); free = λ u h. ap (λ l. term_at l u) (set_past m v (Some t) (omega (arith, le, w))) ∙ f.free u h }

ended_trans : (n k : ℕ) (m r q : Solution) → Ended n m r → Ended k r q → Ended k m q
ended_trans n k m r q a b = record { wide = b.wide ∙ a.wide; free = b.free }

path_ended : (n : ℕ) (p : PathPattern) (graph : Graph) (m : Solution) → length m < past → Stands n p.subject → Stands n p.object → Ended n m m → AllByRecursion (Ended n m) (path_extensions p graph m)
path_ended n p graph m w a b f = scanned_each (Ended n m) (λ e. bound_ends p e m) one (path_pairs p graph)
  where
    one : (e : Pair) (q : Solution) → bound_ends p e m ≡ Some q → Ended n m q
    one e q h = at (bound_end p.subject e.left m) refl h
      where
        at : (x : Option Solution) → bound_end p.subject e.left m ≡ x → then_bound x (λ y. bound_end p.object e.right y) ≡ Some q → Ended n m q
        at None g k = let c : None ≡ Some q = k in cc
        at (Some y) g k =
            let y_ended : Ended n m y = set_ended n p.subject e.left m y w a (end_sets p.subject e.left m y g) f in
            let here : Ended n y y = record { wide = refl; free = y_ended.free } in
            ended_trans n n m y q y_ended (set_ended n p.object e.right y q (omega (arith, w, y_ended.wide)) b (end_sets p.object e.right y q k) here)

ended_self : (from next : ℕ) (m : Solution) → Free from next m → Ended from m m
ended_self from next m f = record { wide = refl; free = f.free }

pub stands : (n : ℕ) (s : Slot) → Lower n s → Stands n s
stands n (slot.Term t) h = tt
stands n (slot.Variable v) h = inl h

pub whole_joined : (place : Look) (from next : ℕ) (stages : List Stage) (p : PathPattern) → Stands from p.subject → Stands from p.object → stages ≡ stage.Path place p ∷ [] → next ≡ from → Joined place from next stages p
whole_joined place from next stages p a b e n =
    subst (λ (k : ℕ). Joined place from k stages p) (sym n)
    (subst (λ (ss : List Stage). Joined place from from ss p) (sym e)
    (record {
      up = omega arith;
      rows = λ width quads active m f. ap (map (take from)) (is width quads active m);
      ended = λ width quads active m f.
          subst (AllByRecursion (Ended from m)) (sym (is width quads active m)) (path_ended from p (looked quads active place m) m f.short a b (ended_self from from m f));
    }))
  where
    is : (width : ℕ) (quads : List Statement) (active : Graph) (m : Solution) → through width quads active (stage.Path place p ∷ []) m ≡ path_extensions p (looked quads active place m) m
    is width quads active m = through_one width quads active (stage.Path place p) m ∙ gives_path width quads active m place p

-- stages that are joined make what another path does
joined_as : (place : Look) (from next : ℕ) (stages : List Stage) (p q : PathPattern) → ((graph : Graph) (m : Solution) → from ≤ length m → path_extensions p graph m ≡ path_extensions q graph m) → Joined place from next stages p → Joined place from next stages q
joined_as place from next stages p q e j = record {
  up = j.up;
  rows = λ width quads active m f. j.rows width quads active m f ∙ ap (map (take from)) (e (looked quads active place m) m (omega (arith, f.wide, j.up)));
  ended = j.ended;
}

-- ---- one IRI, and an inverse

pub iri_joined : (place : Look) (from next : ℕ) (stages : List Stage) (s : Slot) (i : List ℕ) (o : Slot) → Lower from s → Lower from o → stages ≡ stage.Triple place (by_iri s i o) ∷ [] → next ≡ from
    → Joined place from next stages (between s (path.Iri i) o)
iri_joined place from next stages s i o a b e n =
    subst (λ (k : ℕ). Joined place from k stages (between s (path.Iri i) o)) (sym n)
    (subst (λ (ss : List Stage). Joined place from from ss (between s (path.Iri i) o)) (sym e)
    (record {
      up = omega arith;
      rows = λ width quads active m f. ap (map (take from)) (is width quads active m f);
      ended = λ width quads active m f.
          subst (AllByRecursion (Ended from m)) (sym (is width quads active m f))
          (path_ended from (between s (path.Iri i) o) (looked quads active place m) m f.short (stands from s a) (stands from o b) (ended_self from from m f));
    }))
  where
    is : (width : ℕ) (quads : List Statement) (active : Graph) (m : Solution) → Free from from m
        → through width quads active (stage.Triple place (by_iri s i o) ∷ []) m ≡ path_extensions (between s (path.Iri i) o) (looked quads active place m) m
    is width quads active m f =
        through_one width quads active (stage.Triple place (by_iri s i o)) m
        ∙ (gives_triple width quads active m place (by_iri s i o) ∙ iri_led s o i (looked quads active place m) m (inside from s m f.wide a))

pub inverse_joined : (place : Look) (from next : ℕ) (stages : List Stage) (s : Slot) (p : Path) (o : Slot) → Lower from s → Lower from o → Joined place from next stages (between o p s)
    → Joined place from next stages (between s (path.Inverse p) o)
inverse_joined place from next stages s p o a b j =
    joined_as place from next stages (between o p s) (between s (path.Inverse p) o) (λ graph m le. inverse_led s o p graph m (inside from s m le a) (inside from o m le b)) j

-- ---- alternatives

pub joined_wider : (place : Look) (from next more : ℕ) (stages : List Stage) (p : PathPattern) → next ≤ more → Joined place from next stages p → Joined place from more stages p
joined_wider place from next more stages p le j = record {
  up = omega (arith, j.up, le);
  rows = λ width quads active m f. j.rows width quads active m (free_less from from more next m (omega arith) le f);
  ended = λ width quads active m f. wider m (through width quads active stages m) (j.ended width quads active m (free_less from from more next m (omega arith) le f));
}
  where
    wider : (m : Solution) (rs : List Solution) → AllByRecursion (Ended next m) rs → AllByRecursion (Ended more m) rs
    wider m [] h = tt
    wider m (r ∷ rs) h = (record { wide = h.0.wide; free = λ v k. h.0.free v (omega (arith, k, le)) }, wider m rs h.1)

pub branches_wider : (place : Look) (from next more : ℕ) (s o : Slot) (branches : List Group) (parts : List Path) → next ≤ more → AllJoined place from next s o branches parts → AllJoined place from more s o branches parts
branches_wider place from next more s o [] [] le h = tt
branches_wider place from next more s o [] (p ∷ parts) le h = absurd h
branches_wider place from next more s o (b ∷ branches) [] le h = absurd h
branches_wider place from next more s o (b ∷ branches) (p ∷ parts) le h = (joined_wider place from next more b.stages (between s p o) le h.0, branches_wider place from next more s o branches parts le h.1)

branches_more : (place : Look) (from next : ℕ) (s o : Slot) (branches : List Group) (parts : List Path) (b : Group) (p : Path) → AllJoined place from next s o branches parts → Joined place from next b.stages (between s p o)
    → AllJoined place from next s o (branches ++ b ∷ []) (parts ++ p ∷ [])
branches_more place from next s o [] [] b p h j = (j, tt)
branches_more place from next s o [] (q ∷ parts) b p h j = absurd h
branches_more place from next s o (c ∷ branches) [] b p h j = absurd h
branches_more place from next s o (c ∷ branches) (q ∷ parts) b p h j = (h.0, branches_more place from next s o branches parts b p h.1 j)

-- one more branch, whose hidden variables may end later or sooner
pub branch_more : (place : Look) (from next end more : ℕ) (s o : Slot) (branches : List Group) (parts : List Path) (stages : List Stage) (p : Path) → next ≤ more → end ≤ more
    → AllJoined place from next s o branches parts → Joined place from end stages (between s p o) → AllJoined place from more s o (branches ++ record { stages = stages } ∷ []) (parts ++ p ∷ [])
branch_more place from next end more s o branches parts stages p a b h j =
    branches_more place from more s o branches parts (record { stages = stages }) p (branches_wider place from next more s o branches parts a h) (joined_wider place from end more stages (between s p o) b j)

module _ (place : Look) (from next : ℕ) (s o : Slot) (a : Lower from s) (width : ℕ) (quads : List Statement) (active : Graph) (m : Solution) (f : Free from next m) (up : from ≤ next) where
  branch_rows : (branches : List Group) (parts : List Path) → AllJoined place from next s o branches parts
      → map (take from) (flat_map (λ b. through width quads active b.stages m) branches)
      ≡ map (take from) (led s o m (pairs (looked quads active place m) (path.Alternative parts) (end_of s) (end_of o)))
  branch_rows [] [] h = ap (map (take from)) (sym (neither_led s o m (looked quads active place m)))
  branch_rows [] (p ∷ parts) h = absurd h
  branch_rows (b ∷ branches) [] h = absurd h
  branch_rows (b ∷ branches) (p ∷ parts) h =
      let graph = looked quads active place m in
      let one : List Solution = led s o m (pairs graph p (end_of s) (end_of o)) in
      let rest : List Solution = led s o m (pairs graph (path.Alternative parts) (end_of s) (end_of o)) in
      map-append (take from) (through width quads active b.stages m) (flat_map (λ b. through width quads active b.stages m) branches)
      ∙ (ap (λ l. l ++ map (take from) (flat_map (λ b. through width quads active b.stages m) branches)) (h.0.rows width quads active m f ∙ ap (map (take from)) (path_led s o p graph m (inside from s m (omega (arith, f.wide, up)) a)))
      ∙ (ap (λ l. map (take from) one ++ l) (branch_rows branches parts h.1)
      ∙ (sym (map-append (take from) one rest) ∙ ap (map (take from)) (sym (either_led s o m graph p parts)))))

  branch_ended : (branches : List Group) (parts : List Path) → AllJoined place from next s o branches parts → AllByRecursion (Ended next m) (flat_map (λ b. through width quads active b.stages m) branches)
  branch_ended [] [] h = tt
  branch_ended [] (p ∷ parts) h = absurd h
  branch_ended (b ∷ branches) [] h = absurd h
  branch_ended (b ∷ branches) (p ∷ parts) h =
      all_append (Ended next m) (through width quads active b.stages m) (flat_map (λ b. through width quads active b.stages m) branches) (h.0.ended width quads active m f) (branch_ended branches parts h.1)

pub either_joined : (place : Look) (from next : ℕ) (stages : List Stage) (s : Slot) (parts : List Path) (o : Slot) (branches : List Group) → Lower from s → from ≤ next → AllJoined place from next s o branches parts
    → stages ≡ stage.Union branches ∷ [] → Joined place from next stages (between s (path.Alternative parts) o)
either_joined place from next stages s parts o branches a up h e =
    subst (λ (ss : List Stage). Joined place from next ss (between s (path.Alternative parts) o)) (sym e)
    (record {
      up = up;
      rows = λ width quads active m f.
          ap (map (take from)) (is width quads active m)
          ∙ (branch_rows place from next s o a width quads active m f up branches parts h
          ∙ ap (map (take from)) (sym (path_led s o (path.Alternative parts) (looked quads active place m) m (inside from s m (omega (arith, f.wide, up)) a))));
      ended = λ width quads active m f. subst (AllByRecursion (Ended next m)) (sym (is width quads active m)) (branch_ended place from next s o a width quads active m f up branches parts h);
    })
  where
    is : (width : ℕ) (quads : List Statement) (active : Graph) (m : Solution) → through width quads active (stage.Union branches ∷ []) m ≡ flat_map (λ b. through width quads active b.stages m) branches
    is width quads active m = through_one width quads active (stage.Union branches) m ∙ gives_union width quads active m branches

-- ---- sequences

pub none_joined : (place : Look) (from next : ℕ) (stages : List Stage) (s o : Slot) → stages ≡ stage.Union [] ∷ [] → next ≡ from → Joined place from next stages (between s (path.Sequence []) o)
none_joined place from next stages s o e n =
    subst (λ (k : ℕ). Joined place from k stages (between s (path.Sequence []) o)) (sym n)
    (subst (λ (ss : List Stage). Joined place from from ss (between s (path.Sequence []) o)) (sym e)
    (record {
      up = omega arith;
      rows = λ width quads active m f.
          ap (map (take from)) (is width quads active m)
          ∙ ap (λ l. map (take from) (led s o m (filter (fits (between s (path.Sequence []) o)) l))) (sym (no_pairs (looked quads active place m) (end_of s) (end_of o)));
      ended = λ width quads active m f. subst (AllByRecursion (Ended from m)) (sym (is width quads active m)) tt;
    }))
  where
    is : (width : ℕ) (quads : List Statement) (active : Graph) (m : Solution) → through width quads active (stage.Union [] ∷ []) m ≡ []
    is width quads active m = through_one width quads active (stage.Union []) m ∙ gives_union width quads active m []

single_joined : (place : Look) (from next : ℕ) (stages : List Stage) (s : Slot) (p : Path) (o : Slot) → Joined place from next stages (between s p o) → Joined place from next stages (between s (path.Sequence (p ∷ [])) o)
single_joined place from next stages s p o j =
    joined_as place from next stages (between s p o) (between s (path.Sequence (p ∷ [])) o)
    (λ graph m le. ap (λ l. led s o m (filter (fits (between s p o)) l)) (sym (single_pairs graph p (end_of s) (end_of o)))) j

map_take : (n k : ℕ) (xs : List Solution) → n ≤ k → map (take n) (map (take k) xs) ≡ map (take n) xs
map_take n k [] le = refl
map_take n k (x ∷ xs) le = ap (λ y. y ∷ map (take n) (map (take k) xs)) (take-take n k x le) ∙ ap (λ l. take n x ∷ l) (map_take n k xs le)

-- what is true of the first cells of rows, by a list of the same first cells
pub all_same : (P : Solution → Type 0) (f : Solution → Solution) (xs ys : List Solution) → map f xs ≡ map f ys → AllByRecursion (λ r. P (f r)) ys → AllByRecursion (λ r. P (f r)) xs
all_same P f xs ys e h = back xs (subst (AllByRecursion P) (sym e) (forth ys h))
  where
    forth : (ys : List Solution) → AllByRecursion (λ r. P (f r)) ys → AllByRecursion P (map f ys)
    forth [] h = tt
    forth (y ∷ ys) h = (h.0, forth ys h.1)

    back : (xs : List Solution) → AllByRecursion P (map f xs) → AllByRecursion (λ r. P (f r)) xs
    back [] h = tt
    back (x ∷ xs) h = (h.0, back xs h.1)

held_take : (n : ℕ) (r : Option ℕ) (m : Solution) → Under n r → held r (take n m) ≡ held r m
held_take n None m u = refl
held_take n (Some r) m u = get_or-take n m r None u

flat_where : (P : Solution → Type 0) (f g : Made) → ((x : Solution) → P x → f x ≡ g x) → (xs : List Solution) → AllByRecursion P xs → flat_map f xs ≡ flat_map g xs
flat_where P f g h [] k = refl
flat_where P f g h (x ∷ xs) k = ap (λ l. l ++ flat_map f xs) (h x k.0) ∙ ap (λ l. g x ++ l) (flat_where P f g h xs k.1)

all_both : (P Q : Solution → Type 0) (xs : List Solution) → AllByRecursion P xs → AllByRecursion Q xs → AllByRecursion (λ r. P r × Q r) xs
all_both P Q [] h k = tt
all_both P Q (x ∷ xs) h k = ((h.0, k.0), all_both P Q xs h.1 k.1)

-- the stages of the first part, which end in a hidden variable, and those of the other parts after them
module _ (place : Look) (h mid end : ℕ) (ss ts : List Stage) (s o : Slot) (p q : Path) (parts : List Path) (ls : IsEnd h place s) (lo : IsEnd h place o) (under : Under h (register_of place))
    (first : Joined place (h + 1) mid ss (between s p (slot.Variable h))) (rest : Joined place mid end ts (between (slot.Variable h) (path.Sequence (q ∷ parts)) o)) where
  abbrev others : Path
  others = path.Sequence (q ∷ parts)

  module _ (width : ℕ) (quads : List Statement) (active : Graph) (m : Solution) (f : Free h end m) where
    abbrev graph : Graph
    graph = looked quads active place m

    abbrev firsts : List Solution
    firsts = through width quads active ss m

    abbrev seconds : List Pair
    seconds = pairs graph others None (end_of o)

    begun : Free (h + 1) mid m
    begun = free_less h (h + 1) end mid m (omega arith) rest.up f

    first_rows : map (take (h + 1)) firsts ≡ map (take (h + 1)) (path_extensions (between s p (slot.Variable h)) graph m)
    first_rows = first.rows width quads active m begun

    -- what comes of the first part looks where the row does
    abbrev Fine : Solution → Type 0
    Fine r = Ended mid m r × (held (register_of place) r ≡ held (register_of place) m)

    fine : AllByRecursion Fine firsts
    fine = all_both (Ended mid m) (λ r. held (register_of place) r ≡ held (register_of place) m) firsts (first.ended width quads active m begun) (back firsts taken)
      where
        u : Under (h + 1) (register_of place)
        u = under_more h (h + 1) (register_of place) (omega arith) under

        forth : (rs : List Solution) → AllByRecursion (λ r. held (register_of place) r ≡ held (register_of place) m) rs → AllByRecursion (λ r. held (register_of place) (take (h + 1) r) ≡ held (register_of place) m) rs
        forth [] k = tt
        forth (r ∷ rs) k = (held_take (h + 1) (register_of place) r u ∙ k.0, forth rs k.1)

        back : (rs : List Solution) → AllByRecursion (λ r. held (register_of place) (take (h + 1) r) ≡ held (register_of place) m) rs → AllByRecursion (λ r. held (register_of place) r ≡ held (register_of place) m) rs
        back [] k = tt
        back (r ∷ rs) k = (sym (held_take (h + 1) (register_of place) r u) ∙ k.0, back rs k.1)

        taken : AllByRecursion (λ r. held (register_of place) (take (h + 1) r) ≡ held (register_of place) m) firsts
        taken =
            all_same (λ x. held (register_of place) x ≡ held (register_of place) m) (take (h + 1)) firsts (path_extensions (between s p (slot.Variable h)) graph m) first_rows
            (forth (path_extensions (between s p (slot.Variable h)) graph m)
            (path_held (register_of place) (between s p (slot.Variable h)) graph m ls.1 (misses_above h (register_of place) h under (omega arith))))

    second_free : (r : Solution) → Fine r → Free mid end r
    second_free r k = record { wide = omega (arith, f.wide, k.0.wide); short = omega (arith, f.short, k.0.wide); free = k.0.free }

    -- what the other parts make of rows that agree in the cells up to the hidden variable
    abbrev then_rows : Made
    then_rows r = map (take h) (led (slot.Variable h) o r seconds)

    then_taken : (r : Solution) → then_rows (take (h + 1) r) ≡ then_rows r
    then_taken r =
        let lower : Lower (h + 1) (slot.Variable h) = omega arith in
        ap (map (take h)) (sym (led_take (h + 1) (slot.Variable h) o r seconds lower (lower_more h (h + 1) o (omega arith) lo.0)))
        ∙ map_take h (h + 1) (led (slot.Variable h) o r seconds) (omega arith)

    second_rows : (r : Solution) → Fine r → map (take h) (through width quads active ts r) ≡ then_rows (take (h + 1) r)
    second_rows r k =
        let le : h ≤ mid = omega (arith, first.up) in
        let in_row : Inside (slot.Variable h) r = omega (arith, f.wide, k.0.wide, first.up, rest.up) in
        sym (map_take h mid (through width quads active ts r) le)
        ∙ (ap (map (take h)) (rest.rows width quads active r (second_free r k))
        ∙ (map_take h mid (path_extensions (between (slot.Variable h) others o) (looked quads active place r) r) le
        ∙ (ap (λ g. map (take h) (path_extensions (between (slot.Variable h) others o) g r)) (look_same quads active place m r k.1)
        ∙ (ap (map (take h)) (path_led (slot.Variable h) o others graph r in_row) ∙ sym (then_taken r)))))

    sequence_rows : map (take h) (through width quads active (ss ++ ts) m) ≡ map (take h) (path_extensions (between s (path.Sequence (p ∷ q ∷ parts)) o) graph m)
    sequence_rows =
        let le : h < length m = omega (arith, f.wide, first.up, rest.up) in
        let pair_rows : List Solution = path_extensions (between s p (slot.Variable h)) graph m in
        let i : Inside s m = lower_more h (length m) s (omega arith) ls.0 in
        ap (map (take h)) (through_append width quads active ss ts m)
        ∙ (map_flat (take h) (through width quads active ts) firsts
        ∙ (flat_where Fine (λ r. map (take h) (through width quads active ts r)) (λ r. then_rows (take (h + 1) r)) second_rows firsts fine
        ∙ (sym (flat_map-map then_rows (take (h + 1)) firsts)
        ∙ (ap (flat_map then_rows) first_rows
        ∙ (flat_map-map then_rows (take (h + 1)) pair_rows
        ∙ (flat_ap (λ r. then_rows (take (h + 1) r)) then_rows then_taken pair_rows
        ∙ (sym (map_flat (take h) (λ r. led (slot.Variable h) o r seconds) pair_rows)
        ∙ (ap (λ l. map (take h) (flat_map (λ r. led (slot.Variable h) o r seconds) l)) (path_led s (slot.Variable h) p graph m i)
        ∙ (sequence_led h s o m (pairs graph p (end_of s) None) seconds ls.0 lo.0 le (f.free h (omega arith))
        ∙ (ap (λ l. map (take h) (led s o m l)) (sym (more_pairs graph p q parts (end_of s) (end_of o)))
        ∙ ap (map (take h)) (sym (path_led s o (path.Sequence (p ∷ q ∷ parts)) graph m i))))))))))))

    sequence_ended : AllByRecursion (Ended end m) (through width quads active (ss ++ ts) m)
    sequence_ended =
        subst (AllByRecursion (Ended end m)) (sym (through_append width quads active ss ts m))
        (all_flat Fine (Ended end m) (through width quads active ts) (λ r k. each r k (through width quads active ts r) (rest.ended width quads active r (second_free r k))) firsts fine)
      where
        each : (r : Solution) → Fine r → (qs : List Solution) → AllByRecursion (Ended end r) qs → AllByRecursion (Ended end m) qs
        each r k [] g = tt
        each r k (x ∷ qs) g = (ended_trans mid end m r x k.0 g.0, each r k qs g.1)

  then_joined : Joined place h end (ss ++ ts) (between s (path.Sequence (p ∷ q ∷ parts)) o)
  then_joined = record {
    up = omega (arith, first.up, rest.up);
    rows = sequence_rows;
    ended = sequence_ended;
  }

-- ---- the parts, one after another

pub leading_none : (place : Look) (from next : ℕ) (s middle : Slot) (stages : List Stage) → IsEnd from place s → stages ≡ [] → middle ≡ s → next ≡ from → Leading place from s [] stages middle next
leading_none place from next s middle stages h e k n =
    subst (λ (x : ℕ). Leading place from s [] stages middle x) (sym n)
    (subst (λ (x : Slot). Leading place from s [] stages x from) (sym k)
    (subst (λ (ss : List Stage). Leading place from s [] ss s from) (sym e)
    (record { up = omega arith; is_end = h; then_rest = λ o part rest end more w j. j })))

pub leading_more : (place : Look) (from next mid : ℕ) (s left : Slot) (parts : List Path) (stages ss : List Stage) (p : Path) → Under from (register_of place) → Leading place from s parts stages left next
    → Joined place (next + 1) mid ss (between left p (slot.Variable next)) → Leading place from s (parts ++ p ∷ []) (stages ++ ss) (slot.Variable next) mid
leading_more place from next mid s left parts stages ss p under l j = record {
  up = omega (arith, l.up, j.up);
  is_end = middle_end from mid place next under l.up (omega (arith, j.up));
  then_rest = λ o part rest end more w k.
      subst (λ (x : List Stage). Joined place from end x (between s (path.Sequence ((parts ++ p ∷ []) ++ part ∷ rest)) o)) (sym (append_assoc stages ss more))
      (subst (λ (x : List Path). Joined place from end (stages ++ (ss ++ more)) (between s (path.Sequence x) o)) (sym (append_assoc parts (p ∷ []) (part ∷ rest)))
      (l.then_rest o p (part ∷ rest) end (ss ++ more) w
      (then_joined place next mid end ss more left o p part rest l.is_end (end_more from next place o l.up w) (under_more from next (register_of place) l.up under) j k)));
}

pub leading_last : (place : Look) (from next end : ℕ) (s left o : Slot) (parts : List Path) (stages more : List Stage) (p : Path) → IsEnd from place o → Leading place from s parts stages left next
    → Joined place next end more (between left p o) → Joined place from end (stages ++ more) (between s (path.Sequence (parts ++ p ∷ [])) o)
leading_last place from next end s left o parts stages more p w l j = l.then_rest o p [] end more w (single_joined place next end more left p o j)

-- ---- as a loop goes over the parts

pub part_more : (parts : List Path) (i : ℕ) (p : Path) → i < length parts → p ≡ get_or parts i p → take (i + 1) parts ≡ take i parts ++ p ∷ []
part_more parts i p lt is = take_more parts i p lt ∙ ap (λ x. take i parts ++ x ∷ []) (sym is)

pub all_parts : (parts : List Path) (i : ℕ) (p : Path) → i < length parts → i + 1 ≡ length parts → p ≡ get_or parts i p → take i parts ++ p ∷ [] ≡ parts
all_parts parts i p lt e is = sym (part_more parts i p lt is) ∙ take_all (i + 1) parts (omega (arith, e))

-- the path by its form
pub as_path : (place : Look) (from next : ℕ) (stages : List Stage) (s : Slot) (p q : Path) (o : Slot) → p ≡ q → Joined place from next stages (between s q o) → Joined place from next stages (between s p o)
as_path place from next stages s p q o e j = subst (λ (x : Path). Joined place from next stages (between s x o)) (sym e) j

pub no_parts : (parts : List Path) (i : ℕ) → length parts ≤ i → (0 < length parts → i < length parts) → parts ≡ []
no_parts [] i le h = refl
no_parts (p ∷ parts) i le h = let k : i < length (p ∷ parts) = h (omega arith) in absurd (omega (arith, k, le))

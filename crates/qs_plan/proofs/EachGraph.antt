-- GRAPH with a variable: a register holds each name in turn.
use Rattle.std.proofs.Common.{◌≡◌, ℕ, ◌+◌, ◌≤◌, Bool, true, false, cond, List, [], ◌∷◌, ◌++◌, map, take, length, Option, Some, None, slice_set, refl, sym, ◌∙◌, ap, subst, arith, append-nil}
use Rattle.std.specs.List.{AllByRecursion, filter, flat_map}
use Rattle.std.proofs.lemmas.Bool.{and_parts}
use Rattle.std.proofs.lemmas.List.Folds.{flat_map-map}
use Rattle.std.proofs.lemmas.List.{map-append, get_or-set_same, get_or-set_other, length-set, take-set-le}
use Rattle.std.proofs.lemmas.List.Sorted.{IsPermutation-refl, IsPermutation-append}
use Rattle.qs_terms.specs.Bag.{Distinct, SameBag}
use Rattle.qs_terms.specs.Dataset.{same_triple, graph_of, names_of}
use Rattle.qs_terms.specs.Statement.{Statement, same_statement}
use Rattle.qs_terms.specs.Term.{same_term}
use Rattle.qs_terms.specs.declared.term.Term.{Term}
use Rattle.qs_terms.proofs.SameTerm.{same_term-Decides}
use Rattle.qs_algebra_solutions.specs.Solution.{Solution, term_at, binding, compatible, compatible_terms, merge}
use Rattle.qs_algebra_solutions.specs.inner.Solution.{first_bound}
use Rattle.qs_algebra_solutions.specs.Operators.{merges, join}
use Rattle.qs_algebra_patterns.specs.Basic.{Graph as Triples}
use Rattle.qs_algebra_patterns.specs.Eval.{eval}
use Rattle.qs_algebra_patterns.specs.declared.pattern.PatternNode.{PatternNode}
use Rattle.qs_algebra_patterns.specs.declared.pattern.PatternNode.TheVariants as pattern
use Rattle.qs_algebra_patterns.proofs.Meaning.{eval_each_graph}
use Rattle.qs_plan_meaning.specs.declared.stage.Look.{Look}
use Rattle.qs_plan_meaning.specs.declared.stage.Look.TheVariants as look
use Rattle.qs_plan_meaning.specs.declared.stage.Stage.{Stage}
use Rattle.qs_plan_meaning.specs.declared.stage.Stage.TheVariants as stage
use Rattle.qs_plan_meaning.specs.inner.Stages.{Made, looked, graph_named, through}
use Rattle.qs_plan.specs.inner.Lays.{Ready, After, Lays, joined_with}
use Rattle.qs_plan.proofs.Commutes.{all_map, merges_append, merges_joined}
use Rattle.qs_plan.proofs.Levels.{gives_names, gives_name, through_append, through_one, map_flat}
use Rattle.qs_plan.proofs.Operators.{flat_map_same}
use Rattle.qs_plan.proofs.Widths.{all_append, all_flat, binding_width, short_merges}
use Rattle.qs_plan.proofs.Laying.{between, flat_each, merges_after}

-- ---- of each name

each_same : (f g : Term → List Solution) → ((n : Term) → SameBag (f n) (g n)) → (ns : List Term) → SameBag (flat_map f ns) (flat_map g ns)
each_same f g h [] = IsPermutation-refl []
each_same f g h (n ∷ ns) = IsPermutation-append (f n) (g n) (flat_map f ns) (flat_map g ns) (h n) (each_same f g h ns)

each_all : (P : Solution → Type 0) (f : Term → List Solution) → ((n : Term) → AllByRecursion P (f n)) → (ns : List Term) → AllByRecursion P (flat_map f ns)
each_all P f h [] = tt
each_all P f h (n ∷ ns) = all_append P (f n) (flat_map f ns) (h n) (each_all P f h ns)

each_mapped : (f : Solution → Solution) (g : Term → List Solution) (ns : List Term) → map f (flat_map g ns) ≡ flat_map (λ n. map f (g n)) ns
each_mapped f g [] = refl
each_mapped f g (n ∷ ns) = map-append f (g n) (flat_map g ns) ∙ ap (λ l. map f (g n) ++ l) (each_mapped f g ns)

each_merged : (f : Term → List Solution) (a : Solution) (ns : List Term) → flat_map (λ n. merges (f n) a) ns ≡ merges (flat_map f ns) a
each_merged f a [] = refl
each_merged f a (n ∷ ns) = ap (λ l. merges (f n) a ++ l) (each_merged f a ns) ∙ sym (merges_append a (f n) (flat_map f ns))

-- ---- a join with one solution, from either side

compatible_turned : (a b : Solution) → compatible a b ≡ compatible b a
compatible_turned [] [] = refl
compatible_turned [] (y ∷ b) = refl
compatible_turned (x ∷ a) [] = refl
compatible_turned (x ∷ a) (y ∷ b) = rw (terms x y, compatible_turned a b) refl
  where
    same : (x y : Term) (c d : Bool) → same_term x y ≡ c → same_term y x ≡ d → c ≡ d
    same x y true true e f = refl
    same x y false false e f = refl
    same x y true false e f = let h : x ≡ y = (same_term-Decides x y).0 e in sym ((same_term-Decides y x).1 (sym h)) ∙ f
    same x y false true e f = let h : y ≡ x = (same_term-Decides y x).0 f in sym e ∙ (same_term-Decides x y).1 (sym h)

    terms : (x y : Option Term) → compatible_terms x y ≡ compatible_terms y x
    terms None None = refl
    terms None (Some y) = refl
    terms (Some x) None = refl
    terms (Some x) (Some y) = same x y _ _ refl refl

merge_turned : (a b : Solution) → compatible a b ≡ true → merge a b ≡ merge b a
merge_turned [] [] c = refl
merge_turned [] (y ∷ b) c = refl
merge_turned (x ∷ a) [] c = refl
merge_turned (x ∷ a) (y ∷ b) c =
    let h = and_parts (compatible_terms x y) (compatible a b) c in
    ap (λ z. z ∷ merge a b) (terms x y h.0) ∙ ap (λ l. first_bound y x ∷ l) (merge_turned a b h.1)
  where
    terms : (x y : Option Term) → compatible_terms x y ≡ true → first_bound x y ≡ first_bound y x
    terms None None e = refl
    terms None (Some y) e = refl
    terms (Some x) None e = refl
    terms (Some x) (Some y) e = ap Some ((same_term-Decides x y).0 e)

joined_one : (o : Solution) (xs : List Solution) → join xs (o ∷ []) ≡ join (o ∷ []) xs
joined_one o xs = one_by_one xs ∙ sym (append-nil (merges xs o))
  where
    at : (x : Solution) (xs : List Solution) (b : Bool) → compatible o x ≡ b → map (merge x) (cond b (o ∷ []) []) ++ map (merge o) (filter (compatible o) xs) ≡ map (merge o) (cond b (x ∷ filter (compatible o) xs) (filter (compatible o) xs))
    at x xs true e = ap (λ z. z ∷ map (merge o) (filter (compatible o) xs)) (sym (merge_turned o x e))
    at x xs false e = refl

    one_by_one : (xs : List Solution) → join xs (o ∷ []) ≡ merges xs o
    one_by_one [] = refl
    one_by_one (x ∷ xs) =
        ap (λ b. map (merge x) (cond b (o ∷ []) []) ++ join xs (o ∷ [])) (compatible_turned x o)
        ∙ (ap (λ l. map (merge x) (cond (compatible o x) (o ∷ []) []) ++ l) (one_by_one xs) ∙ at x xs (compatible o x) refl)

module _ (first : Bool) (width : ℕ) (from next : ℕ) (ss : List Stage) (v : ℕ) (part : PatternNode) (named : width ≤ from) (l : Lays first width (look.Register from) (from + 1) next ss (joined_with width part)) where
  module _ (quads : List Statement) (active : Triples) (m : Solution) (r : Ready width first from next m) where
    -- the row with the register holding this name
    abbrev holding : Term → Solution
    holding n = slice_set m from (Some n)

    -- the solution that binds the variable to it
    abbrev own : Term → List Solution
    own n = binding width (v ∷ []) (Some n ∷ []) ∷ []

    holds : (n : Term) → term_at (holding n) from ≡ Some n
    holds n = get_or-set_same m from (Some n) None (omega (arith, l.up, r.wide))

    other : (n : Term) (w : ℕ) → (w ≡ from → ⊥) → term_at (holding n) w ≡ term_at m w
    other n w ne = get_or-set_other m from w (Some n) None ne

    same_front : (n : Term) → take width (holding n) ≡ take width m
    same_front n = take-set-le width m from (Some n) named

    ready : (n : Term) → Ready width first (from + 1) next (holding n)
    ready n = record {
      wide = omega (arith, length-set m from (Some n), r.wide);
      short = omega (arith, length-set m from (Some n), r.short);
      free = λ w h. other n w (λ e. omega (arith, e, h)) ∙ r.free w (omega (arith, h));
      start = λ e. same_front n ∙ r.start e;
    }

    own_short : (n : Term) → AllByRecursion (λ x. length x ≤ width) (own n)
    own_short n = ((let e : length (binding width (v ∷ []) (Some n ∷ [])) ≡ width = binding_width width (v ∷ []) (Some n ∷ []) in omega (arith, e)), tt)

    -- what the last stage makes of a row that comes of it
    last : (n : Term) (x : Solution) → After width (from + 1) next (holding n) x → through width quads active (stage.Name v from ∷ []) x ≡ merges (own n) x
    last n x a =
        through_one width quads active (stage.Name v from) x
        ∙ (gives_name width quads active x v from ∙ ap (λ o. merges (binding width (v ∷ []) (o ∷ []) ∷ []) x) (a.kept from named (omega arith) ∙ holds n))

    last_front : (n : Term) (x : Solution) → After width (from + 1) next (holding n) x → map (take width) (through width quads active (stage.Name v from ∷ []) x) ≡ merges (own n) (take width x)
    last_front n x a = ap (map (take width)) (last n x a) ∙ short_merges width (own n) x (own_short n)

    all_rows : through width quads active (stage.Names from ∷ (ss ++ stage.Name v from ∷ [])) m ≡ flat_map (λ n. through width quads active (ss ++ stage.Name v from ∷ []) (holding n)) (names_of quads)
    all_rows =
        ap (flat_map (through width quads active (ss ++ stage.Name v from ∷ []))) (gives_names width quads active m from)
        ∙ flat_map-map (through width quads active (ss ++ stage.Name v from ∷ [])) holding (names_of quads)

    -- ---- the other cells

    after_last : (n : Term) (x : Solution) → After width (from + 1) next (holding n) x → (q : Solution) → After width next next x q → After width from next m q
    after_last n x a q b = record {
      wide = b.wide ∙ (a.wide ∙ length-set m from (Some n));
      free = b.free;
      kept = λ w h k. b.kept w h (omega (arith, k, l.up)) ∙ (a.kept w h (omega (arith, k)) ∙ other n w (λ e. omega (arith, e, k)));
    }

    after_one : (n : Term) → AllByRecursion (After width from next m) (through width quads active (ss ++ stage.Name v from ∷ []) (holding n))
    after_one n =
        subst (AllByRecursion (After width from next m)) (sym (through_append width quads active ss (stage.Name v from ∷ []) (holding n)))
        (all_flat (After width (from + 1) next (holding n)) (After width from next m) (through width quads active (stage.Name v from ∷ []))
        (λ x a. subst (AllByRecursion (After width from next m)) (sym (last n x a))
        (all_map (After width next next x) (After width from next m) (after_last n x a) (merges (own n) x)
        (merges_after width next (omega (arith, named, l.up)) x (omega (arith, a.wide, length-set m from (Some n), r.wide)) a.free (own n) (own_short n))))
        (through width quads active ss (holding n)) (l.after quads active (holding n) (ready n)))

    -- ---- the bag

    one_bag : Distinct same_statement quads → Distinct same_triple active → (n : Term)
        → SameBag (map (take width) (through width quads active (ss ++ stage.Name v from ∷ []) (holding n))) (merges (join (eval width quads part (graph_of quads (Some n))) (own n)) (take width m))
    one_bag d e n =
        let rows = through width quads active ss (holding n) in
        let right = eval width quads part (graph_of quads (Some n)) in
        between _ (flat_map (merges (own n)) (map (take width) rows)) _ (flat_map (merges (own n)) (merges right (take width m)))
        (ap (map (take width)) (through_append width quads active ss (stage.Name v from ∷ []) (holding n))
        ∙ (map_flat (take width) (through width quads active (stage.Name v from ∷ [])) rows
        ∙ (flat_on (After width (from + 1) next (holding n)) (λ x. map (take width) (through width quads active (stage.Name v from ∷ []) x)) (λ x. merges (own n) (take width x)) (last_front n) rows (l.after quads active (holding n) (ready n))
        ∙ sym (flat_map-map (merges (own n)) (take width) rows))))
        (flat_map_same (merges (own n)) (merges (own n)) (map (take width) rows) (merges right (take width m))
        (subst (λ (a : Solution). SameBag (map (take width) rows) (merges right a)) (same_front n)
        (subst (λ (o : Option Term). SameBag (map (take width) rows) (merges (eval width quads part (graph_named quads o)) (take width (holding n)))) (holds n) (l.bag quads active d e (holding n) (ready n))))
        (λ x. IsPermutation-refl (merges (own n) x)))
        (merges_joined right (own n) (take width m))
      where
        flat_on : (P : Solution → Type 0) (f g : Made) → ((x : Solution) → P x → f x ≡ g x) → (xs : List Solution) → AllByRecursion P xs → flat_map f xs ≡ flat_map g xs
        flat_on P f g h [] k = refl
        flat_on P f g h (x ∷ xs) k = ap (λ l. l ++ flat_map f xs) (h x k.0) ∙ ap (λ l. g x ++ l) (flat_on P f g h xs k.1)

    -- ---- the name before the part

    named_rows : (n : Term) → through width quads active (stage.Name v from ∷ ss) (holding n) ≡ flat_map (through width quads active ss) (merges (own n) (holding n))
    named_rows n =
        ap (flat_map (through width quads active ss)) (gives_name width quads active (holding n) v from ∙ ap (λ o. merges (binding width (v ∷ []) (o ∷ []) ∷ []) (holding n)) (holds n))

    all_named : through width quads active (stage.Names from ∷ stage.Name v from ∷ ss) m ≡ flat_map (λ n. through width quads active (stage.Name v from ∷ ss) (holding n)) (names_of quads)
    all_named =
        ap (flat_map (through width quads active (stage.Name v from ∷ ss))) (gives_names width quads active m from)
        ∙ flat_map-map (through width quads active (stage.Name v from ∷ ss)) holding (names_of quads)

    joined_rows : (n : Term) → AllByRecursion (After width (from + 1) (from + 1) (holding n)) (merges (own n) (holding n))
    joined_rows n = merges_after width (from + 1) (omega (arith, named)) (holding n) (omega (arith, (ready n).wide, l.up)) (ready n).free (own n) (own_short n)

    module _ (later : first ≡ false) where
      ready_named : (n : Term) (x : Solution) → After width (from + 1) (from + 1) (holding n) x → Ready width first (from + 1) next x
      ready_named n x a = record {
        wide = omega (arith, a.wide, (ready n).wide);
        short = omega (arith, a.wide, (ready n).short);
        free = a.free;
        start = λ h. absurd (let f : false ≡ true = sym later ∙ h in cc);
      }

      named_bag : Distinct same_statement quads → Distinct same_triple active → (n : Term)
          → SameBag (map (take width) (through width quads active (stage.Name v from ∷ ss) (holding n))) (merges (join (eval width quads part (graph_of quads (Some n))) (own n)) (take width m))
      named_bag d e n =
          let rows = merges (own n) (holding n) in
          let right = eval width quads part (graph_of quads (Some n)) in
          between _ (flat_map (λ x. map (take width) (through width quads active ss x)) rows) _ (flat_map (λ x. merges right (take width x)) rows)
          (ap (map (take width)) (named_rows n) ∙ map_flat (take width) (through width quads active ss) rows)
          (flat_each (After width (from + 1) (from + 1) (holding n)) (λ x. map (take width) (through width quads active ss x)) (λ x. merges right (take width x))
          (λ x a. subst (λ (o : Option Term). SameBag (map (take width) (through width quads active ss x)) (merges (eval width quads part (graph_named quads o)) (take width x))) (a.kept from named (omega arith) ∙ holds n)
          (l.bag quads active d e x (ready_named n x a)))
          rows (joined_rows n))
          (sym (flat_map-map (merges right) (take width) rows)
          ∙ (ap (flat_map (merges right)) (short_merges width (own n) (holding n) (own_short n))
          ∙ (ap (λ a. flat_map (merges right) (merges (own n) a)) (same_front n)
          ∙ (merges_joined (own n) right (take width m) ∙ ap (λ xs. merges xs (take width m)) (sym (joined_one (binding width (v ∷ []) (Some n ∷ [])) right))))))

      bound_bag : (place : Look) → Distinct same_statement quads → Distinct same_triple active
          → SameBag (map (take width) (through width quads active (stage.Names from ∷ stage.Name v from ∷ ss) m)) (joined_with width (pattern.EachGraph v part) quads (looked quads active place m) (take width m))
      bound_bag place d e =
          let f = λ (n : Term). join (eval width quads part (graph_of quads (Some n))) (own n) in
          between _ _ _ _
          (ap (map (take width)) all_named ∙ each_mapped (take width) (λ n. through width quads active (stage.Name v from ∷ ss) (holding n)) (names_of quads))
          (each_same (λ n. map (take width) (through width quads active (stage.Name v from ∷ ss) (holding n))) (λ n. merges (f n) (take width m)) (named_bag d e) (names_of quads))
          (each_merged f (take width m) (names_of quads) ∙ ap (λ xs. merges xs (take width m)) (sym (eval_each_graph width quads (looked quads active place m) v part)))

      after_part : (n : Term) (x : Solution) → After width (from + 1) (from + 1) (holding n) x → (q : Solution) → After width (from + 1) next x q → After width from next m q
      after_part n x a q b = record {
        wide = b.wide ∙ (a.wide ∙ length-set m from (Some n));
        free = b.free;
        kept = λ w h k. b.kept w h (omega (arith, k)) ∙ (a.kept w h (omega (arith, k)) ∙ other n w (λ e. omega (arith, e, k)));
      }

      after_named : (n : Term) → AllByRecursion (After width from next m) (through width quads active (stage.Name v from ∷ ss) (holding n))
      after_named n =
          subst (AllByRecursion (After width from next m)) (sym (named_rows n))
          (all_flat (After width (from + 1) (from + 1) (holding n)) (After width from next m) (through width quads active ss)
          (λ x a. all_map (After width (from + 1) next x) (After width from next m) (after_part n x a) (through width quads active ss x) (l.after quads active x (ready_named n x a)))
          (merges (own n) (holding n)) (joined_rows n))

    each_bag : (place : Look) → Distinct same_statement quads → Distinct same_triple active
        → SameBag (map (take width) (through width quads active (stage.Names from ∷ (ss ++ stage.Name v from ∷ [])) m)) (joined_with width (pattern.EachGraph v part) quads (looked quads active place m) (take width m))
    each_bag place d e =
        let f = λ (n : Term). join (eval width quads part (graph_of quads (Some n))) (own n) in
        between _ _ _ _
        (ap (map (take width)) all_rows ∙ each_mapped (take width) (λ n. through width quads active (ss ++ stage.Name v from ∷ []) (holding n)) (names_of quads))
        (each_same (λ n. map (take width) (through width quads active (ss ++ stage.Name v from ∷ []) (holding n))) (λ n. merges (f n) (take width m)) (one_bag d e) (names_of quads))
        (each_merged f (take width m) (names_of quads) ∙ ap (λ xs. merges xs (take width m)) (sym (eval_each_graph width quads (looked quads active place m) v part)))

  pub each_lays : (place : Look) (stages : List Stage) → stages ≡ stage.Names from ∷ (ss ++ stage.Name v from ∷ []) → Lays first width place from next stages (joined_with width (pattern.EachGraph v part))
  each_lays place stages e =
      subst (λ (all : List Stage). Lays first width place from next all (joined_with width (pattern.EachGraph v part))) (sym e)
      (record {
        named = named;
        up = omega (arith, l.up);
        bag = λ quads active d k m r. each_bag quads active m r place d k;
        after = λ quads active m r. subst (AllByRecursion (After width from next m)) (sym (all_rows quads active m r)) (each_all (After width from next m) (λ n. through width quads active (ss ++ stage.Name v from ∷ []) (slice_set m from (Some n))) (after_one quads active m r) (names_of quads));
      })

  -- the name before the part, whether or not other stages stand before
  pub bound_lays : first ≡ false → (whole : Bool) (place : Look) (stages : List Stage) → stages ≡ stage.Names from ∷ stage.Name v from ∷ ss → Lays whole width place from next stages (joined_with width (pattern.EachGraph v part))
  bound_lays later whole place stages e =
      subst (λ (all : List Stage). Lays whole width place from next all (joined_with width (pattern.EachGraph v part))) (sym e)
      (record {
        named = named;
        up = omega (arith, l.up);
        bag = λ quads active d k m r. bound_bag quads active m (sooner m r) later place d k;
        after = λ quads active m r.
            subst (AllByRecursion (After width from next m)) (sym (all_named quads active m (sooner m r)))
            (each_all (After width from next m) (λ n. through width quads active (stage.Name v from ∷ ss) (slice_set m from (Some n))) (after_named quads active m (sooner m r) later) (names_of quads));
      })
    where
      -- the row may bind named variables
      sooner : (m : Solution) → Ready width whole from next m → Ready width first from next m
      sooner m r = record {
        wide = r.wide;
        short = r.short;
        free = r.free;
        start = λ h. absurd (let f : false ≡ true = sym later ∙ h in cc);
      }

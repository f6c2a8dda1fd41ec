-- The levels of a walk, move by move, while the table grows.
use Rattle.std.proofs.Common.{◌≡◌, ℕ, ◌+◌, List, [], ◌∷◌, ◌++◌, refl, sym, ◌∙◌, ap, subst, append_assoc, append-nil, arith}
use Rattle.std.proofs.lemmas.List.Sorted.{IsPermutation-append_left, IsPermutation-sym}
use Rattle.std.specs.List.{AllByRecursion}
use Rattle.qs_terms.specs.declared.term.Term.{Term}
use Rattle.qs_algebra_solutions.specs.Solution.{Solution}
use Rattle.qs_expr.specs.inner.Cell.{Cells, row_solution}
use Rattle.qs_expr.specs.inner.Scratch.{Grows}
use Rattle.qs_ops_program.specs.inner.Flow.{Instruction}
use Rattle.qs_ops_program.specs.inner.Toil.{summed}
use Rattle.qs_ops_walk.specs.declared.source.Level.{Level}
use Rattle.qs_ops_walk.specs.declared.source.Item.{Item}
use Rattle.qs_ops_walk.specs.declared.walk.Step.TheVariants.{Moved, Gave}
use Rattle.qs_ops_walk.specs.inner.Setting.{Setting, known_of}
use Rattle.qs_ops_walk.specs.inner.Coming.{Going, going_of, level_items, flows, coming, FitsLevel, FitLevels}
use Rattle.qs_ops_walk.specs.inner.Moves.{flow_in, toil_in, Goes, item_moves, moves, OpensTo, IsStep}
use Rattle.qs_ops_walk.proofs.Bags.{same, between}
use Rattle.qs_ops_walk.proofs.Still.{levels_still, coming_same, moves_same}

module _ {X : Type 0} (P : X → Type 0) where
  pub all_last : (ls : List X) (l : X) → AllByRecursion P (ls ++ l ∷ []) → P l
  all_last [] l h = h.0
  all_last (x ∷ ls) l h = all_last ls l h.1

  pub all_others : (ls : List X) (l : X) → AllByRecursion P (ls ++ l ∷ []) → AllByRecursion P ls
  all_others [] l h = tt
  all_others (x ∷ ls) l h = (h.0, all_others ls l h.1)

  pub all_push : (ls : List X) (l : X) → AllByRecursion P ls → P l → AllByRecursion P (ls ++ l ∷ [])
  all_push [] l h k = (k, tt)
  all_push (x ∷ ls) l h k = (h.0, all_push ls l h.1 k)

module _ (s : Setting) (code : List Instruction) where
  abbrev known : List Term
  known = known_of s

  -- ---- what comes, at a push
  module _ (table : List Term) where
    coming_push : (ls : List Level) (l : Level) → coming s code table (ls ++ l ∷ []) ≡ flows s code (level_items s table l) ++ coming s code table ls
    coming_push [] l = sym (append-nil (flows s code (level_items s table l)))
    coming_push (x ∷ ls) l =
        ap (λ xs. xs ++ flows s code (level_items s table x)) (coming_push ls l)
        ∙ append_assoc (flows s code (level_items s table l)) (coming s code table ls) (flows s code (level_items s table x))

    moves_push : (ls : List Level) (l : Level) → moves s code table (ls ++ l ∷ []) ≡ 1 + (moves s code table ls + summed (item_moves s code) (level_items s table l))
    moves_push [] l = refl
    moves_push (x ∷ ls) l = omega (arith, moves_push ls l)

    -- a level with these items, at the end
    module _ (old ls : List Level) (l : Level) (xs : List Going) (e : old ≡ ls ++ l ∷ []) (g : level_items s table l ≡ xs) where
      pub coming_at : coming s code table old ≡ flows s code xs ++ coming s code table ls
      coming_at = ap (coming s code table) e ∙ (coming_push ls l ∙ ap (λ ys. flows s code ys ++ coming s code table ls) g)

      pub moves_at : moves s code table old ≡ 1 + (moves s code table ls + summed (item_moves s code) xs)
      moves_at = ap (moves s code table) e ∙ (moves_push ls l ∙ ap (λ ys. 1 + (moves s code table ls + summed (item_moves s code) ys)) g)

    module _ (old ls : List Level) (l : Level) (e : old ≡ ls ++ l ∷ []) where
      pub fits_last : FitLevels known table old → FitsLevel known table l
      fits_last h = all_last (FitsLevel known table) ls l (subst (λ (xs : List Level). FitLevels known table xs) e h)

      pub fit_others : FitLevels known table old → FitLevels known table ls
      fit_others h = all_others (FitsLevel known table) ls l (subst (λ (xs : List Level). FitLevels known table xs) e h)

      pub fit_pushed : FitLevels known table ls → FitsLevel known table l → FitLevels known table old
      fit_pushed h k = subst (λ (xs : List Level). FitLevels known table xs) (sym e) (all_push (FitsLevel known table) ls l h k)

  -- ---- a move: the last level is at work
  module _ (t0 : List Term) (old ls : List Level) (l : Level) (e : old ≡ ls ++ l ∷ []) where
    -- it has nothing left
    pub spent : level_items s t0 l ≡ [] → IsStep s code t0 old Moved t0 ls
    spent z = (same (coming s code t0 old) (coming s code t0 ls) (coming_at t0 old ls l [] e z), omega (arith, moves_at t0 old ls l [] e z))

    -- it gives a row, and k stands in its place
    module _ (i : Item) (k : Level) (p : level_items s t0 l ≡ going_of known t0 i ∷ level_items s t0 k) (mid : List Level) (f : mid ≡ ls ++ k ∷ []) where
      was : coming s code t0 old ≡ flow_in s code i.next t0 i.row ++ coming s code t0 mid
      was =
          let x : List Solution = flow_in s code i.next t0 i.row in
          let rest : List Solution = flows s code (level_items s t0 k) in
          let a : coming s code t0 old ≡ (x ++ rest) ++ coming s code t0 ls = coming_at t0 old ls l (going_of known t0 i ∷ level_items s t0 k) e p in
          let b : coming s code t0 mid ≡ rest ++ coming s code t0 ls = coming_at t0 mid ls k (level_items s t0 k) f refl in
          a ∙ (append_assoc x rest (coming s code t0 ls) ∙ ap (λ xs. x ++ xs) (sym b))

      moves_was : moves s code t0 old ≡ 1 + (toil_in s code i.next t0 i.row + moves s code t0 mid)
      moves_was =
          let a : moves s code t0 old ≡ 1 + (moves s code t0 ls + summed (item_moves s code) (going_of known t0 i ∷ level_items s t0 k)) = moves_at t0 old ls l (going_of known t0 i ∷ level_items s t0 k) e p in
          let b : moves s code t0 mid ≡ 1 + (moves s code t0 ls + summed (item_moves s code) (level_items s t0 k)) = moves_at t0 mid ls k (level_items s t0 k) f refl in
          omega arith

      -- the row is taken on, and the table is t1 after it
      module _ (t1 : List Term) (g : Grows known t0 t1) (fit : FitLevels known t0 mid) (n : Cells) where
        -- nothing comes of it
        pub ended : flow_in s code i.next t0 i.row ≡ [] → IsStep s code t0 old Moved t1 mid
        ended z =
            let a : coming s code t0 old ≡ coming s code t0 mid = was ∙ ap (λ xs. xs ++ coming s code t0 mid) z in
            let b : coming s code t1 mid ≡ coming s code t0 mid = coming_same s t0 t1 g code mid fit in
            let c : moves s code t1 mid ≡ moves s code t0 mid = moves_same s t0 t1 g code mid fit in
            (same (coming s code t0 old) (coming s code t1 mid) (a ∙ sym b), omega (arith, moves_was))

        -- it is finished
        pub gave : Goes s code i.next t0 (i.row) 0 t1 n → IsStep s code t0 old (Gave n) t1 mid
        gave z =
            let b : coming s code t1 mid ≡ coming s code t0 mid = coming_same s t0 t1 g code mid fit in (
              same (coming s code t0 old) (row_solution known t1 n ∷ coming s code t1 mid)
                  (was ∙ (ap (λ xs. xs ++ coming s code t0 mid) z.rows ∙ ap (λ xs. row_solution known t1 n ∷ xs) (sym b))),
              z.fits,
            )

        -- it opens the next level, and the table is t2 after it
        module _ (at : ℕ) (z : Goes s code i.next t0 i.row at t1 n) (t2 : List Term) (j : Grows known t1 t2) (next : Level) (now : List Level) (u : now ≡ mid ++ next ∷ []) (o : OpensTo s code at t1 n t2 next) where
          pub hit_fit : FitLevels known t2 now
          hit_fit = fit_pushed t2 now mid next u (levels_still s t1 t2 j mid (levels_still s t0 t1 g mid fit)) o.fits

          pub hit : IsStep s code t0 old Moved t2 now
          hit =
              let T : List Solution = flows s code (level_items s t2 next) in
              let F : List Solution = flow_in s code at t1 n in
              let a : coming s code t2 now ≡ T ++ coming s code t2 mid = coming_at t2 now mid next (level_items s t2 next) u refl in
              let b : coming s code t1 mid ≡ coming s code t0 mid = coming_same s t0 t1 g code mid fit in
              let c : coming s code t2 mid ≡ coming s code t1 mid = coming_same s t1 t2 j code mid (levels_still s t0 t1 g mid fit) in
              let d : coming s code t0 old ≡ F ++ coming s code t2 mid = was ∙ (ap (λ xs. xs ++ coming s code t0 mid) z.rows ∙ ap (λ xs. F ++ xs) (sym (c ∙ b))) in
              let ma : moves s code t2 now ≡ 1 + (moves s code t2 mid + summed (item_moves s code) (level_items s t2 next)) = moves_at t2 now mid next (level_items s t2 next) u refl in
              let mb : moves s code t1 mid ≡ moves s code t0 mid = moves_same s t0 t1 g code mid fit in
              let mc : moves s code t2 mid ≡ moves s code t1 mid = moves_same s t1 t2 j code mid (levels_still s t0 t1 g mid fit) in (
                between (coming s code t0 old) (F ++ coming s code t2 mid) (coming s code t2 now) (T ++ coming s code t2 mid) d (IsPermutation-append_left (coming s code t2 mid) F T (IsPermutation-sym T F o.rows)) a,
                omega (arith, z.toil, moves_was, o.moves),
              )

-- The arms of both functions, and one part more of their loops.
use Rattle.std.proofs.Common.{◌≡◌, ℕ, ◌+◌, ◌<◌, Bool, true, false, ◌||◌, ◌&&◌, ◌==◌, List, [], ◌∷◌, Option, map, slice_set, length, take, get_or, nat_lt, refl, ap, sym, ◌∙◌, arith}
use Rattle.std.specs.List.{list_any, list_all}
use Rattle.std.specs.Option.{is_some}
use Rattle.qs_terms.specs.declared.term.Term.{Term}
use Rattle.qs_algebra_solutions.specs.Solution.{Solution, term_at, binding}
use Rattle.std.proofs.lemmas.Bool.{lt-ltb}
use Rattle.std.proofs.lemmas.List.{take_more}
use Rattle.std.proofs.lemmas.List.Folds.{list_any_more, list_all-append}
use Rattle.qs_expr_meaning.specs.declared.expr.Expr.{Expr}
use Rattle.qs_algebra_patterns.specs.declared.pattern.BasicPattern.{BasicPattern}
use Rattle.qs_algebra_patterns.specs.declared.pattern.PatternNode.{PatternNode}
use Rattle.qs_algebra_patterns.specs.declared.pattern.PatternNode.TheVariants.{Basic, Group, Union, Graph, EachGraph, Values}
use Rattle.qs_algebra_patterns.specs.declared.pattern.Step.{Step}
use Rattle.qs_algebra_patterns.specs.declared.pattern.Step.TheVariants.{Join, LeftJoin, Minus, Extend}
use Rattle.qs_algebra_patterns.specs.declared.table.Table.{Table}
use Rattle.qs_algebra_patterns.specs.inner.Basic.{occurs}
use Rattle.qs_algebra.specs.inner.Flags.{flags_from}
use Rattle.qs_algebra.specs.inner.Flags.{flag_at}
use Rattle.qs_algebra.specs.inner.Certain.{is_certain, is_certain_step, is_column, is_set}
use Rattle.qs_algebra.specs.inner.Possible.{is_possible, is_possible_step}
use Rattle.qs_algebra.proofs.FlagLaws.{same_flags, flag_is}
use Rattle.qs_algebra.proofs.Variants.{certain_basic, certain_group, certain_union, certain_graph, certain_each_graph, certain_values, certain_join, certain_left_join, certain_minus, certain_extend, possible_basic, possible_group, possible_union, possible_graph, possible_each_graph, possible_values, possible_join, possible_left_join, possible_minus, possible_extend}
use Rattle.qs_algebra.proofs.ColumnLaws.{set_here}

within : (v width : ℕ) (b : Bool) → v < width → b ≡ (nat_lt v width && b)
within v width b h = sym (ap (λ x. x && b) (lt-ltb v width h))

and_true : (b : Bool) → (b && true) ≡ b
and_true true = refl
and_true false = refl

or_turned : (a b : Bool) → (a || b) ≡ (b || a)
or_turned true true = refl
or_turned true false = refl
or_turned false true = refl
or_turned false false = refl

all_rows : (width v : ℕ) (vs : List ℕ) (rows : List (List (Option Term))) → list_all (λ row. is_some (term_at (binding width vs row) v)) rows ≡ list_all (λ (m : Solution). is_some (term_at m v)) (map (binding width vs) rows)
all_rows width v vs [] = refl
all_rows width v vs (row ∷ rows) = ap (λ b. is_some (term_at (binding width vs row) v) && b) (all_rows width v vs rows)

module _ (width : ℕ) (p : PatternNode) (flags : List Bool) where
  -- a pattern of one variant, by the answer at each number
  arm : (f g : ℕ → Bool) → ((v : ℕ) → v < width → f v ≡ g v) → flags ≡ flags_from f 0 width → flags ≡ flags_from g 0 width
  arm f g same h = h ∙ same_flags f g 0 width (λ v low high. same v (omega (arith, high)))

  pub certain_basic_arm : (b : BasicPattern) → p ≡ Basic b → flags ≡ flags_from (occurs b) 0 width → flags ≡ flags_from (is_certain width p) 0 width
  certain_basic_arm b is h =
      arm (occurs b) (is_certain width p) (λ v lt. within v width (occurs b v) lt ∙ sym (ap (λ q. is_certain width q v) is ∙ certain_basic width v b)) h

  pub certain_group_arm : (steps ss : List Step) (conditions : List Expr) → p ≡ Group steps conditions → ss ≡ steps → flags ≡ flags_from (λ v. list_any (λ s. is_certain_step width s v) ss) 0 width → flags ≡ flags_from (is_certain width p) 0 width
  certain_group_arm steps ss conditions is e h =
      arm _ (is_certain width p) (λ v lt. ap (list_any (λ s. is_certain_step width s v)) e ∙ sym (ap (λ q. is_certain width q v) is ∙ certain_group width v steps conditions)) h

  pub certain_union_arm : (parts ps : List PatternNode) → p ≡ Union parts → ps ≡ parts → flags ≡ flags_from (λ v. list_all (λ part. is_certain width part v) ps) 0 width → flags ≡ flags_from (is_certain width p) 0 width
  certain_union_arm parts ps is e h =
      arm _ (is_certain width p) (λ v lt. ap (list_all (λ part. is_certain width part v)) e ∙ sym (ap (λ q. is_certain width q v) is ∙ certain_union width v parts)) h

  pub certain_graph_arm : (name : Term) (a part : PatternNode) → p ≡ Graph name a → part ≡ a → flags ≡ flags_from (is_certain width part) 0 width → flags ≡ flags_from (is_certain width p) 0 width
  certain_graph_arm name a part is e h =
      arm _ (is_certain width p) (λ v lt. ap (λ q. is_certain width q v) e ∙ sym (ap (λ q. is_certain width q v) is ∙ certain_graph width v name a)) h

  pub certain_each_arm : (w : ℕ) (a part : PatternNode) (before : List Bool) → p ≡ EachGraph w a → part ≡ a → before ≡ flags_from (is_certain width part) 0 width → flags ≡ slice_set before w true → flags ≡ flags_from (is_certain width p) 0 width
  certain_each_arm w a part before is e h f =
      arm _ (is_certain width p) (λ v lt. or_turned (is_certain width part v) (w == v) ∙ ap (λ b. b || is_certain width part v) (within v width (w == v) lt) ∙ ap (λ q. nat_lt v width && w == v || is_certain width q v) e ∙ sym (ap (λ q. is_certain width q v) is ∙ certain_each_graph width v w a))
      (f ∙ ap (λ l. slice_set l w true) h ∙ set_here (is_certain width part) width w)

  pub possible_basic_arm : (b : BasicPattern) → p ≡ Basic b → flags ≡ flags_from (occurs b) 0 width → flags ≡ flags_from (is_possible width p) 0 width
  possible_basic_arm b is h =
      arm (occurs b) (is_possible width p) (λ v lt. within v width (occurs b v) lt ∙ sym (ap (λ q. is_possible width q v) is ∙ possible_basic width v b)) h

  pub possible_group_arm : (steps ss : List Step) (conditions : List Expr) → p ≡ Group steps conditions → ss ≡ steps → flags ≡ flags_from (λ v. list_any (λ s. is_possible_step width s v) ss) 0 width → flags ≡ flags_from (is_possible width p) 0 width
  possible_group_arm steps ss conditions is e h =
      arm _ (is_possible width p) (λ v lt. ap (list_any (λ s. is_possible_step width s v)) e ∙ sym (ap (λ q. is_possible width q v) is ∙ possible_group width v steps conditions)) h

  pub possible_union_arm : (parts ps : List PatternNode) → p ≡ Union parts → ps ≡ parts → flags ≡ flags_from (λ v. list_any (λ part. is_possible width part v) ps) 0 width → flags ≡ flags_from (is_possible width p) 0 width
  possible_union_arm parts ps is e h =
      arm _ (is_possible width p) (λ v lt. ap (list_any (λ part. is_possible width part v)) e ∙ sym (ap (λ q. is_possible width q v) is ∙ possible_union width v parts)) h

  pub possible_graph_arm : (name : Term) (a part : PatternNode) → p ≡ Graph name a → part ≡ a → flags ≡ flags_from (is_possible width part) 0 width → flags ≡ flags_from (is_possible width p) 0 width
  possible_graph_arm name a part is e h =
      arm _ (is_possible width p) (λ v lt. ap (λ q. is_possible width q v) e ∙ sym (ap (λ q. is_possible width q v) is ∙ possible_graph width v name a)) h

  pub possible_each_arm : (w : ℕ) (a part : PatternNode) (before : List Bool) → p ≡ EachGraph w a → part ≡ a → before ≡ flags_from (is_possible width part) 0 width → flags ≡ slice_set before w true → flags ≡ flags_from (is_possible width p) 0 width
  possible_each_arm w a part before is e h f =
      arm _ (is_possible width p) (λ v lt. or_turned (is_possible width part v) (w == v) ∙ ap (λ b. b || is_possible width part v) (within v width (w == v) lt) ∙ ap (λ q. nat_lt v width && w == v || is_possible width q v) e ∙ sym (ap (λ q. is_possible width q v) is ∙ possible_each_graph width v w a))
      (f ∙ ap (λ l. slice_set l w true) h ∙ set_here (is_possible width part) width w)

  pub certain_values_arm : (table : Table) → p ≡ Values table → flags ≡ flags_from (λ v. is_column table v && list_all (λ row. is_some (term_at (binding width table.variables row) v)) table.rows) 0 width → flags ≡ flags_from (is_certain width p) 0 width
  certain_values_arm table is h =
      arm _ (is_certain width p) (λ v lt. ap (λ b. is_column table v && b) (all_rows width v table.variables table.rows) ∙ within v width (is_column table v && is_set width table v) lt ∙ sym (ap (λ q. is_certain width q v) is ∙ certain_values width v table)) h

  pub possible_values_arm : (table : Table) → p ≡ Values table → flags ≡ flags_from (is_column table) 0 width → flags ≡ flags_from (is_possible width p) 0 width
  possible_values_arm table is h =
      arm _ (is_possible width p) (λ v lt. within v width (is_column table v) lt ∙ sym (ap (λ q. is_possible width q v) is ∙ possible_values width v table)) h

module _ (width : ℕ) (s : Step) (part : PatternNode) (flags : List Bool) where
  step_arm : (f g : ℕ → Bool) → ((v : ℕ) → f v ≡ g v) → flags ≡ flags_from f 0 width → flags ≡ flags_from g 0 width
  step_arm f g same h = h ∙ same_flags f g 0 width (λ v low high. same v)

  pub certain_join_arm : s ≡ Join part → flags ≡ flags_from (is_certain width part) 0 width → flags ≡ flags_from (is_certain_step width s) 0 width
  certain_join_arm is h = step_arm _ _ (λ v. sym (ap (λ t. is_certain_step width t v) is ∙ certain_join width v part)) h

  pub certain_left_join_arm : (conditions : List Expr) → s ≡ LeftJoin part conditions → flags ≡ flags_from (λ v. false) 0 width → flags ≡ flags_from (is_certain_step width s) 0 width
  certain_left_join_arm conditions is h = step_arm _ _ (λ v. sym (ap (λ t. is_certain_step width t v) is ∙ certain_left_join width v part conditions)) h

  pub certain_minus_arm : s ≡ Minus part → flags ≡ flags_from (λ v. false) 0 width → flags ≡ flags_from (is_certain_step width s) 0 width
  certain_minus_arm is h = step_arm _ _ (λ v. sym (ap (λ t. is_certain_step width t v) is ∙ certain_minus width v part)) h

  pub possible_join_arm : s ≡ Join part → flags ≡ flags_from (is_possible width part) 0 width → flags ≡ flags_from (is_possible_step width s) 0 width
  possible_join_arm is h = step_arm _ _ (λ v. sym (ap (λ t. is_possible_step width t v) is ∙ possible_join width v part)) h

  pub possible_left_join_arm : (conditions : List Expr) → s ≡ LeftJoin part conditions → flags ≡ flags_from (is_possible width part) 0 width → flags ≡ flags_from (is_possible_step width s) 0 width
  possible_left_join_arm conditions is h = step_arm _ _ (λ v. sym (ap (λ t. is_possible_step width t v) is ∙ possible_left_join width v part conditions)) h

  pub possible_minus_arm : s ≡ Minus part → flags ≡ flags_from (λ v. false) 0 width → flags ≡ flags_from (is_possible_step width s) 0 width
  possible_minus_arm is h = step_arm _ _ (λ v. sym (ap (λ t. is_possible_step width t v) is ∙ possible_minus width v part)) h

module _ (width : ℕ) (s : Step) (w : ℕ) (e : Expr) (flags : List Bool) where
  pub certain_extend_arm : s ≡ Extend w e → flags ≡ flags_from (λ v. false) 0 width → flags ≡ flags_from (is_certain_step width s) 0 width
  certain_extend_arm is h = h ∙ same_flags (λ v. false) (is_certain_step width s) 0 width (λ v low high. sym (ap (λ t. is_certain_step width t v) is ∙ certain_extend width v w e))

  pub possible_extend_arm : (before : List Bool) → s ≡ Extend w e → before ≡ flags_from (λ v. false) 0 width → flags ≡ slice_set before w true → flags ≡ flags_from (is_possible_step width s) 0 width
  possible_extend_arm before is h f =
      f ∙ ap (λ l. slice_set l w true) h ∙ set_here (λ v. false) width w
      ∙ same_flags (λ v. false || w == v) (is_possible_step width s) 0 width (λ v low high. sym (ap (λ t. is_possible_step width t v) is ∙ possible_extend width v w e))

module _ {X : Type 0} (f : X → ℕ → Bool) (ps : List X) (i n : ℕ) (p : X) (flags more flags' : List Bool) where
  all_more : (v : ℕ) → i < length ps → (list_all (λ part. f part v) (take i ps) && f (get_or ps i p) v) ≡ list_all (λ part. f part v) (take (i + 1) ps)
  all_more v lt =
      sym (ap (list_all (λ part. f part v)) (take_more ps i p lt) ∙ (list_all-append (λ part. f part v) (take i ps) _ ∙ ap (λ b. list_all (λ part. f part v) (take i ps) && b) (and_true (f (get_or ps i p) v))))

  -- one part more, of which one is enough
  pub some_more : i < length ps → p ≡ get_or ps i p → flags ≡ flags_from (λ v. list_any (λ part. f part v) (take i ps)) 0 n → more ≡ flags_from (f p) 0 n
      → flags' ≡ flags_from (λ v. flag_at flags v || flag_at more v) 0 n → flags' ≡ flags_from (λ v. list_any (λ part. f part v) (take (i + 1) ps)) 0 n
  some_more lt is h k e =
      e ∙ same_flags _ _ 0 n (λ v low high.
      let below : v < n = omega (arith, high) in
      ap (λ l. flag_at l v || flag_at more v) h ∙ ap (λ b. b || flag_at more v) (flag_is _ n v below)
      ∙ ap (λ b. list_any (λ part. f part v) (take i ps) || b) (ap (λ l. flag_at l v) k ∙ flag_is (f p) n v below ∙ ap (λ q. f q v) is)
      ∙ sym (list_any_more (λ part. f part v) ps i p lt))

  -- one part more, of which each is needed
  pub every_more : i < length ps → p ≡ get_or ps i p → flags ≡ flags_from (λ v. list_all (λ part. f part v) (take i ps)) 0 n → more ≡ flags_from (f p) 0 n
      → flags' ≡ flags_from (λ v. flag_at flags v && flag_at more v) 0 n → flags' ≡ flags_from (λ v. list_all (λ part. f part v) (take (i + 1) ps)) 0 n
  every_more lt is h k e =
      e ∙ same_flags _ _ 0 n (λ v low high.
      let below : v < n = omega (arith, high) in
      ap (λ l. flag_at l v && flag_at more v) h ∙ ap (λ b. b && flag_at more v) (flag_is _ n v below)
      ∙ ap (λ b. list_all (λ part. f part v) (take i ps) && b) (ap (λ l. flag_at l v) k ∙ flag_is (f p) n v below ∙ ap (λ q. f q v) is)
      ∙ all_more v lt)

-- Instructions one after another, as one level: what comes of a row at the first goes on after the last.
use Rattle.std.proofs.Common.{◌≡◌, ℕ, suc, ◌+◌, ◌<◌, ◌≤◌, false, List, [], ◌∷◌, ◌++◌, length, get_or, refl, sym, ◌∙◌, ap, arith}
use Rattle.std.proofs.lemmas.Grind.{flat_map-append}
use Rattle.std.specs.List.{flat_map}
use Rattle.qs_terms.specs.declared.term.Term.{Term}
use Rattle.qs_algebra_solutions.specs.Solution.{Solution, term_at, binding}
use Rattle.qs_algebra_solutions.specs.Operators.{merges}
use Rattle.qs_algebra_patterns.specs.declared.pattern.TriplePattern.{TriplePattern}
use Rattle.qs_expr.specs.inner.Cell.{Cells, row_solution, FitsRow}
use Rattle.qs_expr.specs.inner.Scratch.{IsTable}
use Rattle.qs_plan_meaning.specs.declared.stage.Look.TheVariants as look
use Rattle.qs_plan_meaning.specs.declared.stage.Stage.{Stage}
use Rattle.qs_plan_meaning.specs.declared.stage.Stage.TheVariants as stage
use Rattle.qs_plan_meaning.specs.inner.Scans.{extensions}
use Rattle.qs_plan_meaning.specs.inner.Stages.{each_named, graph_named}
use Rattle.qs_ops_program.specs.inner.Flow.{Instruction, IsForward, flow, is_union}
use Rattle.qs_ops_program.specs.inner.Toil.{summed, toil}
use Rattle.qs_ops_program.proofs.Flows.{flow_step}
use Rattle.qs_ops_program.proofs.Levels.{gives_name, gives_names, gives_triple}
use Rattle.qs_ops_program.proofs.Toils.{summed_append, summed_same, toil_step}
use Rattle.qs_ops_scans.specs.inner.Makes.{AreMade, Makes}
use Rattle.qs_ops_tables.specs.inner.Tables.{row_solutions}
use Rattle.qs_ops_walk.specs.declared.source.Source.{Source}
use Rattle.qs_ops_walk.specs.inner.Setting.{Setting, known_of, gives_in, graph_in}
use Rattle.qs_ops_walk.specs.inner.Coming.{going, source_items, flows, FitsSource}
use Rattle.qs_ops_walk.specs.inner.Moves.{item_moves, OpensTo}
use Rattle.qs_ops_walk.proofs.Bags.{same, chain, flat_map_same}
use Rattle.qs_ops_walk.proofs.NoUnions.{name_is_not, names_is_not, triple_is_not}
use Rattle.qs_ops_walk.proofs.Opens.{flows_going, moves_going}

-- ---- lists of lists
module _ (make : Solution → List Solution) where
  flat_nested : (f g : Solution → List Solution) → ((x : Solution) → f x ≡ flat_map g (make x)) → (xs : List Solution) → flat_map f xs ≡ flat_map g (flat_map make xs)
  flat_nested f g h [] = refl
  flat_nested f g h (x ∷ xs) =
      ap (λ ys. ys ++ flat_map f xs) (h x)
      ∙ (ap (λ ys. flat_map g (make x) ++ ys) (flat_nested f g h xs) ∙ sym (flat_map-append g (make x) (flat_map make xs)))

  summed_nested : (f g : Solution → ℕ) → ((x : Solution) → summed g (make x) ≤ f x) → (xs : List Solution) → summed g (flat_map make xs) ≤ summed f xs
  summed_nested f g h [] = omega arith
  summed_nested f g h (x ∷ xs) = omega (arith, h x, summed_nested f g h xs, summed_append g (make x) (flat_map make xs))

-- what comes of a row at a position goes on at another, as what f makes of it, in no more moves
pub record Leads (s : Setting) (code : List Instruction) (at : ℕ) (f : Solution → List Solution) (next : ℕ) : Type 0 where
  pub rows : (x : Solution) → flow (gives_in s) code at x ≡ flat_map (flow (gives_in s) code next) (f x)
  pub moves : (x : Solution) → 1 + summed (toil (gives_in s) code next) (f x) ≤ toil (gives_in s) code at x

module _ (s : Setting) (code : List Instruction) where
  -- one after another
  pub then_leads : (a b c : ℕ) (f g : Solution → List Solution) → Leads s code a f b → Leads s code b g c → Leads s code a (λ x. flat_map g (f x)) c
  then_leads a b c f g h k = record {
    rows = λ x. h.rows x ∙ flat_nested g (flow (gives_in s) code b) (flow (gives_in s) code c) k.rows (f x);
    moves = λ x. let n : summed (toil (gives_in s) code c) (flat_map g (f x)) ≤ summed (toil (gives_in s) code b) (f x) = summed_nested g (toil (gives_in s) code b) (toil (gives_in s) code c) (λ y. omega (arith, k.moves y)) (f x) in
        omega (arith, h.moves x, n);
  }

  -- a source of the rows that f makes of m, as a level that goes on after the last
  pub leads_to : (at next : ℕ) (f : Solution → List Solution) → Leads s code at f next → (table : List Term) (m : Cells) (rows : List Cells) (src : Source) → IsTable (known_of s) table → FitsRow (known_of s) table m
      → Makes (known_of s) f m rows → source_items s table next src ≡ going next (row_solutions (known_of s) table rows) → FitsSource (known_of s) table src
      → OpensTo s code at table m table (record { next = next; source = src })
  leads_to at next f leads table m rows src t h makes items fits =
      let x : Solution = row_solution (known_of s) table m in
      let R : List Solution = row_solutions (known_of s) table rows in
      let F : Solution → List Solution = flow (gives_in s) code next in
      let T : Solution → ℕ = toil (gives_in s) code next in
      let made : AreMade (known_of s) table f m rows = makes table t h in
      let a : flows s code (source_items s table next src) ≡ flat_map F R = ap (flows s code) items ∙ flows_going s code next R in
      let b : summed (item_moves s code) (source_items s table next src) ≡ summed T R = ap (summed (item_moves s code)) items ∙ moves_going s code next R in
      let c : summed T R ≡ summed T (f x) = summed_same T R (f x) made.same in record {
        rows = chain _ _ _ (same _ _ a) (chain _ _ _ (flat_map_same F R (f x) made.same) (same _ _ (sym (leads.rows x))));
        moves = omega (arith, b, c, leads.moves x);
        fits = fits;
      }

  -- ---- one instruction
  module _ (forward : IsForward code) (k : ℕ) (i : Instruction) (l : k < length code) (e : i ≡ get_or code k i) where
    one_leads : (f : Solution → List Solution) → is_union i.stage ≡ false → ((x : Solution) → gives_in s i.stage x ≡ f x) → Leads s code (suc k) f i.next
    one_leads f u gives = record {
      rows = λ x. flow_step (gives_in s) code k i x forward l e u ∙ ap (flat_map (flow (gives_in s) code i.next)) (gives x);
      moves = λ x. let a : toil (gives_in s) code (suc k) x ≡ 1 + summed (toil (gives_in s) code i.next) (f x) = toil_step (gives_in s) code k i x forward l e u ∙ ap (λ (ys : List Solution). 1 + summed (toil (gives_in s) code i.next) ys) (gives x) in
          omega (arith, a);
    }

    pub names_lead : (r : ℕ) → i.stage ≡ stage.Names r → Leads s code (suc k) (each_named s.content.quads r) i.next
    names_lead r is =
        one_leads (each_named s.content.quads r) (names_is_not i.stage r is) (λ x. ap (λ (q : Stage). gives_in s q x) is ∙ gives_names s.width s.content.quads (graph_in s) x r)

    pub name_leads : (v r : ℕ) → i.stage ≡ stage.Name v r → Leads s code (suc k) (λ x. merges (binding s.width (v ∷ []) (term_at x r ∷ []) ∷ []) x) i.next
    name_leads v r is =
        one_leads (λ x. merges (binding s.width (v ∷ []) (term_at x r ∷ []) ∷ []) x) (name_is_not i.stage v r is)
        (λ x. ap (λ (q : Stage). gives_in s q x) is ∙ gives_name s.width s.content.quads (graph_in s) x v r)

    pub triple_leads : (r : ℕ) (p : TriplePattern) → i.stage ≡ stage.Triple (look.Register r) p → Leads s code (suc k) (λ x. extensions p (graph_named s.content.quads (term_at x r)) x) i.next
    triple_leads r p is =
        one_leads (λ x. extensions p (graph_named s.content.quads (term_at x r)) x) (triple_is_not i.stage (look.Register r) p is)
        (λ x. ap (λ (q : Stage). gives_in s q x) is ∙ gives_triple s.width s.content.quads (graph_in s) x (look.Register r) p)

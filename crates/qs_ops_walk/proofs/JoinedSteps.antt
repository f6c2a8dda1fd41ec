-- A level is opened for the names of graphs that a variable is merged with.
use Rattle.std.proofs.Common.{◌≡◌, ℕ, suc, ◌<◌, List, [], ◌∷◌, ◌++◌, length, get_or, option_to_list, Option, None, Some, refl, sym, ◌∙◌, ap, subst}
use Rattle.std.specs.List.{AllByRecursion, flat_map}
use Rattle.qs_terms.specs.declared.term.Term.{Term}
use Rattle.qs_algebra_solutions.specs.Solution.{term_at, binding}
use Rattle.qs_algebra_solutions.specs.Operators.{merges}
use Rattle.qs_expr.specs.declared.cell.Cell.{Cell}
use Rattle.qs_expr.specs.inner.Cell.{Cells, cell_at, FitsRow}
use Rattle.qs_expr.specs.inner.Scratch.{IsTable}
use Rattle.qs_plan_meaning.specs.declared.stage.Look.{Look}
use Rattle.qs_plan_meaning.specs.declared.stage.Look.TheVariants as look
use Rattle.qs_plan_meaning.specs.declared.stage.Stage.TheVariants as stage
use Rattle.qs_plan_meaning.specs.inner.Scans.{extensions}
use Rattle.qs_plan_meaning.specs.inner.Stages.{each_named, graph_named}
use Rattle.qs_ops_program.specs.inner.Flow.{Instruction}
use Rattle.qs_ops_scans.specs.inner.Each.{each_joined}
use Rattle.qs_ops_scans.specs.inner.Makes.{AreMade, Makes}
use Rattle.qs_ops_scans.specs.declared.look.PreparedLook.TheVariants as prepared
use Rattle.qs_ops_tables.specs.inner.Tables.{row_solutions}
use Rattle.qs_ops_walk.specs.declared.source.Level.{Level}
use Rattle.qs_ops_walk.specs.declared.source.Source.TheVariants as source
use Rattle.qs_ops_walk.specs.declared.after_names.Each.{Each}
use Rattle.qs_ops_walk.specs.declared.after_names.Joining.{Joining}
use Rattle.qs_ops_walk.specs.declared.work.Place.{Place}
use Rattle.qs_ops_walk.specs.inner.Setting.{Setting, known_of}
use Rattle.qs_ops_walk.specs.inner.Works.{IsNaming, IsTriple, code_of}
use Rattle.qs_ops_walk.specs.inner.Coming.{going, row_if, FitsOption}
use Rattle.qs_ops_walk.specs.inner.Moves.{IsOpened, IsWalk, OpensTo}
use Rattle.qs_ops_walk.specs.inner.After.{each_merged, named_if, IsGivenOpened, IsJoined, IsJoinedOpened, IsJoining}
use Rattle.qs_ops_walk.proofs.FusedSteps.{looks_there}
use Rattle.qs_ops_walk.proofs.GivenName.{given_name}
use Rattle.qs_ops_walk.proofs.Leads.{Leads, leads_to, name_leads, names_lead, then_leads, triple_leads}
use Rattle.qs_ops_walk.proofs.Placing.{code_length, instr_at, ready_at}
use Rattle.qs_ops_walk.proofs.Walks.{fit_pushed}

-- ---- a row, or none
module _ (known table : List Term) where
  row_listed : (o : Option Cells) → row_if known table o ≡ row_solutions known table (option_to_list o)
  row_listed None = refl
  row_listed (Some m) = refl

  row_fits : (o : Option Cells) → AllByRecursion (FitsRow known table) (option_to_list o) → FitsOption known table o
  row_fits None h = tt
  row_fits (Some m) h = h.0

module _ (s : Setting) (t0 : List Term) (ps : List Place) (ls now : List Level) (at : ℕ) (p : Place) (m : Cells) (j : Joining) (w : IsWalk s t0 ps ls) (l : at < length ps) (e : p ≡ get_or ps at p)
    (is : IsJoining ps p m s.width j) (t : IsTable (known_of s) t0) (h : FitsRow (known_of s) t0 m) where
  abbrev code : List Instruction
  code = code_of ps

  names : IsNaming s p.instr.stage is.naming
  names = rw is.names at (ready_at s t0 ps at p w.ready l e)

  joins : is.after.instr.stage ≡ stage.Name j.variable j.register
  joins = rw is.joins at (ready_at s t0 ps is.k is.after w.ready is.within is.stands)

  names_first : Leads s code (suc at) (each_named s.content.quads j.register) (suc is.k)
  names_first =
      subst (Leads s code (suc at) (each_named s.content.quads j.register)) is.follows
      (names_lead s code w.forward at p.instr (rw code_length l) (instr_at ps at p l e) j.register (names.is ∙ ap stage.Names is.register))

  name_next : Leads s code (suc is.k) (λ x. merges (binding s.width (j.variable ∷ []) (term_at x j.register ∷ []) ∷ []) x) is.after.instr.next
  name_next = name_leads s code w.forward is.k is.after.instr (rw code_length is.within) (instr_at ps is.k is.after is.within is.stands) j.variable j.register joins

  -- ---- the row binds the variable
  module _ (c : Cell) (binds : cell_at m j.variable ≡ Some c) (o : IsGivenOpened s j c m ls now) where
    abbrev given : Option Cells
    given = named_if o.named j.register c m

    abbrev given_level : Level
    given_level = record { next = is.after.instr.next; source = source.Given given }

    given_makes : Makes (known_of s) (each_merged s.content.quads s.width j.variable j.register) m (option_to_list given)
    given_makes = given_name s j.variable j.register m c o.named is.named is.wide is.cell binds o.tells

    given_fits : FitsOption (known_of s) t0 given
    given_fits = row_fits (known_of s) t0 given (given_makes t0 t h).fit

    given_opens : OpensTo s code (suc at) t0 m t0 given_level
    given_opens =
        leads_to s code (suc at) is.after.instr.next (each_merged s.content.quads s.width j.variable j.register)
        (then_leads s code (suc at) (suc is.k) is.after.instr.next (each_named s.content.quads j.register) (λ x. merges (binding s.width (j.variable ∷ []) (term_at x j.register ∷ []) ∷ []) x) names_first name_next)
        t0 m (option_to_list given) (source.Given given) t h given_makes (ap (going is.after.instr.next) (row_listed (known_of s) t0 given)) given_fits

    given_pushed : now ≡ ls ++ given_level ∷ []
    given_pushed = o.items ∙ ap (λ (x : ℕ). let v : Level = record { next = x; source = source.Given given } in ls ++ v ∷ []) is.next

    pub given_opened : IsOpened s (code_of ps) (suc at) t0 m ls t0 now
    given_opened = record { level = given_level; items = given_pushed; opens = given_opens }

    pub given_walk : IsWalk s t0 ps now
    given_walk = record { forward = w.forward; ready = w.ready; fit = fit_pushed s code t0 now ls given_level given_pushed w.fit given_fits }

  -- ---- the row doesn't bind it, and a triple pattern follows
  module _ (each : Each) (joined : IsJoined ps j each) (o : IsJoinedOpened s j.variable each m ls now) where
    triple : IsTriple (known_of s) joined.after.instr.stage (prepared.Register each.register) each.pattern.now
    triple = rw joined.triple at (ready_at s t0 ps joined.k joined.after w.ready joined.within joined.stands)

    abbrev joined_level : Level
    joined_level = record { next = joined.after.instr.next; source = source.Quads o.rows }

    joined_makes : Makes (known_of s) (each_joined s.content.quads s.width j.variable j.register triple.pattern) m o.rows
    joined_makes = subst (λ (r : ℕ). Makes (known_of s) (each_joined s.content.quads s.width j.variable r triple.pattern) m o.rows) joined.register (o.makes triple.pattern triple.prepared)

    joined_fit : AreMade (known_of s) t0 (each_joined s.content.quads s.width j.variable j.register triple.pattern) m o.rows
    joined_fit = joined_makes t0 t h

    name_next_joined : Leads s code (suc is.k) (λ x. merges (binding s.width (j.variable ∷ []) (term_at x j.register ∷ []) ∷ []) x) (suc joined.k)
    name_next_joined = subst (Leads s code (suc is.k) (λ x. merges (binding s.width (j.variable ∷ []) (term_at x j.register ∷ []) ∷ []) x)) (sym is.next ∙ joined.follows) name_next

    triple_last : Leads s code (suc joined.k) (λ x. extensions triple.pattern (graph_named s.content.quads (term_at x j.register)) x) joined.after.instr.next
    triple_last =
        triple_leads s code w.forward joined.k joined.after.instr (rw code_length joined.within) (instr_at ps joined.k joined.after joined.within joined.stands) j.register triple.pattern
        (triple.is ∙ ap (λ (y : Look). stage.Triple y triple.pattern) (looks_there (known_of s) each.register triple.look triple.looks ∙ ap look.Register joined.register))

    joined_opens : OpensTo s code (suc at) t0 m t0 joined_level
    joined_opens =
        leads_to s code (suc at) joined.after.instr.next (each_joined s.content.quads s.width j.variable j.register triple.pattern)
        (then_leads s code (suc at) (suc is.k) joined.after.instr.next (each_named s.content.quads j.register)
        (λ n. flat_map (λ k. extensions triple.pattern (graph_named s.content.quads (term_at k j.register)) k) (merges (binding s.width (j.variable ∷ []) (term_at n j.register ∷ []) ∷ []) n)) names_first
        (then_leads s code (suc is.k) (suc joined.k) joined.after.instr.next (λ x. merges (binding s.width (j.variable ∷ []) (term_at x j.register ∷ []) ∷ []) x)
        (λ k. extensions triple.pattern (graph_named s.content.quads (term_at k j.register)) k) name_next_joined triple_last))
        t0 m o.rows (source.Quads o.rows) t h joined_makes refl joined_fit.fit

    joined_pushed : now ≡ ls ++ joined_level ∷ []
    joined_pushed = o.items ∙ ap (λ (x : ℕ). let v : Level = record { next = x; source = source.Quads o.rows } in ls ++ v ∷ []) joined.next

    pub joined_opened : IsOpened s (code_of ps) (suc at) t0 m ls t0 now
    joined_opened = record { level = joined_level; items = joined_pushed; opens = joined_opens }

    pub joined_walk : IsWalk s t0 ps now
    joined_walk = record { forward = w.forward; ready = w.ready; fit = fit_pushed s code t0 now ls joined_level joined_pushed w.fit joined_fit.fit }

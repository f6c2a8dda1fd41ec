-- A level is opened for a triple pattern in each named graph.
use Rattle.std.proofs.Common.{◌≡◌, ℕ, suc, ◌<◌, List, [], ◌∷◌, ◌++◌, length, get_or, Option, None, Some, refl, ◌∙◌, ap, subst}
use Rattle.qs_terms.specs.declared.term.Term.{Term}
use Rattle.qs_algebra_solutions.specs.Solution.{term_at}
use Rattle.qs_dict.specs.inner.Dict.{number_of}
use Rattle.qs_expr.specs.inner.Cell.{Cells, FitsRow}
use Rattle.qs_expr.specs.inner.Scratch.{IsTable}
use Rattle.qs_plan_meaning.specs.declared.stage.Look.{Look}
use Rattle.qs_plan_meaning.specs.declared.stage.Look.TheVariants as look
use Rattle.qs_plan_meaning.specs.declared.stage.Stage.TheVariants as stage
use Rattle.qs_plan_meaning.specs.inner.Scans.{extensions}
use Rattle.qs_plan_meaning.specs.inner.Stages.{each_named, graph_named}
use Rattle.qs_ops_scans.specs.inner.Each.{each_extension}
use Rattle.qs_ops_scans.specs.inner.Makes.{AreMade}
use Rattle.qs_ops_scans.specs.inner.Prepared.{named_look, prepared_look}
use Rattle.qs_ops_scans.specs.declared.look.PreparedLook.TheVariants as prepared
use Rattle.qs_ops_walk.specs.declared.source.Level.{Level}
use Rattle.qs_ops_walk.specs.declared.source.Source.TheVariants as source
use Rattle.qs_ops_walk.specs.declared.after_names.Each.{Each}
use Rattle.qs_ops_walk.specs.declared.work.Place.{Place}
use Rattle.qs_ops_walk.specs.inner.Setting.{Setting, known_of}
use Rattle.qs_ops_walk.specs.inner.Works.{IsNaming, IsTriple, code_of}
use Rattle.qs_ops_walk.specs.inner.After.{IsInEach}
use Rattle.qs_ops_walk.specs.inner.Moves.{IsOpened, IsQuadsOpened, IsWalk, OpensTo}
use Rattle.qs_ops_walk.proofs.Leads.{Leads, leads_to, names_lead, then_leads, triple_leads}
use Rattle.qs_ops_walk.proofs.Placing.{code_length, instr_at, ready_at}
use Rattle.qs_ops_walk.proofs.Walks.{fit_pushed}

-- where a prepared stage looks in the register, so does the stage
pub looks_there : (known : List Term) (r : ℕ) (place : Look) → prepared.Register r ≡ prepared_look known place → place ≡ look.Register r
looks_there known r look.Active h = absurd (cc)
looks_there known r (look.Named name) h = absurd (none (number_of known name) h)
  where
    none : (o : Option ℕ) → prepared.Register r ≡ named_look o → ⊥
    none None h = cc
    none (Some n) h = cc
looks_there known r (look.Register q) h = cc

module _ (s : Setting) (t0 : List Term) (ps : List Place) (ls now : List Level) (at : ℕ) (p : Place) (m : Cells) (each : Each) (w : IsWalk s t0 ps ls) (l : at < length ps) (e : p ≡ get_or ps at p)
    (is : IsInEach ps p m each) (o : IsQuadsOpened s each m ls now) (t : IsTable (known_of s) t0) (h : FitsRow (known_of s) t0 m) where
  names : IsNaming s p.instr.stage is.naming
  names = rw is.names at (ready_at s t0 ps at p w.ready l e)

  triple : IsTriple (known_of s) is.after.instr.stage (prepared.Register each.register) each.pattern.now
  triple = rw is.triple at (ready_at s t0 ps is.k is.after w.ready is.within is.stands)

  abbrev level : Level
  level = record { next = is.after.instr.next; source = source.Quads o.rows }

  fit : AreMade (known_of s) t0 (each_extension s.content.quads each.register triple.pattern) m o.rows
  fit = o.makes triple.pattern triple.prepared t0 t h

  names_first : Leads s (code_of ps) (suc at) (each_named s.content.quads each.register) (suc is.k)
  names_first =
      subst (Leads s (code_of ps) (suc at) (each_named s.content.quads each.register)) is.follows
      (names_lead s (code_of ps) w.forward at p.instr (rw code_length l) (instr_at ps at p l e) each.register (names.is ∙ ap stage.Names is.register))

  triple_last : Leads s (code_of ps) (suc is.k) (λ n. extensions triple.pattern (graph_named s.content.quads (term_at n each.register)) n) is.after.instr.next
  triple_last =
      triple_leads s (code_of ps) w.forward is.k is.after.instr (rw code_length is.within) (instr_at ps is.k is.after is.within is.stands) each.register triple.pattern
      (triple.is ∙ ap (λ (y : Look). stage.Triple y triple.pattern) (looks_there (known_of s) each.register triple.look triple.looks))

  level_opens : OpensTo s (code_of ps) (suc at) t0 m t0 level
  level_opens =
      leads_to s (code_of ps) (suc at) is.after.instr.next (each_extension s.content.quads each.register triple.pattern)
      (then_leads s (code_of ps) (suc at) (suc is.k) is.after.instr.next (each_named s.content.quads each.register)
      (λ n. extensions triple.pattern (graph_named s.content.quads (term_at n each.register)) n) names_first triple_last)
      t0 m o.rows (source.Quads o.rows) t h (o.makes triple.pattern triple.prepared) refl fit.fit

  pushed : now ≡ ls ++ level ∷ []
  pushed = o.items ∙ ap (λ (x : ℕ). let v : Level = record { next = x; source = source.Quads o.rows } in ls ++ v ∷ []) is.next

  pub quads_opened : IsOpened s (code_of ps) (suc at) t0 m ls t0 now
  quads_opened = record { level = level; items = pushed; opens = level_opens }

  pub quads_walk : IsWalk s t0 ps now
  quads_walk = record { forward = w.forward; ready = w.ready; fit = fit_pushed s (code_of ps) t0 now ls level pushed w.fit fit.fit }

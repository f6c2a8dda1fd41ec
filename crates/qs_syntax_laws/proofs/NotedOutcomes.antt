-- The query or the update that a text results in is the one that was resolved: so it lists its variables.
use Rattle.std.proofs.Common.{◌≡◌, ℕ, Bool, true, false, if◌then◌else◌, List, Option, Some, None, Ok, Err, inl, inr, refl, sym, subst, ◌∙◌}
use Rattle.qs_terms.specs.Outcome.{Outcome, and_then}
use Rattle.qs_terms.specs.declared.fault.QFault.TheVariants as fault
use Rattle.qs_syntax_tree.specs.declared.query.Query.{Query as WrittenQuery}
use Rattle.qs_syntax_tree.specs.declared.token.Token.{Token}
use Rattle.qs_syntax_tree.specs.declared.update.Update.{Update as WrittenUpdate}
use Rattle.qs_syntax_tree.specs.Rules as rules
use Rattle.qs_syntax_tree.specs.Sparql.{Rule}
use Rattle.qs_syntax_ast.specs.declared.query.Query.{Query}
use Rattle.qs_syntax_ast.specs.declared.term.Variable.{Variable}
use Rattle.qs_syntax_ast.specs.declared.update.Update.{Update}
use Rattle.qs_syntax_limits.specs.Large as large
use Rattle.qs_syntax_resolve.specs.Resolved.{resolved_query, resolved_update}
use Rattle.qs_syntax_scope.specs.Firsts.{firsts, names_of}
use Rattle.qs_syntax_scope.specs.KeepsScope.{query_keeps_scope, update_keeps_scope}
use Rattle.qs_syntax_scope.specs.Names.{Name, contains}
use Rattle.qs_syntax_scope.specs.inner.Laws.{AreListed}
use Rattle.qs_syntax_scope.specs.inner.VariablesIn.{in_query}
use Rattle.qs_syntax.specs.Outcome.{screened, by_place, in_scope, query_outcome, update_outcome, AfterScreen, IsParsed, IsQueryOutcome, IsUpdateOutcome}
use Rattle.qs_syntax_laws.proofs.NotedQueries.{query_is_listed}
use Rattle.qs_syntax_laws.proofs.NotedUpdates.{AreAllListed, update_is_listed}

-- ---- what is settled of a tree

module _ {A : Type 0} where
  placed : (o : Outcome (Option A)) (place : Option ℕ) (a : A) → by_place o place ≡ Ok a → o ≡ Ok (Some a)
  placed (Ok (Some b)) None a e = cc
  placed (Ok None) None a e = absurd (cc e)
  placed (Ok found) (Some place) a e = absurd (cc e)
  placed (Err f) place a e = absurd (cc e)

  tested : (b : Bool) (x a : A) → (if b then Ok x else Err fault.Scope) ≡ Ok a → x ≡ a
  tested true x a e = cc
  tested false x a e = absurd (cc e)

  kept : (keeps : A → Bool) (o : Outcome A) (a : A) → and_then o (in_scope keeps) ≡ Ok a → o ≡ Ok a
  kept keeps (Ok x) a e = let f : x ≡ a = tested (keeps x) x a e in cc
  kept keeps (Err f) a e = absurd (cc e)

made : {A B : Type 0} (o : Outcome A) (f : A → B) (b : B) → and_then o (λ a. Ok (f a)) ≡ Ok b → (a : A) × (o ≡ Ok a) × (f a ≡ b)
made (Ok a) f b e = (a, refl, cc)
made (Err fault) f b e = absurd (cc e)

-- the first variables have all names
abbrev pub FirstsAreAll : Type 0
FirstsAreAll = (variables : List Variable) (name : Name) → contains (names_of (firsts variables)) name ≡ contains (names_of variables) name

abbrev with_firsts : Query → Query
with_firsts q = record q { variables = firsts q.variables }

settled_query : FirstsAreAll → (text : List ℕ) (tree : WrittenQuery) (query : Query) → query_outcome text tree ≡ Ok query → AreListed query.variables (in_query query)
unfolding query_outcome
settled_query all text tree query e =
    let found : Outcome Query = by_place (resolved_query text tree) (large.query tree) in
    let from : (q : Query) × (and_then found (in_scope query_keeps_scope) ≡ Ok q) × (with_firsts q ≡ query) = made (and_then found (in_scope query_keeps_scope)) with_firsts query e in
    let resolved = placed (resolved_query text tree) (large.query tree) from.0 (kept query_keeps_scope found from.0 from.1) in
    subst (λ (q : Query). AreListed q.variables (in_query q)) from.2 (λ name h. all from.0.variables name ∙ query_is_listed text tree from.0 resolved name h)

settled_update : (text : List ℕ) (tree : WrittenUpdate) (update : Update) → update_outcome text tree ≡ Ok update → AreAllListed update.operations
unfolding update_outcome
settled_update text tree update e =
    let found : Outcome Update = by_place (resolved_update text tree) (large.update tree) in
    update_is_listed text tree update (placed (resolved_update text tree) (large.update tree) update (kept update_keeps_scope found update e))

-- ---- what a text results in

module _ {A B : Type 0} (start : Rule A) (settle : List ℕ → A → Outcome B) (P : B → Type 0) (each : (text : List ℕ) (tree : A) (b : B) → settle text tree ≡ Ok b → P b) where
  after_screen : (text : List ℕ) (tokens : List Token) (b : B) (s : Outcome (Unit {0})) → AfterScreen start (settle text) text tokens s (Ok b) → P b
  after_screen text tokens b (Err f) h = absurd (cc h)
  after_screen text tokens b (Ok done) (inl h) = each text h.0 b (sym h.2)
  after_screen text tokens b (Ok done) (inr h) = absurd (cc h.2)

  of_text : (text : List ℕ) (b : B) → IsParsed start (settle text) text (Ok b) → P b
  of_text text b (inl h) = absurd (cc h.2)
  of_text text b (inr h) = after_screen text h.0 b (screened text h.0) h.2

pub query_of_text : FirstsAreAll → (text : List ℕ) (query : Query) → IsQueryOutcome text (Ok query) → AreListed query.variables (in_query query)
query_of_text all = of_text rules.query query_outcome (λ (q : Query). AreListed q.variables (in_query q)) (settled_query all)

pub update_of_text : (text : List ℕ) (update : Update) → IsUpdateOutcome text (Ok update) → AreAllListed update.operations
update_of_text = of_text rules.update update_outcome (λ (u : Update). AreAllListed u.operations) settled_update

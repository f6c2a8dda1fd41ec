-- The variables of a query are those of its text.
use Rattle.std.proofs.Common.{◌≡◌, ℕ, Bool, true, false, List, [], Option, Some, None, Ok, Err, refl, sym, ap, ◌∙◌, inl, inr}
use Rattle.std.specs.Prelude.{if◌then◌else◌, ok_or}
use Rattle.qs_terms.specs.Outcome.{Outcome, and_then}
use Rattle.qs_terms.specs.declared.fault.QFault.TheVariants as fault
use Rattle.qs_syntax_grammar.specs.Grammar.{Spells}
use Rattle.qs_syntax_ast.specs.declared.query.Query.{Query}
use Rattle.qs_syntax_ast.specs.declared.term.Variable.{Variable}
use Rattle.qs_syntax_tree.specs.Rules as rules
use Rattle.qs_syntax_tree.specs.Table.{grammar}
use Rattle.qs_syntax_tree.specs.declared.query.Query.{Query as WrittenQuery}
use Rattle.qs_syntax_tree.specs.declared.token.Token.{Token}
use Rattle.qs_syntax_limits.specs.Large as large
use Rattle.qs_syntax_resolve.specs.Names.{nothing_declared}
use Rattle.qs_syntax_resolve.specs.Query.{prologue, form_of, query}
use Rattle.qs_syntax_resolve.specs.Resolved.{resolved_query}
use Rattle.qs_syntax_resolve.specs.inner.Query.{trailing}
use Rattle.qs_syntax_resolve.specs.inner.Resolved.{start, if_lawful}
use Rattle.qs_syntax_resolve.specs.declared.resolver.Resolver.{Resolver}
use Rattle.qs_syntax_scope.specs.Firsts.{firsts}
use Rattle.qs_syntax_scope.specs.KeepsScope.{query_keeps_scope}
use Rattle.qs_syntax.specs.Outcome.{AfterScreen, IsQueryOutcome, by_place, in_scope, query_outcome, screened}
use Rattle.qs_syntax.specs.Text.{AreTokensOf}
use Rattle.qs_syntax_laws.specs.inner.TextVariables.{variables_of}
use Rattle.qs_syntax_laws.proofs.Knot.{query_is_met}
use Rattle.qs_syntax_laws.proofs.Walks.{Comes}

abbrev Lists : Outcome (Query × Resolver) → Type 0
Lists (Ok r) = r.0.variables ≡ r.1.variables
Lists (Err f) = Unit {0}

at_end : {A : Type 0} (o : Outcome A) (f : A → Outcome (Query × Resolver)) → ((a : A) → Lists (f a)) → Lists (and_then o f)
at_end (Ok a) f h = h a
at_end (Err e) f h = tt

pub query_lists : (q : WrittenQuery) (s : Resolver) → Lists (query q s)
unfolding query
query_lists q s = at_end (prologue q.prologue s) _ (λ a. at_end (form_of q.form a.1) _ (λ b. at_end (trailing q.values b.1) _ (λ c. refl)))

-- ---- of a whole text

-- after a resolver that had none
abbrev Noted : List Variable → Outcome (Query × Resolver) → Type 0
Noted all (Ok r) = r.1.variables ≡ all
Noted all (Err f) = Unit {0}

if_kept : (b : Bool) (kept q : Query) → (if b then Some kept else None) ≡ Some q → kept ≡ q
if_kept true kept q e = cc
if_kept false kept q e = absurd (let s : None ≡ Some q = e in cc)

kept_is : (r : Query × Resolver) (q : Query) → and_then (Ok r) (λ r. Ok (if_lawful r.0 r.1)) ≡ Ok (Some q) → r.0 ≡ q
kept_is r q e = if_kept r.1.lawful r.0 q cc

pub noted : (all : List Variable) (o : Outcome (Query × Resolver)) (q : Query) → Lists o → Noted all o → and_then o (λ r. Ok (if_lawful r.0 r.1)) ≡ Ok (Some q) → q.variables ≡ all
noted all (Ok r) q l n e = ap (λ (z : Query). z.variables) (sym (kept_is r q e)) ∙ l ∙ n
noted all (Err f) q l n e = absurd (let s : Err f ≡ Ok (Some q) = e in cc)

pub noted_by : (s : Resolver) (ts : List Token) (o : Outcome (Query × Resolver)) → s.variables ≡ [] → Comes s ts o → Noted (variables_of s.names.text ts) o
noted_by s ts (Ok r) e h = h.2 ∙ rw e refl
noted_by s ts (Err f) e h = tt

-- ---- of an outcome, which lists them once each

module _ {A : Type 0} (P : A → Type 0) where
  abbrev Gives : Outcome A → Type 0
  Gives (Ok a) = P a
  Gives (Err f) = Unit {0}

  abbrev GivesSome : Outcome (Option A) → Type 0
  GivesSome o = (a : A) → o ≡ Ok (Some a) → P a

  some_gives : (found : Option A) → GivesSome (Ok found) → Gives (ok_or found fault.Scope)
  some_gives None h = tt
  some_gives (Some a) h = h a refl

  by_place_gives : (o : Outcome (Option A)) (limit : Option ℕ) → GivesSome o → Gives (by_place o limit)
  by_place_gives (Ok found) None h = some_gives found h
  by_place_gives (Ok found) (Some place) h = tt
  by_place_gives (Err f) limit h = tt

  tested_gives : (b : Bool) (a : A) → P a → Gives (if b then Ok a else Err fault.Scope)
  tested_gives true a h = h
  tested_gives false a h = tt

  scope_gives : (keeps : A → Bool) (o : Outcome A) → Gives o → Gives (and_then o (in_scope keeps))
  scope_gives keeps (Ok a) h = tested_gives (keeps a) a h
  scope_gives keeps (Err f) h = tt

  pub settled_gives : (keeps : A → Bool) (o : Outcome (Option A)) (limit : Option ℕ) → GivesSome o → Gives (and_then (by_place o limit) (in_scope keeps))
  settled_gives keeps o limit h = scope_gives keeps (by_place o limit) (by_place_gives o limit h)

firsts_listed : (all : List Variable) (o : Outcome Query) (q : Query) → Gives (λ (z : Query). z.variables ≡ all) o → and_then o (λ z. Ok (record z { variables = firsts z.variables })) ≡ Ok q → q.variables ≡ firsts all
firsts_listed all (Ok z) q h e = let s : record z { variables = firsts z.variables } ≡ q = cc in ap (λ (y : Query). y.variables) (sym s) ∙ ap firsts h
firsts_listed all (Err f) q h e = absurd (let s : Err f ≡ Ok q = e in cc)

-- ---- of a text and its tokens

module _ (text : List ℕ) (tokens : List Token) (tree : WrittenQuery) (spelt : Spells grammar rules.query tokens tree) where
  pub as_often : (q : Query) → resolved_query text tree ≡ Ok (Some q) → q.variables ≡ variables_of text tokens
  unfolding resolved_query
  as_often q e =
      let s : Resolver = start (nothing_declared text) in
      noted (variables_of text tokens) (query tree s) q (query_lists tree s) (noted_by s tokens (query tree s) refl (query_is_met tokens tree spelt s)) e

  pub each_once : (q : Query) → query_outcome text tree ≡ Ok q → q.variables ≡ firsts (variables_of text tokens)
  unfolding query_outcome
  each_once q e =
      firsts_listed (variables_of text tokens) (and_then (by_place (resolved_query text tree) (large.query tree)) (in_scope query_keeps_scope)) q
      (settled_gives (λ (z : Query). z.variables ≡ variables_of text tokens) query_keeps_scope (resolved_query text tree) (large.query tree) as_often) e

-- ---- of a text

after_screen : (text : List ℕ) (tokens : List Token) (o : Outcome (Unit {0})) (q : Query) → AfterScreen rules.query (query_outcome text) text tokens o (Ok q) → q.variables ≡ firsts (variables_of text tokens)
after_screen text tokens (Ok done) q (inl h) = each_once text tokens h.0 h.1 q (sym h.2)
after_screen text tokens (Ok done) q (inr h) = absurd (let s : Ok q ≡ Err (fault.Syntax h.0) = h.2 in cc)
after_screen text tokens (Err f) q h = absurd (let s : Ok q ≡ Err f = h in cc)

pub of_text : (text : List ℕ) (q : Query) → IsQueryOutcome text (Ok q) → (tokens : List Token) × AreTokensOf text tokens × (q.variables ≡ firsts (variables_of text tokens))
of_text text q (inl h) = absurd (let s : Ok q ≡ Err (fault.Syntax h.0) = h.2 in cc)
of_text text q (inr h) = (h.0, h.1, after_screen text h.0 (screened text h.0) q h.2)

-- What a text results in (SPARQL 1.1 Query, 19, and limits of the profile): its query or its
-- update, or the one fault that is due. The faults stand from top to bottom in the order in which
-- they are due, each where none above it is:
--   1. Syntax, where no token begins.
--   2. LeftOut with a token, then TooLarge at a bracket.
--   3. Syntax, where the tokens spell no tree.
--   4. A name that can't be resolved, or a limit of trees that is passed, whichever comes first.
--   5. Scope, of a literal, then of a rule.
-- A text has one outcome at most (`laws::one_outcome`); in UTF-8, as all texts of the program are,
-- it has one (`laws::some_outcome`). The first step takes the steps after it as a parameter, since
-- a definition can't be used above its place.
use Rattle.std.specs.Prelude.{◌≡◌, ◌⊎◌, ℕ, Bool, nat_lt, List, length}
use Rattle.std.specs.Prelude.{Option, Some, None, ok_or, Ok, Err, if◌then◌else◌}
use Rattle.qs_syntax_grammar.specs.Grammar.{Spells}
use Rattle.qs_lex.specs.Lexes.{StopsAt}
use Rattle.qs_terms.specs.Outcome.{Outcome, and_then}
use Rattle.qs_terms.specs.declared.fault.QFault.{QFault}
use Rattle.qs_terms.specs.declared.fault.QFault.TheVariants as fault
use Rattle.qs_syntax_tree.specs.declared.query.Query.{Query as WrittenQuery}
use Rattle.qs_syntax_tree.specs.declared.token.Token.{Token}
use Rattle.qs_syntax_tree.specs.declared.update.Update.{Update as WrittenUpdate}
use Rattle.qs_syntax_tree.specs.Rules as rules
use Rattle.qs_syntax_tree.specs.Sparql.{Rule}
use Rattle.qs_syntax_tree.specs.Table.{grammar}
use Rattle.qs_syntax_ast.specs.declared.query.Query.{Query}
use Rattle.qs_syntax_ast.specs.declared.update.Update.{Update}
use Rattle.qs_syntax_limits.specs.Brackets.{brackets}
use Rattle.qs_syntax_limits.specs.Large as large
use Rattle.qs_syntax_limits.specs.LeftOut.{left_out}
use Rattle.qs_syntax_resolve.specs.Resolved.{resolved_query, resolved_update}
use Rattle.qs_syntax_scope.specs.Firsts.{firsts}
use Rattle.qs_syntax_scope.specs.KeepsScope.{query_keeps_scope, update_keeps_scope}
use Rattle.qs_syntax.specs.Text.{AreTokensOf, IsBlamed}

-- ---- 1. no token begins at a place of the text; or its tokens decide

abbrev pub ByTokens : {B : Type 0} → (List Token → Outcome B → Type 0) → List ℕ → Outcome B → Type 0
ByTokens Decide text outcome =
    ((place : ℕ) × StopsAt text place × (outcome ≡ Err (fault.Syntax place)))
    ⊎ ((tokens : List Token) × AreTokensOf text tokens × Decide tokens outcome)

-- ---- 2. the first word that is left out, and then the first bracket that is too much

abbrev pub first_fault : Option (List ℕ) → Option ℕ → Outcome (Unit {0})
first_fault (Some word) place = Err (fault.LeftOut word)
first_fault None (Some place) = Err (fault.TooLarge place)
first_fault None None = Ok tt

unfoldable pub screened : List ℕ → List Token → Outcome (Unit {0})
screened text tokens = first_fault (left_out text tokens) (brackets tokens)

-- ---- 3. the tree that is spelt decides; where none is spelt, Syntax at the place that is blamed

abbrev pub AfterScreen : {A B : Type 0} → Rule A → (A → Outcome B) → List ℕ → List Token
    → Outcome (Unit {0}) → Outcome B → Type 0
AfterScreen start settle text tokens (Err f) outcome = outcome ≡ Err f
AfterScreen {A} start settle text tokens (Ok done) outcome =
    ((tree : A) × Spells grammar start tokens tree × (outcome ≡ settle tree))
    ⊎ ((place : ℕ) × IsBlamed start (length text) tokens place
    × (outcome ≡ Err (fault.Syntax place)))

-- ---- 4. the first of a name's fault and of a limit's; at one place the name's

abbrev pub nearer : QFault → ℕ → Option ℕ → QFault
nearer f at None = f
nearer f at (Some place) = if nat_lt place at then fault.TooLarge place else f

abbrev pub earlier : QFault → Option ℕ → QFault
earlier (fault.Prefix at) large = nearer (fault.Prefix at) at large
earlier (fault.RelativeIri at) large = nearer (fault.RelativeIri at) at large
earlier other large = other

-- where there is neither, a literal that isn't lawful is a fault of scope (5)
abbrev pub by_place : {A : Type 0} → Outcome (Option A) → Option ℕ → Outcome A
by_place (Ok found) None = ok_or found fault.Scope
by_place (Ok found) (Some place) = Err (fault.TooLarge place)
by_place (Err f) place = Err (earlier f place)

-- ---- 5. and last the rules of scope

abbrev pub in_scope : {A : Type 0} → (A → Bool) → A → Outcome A
in_scope keeps a = if keeps a then Ok a else Err fault.Scope

-- ---- 4 and 5 of a tree. Last, the variables of a query are listed once each, in the order in
-- which they first appear (16.1); those of an update's operations stay as the resolver noted them.

unfoldable pub query_outcome : List ℕ → WrittenQuery → Outcome Query
query_outcome text q =
    and_then
    (and_then (by_place (resolved_query text q) (large.query q)) (in_scope query_keeps_scope))
    (λ kept. Ok (record kept { variables = firsts kept.variables }))

unfoldable pub update_outcome : List ℕ → WrittenUpdate → Outcome Update
update_outcome text u =
    and_then (by_place (resolved_update text u) (large.update u)) (in_scope update_keeps_scope)

-- ---- the whole

abbrev pub IsParsed : {A B : Type 0} → Rule A → (A → Outcome B) → List ℕ → Outcome B → Type 0
IsParsed start settle text outcome =
    ByTokens (λ tokens. AfterScreen start settle text tokens (screened text tokens)) text outcome

abbrev pub IsQueryOutcome : List ℕ → Outcome Query → Type 0
IsQueryOutcome text outcome = IsParsed rules.query (query_outcome text) text outcome

abbrev pub IsUpdateOutcome : List ℕ → Outcome Update → Type 0
IsUpdateOutcome text outcome = IsParsed rules.update (update_outcome text) text outcome

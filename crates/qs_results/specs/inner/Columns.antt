-- The columns of rows, in the order of their names, and the tokens that are written for what they
-- hold.
use Rattle.std.specs.Prelude.{◌≡◌, ℕ, List, [], ◌∷◌, Option, Some, None}
use Rattle.json.specs.Token.{Token}
use Rattle.json.specs.Tree.{json_tokens}
use Rattle.serde_json.specs.Data.{Data, Members, no_members, member}
use Rattle.serde_json.specs.Written.{outline}
use Rattle.qs_terms.specs.declared.term.Term.{Term}
use Rattle.qs_algebra_solutions.specs.Solution.{Solution, term_at}
use Rattle.qs_results.specs.Json.{term_data, with_bindings}

-- what a variable is bound to, if it is bound, in front of the members
abbrev pub with_front : List ℕ → Option Term → Members → Members
with_front name None ms = ms
with_front name (Some t) ms = member name (term_data t) ms

-- the members of a row whose columns have these names and numbers
abbrev pub members_of : List (List ℕ × ℕ) → Solution → Members
members_of [] row = no_members
members_of (c ∷ cs) row = with_front c.0 (term_at row c.1) (members_of cs row)

-- of each row the columns give the members that the names give
abbrev pub AreColumns : List (List ℕ) → List (List ℕ × ℕ) → Type 0
AreColumns names cs = (row : Solution) → members_of cs row ≡ with_bindings names row no_members

abbrev pub tokens_of : Data → List Token
tokens_of d = json_tokens (outline d)

abbrev pub cell_tokens : List ℕ → Option Term → List Token
cell_tokens name None = []
cell_tokens name (Some t) = Token.key name ∷ tokens_of (term_data t)

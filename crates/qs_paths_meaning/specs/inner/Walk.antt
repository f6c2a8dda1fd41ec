-- Walks, and what a closure means by them (SPARQL 1.1 Query, 9.1 and 18.4).
use Rattle.std.specs.Prelude.{◌≡◌, ◌↔◌, ◌≤◌, ℕ, List, [], ◌∷◌, length, Option, Some, None, true}
use Rattle.std.specs.List.{list_any}
use Rattle.qs_terms.specs.Bag.{Distinct}
use Rattle.qs_terms.specs.Dataset.{nodes_of}
use Rattle.qs_terms.specs.Term.{same_term}
use Rattle.qs_terms.specs.declared.term.Term.{Term}
use Rattle.qs_syntax_tree.specs.declared.path.Repetition.{Repetition}
use Rattle.qs_syntax_tree.specs.declared.path.Repetition.TheVariants.{ZeroOrOne, ZeroOrMore}
use Rattle.qs_syntax_tree.specs.declared.path.Repetition.TheVariants.{OneOrMore}
use Rattle.qs_syntax_ast.specs.declared.path.Path.{Path}
use Rattle.qs_syntax_ast.specs.declared.path.Path.TheVariants.{Repeated}
use Rattle.qs_paths_meaning.specs.Pair.{Pair, pair}
use Rattle.qs_paths_meaning.specs.inner.Pair.{same_pair}
use Rattle.qs_paths_meaning.specs.Steps.{Graph, agrees}
use Rattle.qs_paths_meaning.specs.Pairs.{pairs}

-- from x by these terms, one step each, to y
abbrev pub IsWalk : (Term → Term → Type 0) → Term → List Term → Term → Type 0
IsWalk Step x [] y = x ≡ y
IsWalk Step x (u ∷ us) y = Step x u × IsWalk Step u us y

-- so many steps are lawful
abbrev pub IsCount : Repetition → ℕ → Type 0
IsCount ZeroOrOne n = n ≤ 1
IsCount ZeroOrMore n = 0 ≤ n
IsCount OneOrMore n = 1 ≤ n

abbrev pub Leads : Repetition → (Term → Term → Type 0) → Term → Term → Type 0
Leads repetition Step x y = (us : List Term) × (IsCount repetition (length us) × IsWalk Step x us y)

abbrev pub IsIn : List Pair → Pair → Type 0
IsIn es e = list_any (same_pair e) es ≡ true

-- (u, v) is a step of the path where it is one of its pairs from u
abbrev pub IsStep : Graph → Path → Term → Term → Type 0
IsStep graph p u v = IsIn (pairs graph p (Some u) None) (pair u v)

-- where a walk may begin: at the left end, if that is given; at any term, if the right end alone
-- is; else at the nodes of the graph
abbrev pub MayBegin : Graph → Option Term → Option Term → Term → Type 0
MayBegin graph (Some a) right x = a ≡ x
MayBegin graph None (Some b) x = Unit {0}
MayBegin graph None None x = list_any (same_term x) (nodes_of graph) ≡ true

-- a pair is in a closure exactly where a lawful walk leads from its left to its right
abbrev pub ClosuresAreWalks : Type 0
ClosuresAreWalks =
    (graph : Graph) (p : Path) (repetition : Repetition) (left right : Option Term) (x y : Term) →
    IsIn (pairs graph (Repeated p repetition) left right) (pair x y)
    ↔ (MayBegin graph left right x
    × ((agrees right y ≡ true) × Leads repetition (IsStep graph p) x y))

-- and each pair is there once
abbrev pub ClosuresAreDistinct : Type 0
ClosuresAreDistinct =
    (graph : Graph) (p : Path) (repetition : Repetition) (left right : Option Term)
    → Distinct same_pair (pairs graph (Repeated p repetition) left right)

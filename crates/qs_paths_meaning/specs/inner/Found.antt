-- What the program keeps while it goes over quads and walks.
use Rattle.std.specs.Prelude.{◌≡◌, ℕ, Bool, true, false, ◌&&◌, ◌||◌, List, [], ◌∷◌, map, Option}
use Rattle.std.specs.Prelude.{Some, None, ◌==◌, if◌then◌else◌}
use Rattle.std.specs.List.{list_any, filter}
use Rattle.qs_terms.specs.declared.term.Term.{Term}
use Rattle.qs_terms.specs.Bag.{Distinct, with_new}
use Rattle.qs_terms.specs.Dataset.{Triple, nodes_of}
use Rattle.qs_terms.specs.Term.{same_term}
use Rattle.qs_syntax_tree.specs.declared.path.Repetition.{Repetition}
use Rattle.qs_syntax_tree.specs.declared.path.Repetition.TheVariants.{ZeroOrOne, ZeroOrMore}
use Rattle.qs_syntax_tree.specs.declared.path.Repetition.TheVariants.{OneOrMore}
use Rattle.qs_paths_meaning.specs.Pair.{Pair, pair, swapped}
use Rattle.qs_paths_meaning.specs.Steps.{is_between}
use Rattle.qs_paths_meaning.specs.Pairs.{AtEnds}

-- the list with these terms at its end, each where it is new
abbrev pub with_all : List Term → List Term → List Term
with_all xs [] = xs
with_all xs (y ∷ ys) = with_all (with_new same_term xs y) ys

abbrev pub lefts : List Pair → List Term
lefts es = map (λ e. e.left) es

abbrev pub rights : List Pair → List Term
rights es = map (λ e. e.right) es

-- the pair, where the test passes and its ends agree
abbrev pub kept : Bool → Option Term → Option Term → Pair → List Pair
kept passes left right e = if passes && is_between left right e then e ∷ [] else []

-- where a walk begins: what is led to before the first pass of the search
abbrev pub begins : Repetition → (Term → Term → Bool) → Term → Term → Bool
begins ZeroOrOne step x y = same_term x y || step x y
begins ZeroOrMore step x y = same_term x y
begins OneOrMore step x y = step x y

-- exactly the terms that pass the test, each once
abbrev pub Holds : List Term → (Term → Bool) → Type 0
Holds terms test = Distinct same_term terms × ((y : Term) → list_any (same_term y) terms ≡ test y)

-- the pairs of a path, or of its inverse
abbrev pub turned : Bool → AtEnds → AtEnds
turned false f = f
turned true f = λ left right. map swapped (f right left)

-- the right end of the parts up to this place of a sequence of so many
abbrev pub right_at : ℕ → ℕ → Option Term → Option Term
right_at at count right = if at == count then right else None

-- a node is given, and another term is left open
abbrev pub node_or_open : List Triple → Term → Option Term
node_or_open graph x = if list_any (same_term x) (nodes_of graph) then Some x else None

-- (x, z) for each (x, y), where the second is (y, z)
abbrev pub into_pair : List Pair → Pair → List Pair
into_pair ps f = map (λ e. pair e.left f.right) (filter (λ e. same_term e.right f.left) ps)

-- Solution mappings (SPARQL 1.1 Query, 18.1.8 and 18.3): at each variable's number its term, or
-- none where it is not bound.
use Rattle.std.specs.Prelude.{ℕ, zero, suc, Bool, true, false, ◌&&◌, ◌||◌, List, [], ◌∷◌, Option}
use Rattle.std.specs.Prelude.{Some, None, slice_index_or, slice_set, map}
use Rattle.std.specs.Cmp.Lexicographic.{pointwise}
use Rattle.std.specs.Option.{is_some, option_or, option_eq}
use Rattle.qs_terms.specs.declared.term.Term.{Term}
use Rattle.qs_terms.specs.Term.{same_term}

abbrev pub Solution : Type 0
Solution = List (Option Term)

-- the term of a variable
abbrev pub term_at : Solution → ℕ → Option Term
term_at m v = slice_index_or m v None

-- the terms of the listed variables (Project)
abbrev pub projected : List ℕ → Solution → Solution
projected columns m = map (term_at m) columns

-- n variables, none of them bound
abbrev pub unbound : ℕ → Solution
unbound zero = []
unbound (suc n) = None ∷ unbound n

-- a with these variables bound to these terms, one after another; a variable past the last stays
-- unbound
abbrev pub bind_all : Solution → List ℕ → List (Option Term) → Solution
bind_all a (v ∷ vs) (t ∷ terms) = bind_all (slice_set a v t) vs terms
bind_all a _ _ = a

-- n variables, of which these are bound to these terms, and no other
abbrev pub binding : ℕ → List ℕ → List (Option Term) → Solution
binding n vs terms = bind_all (unbound n) vs terms

abbrev pub compatible_terms : Option Term → Option Term → Bool
compatible_terms (Some x) (Some y) = same_term x y
compatible_terms _ _ = true

-- each variable bound in both has the same term; so the integers `"01"` and `"1"` don't meet
abbrev pub compatible : Solution → Solution → Bool
compatible (x ∷ a) (y ∷ b) = compatible_terms x y && compatible a b
compatible _ _ = true

-- the bindings of both; where a variable is bound in both, that of the first
abbrev pub merge : Solution → Solution → Solution
merge [] b = b
merge (x ∷ a) [] = x ∷ a
merge (x ∷ a) (y ∷ b) = option_or x y ∷ merge a b

-- some variable is bound in both
abbrev pub share : Solution → Solution → Bool
share (x ∷ a) (y ∷ b) = (is_some x && is_some y) || share a b
share _ _ = false

-- the same term at each variable
abbrev pub same_solution : Solution → Solution → Bool
same_solution = pointwise (option_eq same_term)

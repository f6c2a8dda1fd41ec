-- Small graphs, computed by the definitions.
use Rattle.std.proofs.Common.{◌≡◌, ℕ, true, false, List, [], ◌∷◌, map, take, Option, Some, None, refl, ap, ◌∙◌}
use Rattle.qs_terms.specs.declared.term.Term.{Term}
use Rattle.qs_terms.specs.declared.term.Term.TheVariants.{Iri, Blank, Literal}
use Rattle.qs_terms.specs.Dataset.{Triple, names_of}
use Rattle.qs_terms.specs.Literal.{typed, xsd_integer}
use Rattle.qs_terms.specs.Statement.{Statement}
use Rattle.std.specs.List.{filter}
use Rattle.qs_syntax_tree.specs.declared.path.Repetition.TheVariants.{ZeroOrMore}
use Rattle.qs_syntax_ast.specs.declared.path.Path.{Path, Path-F}
use Rattle.qs_syntax_ast.specs.declared.path.Path.TheVariants as path
use Rattle.qs_paths_meaning.specs.Pairs.{AtEnds, pairs, pairs_level}
use Rattle.qs_paths_meaning.proofs.Meaning.{pairs_iri, pairs_inverse, pairs_repeated}
use Rattle.qs_algebra_solutions.specs.Solution.{Solution}
use Rattle.qs_algebra_solutions.specs.Operators.{join, left_join, minus}
use Rattle.qs_algebra_patterns.specs.declared.pattern.Slot.{Slot}
use Rattle.qs_algebra_patterns.specs.declared.pattern.Slot.TheVariants as slot
use Rattle.qs_algebra_patterns.specs.declared.pattern.TriplePattern.{TriplePattern}
use Rattle.qs_algebra_patterns.specs.declared.pattern.PathPattern.{PathPattern}
use Rattle.qs_algebra_patterns.specs.declared.pattern.BasicPattern.{BasicPattern}
use Rattle.qs_algebra_patterns.specs.Basic.{Graph, basic, path_solutions, with_paths, ends_bound, fits, end_of}
use Rattle.qs_algebra_patterns.specs.Eval.{in_named, in_each}
use Rattle.qs_algebra_patterns.specs.inner.Eval.{rows_of}

abbrev says : ℕ → ℕ → ℕ → Triple
says s p o = record { subject = Blank s; predicate = Blank p; object = Blank o }

abbrev asks : Slot → Slot → Slot → TriplePattern
asks s p o = record { subject = s; predicate = p; object = o }

abbrev fixed : ℕ → Slot
fixed n = slot.Term (Blank n)

abbrev variable : ℕ → Slot
variable v = slot.Variable v

abbrev pattern : List TriplePattern → ℕ → BasicPattern
pattern triples hidden = record { triples = triples; paths = []; hidden = hidden }

-- a triple pattern has a solution for each triple that it becomes
each_triple : basic 2 (pattern (asks (variable 0) (fixed 1) (variable 1) ∷ []) 0) (says 0 1 2 ∷ says 0 1 3 ∷ says 0 4 5 ∷ []) ≡ (Some (Blank 0) ∷ Some (Blank 2) ∷ []) ∷ (Some (Blank 0) ∷ Some (Blank 3) ∷ []) ∷ []
each_triple = refl

-- the same variable twice is the same term twice
same_variable_twice : basic 1 (pattern (asks (variable 0) (fixed 1) (variable 0) ∷ []) 0) (says 0 1 2 ∷ says 2 1 2 ∷ []) ≡ (Some (Blank 2) ∷ []) ∷ []
same_variable_twice = refl

-- two triple patterns that share a variable
shared_variable : basic 2 (pattern (asks (variable 0) (fixed 1) (variable 1) ∷ asks (variable 1) (fixed 1) (fixed 3) ∷ []) 0) (says 0 1 2 ∷ says 2 1 3 ∷ []) ≡ (Some (Blank 0) ∷ Some (Blank 2) ∷ []) ∷ []
shared_variable = refl

-- nothing matches in an empty graph
empty_graph : basic 1 (pattern (asks (variable 0) (fixed 1) (fixed 2) ∷ []) 0) [] ≡ []
empty_graph = refl

-- no triples have the one solution that binds nothing
no_triples : basic 2 (pattern [] 0) [] ≡ (None ∷ None ∷ []) ∷ []
no_triples = refl

-- a solution counts as often as the hidden variable has terms
hidden_counts : basic 1 (pattern (asks (variable 1) (fixed 1) (variable 0) ∷ []) 1) (says 0 1 2 ∷ says 3 1 2 ∷ []) ≡ (Some (Blank 2) ∷ []) ∷ (Some (Blank 2) ∷ []) ∷ []
hidden_counts = refl

-- a variable past the last is bound nowhere, and a triple pattern of it has no solutions
past_the_last : basic 1 (pattern (asks (variable 0) (fixed 1) (variable 2) ∷ []) 0) (says 0 1 2 ∷ []) ≡ []
past_the_last = refl

-- ---- paths

abbrev node : ℕ → Term
node n = Iri (n ∷ [])

abbrev leads : ℕ → ℕ → ℕ → Triple
leads s p o = record { subject = node s; predicate = node p; object = node o }

abbrev between : Slot → Path → Slot → PathPattern
between s q o = record { subject = s; path = q; object = o }

-- what is known of the path's pairs
by_pairs : (n : ℕ) (graph : Graph) (s : Slot) (q : Path) (o : Slot) (f : AtEnds) → pairs graph q ≡ f
    → path_solutions n graph (between s q o) ≡ map (ends_bound n (between s q o)) (filter (fits (between s q o)) (f (end_of s) (end_of o)))
by_pairs n graph s q o f e = ap (λ (k : AtEnds). map (ends_bound n (between s q o)) (filter (fits (between s q o)) (k (end_of s) (end_of o)))) e

abbrev back : ℕ → Path
back p = path.Inverse (path.Iri (p ∷ []))

back_is : (graph : Graph) (p : ℕ) → pairs graph (back p) ≡ pairs_level graph (Path-F.Inverse (pairs_level graph (Path-F.Iri (p ∷ []))))
back_is graph p = pairs_inverse graph (path.Iri (p ∷ [])) ∙ ap (λ (f : AtEnds). pairs_level graph (Path-F.Inverse f)) (pairs_iri graph (p ∷ []))

abbrev often : ℕ → Path
often p = path.Repeated (path.Iri (p ∷ [])) ZeroOrMore

often_is : (graph : Graph) (p : ℕ) → pairs graph (often p) ≡ pairs_level graph (Path-F.Repeated (pairs_level graph (Path-F.Iri (p ∷ []))) ZeroOrMore)
often_is graph p = pairs_repeated graph (path.Iri (p ∷ [])) ZeroOrMore ∙ ap (λ (f : AtEnds). pairs_level graph (Path-F.Repeated f ZeroOrMore)) (pairs_iri graph (p ∷ []))

abbrev at : ℕ → Option Term
at n = Some (node n)

abbrev fork : Graph
fork = leads 1 10 2 ∷ leads 1 10 3 ∷ []

-- both ends open: a solution for each pair, at the numbers of the two variables
open_ends : path_solutions 3 fork (between (variable 2) (back 10) (variable 0)) ≡ (at 1 ∷ None ∷ at 2 ∷ []) ∷ (at 1 ∷ None ∷ at 3 ∷ []) ∷ []
open_ends = by_pairs 3 fork (variable 2) (back 10) (variable 0) _ (back_is fork 10)

-- a term at an end is bound to nothing
given_end : path_solutions 2 fork (between (slot.Term (node 3)) (back 10) (variable 1)) ≡ (None ∷ at 1 ∷ []) ∷ []
given_end = by_pairs 2 fork (slot.Term (node 3)) (back 10) (variable 1) _ (back_is fork 10)

abbrev loop : Graph
loop = leads 1 10 2 ∷ leads 3 10 3 ∷ []

-- the same variable at both ends: only equal ones
equal_ends : path_solutions 1 loop (between (variable 0) (back 10) (variable 0)) ≡ (at 3 ∷ []) ∷ []
equal_ends = by_pairs 1 loop (variable 0) (back 10) (variable 0) _ (back_is loop 10)

abbrev one : Graph
one = leads 1 10 2 ∷ []

abbrev number : Term
number = Literal (typed (120 ∷ []) xsd_integer)

-- a term outside the graph is led to itself by no step, a literal too
outside : path_solutions 1 one (between (slot.Term number) (often 10) (variable 0)) ≡ (Some number ∷ []) ∷ []
unfolding xsd_integer
outside = by_pairs 1 one (slot.Term number) (often 10) (variable 0) _ (often_is one 10)

-- what the triples bind a variable to is no given end: the list of the path has the nodes alone
bound_outside : with_paths 1 one (between (variable 0) (often 10) (variable 0) ∷ []) ((at 10 ∷ []) ∷ (at 2 ∷ []) ∷ []) ≡ (at 2 ∷ []) ∷ []
bound_outside = ap (join ((at 10 ∷ []) ∷ (at 2 ∷ []) ∷ [])) (by_pairs 1 one (variable 0) (often 10) (variable 0) _ (often_is one 10))

abbrev meet : Graph
meet = leads 1 10 2 ∷ leads 3 10 2 ∷ []

-- a hidden variable at an end: counts stay
abbrev hidden_end : BasicPattern
hidden_end = record { triples = []; paths = between (variable 0) (back 10) (variable 1) ∷ []; hidden = 1 }

hidden_end_counts : basic 1 hidden_end meet ≡ (at 2 ∷ []) ∷ (at 2 ∷ []) ∷ []
hidden_end_counts = ap (λ (l : List Solution). map (take 1) (join ((None ∷ None ∷ []) ∷ []) l)) (by_pairs 2 meet (variable 0) (back 10) (variable 1) _ (back_is meet 10))

-- ---- operators

abbrev cell : ℕ → Option Term
cell n = Some (Blank n)

-- OPTIONAL keeps a solution without merges, and gives another one once for each merge
optional : left_join (λ m. true) ((cell 0 ∷ None ∷ []) ∷ (cell 1 ∷ None ∷ []) ∷ []) ((cell 0 ∷ cell 5 ∷ []) ∷ (cell 0 ∷ cell 6 ∷ []) ∷ [])
    ≡ (cell 0 ∷ cell 5 ∷ []) ∷ (cell 0 ∷ cell 6 ∷ []) ∷ (cell 1 ∷ None ∷ []) ∷ []
optional = refl

-- a repeated solution of the left is kept as often as it stands there
optional_counts : left_join (λ m. true) ((cell 1 ∷ []) ∷ (cell 1 ∷ []) ∷ []) [] ≡ (cell 1 ∷ []) ∷ (cell 1 ∷ []) ∷ []
optional_counts = refl

-- a condition that no merge meets keeps the solution of the left
unmet_condition : left_join (λ m. false) ((cell 0 ∷ None ∷ []) ∷ []) ((cell 0 ∷ cell 5 ∷ []) ∷ []) ≡ (cell 0 ∷ None ∷ []) ∷ []
unmet_condition = refl

-- MINUS takes nothing away where no variable is shared, though all is compatible
nothing_shared : minus ((cell 0 ∷ None ∷ []) ∷ []) ((None ∷ cell 1 ∷ []) ∷ []) ≡ (cell 0 ∷ None ∷ []) ∷ []
nothing_shared = refl

-- it takes away what is compatible and shares one
shared_minus : minus ((cell 0 ∷ None ∷ []) ∷ (cell 2 ∷ None ∷ []) ∷ []) ((cell 0 ∷ cell 1 ∷ []) ∷ []) ≡ (cell 2 ∷ None ∷ []) ∷ []
shared_minus = refl

-- "01" and "1" are two terms, so a solution with the one doesn't remove a solution with the other
abbrev integer : List ℕ → Option Term
integer form = Some (Literal (typed form xsd_integer))

values_apart : minus ((integer (48 ∷ 49 ∷ []) ∷ []) ∷ []) ((integer (49 ∷ []) ∷ []) ∷ []) ≡ (integer (48 ∷ 49 ∷ []) ∷ []) ∷ []
values_apart = refl

-- counts multiply in a join
counts_multiply : join ((cell 0 ∷ []) ∷ (cell 0 ∷ []) ∷ []) ((cell 0 ∷ []) ∷ (None ∷ []) ∷ []) ≡ (cell 0 ∷ []) ∷ (cell 0 ∷ []) ∷ (cell 0 ∷ []) ∷ (cell 0 ∷ []) ∷ []
counts_multiply = refl

-- ---- GRAPH and VALUES

abbrev quad : Option Term → ℕ → Statement
quad name n = record { graph = name; subject = Blank n; predicate = Iri []; object = Blank n }

-- two names: the solution of each graph, with its name
two_names : in_each 2 (quad (cell 8) 1 ∷ quad (cell 9) 2 ∷ quad (cell 8) 3 ∷ []) 1 (λ graph. map (λ t. Some t.subject ∷ None ∷ []) graph) (names_of (quad (cell 8) 1 ∷ quad (cell 9) 2 ∷ quad (cell 8) 3 ∷ []))
    ≡ (cell 1 ∷ cell 8 ∷ []) ∷ (cell 3 ∷ cell 8 ∷ []) ∷ (cell 2 ∷ cell 9 ∷ []) ∷ []
two_names = refl

-- an absent graph has no solution, even of the pattern that has one everywhere
absent_graph : in_named (quad None 1 ∷ []) (Blank 9) (λ graph. (None ∷ []) ∷ []) ≡ []
absent_graph = refl

-- UNDEF binds nothing, and equal rows count twice
table : rows_of 2 (record { variables = 1 ∷ 0 ∷ []; rows = (cell 4 ∷ None ∷ []) ∷ (None ∷ cell 5 ∷ []) ∷ (None ∷ cell 5 ∷ []) ∷ [] })
    ≡ (None ∷ cell 4 ∷ []) ∷ (cell 5 ∷ None ∷ []) ∷ (cell 5 ∷ None ∷ []) ∷ []
table = refl

-- A path notes no variable, and a verb no more than its own.
use Rattle.std.proofs.Common.{List, [], ◌∷◌, map, sym, subst}
use Rattle.std.specs.List.{AllByRecursion}
use Rattle.qs_syntax_tree.specs.declared.path.NegatedPredicate.{NegatedPredicate}
use Rattle.qs_syntax_tree.specs.declared.path.Path.{Path as WrittenPath, fold-Path, map-Path, roll-Path, fold-roll-Path, ind-Path}
use Rattle.qs_syntax_tree.specs.declared.path.PathOperand.{PathOperand, fold-PathOperand, map-PathOperand, roll-PathOperand, fold-roll-PathOperand}
use Rattle.qs_syntax_tree.specs.declared.path.Path.TheOpen.{Path-F, PathOperand-F}
use Rattle.qs_syntax_tree.specs.declared.path.Path.TheOpen as tree
use Rattle.qs_syntax_tree.specs.declared.path.Verb.{Verb as WrittenVerb}
use Rattle.qs_syntax_tree.specs.declared.path.Verb.TheVariants as written
use Rattle.qs_syntax_ast.specs.declared.path.Path.{Path}
use Rattle.qs_syntax_ast.specs.declared.path.Path.TheVariants as path
use Rattle.qs_syntax_ast.specs.declared.pattern.Verb.TheVariants as verb
use Rattle.qs_syntax_resolve.specs.Leaves.{variable}
use Rattle.qs_syntax_resolve.specs.Path.{predicate, negated, path_level, path_of}
use Rattle.qs_syntax_resolve.specs.Resolving.{Resolving, all}
use Rattle.qs_syntax_resolve.specs.Triples.{simplified, verb_of}
use Rattle.qs_syntax_scope.specs.Variables.{verb_variables}
use Rattle.qs_syntax_laws.proofs.NotedSteps.{Among, same, none, Notes, makes, each}
use Rattle.qs_syntax_laws.proofs.NotedLeaves.{name_of, variable_notes, empty, predicate_notes}

-- ---- paths

abbrev operand_level : PathOperand-F (Resolving Path) (Resolving Path) → Resolving Path
operand_level o = o.path

abbrev of_path : WrittenPath → Resolving Path
of_path = fold-Path (Resolving Path) (Resolving Path) path_level operand_level

abbrev of_operand : PathOperand → Resolving Path
of_operand = fold-PathOperand (Resolving Path) (Resolving Path) path_level operand_level

abbrev IsQuiet : WrittenPath → Type 0
IsQuiet p = Notes [] empty (of_path p)

abbrev IsQuietOperand : PathOperand → Type 0
IsQuietOperand o = Notes [] empty (of_operand o)

abbrev Known : Type 0
Known = (p : WrittenPath) × IsQuiet p

abbrev KnownOperand : Type 0
KnownOperand = (o : PathOperand) × IsQuietOperand o

abbrev inner : Path-F Known KnownOperand → Path-F WrittenPath PathOperand
inner y = map-Path Known KnownOperand WrittenPath PathOperand (λ e. e.0) (λ e. e.0) y

abbrev inner_operand : PathOperand-F Known KnownOperand → PathOperand-F WrittenPath PathOperand
inner_operand y = map-PathOperand Known KnownOperand WrittenPath PathOperand (λ e. e.0) (λ e. e.0) y

negated_notes : (n : NegatedPredicate) → Notes [] empty (negated n)
negated_notes n = makes (predicate n.predicate) (λ i. record { inverse = n.inverse; iri = i }) (predicate_notes n.predicate) (λ i. none [])

each_negated : (ns : List NegatedPredicate) → AllByRecursion (Notes [] empty) (map negated ns)
each_negated [] = tt
each_negated (n ∷ ns) = (negated_notes n, each_negated ns)

each_operand : (es : List KnownOperand) → AllByRecursion (Notes [] empty) (map of_operand (map (λ e. e.0) es))
each_operand [] = tt
each_operand (e ∷ es) = (e.1, each_operand es)

level_notes : (y : Path-F Known KnownOperand) → Notes [] empty (path_level (map-Path WrittenPath PathOperand (Resolving Path) (Resolving Path) of_path of_operand (inner y)))
level_notes (tree.Predicate p) = makes (predicate p) path.Iri (predicate_notes p) (λ x. none [])
level_notes (tree.NegatedSet ns) = makes (all (map negated ns)) path.NegatedSet (each empty (map negated ns) (each_negated ns)) (λ xs. none _)
level_notes (tree.Alternative es) = makes (all (map of_operand (map (λ e. e.0) es))) path.Alternative (each empty (map of_operand (map (λ e. e.0) es)) (each_operand es)) (λ xs. none _)
level_notes (tree.Sequence es) = makes (all (map of_operand (map (λ e. e.0) es))) path.Sequence (each empty (map of_operand (map (λ e. e.0) es)) (each_operand es)) (λ xs. none _)
level_notes (tree.Inverse e) = makes (of_path e.0) path.Inverse e.1 (λ x. none [])
level_notes (tree.Repeated e r) = makes (of_path e.0) (λ x. path.Repeated x r) e.1 (λ x. none [])

rolled_notes : (y : Path-F Known KnownOperand) → IsQuiet (roll-Path (inner y))
rolled_notes y = subst (Notes [] empty) (sym (fold-roll-Path (Resolving Path) (Resolving Path) path_level operand_level (inner y))) (level_notes y)

rolled_operand_notes : (y : PathOperand-F Known KnownOperand) → IsQuietOperand (roll-PathOperand (inner_operand y))
rolled_operand_notes y = subst (Notes [] empty) (sym (fold-roll-PathOperand (Resolving Path) (Resolving Path) path_level operand_level (inner_operand y))) y.path.1

path_notes : (p : WrittenPath) → Notes [] empty (path_of p)
unfolding path_of
path_notes = ind-Path IsQuiet IsQuietOperand (λ x y is. subst (λ z. IsQuiet (roll-Path z)) is (rolled_notes y)) (λ x y is. subst (λ z. IsQuietOperand (roll-PathOperand z)) is (rolled_operand_notes y))

-- ---- verbs

simplified_has_none : (p : Path) → Among (verb_variables (simplified p)) []
simplified_has_none (path.Iri i) = none []
simplified_has_none p = none []

pub verb_notes : (v : WrittenVerb) → Notes [] verb_variables (verb_of v)
verb_notes (written.Var v) = makes (variable v) verb.Variable (variable_notes v) (λ x. same (name_of x))
verb_notes (written.Path p) = makes (path_of p) simplified (path_notes p) simplified_has_none

-- Group graph patterns with their names resolved (SPARQL 1.1 Query, 5.2, 18.2.2).
-- Filters are set apart, since they apply to the whole group. Triples that have nothing but filters
-- between them are one block.
use Rattle.std.specs.Prelude.{List, [], ◌∷◌, ◌++◌}
use Rattle.qs_syntax_tree.specs.declared.pattern.Group.{Group as WrittenGroup, fold-Group}
use Rattle.qs_syntax_tree.specs.declared.pattern.GraphPattern.TheOpen as tree
use Rattle.qs_syntax_tree.specs.declared.pattern.GraphPattern.TheOpen.{GraphPattern-F}
use Rattle.qs_syntax_tree.specs.declared.pattern.GraphPattern.TheOpen.{Group-F}
use Rattle.qs_syntax_ast.specs.declared.pattern.Group.{Group, roll-Group}
use Rattle.qs_syntax_ast.specs.declared.pattern.GraphPattern.{GraphPattern}
use Rattle.qs_syntax_ast.specs.declared.pattern.GraphPattern.TheVariants as pattern
use Rattle.qs_syntax_ast.specs.declared.pattern.Triple.{Triple}
use Rattle.qs_syntax_resolve.specs.declared.open_group.OpenGroup.{OpenGroup}
use Rattle.qs_syntax_resolve.specs.Data.{inline_data}
use Rattle.qs_syntax_resolve.specs.Expression.{expression_of}
use Rattle.qs_syntax_resolve.specs.Leaves.{variable, var_or_iri}
use Rattle.qs_syntax_resolve.specs.Resolving.{Resolving, ◌>>=◌, ◌<$>◌, pure, all, in_turn}
use Rattle.qs_syntax_resolve.specs.Triples.{triples_after}

-- the patterns, with the triples that no other pattern follows yet
abbrev pub closed : List GraphPattern → List Triple → List GraphPattern
closed patterns [] = patterns
closed patterns (t ∷ ts) = patterns ++ pattern.Triples (t ∷ ts) ∷ []

-- a pattern other than triples ends the triples before it
unfoldable pub put : GraphPattern → OpenGroup → OpenGroup
put p g = record g { patterns = closed g.patterns g.triples ++ p ∷ []; triples = [] }

unfoldable pub finished : OpenGroup → Group
finished g = roll-Group (record { patterns = closed g.patterns g.triples; filters = g.filters })

-- an element, put into the group that holds it
abbrev pub Put : Type 0
Put = OpenGroup → Resolving OpenGroup

-- a filter doesn't end the triples before it
abbrev pub pattern_level : GraphPattern-F Put Put (Resolving Group) → Put
pattern_level (tree.Triples ts) =
    λ g. triples_after g.triples ts >>= (λ more. pure (record g { triples = more }))
pattern_level (tree.Union gs) = λ g. all gs >>= (λ xs. pure (put (pattern.Union xs) g))
pattern_level (tree.Optional inner) = λ g. inner >>= (λ x. pure (put (pattern.Optional x) g))
pattern_level (tree.Minus inner) = λ g. inner >>= (λ x. pure (put (pattern.Minus x) g))
pattern_level (tree.Graph n inner) =
    λ g. var_or_iri n >>= (λ x. inner >>= (λ y. pure (put (pattern.Graph x y) g)))
pattern_level (tree.Filter e) =
    λ g. expression_of e >>= (λ x. pure (record g { filters = g.filters ++ x ∷ [] }))
pattern_level (tree.Bind e v) =
    λ g. expression_of e >>= (λ x. variable v >>= (λ y. pure (put (pattern.Bind x y) g)))
pattern_level (tree.Values d) = λ g. inline_data d >>= (λ x. pure (put (pattern.Values x) g))

abbrev pub group_level : Group-F Put Put (Resolving Group) → Resolving Group
group_level g =
    finished
    <$> in_turn (λ h put. put h) (record { patterns = []; triples = []; filters = [] }) g.elements

unfoldable pub group_of : WrittenGroup → Resolving Group
group_of = fold-Group Put Put (Resolving Group) pattern_level (λ e. e.pattern) group_level

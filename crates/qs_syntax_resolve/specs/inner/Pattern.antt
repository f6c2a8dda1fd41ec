-- Definitions over those of `Pattern`, for proofs and the layers between.
use Rattle.std.specs.Prelude.{List, [], ◌∷◌, ◌++◌, map}
use Rattle.qs_syntax_tree.specs.declared.pattern.Group.{Group as WrittenGroup}
use Rattle.qs_syntax_tree.specs.declared.pattern.Element.{Element, fold-Element}
use Rattle.qs_syntax_tree.specs.declared.pattern.GraphPattern.{GraphPattern as WrittenPattern}
use Rattle.qs_syntax_tree.specs.declared.pattern.GraphPattern.{fold-GraphPattern}
use Rattle.qs_syntax_tree.specs.declared.expression.Expression.{Expression as WrittenExpression}
use Rattle.qs_syntax_tree.specs.declared.pattern.InlineData.{InlineData as WrittenData}
use Rattle.qs_syntax_tree.specs.declared.token.Span.{Span}
use Rattle.qs_syntax_tree.specs.declared.triples.TriplesSameSubject.{TriplesSameSubject}
use Rattle.qs_syntax_tree.specs.declared.pattern.GraphPattern.TheOpen.{Element-F}
use Rattle.qs_syntax_ast.specs.declared.expression.Expression.{Expression}
use Rattle.qs_syntax_ast.specs.declared.pattern.Group.{Group}
use Rattle.qs_syntax_ast.specs.declared.pattern.Triple.{Triple}
use Rattle.qs_syntax_ast.specs.declared.pattern.GraphPattern.TheVariants as pattern
use Rattle.qs_syntax_resolve.specs.declared.open_group.OpenGroup.{OpenGroup}
use Rattle.qs_syntax_resolve.specs.Data.{inline_data}
use Rattle.qs_syntax_resolve.specs.Expression.{expression_of}
use Rattle.qs_syntax_resolve.specs.Leaves.{variable}
use Rattle.qs_syntax_resolve.specs.Resolving.{Resolving, ◌>>=◌, pure, all, in_turn}
use Rattle.qs_syntax_resolve.specs.Triples.{triples_after}
use Rattle.qs_syntax_resolve.specs.Pattern.{put, Put}
use Rattle.qs_syntax_resolve.specs.Pattern.{pattern_level, group_level, group_of}

-- a filter doesn't end the triples before it
abbrev pub put_filter : Expression → OpenGroup → OpenGroup
put_filter e g = record g { filters = g.filters ++ e ∷ [] }

abbrev pub put_triples : List Triple → OpenGroup → OpenGroup
put_triples ts g = record g { triples = ts }

abbrev pub empty_group : OpenGroup
empty_group = record { patterns = []; triples = []; filters = [] }

abbrev pub each_element : OpenGroup → List Put → Resolving OpenGroup
each_element g es = in_turn (λ h put. put h) g es

abbrev pub element_level : Element-F Put Put (Resolving Group) → Put
element_level e = e.pattern

unfoldable pub pattern_of : WrittenPattern → Put
pattern_of = fold-GraphPattern Put Put (Resolving Group) pattern_level element_level group_level

unfoldable pub element_of : Element → Put
element_of = fold-Element Put Put (Resolving Group) pattern_level element_level group_level

abbrev pub elements : OpenGroup → List Element → Resolving OpenGroup
elements g es = each_element g (map element_of es)

abbrev pub groups : List WrittenGroup → Resolving (List Group)
groups gs = all (map group_of gs)

abbrev pub triples_pattern : List TriplesSameSubject → Put
triples_pattern ts = λ g. triples_after g.triples ts >>= (λ more. pure (put_triples more g))

abbrev pub filter_pattern : WrittenExpression → Put
filter_pattern e = λ g. expression_of e >>= (λ x. pure (put_filter x g))

abbrev pub bind_pattern : WrittenExpression → Span → Put
bind_pattern e v =
    λ g. expression_of e >>= (λ x. variable v >>= (λ y. pure (put (pattern.Bind x y) g)))

abbrev pub values_pattern : WrittenData → Put
values_pattern d = λ g. inline_data d >>= (λ x. pure (put (pattern.Values x) g))

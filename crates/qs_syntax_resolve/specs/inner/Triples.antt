-- Definitions over those of `Triples`, for proofs and the layers between.
use Rattle.std.specs.Prelude.{List, [], ◌∷◌, ◌++◌, map}
use Rattle.qs_syntax_tree.specs.declared.term.Term.{Term}
use Rattle.qs_syntax_tree.specs.declared.triples.GraphNode.{GraphNode, fold-GraphNode}
use Rattle.qs_syntax_tree.specs.declared.triples.Property.{Property}
use Rattle.qs_syntax_ast.specs.declared.pattern.Verb.{Verb}
use Rattle.qs_syntax_ast.specs.declared.pattern.Triple.{Triple}
use Rattle.qs_syntax_ast.specs.declared.term.BlankNode.{BlankNode}
use Rattle.qs_syntax_ast.specs.declared.term.TermPattern.{TermPattern}
use Rattle.qs_syntax_ast.specs.declared.term.TermPattern.TheVariants.{Blank}
use Rattle.qs_syntax_resolve.specs.Leaves.{term_of, anonymous}
use Rattle.qs_syntax_resolve.specs.Resolving.{Resolving, ◌>>=◌, ◌<$>◌, pure, in_turn}
use Rattle.qs_syntax_resolve.specs.Triples.{OfSubject, OfObject, triple}
use Rattle.qs_syntax_resolve.specs.Triples.{property_level, node_level, properties}

abbrev pub each_object : TermPattern → Verb → List Triple → List OfObject → Resolving (List Triple)
each_object subject v found os = in_turn (λ more o. o subject v more) found os

abbrev pub each_property : TermPattern → List Triple → List OfSubject → Resolving (List Triple)
each_property subject found ps = in_turn (λ more p. p subject more) found ps

unfoldable pub object_of : GraphNode → OfObject
object_of = fold-GraphNode OfObject OfSubject node_level property_level

abbrev pub objects : TermPattern → Verb → List Triple → List GraphNode → Resolving (List Triple)
objects subject v found os = each_object subject v found (map object_of os)

abbrev pub simple_object : TermPattern → Verb → List Triple → Term → Resolving (List Triple)
simple_object subject v found t = term_of t >>= (λ o. pure (found ++ triple subject v o ∷ []))

abbrev pub opened : TermPattern → Verb → List Triple → BlankNode → TermPattern × List Triple
opened subject y found b = (Blank b, found ++ triple subject y (Blank b) ∷ [])

abbrev pub blank_object : TermPattern → Verb → List Triple → Resolving (TermPattern × List Triple)
blank_object subject v found = anonymous >>= (λ b. pure (opened subject v found b))

abbrev pub bracketed_object : TermPattern → Verb → List Triple → List Property
    → Resolving (List Triple)
bracketed_object subject v found ps = blank_object subject v found >>= (λ r. properties r.0 r.1 ps)

abbrev pub blank : Resolving TermPattern
blank = Blank <$> anonymous

abbrev pub bracketed_subject : List Triple → List Property → List Property → Resolving (List Triple)
bracketed_subject found own ps =
    anonymous >>= (λ b. properties (Blank b) found own >>= (λ more. properties (Blank b) more ps))

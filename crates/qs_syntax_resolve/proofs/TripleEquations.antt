-- The equations of the walks over triples.
use Rattle.std.proofs.Common.{rules, ◌≡◌, List, [], ◌∷◌, ◌++◌, ap}
use Rattle.qs_syntax_tree.specs.declared.term.Term.{Term}
use Rattle.qs_syntax_tree.specs.declared.triples.GraphNode.{the_lemmas as node_lemmas}
use Rattle.qs_syntax_tree.specs.declared.triples.GraphNode.TheVariants as written_node
use Rattle.qs_syntax_tree.specs.declared.triples.Property.{Property, the_lemmas as property_lemmas}
use Rattle.qs_syntax_ast.specs.declared.term.TermPattern.{TermPattern}
use Rattle.qs_syntax_ast.specs.declared.term.TermPattern.TheVariants.{Blank}
use Rattle.qs_syntax_ast.specs.declared.pattern.Triple.{Triple}
use Rattle.qs_syntax_ast.specs.declared.pattern.Verb.{Verb}
use Rattle.qs_syntax_resolve.specs.Leaves.{anonymous}
use Rattle.qs_syntax_resolve.specs.Triples.{OfObject, OfSubject, property_of, properties, verb_of, triple}
use Rattle.qs_syntax_resolve.specs.inner.Triples.{object_of, objects, simple_object, bracketed_object}
use Rattle.qs_terms.specs.Outcome.{and_then}
use Rattle.qs_syntax_resolve.specs.Resolving.{◌>>=◌}
use Rattle.qs_syntax_resolve.specs.declared.resolver.Resolver.{Resolver}

simple_bound : (t : Term) → object_of (written_node.Term t) ≡ (λ subject v found. simple_object subject v found t)
unfolding object_of
simple_bound t = search (rules, node_lemmas)

pub simple_object_is : (t : Term) (subject : TermPattern) (v : Verb) (found : List Triple) (s : Resolver) → object_of (written_node.Term t) subject v found s ≡ simple_object subject v found t s
simple_object_is t subject v found s = ap (λ (f : OfObject). f subject v found s) (simple_bound t)

bracketed_bound : (ps : List Property) → object_of (written_node.BlankNodePropertyList ps) ≡ (λ subject v found. anonymous >>= (λ b. properties (Blank b) (found ++ triple subject v (Blank b) ∷ []) ps))
unfolding object_of property_of
bracketed_bound ps = search (rules, node_lemmas)

pub bracketed_object_is : (ps : List Property) (subject : TermPattern) (v : Verb) (found : List Triple) (s : Resolver) → object_of (written_node.BlankNodePropertyList ps) subject v found s ≡ bracketed_object subject v found ps s
unfolding anonymous
bracketed_object_is ps subject v found s = ap (λ (f : OfObject). f subject v found s) (bracketed_bound ps)

property_bound : (p : Property) → property_of p ≡ (λ subject found. verb_of p.verb >>= (λ v. objects subject v found p.objects))
unfolding property_of object_of
property_bound p = search (rules, property_lemmas)

pub property_is : (p : Property) (subject : TermPattern) (found : List Triple) (s : Resolver) → property_of p subject found s ≡ and_then (verb_of p.verb s) (λ r. objects subject r.0 found p.objects r.1)
property_is p subject found s = ap (λ (f : OfSubject). f subject found s) (property_bound p)

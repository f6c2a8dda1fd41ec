-- Basic graph patterns of triples (SPARQL 1.1 Query, 18.2.2.5), and the path patterns among them
-- (18.2.2.4): a triple whose verb is a path of more than one IRI.
use Rattle.std.specs.Prelude.{List, Option, Some, None, option_map}
use Rattle.std.specs.List.{filter_map}
use Rattle.qs_terms.specs.declared.term.Term.TheVariants as value
use Rattle.qs_syntax_ast.specs.declared.pattern.Triple.{Triple}
use Rattle.qs_syntax_ast.specs.declared.pattern.Verb.{Verb}
use Rattle.qs_syntax_ast.specs.declared.pattern.Verb.TheVariants as verb
use Rattle.qs_syntax_ast.specs.declared.path.Path.{Path}
use Rattle.qs_syntax_ast.specs.declared.term.TermPattern.{TermPattern}
use Rattle.qs_syntax_ast.specs.declared.term.TermPattern.TheVariants as term
use Rattle.qs_syntax_scope.specs.Names.{Name}
use Rattle.qs_syntax_scope.specs.Places.{place_of}
use Rattle.qs_algebra_patterns.specs.declared.pattern.Slot.{Slot}
use Rattle.qs_algebra_patterns.specs.declared.pattern.Slot.TheVariants as slot
use Rattle.qs_algebra_patterns.specs.declared.pattern.TriplePattern.{TriplePattern}
use Rattle.qs_algebra_patterns.specs.declared.pattern.PathPattern.{PathPattern}
use Rattle.qs_algebra_patterns.specs.declared.pattern.BasicPattern.{BasicPattern}
use Rattle.qs_algebra.specs.declared.hidden.Hidden.{Hidden}
use Rattle.qs_algebra.specs.Numbers.{hidden_of, hidden_number, width}

abbrev pub term_slot : List Name → Hidden → TermPattern → Slot
term_slot names hidden (term.Variable v) = slot.Variable (place_of names v.name)
term_slot names hidden (term.Iri i) = slot.Term (value.Iri i)
term_slot names hidden (term.Literal l) = slot.Term (value.Literal l)
term_slot names hidden (term.Blank b) = slot.Variable (hidden_number names hidden b)

-- the slot of a verb that is no path
abbrev pub verb_slot : List Name → Verb → Option Slot
verb_slot names (verb.Variable v) = Some (slot.Variable (place_of names v.name))
verb_slot names (verb.Iri i) = Some (slot.Term (value.Iri i))
verb_slot names (verb.Path p) = None

abbrev pub path_of : Verb → Option Path
path_of (verb.Path p) = Some p
path_of _ = None

-- a triple whose verb is no path is a triple pattern
abbrev pub triple_pattern : List Name → Hidden → Triple → Option TriplePattern
triple_pattern names hidden t = let end = term_slot names hidden in
    option_map (λ p. record { subject = end t.subject; predicate = p; object = end t.object })
    (verb_slot names t.verb)

-- and one whose verb is a path, a path pattern
abbrev pub path_pattern : List Name → Hidden → Triple → Option PathPattern
path_pattern names hidden t = let end = term_slot names hidden in
    option_map (λ p. record { subject = end t.subject; path = p; object = end t.object })
    (path_of t.verb)

-- the basic graph pattern of these triples: both in the order of the text; the hidden variables are
-- those of all
abbrev pub basic_pattern : List Name → List Triple → BasicPattern
basic_pattern names triples =
    let hidden = hidden_of triples in record {
      triples = filter_map (triple_pattern names hidden) triples;
      paths = filter_map (path_pattern names hidden) triples;
      hidden = width hidden;
    }

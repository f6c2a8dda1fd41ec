-- The numbers of variables (SPARQL 1.1 Query, 4.1.4): first those with a name, by their places
-- among the variables of a query's text, or of an operation of an update. After them come the
-- hidden variables of a basic graph pattern, which its blank nodes are. Those with a label have
-- numbers by the first place of the label, and after them those without one by where they begin in
-- the text.
use Rattle.std.specs.Prelude.{ℕ, ◌+◌, ◌-◌, List, [], ◌∷◌, ◌++◌, length, min, max, Option, Some}
use Rattle.std.specs.Prelude.{None, if◌then◌else◌}
use Rattle.std.specs.List.{fold}
use Rattle.std.specs.Option.{option_map_or}
use Rattle.qs_syntax_ast.specs.declared.pattern.Triple.{Triple}
use Rattle.qs_syntax_ast.specs.declared.term.BlankNode.{BlankNode}
use Rattle.qs_syntax_ast.specs.declared.term.BlankNode.TheVariants as blank
use Rattle.qs_syntax_ast.specs.declared.term.TermPattern.{TermPattern}
use Rattle.qs_syntax_ast.specs.declared.term.TermPattern.TheVariants as term
use Rattle.qs_syntax_scope.specs.Names.{Name, contains}
use Rattle.qs_syntax_scope.specs.Places.{place_of}
use Rattle.qs_algebra.specs.declared.hidden.Hidden.{Hidden}
use Rattle.qs_algebra.specs.declared.hidden.Span.{Span}

-- ---- the blank nodes of a basic graph pattern: their labels, and of those without one the
-- least number and the greatest

abbrev pub add_label : List Name → Name → List Name
add_label labels label = if contains labels label then labels else labels ++ label ∷ []

abbrev pub add_number : Option Span → ℕ → Option Span
add_number None n = Some (record { least = n; greatest = n })
add_number (Some s) n = Some (record { least = min s.least n; greatest = max s.greatest n })

abbrev pub add_blank : Hidden → BlankNode → Hidden
add_blank h (blank.Label label) = record h { labels = add_label h.labels label }
add_blank h (blank.Anonymous n) = record h { span = add_number h.span n }

abbrev pub add_term : Hidden → TermPattern → Hidden
add_term hidden (term.Blank b) = add_blank hidden b
add_term hidden _ = hidden

abbrev pub add_triple : Hidden → Triple → Hidden
add_triple hidden t = add_term (add_term hidden t.subject) t.object

-- the blank nodes of these triples
abbrev pub hidden_of : List Triple → Hidden
hidden_of triples = fold add_triple (record { labels = []; span = None }) triples

-- how many numbers the hidden variables take
abbrev pub width : Hidden → ℕ
width h = length h.labels + option_map_or (λ (s : Span). s.greatest - s.least + 1) h.span 0

-- the number of a hidden variable, after those of the named ones
abbrev pub hidden_number : List Name → Hidden → BlankNode → ℕ
hidden_number names h (blank.Label label) = length names + place_of h.labels label
hidden_number names h (blank.Anonymous n) =
    length names + length h.labels + (n - option_map_or (λ (s : Span). s.least) h.span 0)

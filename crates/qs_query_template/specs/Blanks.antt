-- The blank nodes of a template, with a label or without one (SPARQL 1.1 Query, 4.1.4 and 16.2.1):
-- each that stands as subject or object, once, numbered from 0 by first appearance in the text. A
-- triple to `[ .. ]` stands before the triples inside it, and a subject `[ .. ]` has its own
-- triples first. So the order of the text is that of the triples, in each the subject before the
-- object, and in quads with graphs that of the blocks. Hidden variables of a pattern can't be seen,
-- so there the labels may come first.
use Rattle.std.specs.Prelude.{ℕ, zero, suc, Bool, false, nat_eq, List, [], ◌∷◌, ◌++◌, Option, Some}
use Rattle.std.specs.Prelude.{None, if◌then◌else◌}
use Rattle.std.specs.Cmp.Lexicographic.{pointwise}
use Rattle.std.specs.List.{fold, flat_map}
use Rattle.std.specs.Option.{is_some, option_map}
use Rattle.qs_syntax_ast.specs.declared.pattern.Triple.{Triple}
use Rattle.qs_syntax_ast.specs.declared.term.BlankNode.{BlankNode}
use Rattle.qs_syntax_ast.specs.declared.term.BlankNode.TheVariants as blank
use Rattle.qs_syntax_ast.specs.declared.term.TermPattern.{TermPattern}
use Rattle.qs_syntax_ast.specs.declared.term.TermPattern.TheVariants as term
use Rattle.qs_syntax_ast.specs.declared.update.QuadBlock.{QuadBlock}

-- two labels are the same where their texts are, and two without one where they stand at one place
abbrev pub same_blank : BlankNode → BlankNode → Bool
same_blank (blank.Label a) (blank.Label b) = pointwise nat_eq a b
same_blank (blank.Anonymous m) (blank.Anonymous n) = nat_eq m n
same_blank _ _ = false

abbrev pub term_blanks : TermPattern → List BlankNode
term_blanks (term.Blank b) = b ∷ []
term_blanks _ = []

abbrev pub triple_blanks : Triple → List BlankNode
triple_blanks t = term_blanks t.subject ++ term_blanks t.object

-- how many stand before the first that is the same; none where no one is
abbrev pub number_in : List BlankNode → BlankNode → Option ℕ
number_in [] b = None
number_in (x ∷ xs) b = if same_blank x b then Some zero else option_map suc (number_in xs b)

-- one more, unless it is among them
unfoldable pub add_blank : List BlankNode → BlankNode → List BlankNode
add_blank found b = if is_some (number_in found b) then found else found ++ b ∷ []

-- those of the blocks, each once, in the order in which they first appear
abbrev pub blanks_of : List QuadBlock → List BlankNode
blanks_of blocks = fold add_blank [] (flat_map (λ b. flat_map triple_blanks b.triples) blocks)

-- INSERT DATA and DELETE DATA (SPARQL 1.1 Update, 3.1.1 and 3.1.2): the instances of the template
-- of their blocks under the one solution, which binds nothing, and the same made of the blocks
-- without a template.
use Rattle.std.specs.Prelude.{ℕ, List, [], ◌∷◌, ◌++◌, length, Option, Some, None}
use Rattle.std.specs.List.{flat_map}
use Rattle.std.specs.Option.{unwrap_or}
use Rattle.qs_terms.specs.Outcome.{Outcome}
use Rattle.qs_terms.specs.Statement.{Statement}
use Rattle.qs_terms.specs.declared.term.Term.{Term}
use Rattle.qs_terms.specs.declared.term.Term.TheVariants as value
use Rattle.qs_syntax_ast.specs.declared.pattern.Triple.{Triple}
use Rattle.qs_syntax_ast.specs.declared.pattern.Verb.{Verb}
use Rattle.qs_syntax_ast.specs.declared.pattern.Verb.TheVariants as verb
use Rattle.qs_syntax_ast.specs.declared.term.BlankNode.{BlankNode}
use Rattle.qs_syntax_ast.specs.declared.term.TermPattern.{TermPattern}
use Rattle.qs_syntax_ast.specs.declared.term.TermPattern.TheVariants as term
use Rattle.qs_syntax_ast.specs.declared.term.VarOrIri.{VarOrIri}
use Rattle.qs_syntax_ast.specs.declared.term.VarOrIri.TheVariants as name
use Rattle.qs_syntax_ast.specs.declared.update.QuadBlock.{QuadBlock}
use Rattle.qs_algebra_solutions.specs.Solution.{unbound}
use Rattle.qs_query_template.specs.Blanks.{number_in}
use Rattle.qs_query_template.specs.Instances.{quad_of, instances, next_after}
use Rattle.qs_query_template.specs.inner.Instances.{fresh, within}
use Rattle.qs_query_template.specs.Template.{template_of_blocks}

-- the number after those of the fresh blank nodes, and these quads with the new ones after them; or
-- the fault that the numbers don't suffice
abbrev pub inserted : List Statement → List QuadBlock → ℕ → Outcome (ℕ × List Statement)
inserted quads blocks next =
    let t = template_of_blocks [] blocks in
    let after = next_after t next 1 in
    within after (after, quads ++ instances t next (unbound 0 ∷ []))

-- the quads to remove, of a template that takes no fresh blank nodes
abbrev pub deleted : List QuadBlock → ℕ → List Statement
deleted blocks next =
    instances (record { quads = (template_of_blocks [] blocks).quads; blanks = 0 }) next
    (unbound 0 ∷ [])

-- ---- without a template

abbrev pub blank_term : List BlankNode → ℕ → BlankNode → Option Term
blank_term blanks first b =
    fresh (length blanks) first (unwrap_or (number_in blanks b) (length blanks))

-- a subject or an object; none for a variable, since none is bound
abbrev pub node_term : List BlankNode → ℕ → TermPattern → Option Term
node_term blanks first (term.Variable v) = None
node_term blanks first (term.Iri i) = Some (value.Iri i)
node_term blanks first (term.Literal l) = Some (value.Literal l)
node_term blanks first (term.Blank b) = blank_term blanks first b

abbrev pub verb_term : Verb → Option Term
verb_term (verb.Variable v) = None
verb_term (verb.Iri i) = Some (value.Iri i)
verb_term (verb.Path p) = None

abbrev pub graph_name : Option VarOrIri → Option (Option Term)
graph_name None = Some None
graph_name (Some (name.Variable v)) = None
graph_name (Some (name.Iri i)) = Some (Some (value.Iri i))

abbrev pub triple_quads : List BlankNode → ℕ → Option VarOrIri → Triple → List Statement
triple_quads blanks first graph t = quad_of (graph_name graph) (node_term blanks first t.subject)
    (verb_term t.verb) (node_term blanks first t.object)

abbrev pub block_quads : List BlankNode → ℕ → QuadBlock → List Statement
block_quads blanks first b = flat_map (triple_quads blanks first b.graph) b.triples

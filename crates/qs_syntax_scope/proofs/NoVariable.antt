-- Where no variable stands there are none.
use Rattle.std.proofs.Common.{◌≡◌, Bool, true, false, ◌&&◌, ◌||◌, ◌==◌, not, suc, List, [], ◌∷◌, ◌++◌, length, Option, Some, None, refl, sym, ap, ◌∙◌, arith}
use Rattle.std.proofs.lemmas.Bool.{ne_eqb}
use Rattle.std.specs.List.{list_any, flat_map}
use Rattle.std.specs.Prelude.{unwrap_or, option_map}
use Rattle.qs_syntax_ast.specs.declared.pattern.Triple.{Triple}
use Rattle.qs_syntax_ast.specs.declared.pattern.Verb.{Verb}
use Rattle.qs_syntax_ast.specs.declared.pattern.Verb.TheVariants as verb
use Rattle.qs_syntax_ast.specs.declared.term.TermPattern.{TermPattern}
use Rattle.qs_syntax_ast.specs.declared.term.TermPattern.TheVariants as term
use Rattle.qs_syntax_ast.specs.declared.term.VarOrIri.{VarOrIri}
use Rattle.qs_syntax_ast.specs.declared.term.VarOrIri.TheVariants as graph
use Rattle.qs_syntax_ast.specs.declared.update.QuadBlock.{QuadBlock}
use Rattle.qs_syntax_scope.specs.KeepsScope.{have_no_variable}
use Rattle.qs_syntax_scope.specs.Names.{Name}
use Rattle.qs_syntax_scope.specs.Variables.{term_variables, verb_variables, graph_variables, triple_variables, block_variables}
use Rattle.qs_syntax_scope.specs.inner.Variables.{term_is_variable, verb_is_variable, graph_is_variable, triple_has_variable, block_has_variable}

abbrev empty : List Name → Bool
empty names = length names == 0

empty_append : (a b : List Name) → empty (a ++ b) ≡ (empty a && empty b)
empty_append [] b = refl
empty_append (x ∷ xs) b =
    ne_eqb (suc (length (xs ++ b))) 0 (λ e. omega arith) ∙ ap (λ c. c && empty b) (sym (ne_eqb (suc (length xs)) 0 (λ e. omega arith)))

both : (a b : Bool) → (not a && not b) ≡ not (a || b)
both true b = refl
both false b = refl

-- in two parts none stands exactly where none stands in either
two : (a b : List Name) (one other : Bool) → empty a ≡ not one → empty b ≡ not other → empty (a ++ b) ≡ not (one || other)
two a b one other e f = empty_append a b ∙ ap (λ c. c && empty b) e ∙ ap (λ c. not one && c) f ∙ both one other

of_term : (t : TermPattern) → empty (term_variables t) ≡ not (term_is_variable t)
of_term (term.Variable v) = refl
of_term (term.Iri i) = refl
of_term (term.Literal l) = refl
of_term (term.Blank b) = refl

of_verb : (v : Verb) → empty (verb_variables v) ≡ not (verb_is_variable v)
of_verb (verb.Variable v) = refl
of_verb (verb.Iri i) = refl
of_verb (verb.Path p) = refl

of_graph : (g : Option VarOrIri) → empty (unwrap_or (option_map graph_variables g) []) ≡ not (graph_is_variable g)
of_graph None = refl
of_graph (Some (graph.Variable v)) = refl
of_graph (Some (graph.Iri i)) = refl

of_triple : (t : Triple) → empty (triple_variables t) ≡ not (triple_has_variable t)
of_triple t =
    two (term_variables t.subject ++ verb_variables t.verb) (term_variables t.object) (term_is_variable t.subject || verb_is_variable t.verb) (term_is_variable t.object)
    (two (term_variables t.subject) (verb_variables t.verb) (term_is_variable t.subject) (verb_is_variable t.verb) (of_term t.subject) (of_verb t.verb))
    (of_term t.object)

of_triples : (ts : List Triple) → empty (flat_map triple_variables ts) ≡ not (list_any triple_has_variable ts)
of_triples [] = refl
of_triples (t ∷ ts) = two (triple_variables t) (flat_map triple_variables ts) (triple_has_variable t) (list_any triple_has_variable ts) (of_triple t) (of_triples ts)

of_block : (b : QuadBlock) → empty (block_variables b) ≡ not (block_has_variable b)
of_block b =
    two (unwrap_or (option_map graph_variables b.graph) []) (flat_map triple_variables b.triples) (graph_is_variable b.graph) (list_any triple_has_variable b.triples) (of_graph b.graph) (of_triples b.triples)

of_blocks : (bs : List QuadBlock) → empty (flat_map block_variables bs) ≡ not (list_any block_has_variable bs)
of_blocks [] = refl
of_blocks (b ∷ bs) = two (block_variables b) (flat_map block_variables bs) (block_has_variable b) (list_any block_has_variable bs) (of_block b) (of_blocks bs)

pub none_stands : (blocks : List QuadBlock) → not (list_any block_has_variable blocks) ≡ have_no_variable blocks
none_stands blocks = sym (of_blocks blocks)

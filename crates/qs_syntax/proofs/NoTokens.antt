-- A text without tokens is no query, and its end is to blame; as an update it has no operation.
use Rattle.std.proofs.Common.{◌≡◌, inl, inr, sym, ℕ, List, [], length, Ok, Err, refl, subst, arith}
use Rattle.std.proofs.lemmas.List.{nil_from_length}
use Rattle.qs_syntax_grammar.specs.Grammar.{Spells}
use Rattle.qs_syntax_grammar.specs.inner.Grammar.{read, whole}
use Rattle.qs_syntax_grammar.specs.declared.fault.Fault.TheVariants as reading
use Rattle.qs_syntax_grammar.proofs.Whole.{found_spelt, is_due, none_spelt}
use Rattle.std.proofs.lemmas.Str.{chars-nil}
use Rattle.qs_syntax.specs.Outcome.{screened, update_outcome, IsQueryOutcome, IsUpdateOutcome}
use Rattle.qs_syntax.specs.inner.Outcome.{no_operation}
use Rattle.qs_syntax_ast.specs.declared.update.Update.{Update}
use Rattle.qs_terms.specs.declared.fault.QFault.TheVariants as fault
use Rattle.qs_syntax_tree.specs.declared.token.Token.{Token}
use Rattle.qs_syntax_tree.specs.Rules as rules
use Rattle.qs_syntax_tree.specs.inner.Procedures.{prologue, query_form, select, construct, ask, select_clause, prefix_declaration, query, values}
use Rattle.qs_syntax_tree.specs.inner.Procedures as procedures
use Rattle.qs_syntax_tree.specs.inner.Table.{guided}
use Rattle.qs_syntax_tree.specs.Sparql.{sparql}
use Rattle.qs_syntax_tree.specs.Table.{grammar}
use Rattle.qs_syntax_tree.proofs.SameRules.{grammar_same, query_same, update_same}
use Rattle.qs_syntax_tree.proofs.Sure.{lawful, passes_each, examples, query_starts, update_starts}
use Rattle.qs_syntax.specs.Text.{AreTokensOf, IsBlamed}

nothing_read : whole (read guided 0 query []) ≡ Err (reading.Syntax 0)
unfolding query prologue query_form select construct ask select_clause prefix_declaration values
nothing_read = refl

blamed : (end : ℕ) → IsBlamed rules.query end [] end
blamed end = rw (grammar_same, query_same) (
  none_spelt sparql lawful guided passes_each 2 examples _ query query_starts 0 [] (reading.Syntax 0) (omega arith) nothing_read,
  0,
  is_due sparql lawful guided passes_each 2 examples _ query query_starts 0 [] 0 0 nothing_read refl,
  refl,
)

screened_nothing : (text : List ℕ) → screened text [] ≡ Ok tt
unfolding screened
screened_nothing text = refl

pub without_tokens : (text : List ℕ) (tokens : List Token) → AreTokensOf text tokens → length tokens ≡ 0 → IsQueryOutcome text (Err (fault.Syntax (length text)))
without_tokens text tokens a z =
    let none : tokens ≡ [] = nil_from_length tokens z in
    let b : AreTokensOf text [] = subst (AreTokensOf text) none a in
    inr ([], b, (let s : screened text [] ≡ Ok tt = screened_nothing text in rw s (inr (length text, blamed (length text), refl))))

-- ---- as an update

operations_none : whole (read guided 0 procedures.update []) ≡ Ok no_operation
unfolding procedures.update prologue prefix_declaration procedures.operations_rule procedures.operation procedures.insert procedures.delete procedures.with_graph procedures.graph_operation
operations_none = refl

spelt : Spells grammar rules.update [] no_operation
spelt = rw (grammar_same, update_same) (found_spelt sparql lawful guided passes_each 2 examples _ procedures.update update_starts 0 [] no_operation operations_none)

pub update_without_tokens : (text : List ℕ) (tokens : List Token) (update : Update) → AreTokensOf text tokens → length tokens ≡ 0
    → update_outcome text no_operation ≡ Ok update → IsUpdateOutcome text (Ok update)
update_without_tokens text tokens update a z e =
    let none : tokens ≡ [] = nil_from_length tokens z in
    let b : AreTokensOf text [] = subst (AreTokensOf text) none a in
    inr ([], b, (let s : screened text [] ≡ Ok tt = screened_nothing text in rw s (inl (no_operation, spelt, sym e))))

-- ---- the empty text

pub empty_text : IsQueryOutcome [] (Err (fault.Syntax 0))
empty_text = without_tokens [] [] ([], ([], chars-nil, refl), refl) refl

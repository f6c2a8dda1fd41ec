-- What some rules begin with.
use Rattle.std.proofs.Common.{◌≡◌, false, [], ◌∷◌, refl}
use Rattle.qs_syntax_grammar.specs.inner.Reading.{first, nullable}
use Rattle.qs_syntax_tree.specs.declared.kind.Kind.TheVariants as k
use Rattle.qs_syntax_tree.specs.declared.triples.Form.{Form}
use Rattle.qs_syntax_tree.specs.declared.triples.Form.TheVariants as form
use Rattle.qs_syntax_tree.specs.inner.Table.{firsts, verbs}
use Rattle.qs_syntax_tree.specs.Rules.{iri, literal, negated_one, predicate, term}
use Rattle.qs_syntax_tree.specs.inner.Procedures.{column, negated_all, path_element, path_primary, path_rule, path_sequence, property, verb}

pub first_predicate : first firsts predicate ≡ k.IriRef ∷ k.PnameLn ∷ k.PnameNs ∷ k.A ∷ []
unfolding predicate iri
first_predicate = refl

pub first_negated_one : first firsts negated_one ≡ k.Caret ∷ k.IriRef ∷ k.PnameLn ∷ k.PnameNs ∷ k.A ∷ []
unfolding negated_one predicate iri
first_negated_one = refl

pub first_negated_all : first firsts negated_all ≡ k.Caret ∷ k.IriRef ∷ k.PnameLn ∷ k.PnameNs ∷ k.A ∷ []
unfolding negated_all negated_one predicate iri
first_negated_all = refl

pub first_term : first firsts term ≡ k.Var ∷ k.IriRef ∷ k.PnameLn ∷ k.PnameNs ∷ k.String ∷ k.Integer ∷ k.Signed ∷ k.True ∷ k.False ∷ k.BlankLabel ∷ []
unfolding term iri literal
first_term = refl

pub first_column : first firsts column ≡ k.Var ∷ []
unfolding column
first_column = refl

pub first_property : (f : Form) → first firsts (property f) ≡ verbs f
unfolding property verb path_rule path_sequence path_element path_primary predicate iri
first_property form.Pattern = refl
first_property form.Template = refl

-- ---- rules that take at least one token

pub nullable_term : nullable term ≡ false
unfolding term iri literal
nullable_term = refl

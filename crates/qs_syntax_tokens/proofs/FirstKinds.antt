-- What some rules begin with.
use Rattle.std.proofs.Common.{◌≡◌, [], ◌∷◌, refl}
use Rattle.qs_syntax_grammar.specs.inner.Reading.{first}
use Rattle.qs_syntax_tree.specs.declared.kind.Kind.TheVariants as k
use Rattle.qs_syntax_tree.specs.inner.Table.{firsts}
use Rattle.qs_syntax_tree.specs.Rules.{annotation, iri, literal}

pub first_iri : first firsts iri ≡ k.IriRef ∷ k.PnameLn ∷ k.PnameNs ∷ []
unfolding iri
first_iri = refl

pub first_literal : first firsts literal ≡ k.String ∷ k.Integer ∷ k.Signed ∷ k.True ∷ k.False ∷ []
unfolding literal annotation
first_literal = refl

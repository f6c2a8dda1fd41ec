-- Some quads as text, by computation.
use Rattle.std.proofs.Common.{◌≡◌, [], ◌∷◌, Option, Some, None, refl}
use Rattle.std.specs.Prelude.{codes}
use Rattle.std.specs.Fmt.{digits}
use Rattle.qs_terms.specs.Statement.{Statement}
use Rattle.qs_terms.specs.declared.term.Term.{Term}
use Rattle.qs_terms.specs.declared.term.Term.TheVariants as term
use Rattle.qs_terms.specs.Literal.{xsd_string}
use Rattle.qs_nquads.specs.Written.{line, put_in, ordered, nquads_of}

s : Term
s = term.Iri (codes "http://e/s")

abbrev quad : Term → Option Term → Statement
quad o g = record { graph = g; subject = term.Iri (codes "http://e/s"); predicate = term.Iri (codes "http://e/p"); object = o }

abbrev text : Statement
text = quad (term.Literal (record { form = codes "x\"\n\\"; datatype = codes "http://www.w3.org/2001/XMLSchema#string"; tag = None })) None

abbrev tagged : Statement
tagged = quad (term.Literal (record { form = codes "a"; datatype = codes "x:y"; tag = Some (codes "en-us") })) (Some (term.Blank 10))

text_line : line text ≡ codes "<http://e/s> <http://e/p> \"x\\\"\\n\\\\\" .\n"
unfolding xsd_string
text_line = refl

whole : nquads_of (text ∷ tagged ∷ text ∷ []) ≡ codes "<http://e/s> <http://e/p> \"a\"@en-us _:b10 .\n<http://e/s> <http://e/p> \"x\\\"\\n\\\\\" .\n"
unfolding xsd_string nquads_of ordered put_in digits
whole = refl

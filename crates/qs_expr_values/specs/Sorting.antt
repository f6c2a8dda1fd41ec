-- The order of ORDER BY (SPARQL 1.1 Query, 15.1): kinds in their order, and within a kind its own;
-- equal keys tie. Ill-formed booleans and integers, and integers out of range, sort among all other
-- literals.
use Rattle.std.specs.Prelude.{ℕ, List, Option, Some, None}
use Rattle.std.specs.declared.cmp.Ordering.{Ordering}
use Rattle.std.specs.declared.cmp.Ordering.TheVariants.{Equal}
use Rattle.std.specs.Ordering.{nat_cmp, bool_cmp, int_cmp, ordering_then}
use Rattle.std.specs.Option.{option_cmp}
use Rattle.std.specs.Cmp.Lexicographic.{slice_cmp}
use Rattle.qs_terms.specs.declared.term.Term.{Term}
use Rattle.qs_terms.specs.declared.term.Term.TheVariants as rdf
use Rattle.qs_expr_values.specs.Values.{Worth, integer, boolean, text, other, worth}
use Rattle.qs_expr_values.specs.declared.key.Key.{Key}
use Rattle.qs_expr_values.specs.declared.key.Key.TheVariants.{Unbound, Blank, Iri, Boolean, Integer}
use Rattle.qs_expr_values.specs.declared.key.Key.TheVariants.{String, Other}

-- the key of a term that is worth this
abbrev pub key_by_worth : Worth → Term → Key
key_by_worth (boolean b) t = Boolean b
key_by_worth (integer z) t = Integer z
key_by_worth (text s) t = String s
key_by_worth other (rdf.Iri i) = Iri i
key_by_worth other (rdf.Blank n) = Blank n
key_by_worth other (rdf.Literal l) = Other l.datatype l.form l.tag

-- the key of a term; none is an unbound variable or an error
abbrev pub key_of : Option Term → Key
key_of None = Unbound
key_of (Some t) = key_by_worth (worth t) t

-- unbound or an error, blank nodes, IRIs, booleans, integers, strings, all other literals
abbrev pub rank : Key → ℕ
rank Unbound = 0
rank (Blank n) = 1
rank (Iri i) = 2
rank (Boolean b) = 3
rank (Integer z) = 4
rank (String s) = 5
rank (Other datatype form tag) = 6

-- texts by their bytes, which is by code points
abbrev pub texts : List ℕ → List ℕ → Ordering
texts = slice_cmp nat_cmp

-- two keys of one kind: blank nodes by number, false before true, integers by value, others by
-- datatype, form and tag
abbrev pub within : Key → Key → Ordering
within (Blank m) (Blank n) = nat_cmp m n
within (Iri a) (Iri b) = texts a b
within (Boolean a) (Boolean b) = bool_cmp a b
within (Integer a) (Integer b) = int_cmp a b
within (String a) (String b) = texts a b
within (Other d f t) (Other e g u) =
    ordering_then (texts d e) (ordering_then (texts f g) (option_cmp texts t u))
within _ _ = Equal

-- by kind, and within a kind by its own order
abbrev pub compare_keys : Key → Key → Ordering
compare_keys a b = ordering_then (nat_cmp (rank a) (rank b)) (within a b)

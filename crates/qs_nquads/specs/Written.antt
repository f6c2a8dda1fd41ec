-- Quads as N-Quads text (RDF 1.1 N-Quads, 2 to 4): one line a quad, lines ascending by their bytes,
-- equal lines once.
use Rattle.std.specs.Prelude.{ℕ, ◌==◌, List, [], ◌∷◌, ◌++◌, decimal, Option, Some, None}
use Rattle.std.specs.Prelude.{if◌then◌else◌}
use Rattle.std.specs.List.{flat_map}
use Rattle.std.specs.Map.{lookup}
use Rattle.std.specs.Option.{option_map_or}
use Rattle.std.specs.Str.{bytes_eq}
use Rattle.std.specs.Ordering.{nat_cmp, match_ordering}
use Rattle.std.specs.Cmp.Lexicographic.{slice_cmp}
use Rattle.qs_terms.specs.Statement.{Statement}
use Rattle.qs_terms.specs.declared.term.Term.{Term}
use Rattle.qs_terms.specs.declared.term.Term.TheVariants as term
use Rattle.qs_terms.specs.Literal.{xsd_string}

-- `"` and `\` after a backslash, LF and CR as `\n` and `\r`; every other byte is itself
abbrev pub escaped_byte : ℕ → List ℕ
escaped_byte c = option_map_or (λ letter. 92 ∷ letter ∷ [])
    (lookup (λ b. c == b) ((34, 34) ∷ (92, 92) ∷ (10, 110) ∷ (13, 114) ∷ [])) (c ∷ [])

-- `<`, the IRI as it is, and `>`
abbrev pub iri_text : List ℕ → List ℕ
iri_text i = 60 ∷ (i ++ 62 ∷ [])

-- the label of a blank node: `b` and its number
abbrev pub label : ℕ → List ℕ
label n = 98 ∷ decimal n

-- the form between `"`, each byte of it escaped where it has to be
abbrev pub quoted : List ℕ → List ℕ
quoted form = 34 ∷ (flat_map escaped_byte form ++ 34 ∷ [])

-- the tag, or else the datatype, unless that is xsd:string
abbrev pub suffix : List ℕ → Option (List ℕ) → List ℕ
suffix datatype (Some tag) = 64 ∷ tag
suffix datatype None = if bytes_eq datatype xsd_string then [] else (94 ∷ 94 ∷ iri_text datatype)

abbrev pub term_text : Term → List ℕ
term_text (term.Iri i) = iri_text i
term_text (term.Blank n) = 95 ∷ 58 ∷ label n
term_text (term.Literal l) = quoted l.form ++ suffix l.datatype l.tag

-- a space, a term and what follows
abbrev pub after_space : Term → List ℕ → List ℕ
after_space t rest = 32 ∷ (term_text t ++ rest)

abbrev pub with_graph : Option Term → List ℕ → List ℕ
with_graph graph rest = option_map_or (λ name. after_space name rest) graph rest

-- a statement: its terms with one space between, ` .` and LF
abbrev pub line : Statement → List ℕ
line q = term_text q.subject ++ after_space q.predicate
    (after_space q.object (with_graph q.graph (32 ∷ 46 ∷ 10 ∷ [])))

-- the statement among statements whose lines ascend, unless its line is there
unfoldable pub put_in : Statement → List Statement → List Statement
put_in q [] = q ∷ []
put_in q (r ∷ rs) =
    match_ordering (slice_cmp nat_cmp (line q) (line r)) (q ∷ r ∷ rs) (r ∷ rs) (r ∷ put_in q rs)

-- the statements in the order of their lines, each line once
unfoldable pub ordered : List Statement → List Statement
ordered [] = []
ordered (q ∷ qs) = put_in q (ordered qs)

-- the quads as text
unfoldable pub nquads_of : List Statement → List ℕ
nquads_of qs = flat_map line (ordered qs)

-- What the leaves of a tree note: a variable itself, and no other leaf any.
use Rattle.std.proofs.Common.{◌≡◌, List, [], ◌∷◌, ◌++◌, Option, Some, None, Ok, Err, refl, sym, ap, subst, ◌∙◌, append_assoc}
use Rattle.std.proofs.lemmas.List.{map-append}
use Rattle.qs_terms.specs.Literal.{Literal}
use Rattle.qs_terms.specs.Outcome.{Outcome, and_then}
use Rattle.qs_syntax_tree.specs.declared.token.Span.{Span}
use Rattle.qs_syntax_tree.specs.declared.term.Iri.{Iri}
use Rattle.qs_syntax_tree.specs.declared.term.Literal.{Literal as WrittenLiteral}
use Rattle.qs_syntax_tree.specs.declared.term.Term.{Term}
use Rattle.qs_syntax_tree.specs.declared.term.Term.TheVariants as written
use Rattle.qs_syntax_tree.specs.declared.term.VarOrIri.{VarOrIri as WrittenVarOrIri}
use Rattle.qs_syntax_tree.specs.declared.term.VarOrIri.TheVariants as written_name
use Rattle.qs_syntax_tree.specs.declared.path.Predicate.{Predicate}
use Rattle.qs_syntax_ast.specs.declared.term.Variable.{Variable}
use Rattle.qs_syntax_ast.specs.declared.term.TermPattern.TheVariants as term
use Rattle.qs_syntax_ast.specs.declared.term.VarOrIri.TheVariants as name
use Rattle.qs_syntax_resolve.specs.Names as of
use Rattle.qs_syntax_resolve.specs.declared.resolver.Resolver.{Resolver}
use Rattle.qs_syntax_resolve.specs.Leaves.{variable, iri, var_or_iri, settled, literal, anonymous, label, term_of}
use Rattle.qs_syntax_resolve.specs.Path.{predicate}
use Rattle.qs_syntax_resolve.specs.Resolving.{Resolving}
use Rattle.qs_syntax_scope.specs.Firsts.{names_of}
use Rattle.qs_syntax_scope.specs.Names.{Name}
use Rattle.qs_syntax_scope.specs.Variables.{term_variables, graph_variables}
use Rattle.qs_syntax_laws.proofs.NotedSteps.{Among, same, through, none, both, left, right, Found, Since, Notes, makes}

-- ---- a variable

abbrev pub name_of : Variable → List Name
name_of v = v.name ∷ []

with_one : (start more : List Variable) (v : Variable) (before : List Name) → Among before (names_of more) → Among (name_of v ++ before) (names_of (more ++ v ∷ []))
with_one start more v before h =
    subst (λ names. Among (name_of v ++ before) names) (sym (map-append (λ (w : Variable). w.name) more (v ∷ [])))
    (both (right (names_of more) (name_of v)) (through h (left (names_of more) (name_of v))))

pub variable_notes : (span : Span) → Notes [] name_of (variable span)
variable_notes span = record {
  takes = λ start beside. record {
    runs = λ s i.
        let v : Variable = record { name = of.variable s.names span } in
        record {
          more = i.more ++ v ∷ [];
          grown = ap (λ vs. vs ++ v ∷ []) i.grown ∙ append_assoc start i.more (v ∷ []);
          noted = with_one start i.more v beside i.noted;
        };
  };
}

-- ---- what has no variable

-- no variable stands in what a step gives
abbrev pub empty : {A : Type 0} → A → List Name
empty a = []

abbrev pub Keeps : {A : Type 0} → Resolver → A → Resolver → Type 0
Keeps s a t = t.variables ≡ s.variables

kept_since : {A : Type 0} (start : List Variable) (names : List Name) (s : Resolver) → Since start names s → (o : Outcome (A × Resolver)) → Found (Keeps s) o → Found (λ a. Since start names) o
kept_since start names s i (Ok r) h = record { more = i.more; grown = h ∙ i.grown; noted = i.noted }
kept_since start names s i (Err e) h = tt

-- a step that reads no variable
pub keeps : {A : Type 0} (p : Resolving A) → ((s : Resolver) → Found (Keeps s) (p s)) → Notes [] empty p
keeps p h = record { takes = λ start beside. record { runs = λ s i. kept_since start beside s i (p s) (h s) } }

in_place : {A : Type 0} (s : Resolver) (o : Outcome A) → Found (Keeps s) (and_then o (λ a. Ok (a, s)))
in_place s (Ok a) = refl
in_place s (Err e) = tt

pub iri_notes : (i : Iri) → Notes [] empty (iri i)
iri_notes i = keeps (iri i) (λ s. in_place s (of.iri s.names i))

pub predicate_notes : (p : Predicate) → Notes [] empty (predicate p)
predicate_notes p = keeps (predicate p) (λ s. in_place s (of.predicate s.names p))

settled_keeps : (s : Resolver) (o : Outcome (Option Literal)) → Found (Keeps s) (and_then o (λ found. settled found s))
settled_keeps s (Ok (Some l)) = refl
settled_keeps s (Ok None) = refl
settled_keeps s (Err e) = tt

pub literal_notes : (l : WrittenLiteral) → Notes [] empty (literal l)
unfolding literal
literal_notes l = keeps (literal l) (λ s. settled_keeps s (of.literal s.names l))

pub anonymous_notes : Notes [] empty anonymous
unfolding anonymous
anonymous_notes = keeps anonymous (λ s. refl)

label_notes : (span : Span) → Notes [] empty (label span)
label_notes span = keeps (label span) (λ s. refl)

-- ---- a variable or another leaf

pub graph_notes : (n : WrittenVarOrIri) → Notes [] graph_variables (var_or_iri n)
graph_notes (written_name.Var v) = makes (variable v) name.Variable (variable_notes v) (λ x. same (name_of x))
graph_notes (written_name.Iri i) = makes (iri i) name.Iri (iri_notes i) (λ x. none [])

pub term_notes : (t : Term) → Notes [] term_variables (term_of t)
unfolding term_of
term_notes (written.Var v) = makes (variable v) term.Variable (variable_notes v) (λ x. same (name_of x))
term_notes (written.Iri i) = makes (iri i) term.Iri (iri_notes i) (λ x. none [])
term_notes (written.Literal l) = makes (literal l) term.Literal (literal_notes l) (λ x. none [])
term_notes (written.Blank span) = makes (label span) term.Blank (label_notes span) (λ x. none [])
term_notes written.Anonymous = makes anonymous term.Blank anonymous_notes (λ x. none [])

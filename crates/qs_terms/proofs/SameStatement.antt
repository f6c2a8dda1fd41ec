-- `same_statement` decides whether two quads are the same, and so does the order of quads.
use Rattle.std.proofs.Common.{◌≡◌, Equal, is_eq, ap, refl, sym, ◌∙◌, Option, Some, None}
use Rattle.std.specs.declared.cmp.Ordering.{Ordering}
use Rattle.std.specs.Bool.{Decides}
use Rattle.std.specs.Option.{option_eq}
use Rattle.std.proofs.lemmas.Bool.Decides.{Decides-and, Decides-like}
use Rattle.qs_terms.specs.Term.{same_term}
use Rattle.qs_terms.specs.Statement.{Statement, same_graph, same_statement}
use Rattle.qs_terms.specs.declared.term.Term.{Term}
use Rattle.qs_terms.specs.contracts.quad.QuadOrd.TheImpl as ord
use Rattle.qs_terms.specs.contracts.quad.QuadOrd.TheImpl.Laws as law
use Rattle.qs_terms.specs.contracts.quad.QuadPartialEq.TheImpl as equ
use Rattle.qs_terms.specs.contracts.term.TermPartialEq.TheImpl as term_equ
use Rattle.qs_terms.proofs.SameTerm.{same_term-Decides, eq_is as term_eq_is, is_eq_of}

pub same_graph-Decides : (a b : Option Term) → Decides (same_graph a b) (a ≡ b)
same_graph-Decides None None = (λ _. refl, λ _. refl)
same_graph-Decides None (Some b) = (λ h. cc, λ h. cc)
same_graph-Decides (Some a) None = (λ h. cc, λ h. cc)
same_graph-Decides (Some a) (Some b) = Decides-like (same_term a b) (λ e. ap Some e) (λ e. cc) (same_term-Decides a b)

statement : Option Term → Term → Term → Term → Statement
statement g s p o = record { graph = g; subject = s; predicate = p; object = o }

same_places : (a b : Statement) → a.graph ≡ b.graph → a.subject ≡ b.subject → a.predicate ≡ b.predicate → a.object ≡ b.object → a ≡ b
unfolding statement
same_places a b g s p o =
    ap (λ x. statement x a.subject a.predicate a.object) g ∙ (ap (λ x. statement b.graph x a.predicate a.object) s
    ∙ (ap (λ x. statement b.graph b.subject x a.object) p ∙ ap (λ x. statement b.graph b.subject b.predicate x) o))

pub same_statement-Decides : (a b : Statement) → Decides (same_statement a b) (a ≡ b)
same_statement-Decides a b =
    Decides-like {P = (a.graph ≡ b.graph) × ((a.subject ≡ b.subject) × ((a.predicate ≡ b.predicate) × (a.object ≡ b.object)))} (same_statement a b)
    (λ p. same_places a b p.0 p.1.0 p.1.1.0 p.1.1.1)
    (λ (f : a ≡ b). (ap (λ (x : Statement). x.graph) f, (ap (λ (x : Statement). x.subject) f, (ap (λ (x : Statement). x.predicate) f, ap (λ (x : Statement). x.object) f))))
    (Decides-and _ _ (same_graph-Decides a.graph b.graph)
    (Decides-and _ _ (same_term-Decides a.subject b.subject)
    (Decides-and _ _ (same_term-Decides a.predicate b.predicate) (same_term-Decides a.object b.object))))

same_name : (a b : Option Term) → option_eq term_equ.ghosts.eq a b ≡ option_eq same_term a b
same_name None None = refl
same_name None (Some b) = refl
same_name (Some a) None = refl
same_name (Some a) (Some b) = term_eq_is a b

-- the derived `==` computes `same_statement`
pub eq_is : (a b : Statement) → equ.ghosts.eq a b ≡ same_statement a b
eq_is a b = rw (same_name a.graph b.graph, term_eq_is a.subject b.subject, term_eq_is a.predicate b.predicate, term_eq_is a.object b.object)

-- quads that compare as equal are the same
pub order_exact : (a b : Statement) (o : Ordering) → o ≡ ord.ghosts.cmp a b → (o ≡ Equal → a ≡ b) × (a ≡ b → o ≡ Equal)
order_exact a b o e = (
  λ h. (same_statement-Decides a b).0 (sym (eq_is a b) ∙ (law.matches_eq-law a b ∙ ap is_eq (sym e ∙ h))),
  λ h. e ∙ is_eq_of _ (sym (law.matches_eq-law a b) ∙ (eq_is a b ∙ (same_statement-Decides a b).1 h)),
)

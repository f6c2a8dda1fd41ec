-- The tests of sameness are exact.
use Rattle.std.proofs.Common.{◌≡◌, ℕ, ◌&&◌, [], ◌∷◌, Option, Some, None, length, suc, refl, ◌∙◌, ap, arith}
use Rattle.std.specs.Bool.{Decides}
use Rattle.std.proofs.lemmas.Bool.Decides.{Decides-and, Decides-like}
use Rattle.qs_terms.specs.declared.term.Term.{Term}
use Rattle.qs_terms.specs.Term.{same_term}
use Rattle.qs_terms.proofs.SameTerm.{same_term-Decides}
use Rattle.qs_terms.specs.Dataset.{Triple, same_triple}
use Rattle.qs_algebra_solutions.specs.Solution.{Solution, term_at, same_solution}
use Rattle.qs_algebra_solutions.specs.inner.Solution.{same_cell}

pub same_cell-Decides : (a b : Option Term) → Decides (same_cell a b) (a ≡ b)
same_cell-Decides None None = (λ _. refl, λ _. refl)
same_cell-Decides None (Some b) = (λ h. cc, λ h. cc)
same_cell-Decides (Some a) None = (λ h. cc, λ h. cc)
same_cell-Decides (Some a) (Some b) = Decides-like (same_term a b) (λ e. ap Some e) (λ e. cc) (same_term-Decides a b)

pub same_solution-Decides : (a b : Solution) → Decides (same_solution a b) (a ≡ b)
same_solution-Decides [] [] = (λ _. refl, λ _. refl)
same_solution-Decides [] (y ∷ b) = (λ h. cc, λ h. cc)
same_solution-Decides (x ∷ a) [] = (λ h. cc, λ h. cc)
same_solution-Decides (x ∷ a) (y ∷ b) =
    Decides-like (same_cell x y && same_solution a b) (λ p. let e : x ≡ y = p.0 in let f : a ≡ b = p.1 in cc) (λ e. (cc, cc))
    (Decides-and (same_cell x y) (same_solution a b) (same_cell-Decides x y) (same_solution-Decides a b))

triple : Term → Term → Term → Triple
triple s p o = record { subject = s; predicate = p; object = o }

triple_from_parts : (a b : Triple) → a.subject ≡ b.subject → a.predicate ≡ b.predicate → a.object ≡ b.object → a ≡ b
unfolding triple
triple_from_parts a b s p o =
    ap (λ x. triple x a.predicate a.object) s ∙ (ap (λ x. triple b.subject x a.object) p ∙ ap (λ x. triple b.subject b.predicate x) o)

pub same_triple-Decides : (a b : Triple) → Decides (same_triple a b) (a ≡ b)
same_triple-Decides a b =
    Decides-like (same_triple a b) (λ p. triple_from_parts a b p.0 p.1.0 p.1.1)
    (λ (e : a ≡ b). (ap (λ (l : Triple). l.subject) e, (ap (λ (l : Triple). l.predicate) e, ap (λ (l : Triple). l.object) e)))
    (Decides-and (same_term a.subject b.subject) (same_term a.predicate b.predicate && same_term a.object b.object) (same_term-Decides a.subject b.subject)
    (Decides-and (same_term a.predicate b.predicate) (same_term a.object b.object) (same_term-Decides a.predicate b.predicate) (same_term-Decides a.object b.object)))

-- solutions of one width with the same term at each variable are the same
pub same_everywhere : (a b : Solution) → length a ≡ length b → ((v : ℕ) → term_at a v ≡ term_at b v) → a ≡ b
same_everywhere [] [] l h = refl
same_everywhere [] (y ∷ b) l h = absurd (omega arith)
same_everywhere (x ∷ a) [] l h = absurd (omega arith)
same_everywhere (x ∷ a) (y ∷ b) l h =
    let e : x ≡ y = h 0 in let f : a ≡ b = same_everywhere a b (omega arith) (λ v. h (suc v)) in cc

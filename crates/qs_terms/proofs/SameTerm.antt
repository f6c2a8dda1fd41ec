-- `same_term` decides whether two terms are the same, and so does the order of terms.
use Rattle.std.proofs.Common.{◌≡◌, ℕ, ◌==◌, true, false, Equal, ◌&&◌, is_eq, ap, refl, sym, ◌∙◌, List, Option, Some, None}
use Rattle.std.specs.declared.cmp.Ordering.{Ordering}
use Rattle.std.specs.declared.cmp.Ordering.TheVariants.{Less, Greater}
use Rattle.std.specs.Bool.{Decides}
use Rattle.std.specs.Str.{bytes_eq}
use Rattle.std.proofs.lemmas.Bool.Decides.{Decides-eqb, Decides-and, Decides-like}
use Rattle.std.proofs.lemmas.Slice.Eq.{bytes_eq-Decides}
use Rattle.qs_terms.specs.Literal as literal
use Rattle.qs_terms.specs.Term.{same_tag, same_literal, same_term}
use Rattle.qs_terms.specs.declared.term.Term.{Term}
use Rattle.qs_terms.specs.declared.term.Term.TheVariants.{Iri, Blank, Literal}
use Rattle.qs_terms.specs.contracts.term.TermOrd.TheImpl as ord
use Rattle.qs_terms.specs.contracts.term.TermOrd.TheImpl.Laws as law
use Rattle.qs_terms.specs.contracts.term.TermPartialEq.TheImpl as equ

same_tag-Decides : (a b : Option (List ℕ)) → Decides (same_tag a b) (a ≡ b)
same_tag-Decides None None = (λ _. refl, λ _. refl)
same_tag-Decides None (Some b) = (λ h. cc, λ h. cc)
same_tag-Decides (Some a) None = (λ h. cc, λ h. cc)
same_tag-Decides (Some a) (Some b) = Decides-like (bytes_eq a b) (λ e. ap Some e) (λ e. cc) (bytes_eq-Decides a b)

literal_of_parts : List ℕ → List ℕ → Option (List ℕ) → literal.Literal
literal_of_parts f d t = record { form = f; datatype = d; tag = t }

same_parts : (a b : literal.Literal) → a.form ≡ b.form → a.datatype ≡ b.datatype → a.tag ≡ b.tag → a ≡ b
unfolding literal_of_parts
same_parts a b f d t =
    ap (λ x. literal_of_parts x a.datatype a.tag) f ∙ (ap (λ x. literal_of_parts b.form x a.tag) d ∙ ap (λ x. literal_of_parts b.form b.datatype x) t)

pub same_literal-Decides : (a b : literal.Literal) → Decides (same_literal a b) (a ≡ b)
same_literal-Decides a b =
    Decides-like (same_literal a b)
    (λ p. same_parts a b p.0 p.1.0 p.1.1)
    (λ (e : a ≡ b). (ap (λ (l : literal.Literal). l.form) e, (ap (λ (l : literal.Literal). l.datatype) e, ap (λ (l : literal.Literal). l.tag) e)))
    (Decides-and (bytes_eq a.form b.form) (bytes_eq a.datatype b.datatype && same_tag a.tag b.tag) (bytes_eq-Decides a.form b.form)
    (Decides-and (bytes_eq a.datatype b.datatype) (same_tag a.tag b.tag) (bytes_eq-Decides a.datatype b.datatype) (same_tag-Decides a.tag b.tag)))

pub same_term-Decides : (a b : Term) → Decides (same_term a b) (a ≡ b)
same_term-Decides (Iri a) (Iri b) = Decides-like (bytes_eq a b) (λ e. ap Iri e) (λ e. cc) (bytes_eq-Decides a b)
same_term-Decides (Iri a) (Blank n) = (λ h. cc, λ h. cc)
same_term-Decides (Iri a) (Literal b) = (λ h. cc, λ h. cc)
same_term-Decides (Blank m) (Iri b) = (λ h. cc, λ h. cc)
same_term-Decides (Blank m) (Blank n) = Decides-like (m == n) (λ e. ap Blank e) (λ e. cc) (Decides-eqb m n)
same_term-Decides (Blank m) (Literal b) = (λ h. cc, λ h. cc)
same_term-Decides (Literal a) (Iri b) = (λ h. cc, λ h. cc)
same_term-Decides (Literal a) (Blank n) = (λ h. cc, λ h. cc)
same_term-Decides (Literal a) (Literal b) = Decides-like (same_literal a b) (λ e. ap Literal e) (λ e. cc) (same_literal-Decides a b)

-- the derived `==` computes `same_term`
pub eq_is : (a b : Term) → equ.ghosts.eq a b ≡ same_term a b
eq_is (Iri a) (Iri b) = refl
eq_is (Iri a) (Blank n) = refl
eq_is (Iri a) (Literal b) = refl
eq_is (Blank m) (Iri b) = refl
eq_is (Blank m) (Blank n) = refl
eq_is (Blank m) (Literal b) = refl
eq_is (Literal a) (Iri b) = refl
eq_is (Literal a) (Blank n) = refl
eq_is (Literal a) (Literal b) = refl

pub is_eq_of : (o : Ordering) → is_eq o ≡ true → o ≡ Equal
is_eq_of Less h = let f : false ≡ true = h in cc
is_eq_of Equal h = refl
is_eq_of Greater h = let f : false ≡ true = h in cc

-- terms that compare as equal are the same
pub order_exact : (a b : Term) (o : Ordering) → o ≡ ord.ghosts.cmp a b → (o ≡ Equal → a ≡ b) × (a ≡ b → o ≡ Equal)
order_exact a b o e = (
  λ h. (same_term-Decides a b).0 (sym (eq_is a b) ∙ (law.matches_eq-law a b ∙ ap is_eq (sym e ∙ h))),
  λ h. e ∙ is_eq_of _ (sym (law.matches_eq-law a b) ∙ (eq_is a b ∙ (same_term-Decides a b).1 h)),
)

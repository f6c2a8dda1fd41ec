-- The order of terms tells the same ones apart from all others.
use Rattle.std.proofs.Common.{◌≡◌, is_eq, sym, ◌∙◌}
use Rattle.std.specs.declared.cmp.Ordering.{Ordering}
use Rattle.qs_terms.specs.Term.{same_term}
use Rattle.qs_terms.specs.declared.term.Term.{Term}
use Rattle.qs_terms.proofs.SameTerm.{eq_is}
use Rattle.qs_terms.specs.contracts.term.TermOrd.TheImpl as ord
use Rattle.qs_terms.specs.contracts.term.TermOrd.TheImpl.Laws as law

abbrev pub cmp : Term → Term → Ordering
cmp a b = ord.ghosts.cmp a b

pub tells : (a b : Term) → is_eq (cmp a b) ≡ same_term a b
tells a b = sym (law.matches_eq-law a b) ∙ eq_is a b

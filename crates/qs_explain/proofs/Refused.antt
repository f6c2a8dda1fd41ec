-- The refusals of explanations are those of their texts.
use Rattle.std.proofs.Common.{◌≡◌, ℕ, List, Ok, Err, refl, sym, ap, subst}
use Rattle.qs_terms.specs.Outcome.{Outcome}
use Rattle.qs_terms.specs.declared.fault.QFault.{QFault}
use Rattle.qs_explain.specs.Explained.{IsExplanationOf}

module _ {A : Type 0} (Due : Outcome A → Type 0) (f : QFault) where
  -- the fault of an explanation as that of a text
  told : Outcome (List ℕ) → Outcome A
  told (Ok explanation) = Err f
  told (Err g) = Err g

  at : (parsed : Outcome A) → Due parsed → IsExplanationOf parsed (Err f) → Due (Err f)
  unfolding told
  at (Ok a) due is = absurd is
  at (Err g) due is = subst Due (sym (ap told is)) due

  pub refused : ((parsed : Outcome A) × Due parsed × IsExplanationOf parsed (Err f)) → Due (Err f)
  refused (parsed, due, is) = at parsed due is

  pub explained : Due (Err f) → ((parsed : Outcome A) × Due parsed × IsExplanationOf parsed (Err f))
  explained due = (Err f, due, refl)

-- What comes after a state.
use Rattle.std.proofs.Common.{◌≡◌, ◌<◌, ℕ, zero, suc, true, false, ◌==◌, List, [], ◌∷◌, Some, None, Ok, Err, length, take, drop, refl, sym, ap, ◌∙◌, arith, chars, true≢false}
use Rattle.std.proofs.lemmas.List.{nil_from_length}
use Rattle.std.specs.Prelude.{if◌then◌else◌}
use Rattle.qs_lex_regular.specs.inner.Best.{best}
use Rattle.qs_nquads.specs.Table.{table}
use Rattle.qs_nquads.specs.inner.Gap.{behind_gap}
use Rattle.qs_nquads.specs.inner.StatementState.{may_end}
use Rattle.qs_nquads.specs.inner.Reading.{Reading, State, goes, ends, stops, stepped, step_over, step_from, step, read}
use Rattle.qs_nquads.specs.declared.class.Class.{Class}
use Rattle.qs_nquads.specs.declared.fault.NqFaultKind.{NqFaultKind}
use Rattle.qs_nquads.specs.declared.fault.NqFaultKind.TheVariants as fault

pub some_from : (n : ℕ) → false ≡ (n == 0) → 0 < n
some_from zero e = absurd (true≢false (sym e))
some_from (suc n) e = omega arith

pub at_front : (r : Reading) (front : List ℕ) → 0 < length front → step_from r front ≡ step_over r front (best table (chars front))
at_front r [] h = absurd (omega arith)
at_front r (b ∷ bs) h = refl

module _ (r : Reading) (rest front : List ℕ) (e : front ≡ behind_gap rest) where
  abbrev here_now : State
  here_now = record { reading = r; rest = rest }

  at_gap : step here_now ≡ step_from r front
  at_gap = ap (λ z. step_from r z) (sym e)

  at_end : length front ≡ 0 → step here_now ≡ (if may_end r.place then ends else stops fault.Shape [])
  at_end z = at_gap ∙ ap (λ w. step_from r w) (nil_from_length front z)

  pub lawful_end : length front ≡ 0 → may_end r.place ≡ true → step here_now ≡ ends
  lawful_end z m = at_end z ∙ ap (λ b. if b then ends else stops fault.Shape []) m

  pub cut_short : length front ≡ 0 → may_end r.place ≡ false → step here_now ≡ stops fault.Shape []
  cut_short z m = at_end z ∙ ap (λ b. if b then ends else stops fault.Shape []) m

  pub no_front : 0 < length front → best table (chars front) ≡ None → step here_now ≡ stops fault.Token front
  no_front s b = at_gap ∙ (at_front r front s ∙ ap (λ z. step_over r front z) b)

  with_front : (k : Class) (n : ℕ) → 0 < length front → best table (chars front) ≡ Some (k, n) → step here_now ≡ stepped front (drop n front) (read r k (take n front))
  with_front k n s b = at_gap ∙ (at_front r front s ∙ ap (λ z. step_over r front z) b)

  pub goes_on : (k : Class) (n : ℕ) (next : Reading) → 0 < length front → best table (chars front) ≡ Some (k, n) → read r k (take n front) ≡ Ok next
      → step here_now ≡ goes (record { reading = next; rest = drop n front })
  goes_on k n next s b d = with_front k n s b ∙ ap (λ z. stepped front (drop n front) z) d

  pub stops_with : (k : Class) (n : ℕ) (f : NqFaultKind) → 0 < length front → best table (chars front) ≡ Some (k, n) → read r k (take n front) ≡ Err f
      → step here_now ≡ stops f front
  stops_with k n f s b d = with_front k n s b ∙ ap (λ z. stepped front (drop n front) z) d

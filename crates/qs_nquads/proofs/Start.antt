-- The first character of a front.
use Rattle.std.proofs.Common.{◌≡◌, ◌≢◌, ℕ, [], refl, ne_eqb}
use Rattle.qs_nquads.specs.inner.State.{begun, left}
use Rattle.qs_nquads.specs.declared.state.State.TheVariants as state

pub begun_60 : begun 60 ≡ left state.Iri
unfolding begun
begun_60 = refl

pub begun_34 : begun 34 ≡ left state.String
unfolding begun
begun_34 = refl

pub begun_64 : begun 64 ≡ left state.At
unfolding begun
begun_64 = refl

pub begun_95 : begun 95 ≡ left state.Underscore
unfolding begun
begun_95 = refl

pub begun_94 : begun 94 ≡ left state.Caret
unfolding begun
begun_94 = refl

pub begun_46 : begun 46 ≡ left state.Dot
unfolding begun
begun_46 = refl

pub begun_10 : begun 10 ≡ left state.LineEnd
unfolding begun
begun_10 = refl

pub begun_13 : begun 13 ≡ left state.LineEnd
unfolding begun
begun_13 = refl

pub begun_nowhere : (c : ℕ) → c ≢ 60 → c ≢ 34 → c ≢ 64 → c ≢ 95 → c ≢ 94 → c ≢ 46 → c ≢ 10 → c ≢ 13 → begun c ≡ []
unfolding begun
begun_nowhere c h60 h34 h64 h95 h94 h46 h10 h13 =
    simp (ne_eqb c 60 h60, ne_eqb c 34 h34, ne_eqb c 64 h64, ne_eqb c 95 h95, ne_eqb c 94 h94, ne_eqb c 46 h46, ne_eqb c 10 h10, ne_eqb c 13 h13)

pub ruleset starts = (begun_60, begun_34, begun_64, begun_95, begun_94, begun_46, begun_10, begun_13, begun_nowhere)

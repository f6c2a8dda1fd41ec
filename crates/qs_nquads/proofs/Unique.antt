-- Reading results in one end at most.
use Rattle.std.proofs.Common.{◌≡◌, ◌≢◌, ◌⊎◌, inl, inr, ℕ, ◌-◌, List, length, refl, sym, ap, ◌∙◌, subst}
use Rattle.std.specs.Str.{IsValidUpTo}
use Rattle.std.proofs.lemmas.Str.{utf8_valid_len-IsValidUpTo}
use Rattle.qs_terms.specs.Statement.{Statement}
use Rattle.qs_nquads.specs.inner.Reading.{Reading, State, goes, ends, stops, step, start, Comes, here, on}
use Rattle.qs_nquads.specs.Nquads.{line_at}
use Rattle.qs_nquads.specs.inner.Outcome.{Ends, StopsAt, IsStop, ReadsAll, FailsAt}
use Rattle.qs_nquads.specs.declared.fault.NqFaultKind.{NqFaultKind}
use Rattle.qs_nquads.specs.declared.fault.NqFaultKind.TheVariants as fault

goes_one : (a b : State) → goes a ≡ goes b → a ≡ b
goes_one a b e = cc

-- nothing, or a first step
abbrev First : State → State → Type 0
First s t = (s ≡ t) ⊎ ((u : State) × (step s ≡ goes u) × Comes u t)

first : (s t : State) → Comes s t → First s t
first s _ here = inl refl
first s _ (on t u c e) = elim (first s t c) as (λ _. First s u) [ inl p ↦ inr (u, subst (λ z. step z ≡ goes u) (sym p) e, here) | inr q ↦ inr (q.0, q.1, on t u q.2 e) ]

-- of two states to which reading comes, it comes from one to the other
along : (s t u : State) → Comes s t → Comes s u → Comes t u ⊎ Comes u t
along s t _ c here = inr c
along s t _ c (on v u d e) =
    elim (along s t v c d) as (λ _. Comes t u ⊎ Comes u t) [
      | inl p ↦ inl (on v u p e)
      | inr p ↦ (elim (first v t p) as (λ _. Comes t u ⊎ Comes u t) [
        | inl q ↦ inl (on v u (subst (λ z. Comes z v) q here) e)
        | inr q ↦ inr (subst (λ z. Comes z t) (goes_one q.0 u (sym q.1 ∙ e)) q.2)
      ])
    ]

-- reading goes no further
abbrev Halts : State → Type 0
Halts s = (u : State) → step s ≡ goes u → ⊥

still : (s t : State) → Comes s t → Halts s → s ≡ t
still s t c h = elim (first s t c) as (λ _. s ≡ t) [ inl p ↦ p | inr q ↦ absurd (h q.0 q.1) ]

same_end : (s t u : State) → Comes s t → Comes s u → Halts t → Halts u → t ≡ u
same_end s t u c d h k = elim (along s t u c d) as (λ _. t ≡ u) [ inl p ↦ still t u p h | inr p ↦ sym (still u t p k) ]

ends_goes : (s : State) → ends ≡ goes s → ⊥
ends_goes s e = cc

stops_goes : (f : NqFaultKind) (rest : List ℕ) (s : State) → stops f rest ≡ goes s → ⊥
stops_goes f rest s e = cc

ends_stops : (f : NqFaultKind) (rest : List ℕ) → ends ≡ stops f rest → ⊥
ends_stops f rest e = cc

stops_kind : (f g : NqFaultKind) (a b : List ℕ) → stops f a ≡ stops g b → f ≡ g
stops_kind f g a b e = cc

stops_rest : (f g : NqFaultKind) (a b : List ℕ) → stops f a ≡ stops g b → a ≡ b
stops_rest f g a b e = cc

halts_at_end : (s : State) → step s ≡ ends → Halts s
halts_at_end s e u g = ends_goes u (sym e ∙ g)

halts_at_fault : (s : State) (f : NqFaultKind) (rest : List ℕ) → step s ≡ stops f rest → Halts s
halts_at_fault s f rest e u g = stops_goes f rest u (sym e ∙ g)

pub one_reading : (from : State) (r q : Reading) → Ends from r → Ends from q → r ≡ q
one_reading from r q a b = ap (λ (z : State). z.reading) (same_end from _ _ a.1 b.1 (halts_at_end _ a.2) (halts_at_end _ b.2))

pub end_or_stop : (from : State) (r : Reading) (f : NqFaultKind) (left : ℕ) → Ends from r → StopsAt from f left → ⊥
end_or_stop from r f left a b =
    let e : record { reading = r; rest = a.0 } ≡ b.0 = same_end from _ _ a.1 b.2 (halts_at_end _ a.2) (halts_at_fault _ f b.1 b.3) in
    ends_stops f b.1 (sym a.2 ∙ (ap step e ∙ b.3))

pub one_stop : (from : State) (f g : NqFaultKind) (m n : ℕ) → StopsAt from f m → StopsAt from g n → (f ≡ g) × (m ≡ n)
one_stop from f g m n a b =
    let e : a.0 ≡ b.0 = same_end from _ _ a.2 b.2 (halts_at_fault _ f a.1 a.3) (halts_at_fault _ g b.1 b.3) in
    let s : stops f a.1 ≡ stops g b.1 = sym a.3 ∙ (ap step e ∙ b.3) in
    (stops_kind f g a.1 b.1 s, a.4 ∙ (ap length (stops_rest f g a.1 b.1 s) ∙ sym b.4))

pub stops_at : (from : State) (f : NqFaultKind) (left : ℕ) → f ≢ fault.Memory → IsStop from f left → StopsAt from f left
stops_at from fault.Memory left n s = absurd (n refl)
stops_at from fault.Utf8 left n s = absurd s
stops_at from fault.Token left n s = s
stops_at from fault.Shape left n s = s
stops_at from fault.Iri left n s = s
stops_at from fault.Escape left n s = s
stops_at from fault.Literal left n s = s
stops_at from fault.Full left n s = s

one_valid : (bytes : List ℕ) (m n : ℕ) → IsValidUpTo bytes m → IsValidUpTo bytes n → m ≡ n
one_valid bytes m n a b = sym (utf8_valid_len-IsValidUpTo bytes m a) ∙ utf8_valid_len-IsValidUpTo bytes n b

pub one_nquads : (bytes : List ℕ) (first : ℕ) (q r : List Statement) (m n : ℕ) → ReadsAll bytes first q m → ReadsAll bytes first r n → (q ≡ r) × (m ≡ n)
one_nquads bytes first q r m n a b =
    let e : a.1.0 ≡ b.1.0 = one_reading (start first bytes) a.1.0 b.1.0 a.1.1 b.1.1 in
    (sym a.1.2 ∙ (ap (λ (z : Reading). z.quads) e ∙ b.1.2), sym a.1.3 ∙ (ap (λ (z : Reading). z.labels.next) e ∙ b.1.3))

pub nquads_or_fault : (bytes : List ℕ) (first : ℕ) (q : List Statement) (m : ℕ) (f : NqFaultKind) (line : ℕ) → f ≢ fault.Memory → ReadsAll bytes first q m → FailsAt bytes first f line → ⊥
nquads_or_fault bytes first q m f line n a b =
    elim b as (λ _. ⊥) [
      | inl u ↦ u.1 a.0
      | inr s ↦ end_or_stop (start first bytes) a.1.0 f s.1.0 a.1.1 (stops_at (start first bytes) f s.1.0 n s.1.1)
    ]

pub one_fault : (bytes : List ℕ) (first : ℕ) (f g : NqFaultKind) (line place : ℕ) → f ≢ fault.Memory → g ≢ fault.Memory → FailsAt bytes first f line → FailsAt bytes first g place → (f ≡ g) × (line ≡ place)
one_fault bytes first f g line place m n a b =
    elim a as (λ _. (f ≡ g) × (line ≡ place)) [
      | inl u ↦ (elim b as (λ _. (f ≡ g) × (line ≡ place)) [
        | inl v ↦ (u.0 ∙ sym v.0, u.2.2 ∙ (ap (λ z. line_at bytes z) (one_valid bytes u.2.0 v.2.0 u.2.1 v.2.1) ∙ sym v.2.2))
        | inr t ↦ absurd (u.1 t.0)
      ])
      | inr s ↦ (elim b as (λ _. (f ≡ g) × (line ≡ place)) [
        | inl v ↦ absurd (v.1 s.0)
        | inr t ↦ (let o = one_stop (start first bytes) f g s.1.0 t.1.0 (stops_at _ f s.1.0 m s.1.1) (stops_at _ g t.1.0 n t.1.1) in
            (o.0, s.1.2 ∙ (ap (λ z. line_at bytes (length bytes - z)) o.1 ∙ sym t.1.2)))
      ])
    ]

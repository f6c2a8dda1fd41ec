-- Derivatives of forms: what is left of a form after its first character.
use Rattle.std.proofs.Common.{◌≡◌, ◌⊎◌, ℕ, zero, suc, ◌+◌, ◌*◌, Bool, true, false, cond, ◌||◌, ◌&&◌, List, [], ◌∷◌, ◌++◌, refl, sym, ap, ◌∙◌, subst, inl, inr, true≢false}
use Rattle.qs_lex_regular.specs.inner.Derivative.{join, or_never, choose, nullable, derive}
use Rattle.qs_lex_regular.specs.Character.{is_hex, hex_value}
use Rattle.qs_lex_regular.specs.Form.{Form, never, nothing, one, hexes, ◌⨾◌, ◌∣◌, many, AreHexes, Pieces, none, more, Spells}

-- ---- `join` and `choose` are `then` and `either`

pub join-to : (r s : Form) (cs : List ℕ) → Spells (join r s) cs → Spells (r ⨾ s) cs
join-to never s cs h = absurd h
join-to nothing s cs h = ([], cs, refl, h, refl)
join-to (one p) s cs h = h
join-to (hexes n v p) s cs h = h
join-to (a ⨾ b) s cs h = h
join-to (a ∣ b) s cs h = h
join-to (many a) s cs h = h

pub join-from : (r s : Form) (cs : List ℕ) → Spells (r ⨾ s) cs → Spells (join r s) cs
join-from never s cs (x, y, h, k, e) = absurd h
join-from nothing s cs (x, y, h, k, e) =
    let e' : cs ≡ y = cc in subst (λ z. Spells s z) (sym e') k
join-from (one p) s cs h = h
join-from (hexes n v p) s cs h = h
join-from (a ⨾ b) s cs h = h
join-from (a ∣ b) s cs h = h
join-from (many a) s cs h = h

pub or_never-to : (r s : Form) (cs : List ℕ) → Spells (or_never r s) cs → Spells (r ∣ s) cs
or_never-to r never cs h = inl h
or_never-to r nothing cs h = h
or_never-to r (one p) cs h = h
or_never-to r (hexes n v p) cs h = h
or_never-to r (a ⨾ b) cs h = h
or_never-to r (a ∣ b) cs h = h
or_never-to r (many a) cs h = h

pub or_never-from : (r s : Form) (cs : List ℕ) → Spells (r ∣ s) cs → Spells (or_never r s) cs
or_never-from r never cs h = elim h [ inl a ↦ a | inr b ↦ absurd b ]
or_never-from r nothing cs h = h
or_never-from r (one p) cs h = h
or_never-from r (hexes n v p) cs h = h
or_never-from r (a ⨾ b) cs h = h
or_never-from r (a ∣ b) cs h = h
or_never-from r (many a) cs h = h

pub choose-to : (r s : Form) (cs : List ℕ) → Spells (choose r s) cs → Spells (r ∣ s) cs
choose-to never s cs h = inr h
choose-to nothing s cs h = or_never-to nothing s cs h
choose-to (one p) s cs h = or_never-to (one p) s cs h
choose-to (hexes n v p) s cs h = or_never-to (hexes n v p) s cs h
choose-to (a ⨾ b) s cs h = or_never-to (a ⨾ b) s cs h
choose-to (a ∣ b) s cs h = or_never-to (a ∣ b) s cs h
choose-to (many a) s cs h = or_never-to (many a) s cs h

pub choose-from : (r s : Form) (cs : List ℕ) → Spells (r ∣ s) cs → Spells (choose r s) cs
choose-from never s cs h = elim h [ inl a ↦ absurd a | inr b ↦ b ]
choose-from nothing s cs h = or_never-from nothing s cs h
choose-from (one p) s cs h = or_never-from (one p) s cs h
choose-from (hexes n v p) s cs h = or_never-from (hexes n v p) s cs h
choose-from (a ⨾ b) s cs h = or_never-from (a ⨾ b) s cs h
choose-from (a ∣ b) s cs h = or_never-from (a ∣ b) s cs h
choose-from (many a) s cs h = or_never-from (many a) s cs h

-- ---- nullable

and-true : (a b : Bool) → a ≡ true → b ≡ true → (a && b) ≡ true
and-true true b p q = q
and-true false b p q = p

and-left : (a b : Bool) → (a && b) ≡ true → a ≡ true
and-left true b h = refl
and-left false b h = h

and-right : (a b : Bool) → (a && b) ≡ true → b ≡ true
and-right true b h = h
and-right false b h = absurd (true≢false (sym h))

or-left : (a b : Bool) → a ≡ true → (a || b) ≡ true
or-left true b p = refl
or-left false b p = absurd (true≢false (sym p))

or-right : (a b : Bool) → b ≡ true → (a || b) ≡ true
or-right true b p = refl
or-right false b p = p

or-cases : (a b : Bool) → (a || b) ≡ true → (a ≡ true) ⊎ (b ≡ true)
or-cases true b h = inl refl
or-cases false b h = inr h

empty_parts : (x y : List ℕ) → [] ≡ x ++ y → (x ≡ []) × (y ≡ [])
empty_parts [] y e = (refl, sym e)
empty_parts (c ∷ x) y e = cc

pub nullable-to : (r : Form) → nullable r ≡ true → Spells r []
nullable-to never h = absurd (true≢false (sym h))
nullable-to nothing h = refl
nullable-to (one p) h = absurd (true≢false (sym h))
nullable-to (hexes zero v p) h = (refl, h)
nullable-to (hexes (suc n) v p) h = absurd (true≢false (sym h))
nullable-to (r ⨾ s) h = ([], [], nullable-to r (and-left (nullable r) (nullable s) h), nullable-to s (and-right (nullable r) (nullable s) h), refl)
nullable-to (r ∣ s) h =
    elim (or-cases (nullable r) (nullable s) h) [ inl a ↦ inl (nullable-to r a) | inr b ↦ inr (nullable-to s b) ]
nullable-to (many r) h = none

pub nullable-from : (r : Form) → Spells r [] → nullable r ≡ true
nullable-from never h = absurd h
nullable-from nothing h = refl
nullable-from (one p) (c, q, e) = cc
nullable-from (hexes zero v p) h = h.1
nullable-from (hexes (suc n) v p) (c, ds, e, q, k) = cc
nullable-from (r ⨾ s) (x, y, h, k, e) =
    let es : (x ≡ []) × (y ≡ []) = empty_parts x y e in
    and-true (nullable r) (nullable s) (nullable-from r (subst (λ z. Spells r z) es.0 h)) (nullable-from s (subst (λ z. Spells s z) es.1 k))
nullable-from (r ∣ s) h =
    elim h [ inl a ↦ or-left (nullable r) (nullable s) (nullable-from r a) | inr b ↦ or-right (nullable r) (nullable s) (nullable-from s b) ]
nullable-from (many r) h = refl

-- ---- derive

cond-true : (b : Bool) (r : Form) (cs : List ℕ) → Spells (cond b r never) cs → (b ≡ true) × Spells r cs
cond-true true r cs h = (refl, h)
cond-true false r cs h = absurd h

cond-true-back : (b : Bool) (r : Form) (cs : List ℕ) → b ≡ true → Spells r cs → Spells (cond b r never) cs
cond-true-back true r cs e h = h
cond-true-back false r cs e h = absurd (true≢false (sym e))

cond-cases : (b : Bool) (r s : Form) (cs : List ℕ) → Spells (cond b (choose r s) r) cs → Spells r cs ⊎ ((b ≡ true) × Spells s cs)
cond-cases true r s cs h = elim (choose-to r s cs h) [ inl a ↦ inl a | inr b ↦ inr (refl, b) ]
cond-cases false r s cs h = inl h

cond-first : (b : Bool) (r s : Form) (cs : List ℕ) → Spells r cs → Spells (cond b (choose r s) r) cs
cond-first true r s cs h = choose-from r s cs (inl h)
cond-first false r s cs h = h

cond-second : (b : Bool) (r s : Form) (cs : List ℕ) → b ≡ true → Spells s cs → Spells (cond b (choose r s) r) cs
cond-second true r s cs e h = choose-from r s cs (inr h)
cond-second false r s cs e h = absurd (true≢false (sym e))

pieces-first : {P : List ℕ → Type 0} {zs : List ℕ} (c : ℕ) (cs : List ℕ) → Pieces P zs → zs ≡ c ∷ cs
    → (x : List ℕ) × (y : List ℕ) × P (c ∷ x) × Pieces P y × (cs ≡ x ++ y)
pieces-first c cs none e = cc
pieces-first c cs (more [] y p q) e = pieces-first c cs q e
pieces-first {P} c cs (more (d ∷ x) y p q) e =
    let same : d ≡ c = cc in let rest : x ++ y ≡ cs = cc in (x, y, subst (λ z. P (z ∷ x)) same p, q, sym rest)

pub derive-to : (r : Form) (c : ℕ) (cs : List ℕ) → Spells (derive r c) cs → Spells r (c ∷ cs)
derive-to never c cs h = absurd h
derive-to nothing c cs h = absurd h
derive-to (one p) c cs h =
    let k : (p c ≡ true) × (cs ≡ []) = cond-true (p c) nothing cs h in (c, k.0, ap (λ z. c ∷ z) k.1)
derive-to (hexes zero v p) c cs h = absurd h
derive-to (hexes (suc zero) v p) c cs h =
    let k : ((is_hex c && p (v * 16 + hex_value c)) ≡ true) × (cs ≡ []) = cond-true (is_hex c && p (v * 16 + hex_value c)) nothing cs h in
    (c, cs, refl, and-left (is_hex c) (p (v * 16 + hex_value c)) k.0, (k.1, and-right (is_hex c) (p (v * 16 + hex_value c)) k.0))
derive-to (hexes (suc (suc n)) v p) c cs h =
    let k : (is_hex c ≡ true) × AreHexes (suc n) (v * 16 + hex_value c) p cs = cond-true (is_hex c) (hexes (suc n) (v * 16 + hex_value c) p) cs h in
    (c, cs, refl, k.0, k.1)
derive-to (r ⨾ s) c cs h =
    elim (cond-cases (nullable r) (join (derive r c) s) (derive s c) cs h) [
      | inl a ↦ (let t : Spells ((derive r c) ⨾ s) cs = join-to (derive r c) s cs a in
          (c ∷ t.0, t.1, derive-to r c t.0 t.2, t.3, ap (λ z. c ∷ z) t.4))
      | inr b ↦ ([], c ∷ cs, nullable-to r b.0, derive-to s c cs b.1, refl)
    ]
derive-to (r ∣ s) c cs h =
    elim (choose-to (derive r c) (derive s c) cs h) [ inl a ↦ inl (derive-to r c cs a) | inr b ↦ inr (derive-to s c cs b) ]
derive-to (many r) c cs h =
    let t : Spells ((derive r c) ⨾ (many r)) cs = join-to (derive r c) (many r) cs h in
    subst (λ z. Pieces (λ x. Spells r x) (c ∷ z)) (sym t.4) (more (c ∷ t.0) t.1 (derive-to r c t.0 t.2) t.3)

pub derive-from : (r : Form) (c : ℕ) (cs : List ℕ) → Spells r (c ∷ cs) → Spells (derive r c) cs
derive-from never c cs h = absurd h
derive-from nothing c cs h = cc
derive-from (one p) c cs (d, q, e) =
    let same : d ≡ c = cc in let rest : cs ≡ [] = cc in
    cond-true-back (p c) nothing cs (subst (λ z. p z ≡ true) same q) rest
derive-from (hexes zero v p) c cs h = let e : c ∷ cs ≡ [] = h.0 in cc
derive-from (hexes (suc zero) v p) c cs (d, ds, e, q, k) =
    let same : d ≡ c = cc in let rest : ds ≡ cs = cc in
    cond-true-back (is_hex c && p (v * 16 + hex_value c)) nothing cs
    (and-true (is_hex c) (p (v * 16 + hex_value c)) (subst (λ z. is_hex z ≡ true) same q) (subst (λ z. p (v * 16 + hex_value z) ≡ true) same k.1))
    (sym rest ∙ k.0)
derive-from (hexes (suc (suc n)) v p) c cs (d, ds, e, q, k) =
    let same : d ≡ c = cc in let rest : ds ≡ cs = cc in
    cond-true-back (is_hex c) (hexes (suc n) (v * 16 + hex_value c) p) cs (subst (λ z. is_hex z ≡ true) same q)
    (subst (λ z. AreHexes (suc n) (v * 16 + hex_value z) p cs) same (subst (λ z. AreHexes (suc n) (v * 16 + hex_value d) p z) rest k))
derive-from (r ⨾ s) c cs ([], y, h, k, e) =
    cond-second (nullable r) (join (derive r c) s) (derive s c) cs (nullable-from r h) (derive-from s c cs (subst (λ z. Spells s z) (sym e) k))
derive-from (r ⨾ s) c cs (d ∷ x, y, h, k, e) =
    let same : d ≡ c = cc in let rest : cs ≡ x ++ y = cc in
    cond-first (nullable r) (join (derive r c) s) (derive s c) cs
    (join-from (derive r c) s cs (x, y, derive-from r c x (subst (λ z. Spells r (z ∷ x)) same h), k, rest))
derive-from (r ∣ s) c cs h =
    choose-from (derive r c) (derive s c) cs (elim h [ inl a ↦ inl (derive-from r c cs a) | inr b ↦ inr (derive-from s c cs b) ])
derive-from (many r) c cs h =
    let t : (x : List ℕ) × (y : List ℕ) × Spells r (c ∷ x) × Pieces (λ z. Spells r z) y × (cs ≡ x ++ y) = pieces-first c cs h refl in
    join-from (derive r c) (many r) cs (t.0, t.1, derive-from r c t.0 t.2, t.3, t.4)

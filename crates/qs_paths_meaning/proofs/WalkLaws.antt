-- `leads` decides whether there is a walk.
use Rattle.std.proofs.Common.{◌≡◌, ◌≤◌, Bool, true, false, ◌&&◌, ◌⊎◌, inl, inr, List, [], ◌∷◌, ◌++◌, length, refl, sym, subst, arith, length-append}
use Rattle.qs_terms.specs.declared.term.Term.{Term}
use Rattle.qs_terms.specs.Term.{same_term}
use Rattle.qs_terms.proofs.SameTerm.{same_term-Decides}
use Rattle.qs_syntax_tree.specs.declared.path.Repetition.{Repetition}
use Rattle.qs_syntax_tree.specs.declared.path.Repetition.TheVariants.{ZeroOrOne, ZeroOrMore, OneOrMore}
use Rattle.qs_paths_meaning.specs.Closure.{leads, repeats}
use Rattle.qs_paths_meaning.specs.inner.Walk.{IsWalk, IsCount, Leads}
use Rattle.qs_paths_meaning.proofs.Members.{Mem, or_cases, or_left, or_right}

pub both : (a b : Bool) → (a && b) ≡ true → (a ≡ true) × (b ≡ true)
both true b h = (refl, h)
both false b h = let f : false ≡ true = h in cc

pub and_true : (a b : Bool) → a ≡ true → b ≡ true → (a && b) ≡ true
and_true true b h k = k
and_true false b h k = h

module _ (step : Term → Term → Bool) where
  abbrev pub Step : Term → Term → Type 0
  Step x y = step x y ≡ true

  abbrev pub Leading : List Term → Term → Term → Type 0
  Leading cs x y = leads step cs x y ≡ true

  pub leads_one : (cs : List Term) (x y : Term) → Step x y → Leading cs x y
  leads_one [] x y h = h
  leads_one (c ∷ cs) x y h = or_left (leads step cs x y) (leads step cs x c && leads step cs c y) (leads_one cs x y h)

  abbrev pub Cases : Term → List Term → Term → Term → Type 0
  Cases c cs x y = Leading cs x y ⊎ (Leading cs x c × Leading cs c y)

  pub cases : (c : Term) (cs : List Term) (x y : Term) → Leading (c ∷ cs) x y → Cases c cs x y
  cases c cs x y h =
      elim (or_cases (leads step cs x y) (leads step cs x c && leads step cs c y) h) [
        | inl k ↦ inl k
        | inr k ↦ inr (both (leads step cs x c) (leads step cs c y) k)
      ]

  through : (c : Term) (cs : List Term) (x y : Term) → Leading cs x c → Leading cs c y → Leading (c ∷ cs) x y
  through c cs x y h k = or_right (leads step cs x y) (leads step cs x c && leads step cs c y) (and_true (leads step cs x c) (leads step cs c y) h k)

  to_first : (c : Term) (cs : List Term) (x : Term) → Leading (c ∷ cs) x c → Leading cs x c
  to_first c cs x h = elim (cases c cs x c h) [ inl k ↦ k | inr k ↦ k.0 ]

  from_first : (c : Term) (cs : List Term) (y : Term) → Leading (c ∷ cs) c y → Leading cs c y
  from_first c cs y h = elim (cases c cs c y h) [ inl k ↦ k | inr k ↦ k.1 ]

  -- two walks that meet at a term of the list are one
  pub leads_on : (cs : List Term) (x z y : Term) → Mem z cs → Leading cs x z → Leading cs z y → Leading cs x y
  leads_on [] x z y m h k = elim m [ ]
  leads_on (c ∷ cs) x z y (inl e) h k =
      through c cs x y
      (to_first c cs x (subst (λ (u : Term). Leading (c ∷ cs) x u) e h))
      (from_first c cs y (subst (λ (u : Term). Leading (c ∷ cs) u y) e k))
  leads_on (c ∷ cs) x z y (inr m) h k = by (cases c cs x z h) (cases c cs z y k) (λ p q a b. leads_on cs p z q m a b)
    where
      by : Cases c cs x z → Cases c cs z y → ((p q : Term) → Leading cs p z → Leading cs z q → Leading cs p q) → Leading (c ∷ cs) x y
      by (inl a) (inl b) f = or_left (leads step cs x y) (leads step cs x c && leads step cs c y) (f x y a b)
      by (inl a) (inr b) f = through c cs x y (f x c a b.0) b.1
      by (inr a) (inl b) f = through c cs x y a.0 (f c y a.1 b)
      by (inr a) (inr b) f = through c cs x y a.0 b.1

  abbrev Walks : Term → Term → Type 0
  Walks x y = (us : List Term) × ((1 ≤ length us) × IsWalk Step x us y)

  joined : (x z y : Term) (us vs : List Term) → IsWalk Step x us z → IsWalk Step z vs y → IsWalk Step x (us ++ vs) y
  joined x z y [] vs h k = subst (λ (u : Term). IsWalk Step u vs y) (sym h) k
  joined x z y (u ∷ us) vs h k = (h.0, joined u z y us vs h.1 k)

  pub leads_walk : (cs : List Term) (x y : Term) → Leading cs x y → Walks x y
  leads_walk [] x y h = (y ∷ [], (omega arith, (h, refl)))
  leads_walk (c ∷ cs) x y h =
      elim (cases c cs x y h) [
        | inl k ↦ leads_walk cs x y k
        | inr k ↦
            let a = leads_walk cs x c k.0 in
            let b = leads_walk cs c y k.1 in (
              a.0 ++ b.0,
              (omega (arith, a.1.0, length-append a.0 b.0), joined x c y a.0 b.0 a.1.1 b.1.1),
            )
      ]

  -- where all that is stepped to from a term of the list is in the list
  module _ (cs : List Term) (closed : (u v : Term) → Mem u cs → Step u v → Mem v cs) where
    pub walk_leads : (x u y : Term) (us : List Term) → Mem x cs → Step x u → IsWalk Step u us y → Leading cs x y
    walk_leads x u y [] m s w = leads_one cs x y (subst (λ (v : Term). Step x v) w s)
    walk_leads x u y (v ∷ us) m s w =
        let n = closed x u m s in
        leads_on cs x u y n (leads_one cs x u s) (walk_leads u v y us n w.0 w.1)

    pub leads_inside : (ds : List Term) (x y : Term) → ((d : Term) → Mem d ds → Mem d cs) → Mem x cs → Leading ds x y → Mem y cs
    leads_inside [] x y all m h = closed x y m h
    leads_inside (d ∷ ds) x y all m h =
        elim (cases d ds x y h) [
          | inl k ↦ leads_inside ds x y (λ e n. all e (inr n)) m k
          | inr k ↦ leads_inside ds d y (λ e n. all e (inr n)) (all d (inl refl)) k.1
        ]

    same_true : (x y : Term) → x ≡ y → same_term x y ≡ true
    same_true x y e = (same_term-Decides x y).1 e

    -- the test holds exactly where there is such a walk
    pub walks_repeat : (repetition : Repetition) (x y : Term) → Mem x cs → Leads repetition Step x y → repeats repetition step cs x y ≡ true
    walks_repeat r x y m w = by r w.0 w.1.0 w.1.1
      where
        by : (r : Repetition) (us : List Term) → IsCount r (length us) → IsWalk Step x us y → repeats r step cs x y ≡ true
        by ZeroOrOne [] n w = or_left (same_term x y) (step x y) (same_true x y w)
        by ZeroOrOne (u ∷ []) n w = or_right (same_term x y) (step x y) (subst (λ (v : Term). Step x v) w.1 w.0)
        by ZeroOrOne (u ∷ v ∷ us) n w = absurd (omega arith)
        by ZeroOrMore [] n w = or_left (same_term x y) (leads step cs x y) (same_true x y w)
        by ZeroOrMore (u ∷ us) n w = or_right (same_term x y) (leads step cs x y) (walk_leads x u y us m w.0 w.1)
        by OneOrMore [] n w = absurd (omega arith)
        by OneOrMore (u ∷ us) n w = walk_leads x u y us m w.0 w.1

    pub repeat_walks : (repetition : Repetition) (x y : Term) → repeats repetition step cs x y ≡ true → Leads repetition Step x y
    repeat_walks ZeroOrOne x y h =
        elim (or_cases (same_term x y) (step x y) h) [
          | inl k ↦ ([], (omega arith, (same_term-Decides x y).0 k))
          | inr k ↦ (y ∷ [], (omega arith, (k, refl)))
        ]
    repeat_walks ZeroOrMore x y h =
        elim (or_cases (same_term x y) (leads step cs x y) h) [
          | inl k ↦ ([], (omega arith, (same_term-Decides x y).0 k))
          | inr k ↦ let w = leads_walk cs x y k in (w.0, (omega arith, w.1.1))
        ]
    repeat_walks OneOrMore x y h = leads_walk cs x y h

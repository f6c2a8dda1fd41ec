-- A set of terms beside a list of them: it tells which terms are new.
use Rattle.std.proofs.Common.{◌≡◌, Bool, true, false, ◌||◌, if◌then◌else◌, List, [], ◌∷◌, ◌++◌, is_eq, refl, sym, ◌∙◌, ap}
use Rattle.std.specs.BTreeMap.{is_at}
use Rattle.std.specs.BTreeSet.{insert_key}
use Rattle.std.specs.List.{list_any}
use Rattle.std.specs.Ordering.{match_ordering}
use Rattle.std.specs.declared.cmp.Ordering.{Ordering}
use Rattle.std.specs.declared.cmp.Ordering.TheVariants.{Less, Equal, Greater}
use Rattle.qs_terms.specs.Bag.{with_new}
use Rattle.qs_terms.specs.Term.{same_term}
use Rattle.qs_terms.specs.declared.term.Term.{Term}
use Rattle.qs_terms.specs.contracts.term.TermOrd.TheImpl as ord
use Rattle.qs_terms.specs.contracts.term.TermOrd.TheImpl.Laws as law
use Rattle.qs_terms.proofs.SameTerm.{eq_is, same_term-Decides}
use Rattle.qs_plan.specs.inner.Fixes.{HaveSame}

-- the order of terms tells the same ones
tells : (a b : Term) → is_eq (ord.ghosts.cmp a b) ≡ same_term a b
tells a b = sym (law.matches_eq-law a b) ∙ eq_is a b

-- the set finds a term where the list of its keys has it
finds : (t : Term) (ks : List Term) → list_any (is_at (ord.ghosts.cmp t)) ks ≡ list_any (same_term t) ks
finds t [] = refl
finds t (k ∷ ks) = rw (tells t k, finds t ks) refl

again : (a r : Bool) → (a || r) ≡ (a || (a || r))
again true r = refl
again false r = refl

swapped : (a b r : Bool) → (a || (b || r)) ≡ (b || (a || r))
swapped true true r = refl
swapped true false r = refl
swapped false b r = refl

inserted_at : (x q k : Term) (ks : List Term) (o : Ordering) → ord.ghosts.cmp q k ≡ o → list_any (same_term x) (insert_key ord.ghosts.cmp ks q) ≡ (same_term x q || list_any (same_term x) ks)
    → list_any (same_term x) (match_ordering o (q ∷ k ∷ ks) (k ∷ ks) (k ∷ insert_key ord.ghosts.cmp ks q)) ≡ (same_term x q || (same_term x k || list_any (same_term x) ks))
inserted_at x q k ks Less e h = refl
inserted_at x q k ks Equal e h =
    let s : q ≡ k = (same_term-Decides q k).0 (sym (tells q k) ∙ ap is_eq e) in
    again (same_term x k) (list_any (same_term x) ks) ∙ ap (λ (y : Term). same_term x y || (same_term x k || list_any (same_term x) ks)) (sym s)
inserted_at x q k ks Greater e h = ap (λ r. same_term x k || r) h ∙ swapped (same_term x k) (same_term x q) (list_any (same_term x) ks)

inserted : (x q : Term) (ks : List Term) → list_any (same_term x) (insert_key ord.ghosts.cmp ks q) ≡ (same_term x q || list_any (same_term x) ks)
inserted x q [] = refl
inserted x q (k ∷ ks) = inserted_at x q k ks (ord.ghosts.cmp q k) refl (inserted x q ks)

last_first : (x q : Term) (ts : List Term) → (same_term x q || list_any (same_term x) ts) ≡ list_any (same_term x) (ts ++ q ∷ [])
last_first x q [] = refl
last_first x q (t ∷ ts) = swapped (same_term x q) (same_term x t) (list_any (same_term x) ts) ∙ ap (λ r. same_term x t || r) (last_first x q ts)

new_at : (b : Bool) (t : Term) (ts : List Term) → list_any (same_term t) ts ≡ b → (if b then ts else ts ++ t ∷ []) ≡ with_new same_term ts t
new_at b t ts e = rw e refl

-- a term that the set lacks is put after the others
pub put_new : (ts us ks : List Term) (t : Term) → HaveSame ks ts → list_any (is_at (ord.ghosts.cmp t)) ks ≡ false → us ≡ ts ++ t ∷ [] → us ≡ with_new same_term ts t
put_new ts us ks t h e u = u ∙ new_at false t ts (sym (sym e ∙ (finds t ks ∙ h t)))

pub set_more : (ts us ks ls : List Term) (t : Term) → HaveSame ks ts → ls ≡ insert_key ord.ghosts.cmp ks t → us ≡ ts ++ t ∷ [] → HaveSame ls us
set_more ts us ks ls t h l u x = ap (list_any (same_term x)) l ∙ (inserted x t ks ∙ (ap (λ r. same_term x t || r) (h x) ∙ (last_first x t ts ∙ ap (list_any (same_term x)) (sym u))))

-- one that it has is there already
pub put_known : (ts us ks : List Term) (t : Term) → HaveSame ks ts → list_any (is_at (ord.ghosts.cmp t)) ks ≡ true → us ≡ ts → us ≡ with_new same_term ts t
put_known ts us ks t h e u = u ∙ new_at true t ts (sym (sym e ∙ (finds t ks ∙ h t)))

pub set_still : (ts us ks ls : List Term) → HaveSame ks ts → ls ≡ ks → us ≡ ts → HaveSame ls us
set_still ts us ks ls h l u x = ap (list_any (same_term x)) l ∙ (h x ∙ ap (list_any (same_term x)) (sym u))

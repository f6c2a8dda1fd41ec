-- Rules whose tokens say nothing of names and are no variables.
use Rattle.std.proofs.Common.{◌≡◌, Bool, true, false, ◌&&◌, not, List, [], ◌∷◌, ap, refl, sym, subst, inl, inr}
use Rattle.std.proofs.lemmas.Bool.{and_parts, false≢true}
use Rattle.qs_syntax_grammar.specs.Rule.{Each, Spelt, token, empty, both, either, many, made, placed, ref}
use Rattle.qs_syntax_tree.specs.Sparql.{Name, Tree, Rule}
use Rattle.qs_syntax_tree.specs.declared.kind.Kind.{Kind}
use Rattle.qs_syntax_tree.specs.declared.token.Token.{Token}
use Rattle.qs_syntax_laws.specs.inner.NameFaults.{Role, role, iri, name, prefix, keyword, nothing}
use Rattle.qs_syntax_laws.specs.inner.TextVariables.{is_variable}
use Rattle.qs_syntax_laws.proofs.Walks.{IsQuiet, quiet_append}

abbrev pub says_nothing : Role → Bool
says_nothing iri = false
says_nothing name = false
says_nothing prefix = false
says_nothing keyword = false
says_nothing nothing = true

abbrev pub is_quiet : Kind → Bool
is_quiet k = says_nothing (role k) && not (is_variable k)

-- no token of the rule says anything of names or is a variable, and it names no rule
abbrev pub is_mute : {A : Type 0} → Rule A → Bool
is_mute (token k) = is_quiet k
is_mute (empty a) = true
is_mute (both p q) = is_mute p && is_mute q
is_mute (either p q) = is_mute p && is_mute q
is_mute (many p) = is_mute p
is_mute (made f p) = is_mute p
is_mute (placed p) = is_mute p
is_mute (ref n) = false

by_role : (t : Token) (r : Role) (b : Bool) → role t.kind ≡ r → is_variable t.kind ≡ b → says_nothing r && not b ≡ true → IsQuiet (t ∷ [])
by_role t nothing false e v h = λ names. (rw e refl, rw e refl, rw v refl)
by_role t nothing true e v h = absurd (false≢true h)
by_role t iri b e v h = absurd (false≢true h)
by_role t name b e v h = absurd (false≢true h)
by_role t prefix b e v h = absurd (false≢true h)
by_role t keyword b e v h = absurd (false≢true h)

each_quiet : {A : Type 0} (P : List Token → A → Type 0) → ((ts : List Token) (x : A) → P ts x → IsQuiet ts) → (ts : List Token) (xs : List A) → Each P ts xs → IsQuiet ts
each_quiet P h ts [] e = subst IsQuiet (sym e) (λ names. (refl, refl, refl))
each_quiet P h ts (x ∷ xs) e = subst IsQuiet (sym e.2) (quiet_append e.0 e.1 (h e.0 x e.3) (each_quiet P h e.1 xs e.4))

pub mute_quiet : (refs : (n : Name) → List Token → Tree n → Type 0) → {A : Type 0} (r : Rule A) → is_mute r ≡ true → (ts : List Token) (x : A) → Spelt refs r ts x → IsQuiet ts
mute_quiet refs (token k) m ts t h = subst IsQuiet (sym h.0) (by_role t (role k) (is_variable k) (ap role h.1) (ap is_variable h.1) m)
mute_quiet refs (empty a) m ts x h = subst IsQuiet (sym h.0) (λ names. (refl, refl, refl))
mute_quiet refs (both p q) m ts x h =
    let e = and_parts (is_mute p) (is_mute q) m in
    subst IsQuiet (sym h.2) (quiet_append h.0 h.1 (mute_quiet refs p e.0 h.0 x.0 h.3) (mute_quiet refs q e.1 h.1 x.1 h.4))
mute_quiet refs (either p q) m ts x h =
    let e = and_parts (is_mute p) (is_mute q) m in
    elim h [ inl k ↦ mute_quiet refs p e.0 ts x k | inr k ↦ mute_quiet refs q e.1 ts x k ]
mute_quiet refs (many {A} p) m ts x h = each_quiet (Spelt refs p) (λ us y k. mute_quiet refs p m us y k) ts x h
mute_quiet refs (made f p) m ts x h = mute_quiet refs p m ts h.0 h.1
mute_quiet refs (placed p) m ts x h = mute_quiet refs p m ts x.1 h.1
mute_quiet refs (ref n) m ts x h = absurd (false≢true m)

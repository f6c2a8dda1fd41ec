-- The characters that spell a form pass its tests.
use Rattle.std.proofs.Common.{◌≡◌, ℕ, zero, suc, ◌+◌, ◌*◌, Bool, true, List, inl, inr, refl, sym, subst}
use Rattle.std.specs.List.{list_all}
use Rattle.qs_lex_regular.specs.Character.{is_hex, hex_value}
use Rattle.qs_lex_regular.specs.Form.{Form, never, nothing, one, hexes, ◌⨾◌, ◌∣◌, many, AreHexes, Pieces, none, more, Spells}
use Rattle.qs_lex_escapes.proofs.Bytes.{all-append}

-- the form's tests let nothing through that the test q doesn't
abbrev pub Within : (ℕ → Bool) → Form → Type 0
Within q never = Unit {0}
Within q nothing = Unit {0}
Within q (one p) = (c : ℕ) → p c ≡ true → q c ≡ true
Within q (hexes n v p) = (c : ℕ) → is_hex c ≡ true → q c ≡ true
Within q (r ⨾ s) = Within q r × Within q s
Within q (r ∣ s) = Within q r × Within q s
Within q (many r) = Within q r

module _ (q : ℕ → Bool) where
  hexes_pass : (n v : ℕ) (p : ℕ → Bool) → ((c : ℕ) → is_hex c ≡ true → q c ≡ true) → (cs : List ℕ) → AreHexes n v p cs → list_all q cs ≡ true
  hexes_pass zero v p f cs h = subst (λ z. list_all q z ≡ true) (sym h.0) refl
  hexes_pass (suc n) v p f cs h =
      let one : q h.0 ≡ true = f h.0 h.3 in
      let rest : list_all q h.1 ≡ true = hexes_pass n (v * 16 + hex_value h.0) p f h.1 h.4 in
      subst (λ z. list_all q z ≡ true) (sym h.2) (rw one rest)

  pieces_pass : (P : List ℕ → Type 0) → ((x : List ℕ) → P x → list_all q x ≡ true) → (cs : List ℕ) → Pieces P cs → list_all q cs ≡ true
  pieces_pass P f _ none = refl
  pieces_pass P f _ (more x y p ps) = all-append q x y (f x p) (pieces_pass P f y ps)

  pub spelled_pass : (r : Form) → Within q r → (cs : List ℕ) → Spells r cs → list_all q cs ≡ true
  spelled_pass never w cs s = absurd s
  spelled_pass nothing w cs s = subst (λ z. list_all q z ≡ true) (sym s) refl
  spelled_pass (one p) w cs s = let a : q s.0 ≡ true = w s.0 s.1 in subst (λ z. list_all q z ≡ true) (sym s.2) (rw a refl)
  spelled_pass (hexes n v p) w cs s = hexes_pass n v p w cs s
  spelled_pass (r ⨾ t) w cs s = subst (λ z. list_all q z ≡ true) (sym s.4) (all-append q s.0 s.1 (spelled_pass r w.0 s.0 s.2) (spelled_pass t w.1 s.1 s.3))
  spelled_pass (r ∣ t) w cs s = elim s [ inl a ↦ spelled_pass r w.0 cs a | inr b ↦ spelled_pass t w.1 cs b ]
  spelled_pass (many r) w cs s = pieces_pass (Spells r) (spelled_pass r w) cs s

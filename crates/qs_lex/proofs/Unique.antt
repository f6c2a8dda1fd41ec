-- A text has one reading.
use Rattle.std.proofs.Common.{◌≡◌, ◌≤◌, ◌<◌, ℕ, false, List, [], ◌∷◌, ◌++◌, length, refl, sym, ap, ◌∙◌, subst, arith, encode_utf8_all, chars}
use Rattle.std.proofs.lemmas.Str.{chars-nil}
use Rattle.qs_lex.specs.inner.Fault.{HasToken}
use Rattle.qs_lex.specs.Table.{table}
use Rattle.qs_lex.specs.inner.Table.{IsToken}
use Rattle.qs_lex.specs.Lexes.{Lexeme, Lexes, StopsAt, Reads, skip}
use Rattle.qs_lex.specs.inner.Lexes.{HasNoToken}
use Rattle.qs_lex.specs.declared.token.Class.{Class}
use Rattle.qs_lex_regular.proofs.Longest.{one_class, here-none}

pub empty_token : (k : Class) → IsToken k [] → ⊥
empty_token k h = here-none table k refl h

no_token_in_nothing : HasNoToken []
no_token_in_nothing k [] v e h = empty_token k h
no_token_in_nothing k (c ∷ u) v e h = cc

-- fronts of one length
same_front : (x y u v : List ℕ) → x ++ u ≡ y ++ v → length x ≡ length y → (x ≡ y) × (u ≡ v)
same_front [] [] u v e l = (refl, e)
same_front [] (d ∷ y) u v e l = absurd (omega arith)
same_front (c ∷ x) [] u v e l = absurd (omega arith)
same_front (c ∷ x) (d ∷ y) u v e l =
    let head : c ≡ d = cc in let tail : x ++ u ≡ y ++ v = cc in
    let r : (x ≡ y) × (u ≡ v) = same_front x y u v tail (omega arith) in
    (cc, r.1)

abbrev made : Class → ℕ → List ℕ → Lexeme
made k n x = record { class = k; place = n; text = x }

same_lexeme : (s t : Lexeme) → s.class ≡ t.class → s.place ≡ t.place → s.text ≡ t.text → s ≡ t
same_lexeme s t c p x = ap (λ k. made k s.place s.text) c ∙ (ap (λ n. made t.class n s.text) p ∙ ap (λ z. made t.class t.place z) x)

pub same_reading : (n : ℕ) (cs : List ℕ) (ts : List Lexeme) (rest : List ℕ) (us : List Lexeme) (left : List ℕ)
    → Reads n cs ts rest → HasNoToken (skip false rest) → Reads n cs us left → HasNoToken (skip false left) → (ts ≡ us) × (rest ≡ left)
same_reading n cs [] rest [] left r f s g = (refl, sym r ∙ s)
same_reading n cs [] rest (t ∷ us) left r f (x, more, e, l, w, p, s) g =
    absurd (f t.class x more (ap (λ z. skip false z) (sym r) ∙ e) l.token)
same_reading n cs (t ∷ ts) rest [] left (x, more, e, l, w, p, r) f s g =
    absurd (g t.class x more (ap (λ z. skip false z) (sym s) ∙ e) l.token)
same_reading n cs (t ∷ ts) rest (t' ∷ us) left (x, more, e, l, w, p, r) f (y, more', e', l', w', p', s) g =
    let both : x ++ more ≡ y ++ more' = sym e ∙ e' in
    let le : length y ≤ length x = l.longest t'.class y more' both l'.token in
    let ge : length x ≤ length y = l'.longest t.class x more (sym both) l.token in
    let same : (x ≡ y) × (more ≡ more') = same_front x y more more' both (omega arith) in
    let class : t.class ≡ t'.class = one_class table t.class t'.class x l.token (subst (λ z. IsToken t'.class z) (sym same.0) l'.token) in
    let size : length (encode_utf8_all (x ++ more)) ≡ length (encode_utf8_all (y ++ more')) = ap (λ z. length (encode_utf8_all z)) both in
    let place : t.place ≡ t'.place = omega arith in
    let text : t.text ≡ t'.text = w ∙ (ap (λ z. encode_utf8_all z) same.0 ∙ sym w') in
    let rest_same : (ts ≡ us) × (rest ≡ left) = same_reading n more ts rest us left r f (subst (λ z. Reads n z us left) (sym same.1) s) g in
    let one : t ≡ t' = same_lexeme t t' class place text in
    (cc, rest_same.1)

final : (rest : List ℕ) → skip false rest ≡ [] → HasNoToken (skip false rest)
final rest e = subst (λ z. HasNoToken z) (sym e) no_token_in_nothing

pub one_list : (text : List ℕ) (ts us : List Lexeme) → Lexes text ts → Lexes text us → ts ≡ us
one_list text ts us (rest, r, e) (left, s, d) = (same_reading (length text) (chars text) ts rest us left r (final rest e) s (final left d)).0

pub not_both : (text : List ℕ) (ts : List Lexeme) (place : ℕ) → Lexes text ts → StopsAt text place → ⊥
not_both text ts place (rest, r, e) (us, left, s, more, f, p) =
    let same : rest ≡ left = (same_reading (length text) (chars text) ts rest us left r (final rest e) s f).1 in
    let none : skip false left ≡ [] = ap (λ z. skip false z) (sym same) ∙ e in
    let l : length (skip false left) ≡ 0 = ap length none in
    omega arith

pub one_place : (text : List ℕ) (place other : ℕ) → StopsAt text place → StopsAt text other → place ≡ other
one_place text place other (ts, rest, r, more, f, p) (us, left, s, more', g, q) =
    let same : rest ≡ left = (same_reading (length text) (chars text) ts rest us left r f s g).1 in
    let size : length (encode_utf8_all (skip false rest)) ≡ length (encode_utf8_all (skip false left)) = ap (λ z. length (encode_utf8_all (skip false z))) same in
    omega arith

no_front : (ts : List Lexeme) (rest : List ℕ) → Reads 0 [] ts rest → 0 < length ts → ⊥
no_front [] rest r l = omega arith
no_front (t ∷ ts) rest (x, more, e, l, w, p, r) h = no_token_in_nothing t.class x more e l.token

pub nothing_read : HasToken [] → ⊥
nothing_read h = no_front h.0 h.1 (subst (λ z. Reads 0 z h.0 h.1) chars-nil h.2) h.3

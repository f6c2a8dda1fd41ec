-- The first character of the longest front.
use Rattle.std.proofs.Common.{◌≡◌, ℕ, List, [], ◌∷◌, None, refl, sym, ap, ◌∙◌, ◌++◌, length, IsUtf8, chars, encode_utf8}
use Rattle.std.proofs.lemmas.Str.{chars_past_char, chars-nil}
use Rattle.std.proofs.lemmas.List.{nil_from_length}
use Rattle.std.specs.Char.{len_utf8}
use Rattle.qs_lex_regular.specs.inner.Best.{best}
use Rattle.qs_lex_regular.specs.inner.Scan.{later}
use Rattle.qs_lex_regular.proofs.Scan as scan
use Rattle.qs_nquads.specs.Table.{table}
use Rattle.qs_nquads.specs.inner.State.{Left, begun}

pub at_first : (next : Left) (c : ℕ) (cs : List ℕ) → begun c ≡ next → best table (c ∷ cs) ≡ later (best next cs) (len_utf8 c) None
unfolding begun
at_first next c cs e = scan.at_first table next c cs refl e

pub at_no_start : (c : ℕ) (cs : List ℕ) → begun c ≡ [] → best table (c ∷ cs) ≡ None
unfolding begun
at_no_start c cs e = scan.at_no_start table c cs refl e

-- ---- the same over the bytes that are left

pub scan_empty : (text bs : List ℕ) → bs ≡ text → length bs ≡ 0 → None ≡ best table (chars text)
scan_empty text bs e z =
    let empty : chars text ≡ [] = ap chars (sym e ∙ nil_from_length bs z) ∙ chars-nil in rw empty refl

pub scan_nowhere : (text bs rest : List ℕ) (c : ℕ) → IsUtf8 text → bs ≡ text → bs ≡ encode_utf8 c ++ rest → begun c ≡ [] → None ≡ best table (chars text)
scan_nowhere text bs rest c u e f d =
    let front : chars text ≡ c ∷ chars rest = chars_past_char text rest c u (sym e ∙ f) in
    sym (ap (λ z. best table z) front ∙ at_no_start c (chars rest) d)

pub scan_first : (text bs rest : List ℕ) (c : ℕ) (fs : Left) → IsUtf8 text → bs ≡ text → bs ≡ encode_utf8 c ++ rest → begun c ≡ fs
    → best table (chars text) ≡ later (best fs (chars rest)) (len_utf8 c) None
scan_first text bs rest c fs u e f d =
    let front : chars text ≡ c ∷ chars rest = chars_past_char text rest c u (sym e ∙ f) in
    ap (λ z. best table z) front ∙ at_first fs c (chars rest) d

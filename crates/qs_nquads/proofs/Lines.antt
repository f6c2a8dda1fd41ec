-- What the loops of the writer add up to.
use Rattle.std.proofs.Common.{◌≡◌, ℕ, zero, suc, ◌+◌, ◌<◌, ◌≤◌, List, [], ◌∷◌, ◌++◌, Option, Some, None, length, take, get_or, refl, sym, ap, ◌∙◌, arith, append_assoc, append-nil, length-append}
use Rattle.std.proofs.lemmas.List.{take-append-le}
use Rattle.std.specs.Io.KnownBytes.{Appends}
use Rattle.qs_nquads.specs.Written.{escaped_byte}
use Rattle.qs_nquads.specs.inner.Written.{escaped}
use Rattle.qs_nquads.specs.inner.Joined.{joined}

pub escaped_step : (form : List ℕ) (i : ℕ) → i < length form → escaped (take (i + 1) form) ≡ escaped (take i form) ++ escaped_byte (get_or form i 0)
escaped_step [] i h = absurd (omega arith)
escaped_step (c ∷ cs) zero h = append-nil (escaped_byte c)
escaped_step (c ∷ cs) (suc i) h =
    let e : i + 1 + 1 ≡ suc (i + 1) = omega arith in
    let n : suc i + 1 ≡ suc (i + 1) = omega arith in
    ap (λ k. escaped (take k (c ∷ cs))) n ∙ (ap (λ z. escaped_byte c ++ z) (escaped_step cs i (omega arith)) ∙ sym (append_assoc (escaped_byte c) (escaped (take i cs)) (escaped_byte (get_or cs i 0))))

pub joined_step : (ls : List (List ℕ)) (i : ℕ) (d : List ℕ) → i < length ls → joined (take (i + 1) ls) ≡ joined (take i ls) ++ get_or ls i d
joined_step [] i d h = absurd (omega arith)
joined_step (c ∷ cs) zero d h = append-nil c
joined_step (c ∷ cs) (suc i) d h =
    let n : suc i + 1 ≡ suc (i + 1) = omega arith in
    ap (λ k. joined (take k (c ∷ cs))) n ∙ (ap (λ z. c ++ z) (joined_step cs i d (omega arith)) ∙ sym (append_assoc c (joined (take i cs)) (get_or cs i d)))

-- the text is what stands before a line, the line, and what stands after it
pub joined_split : (ls : List (List ℕ)) (i : ℕ) (d : List ℕ) → i < length ls → (rest : List ℕ) × (joined ls ≡ joined (take i ls) ++ (get_or ls i d ++ rest))
joined_split [] i d h = absurd (omega arith)
joined_split (c ∷ cs) zero d h = (joined cs, refl)
joined_split (c ∷ cs) (suc i) d h =
    let r : (rest : List ℕ) × (joined cs ≡ joined (take i cs) ++ (get_or cs i d ++ rest)) = joined_split cs i d (omega arith) in
    (r.0, ap (λ z. c ++ z) r.1 ∙ sym (append_assoc c (joined (take i cs)) (get_or cs i d ++ r.0)))

take_past : (x y : List ℕ) (n : ℕ) → take (length x + n) (x ++ y) ≡ x ++ take n y
take_past [] y n = let e : 0 + n ≡ n = omega arith in ap (λ k. take k y) e
take_past (c ∷ x) y n = let e : length (c ∷ x) + n ≡ suc (length x + n) = omega arith in ap (λ k. take k (c ∷ (x ++ y))) e ∙ ap (λ z. c ∷ z) (take_past x y n)

pub front : (ls : List (List ℕ)) (i n : ℕ) (d : List ℕ) → i < length ls → n ≤ length (get_or ls i d) → take (length (joined (take i ls)) + n) (joined ls) ≡ joined (take i ls) ++ take n (get_or ls i d)
front ls i n d h k =
    let r : (rest : List ℕ) × (joined ls ≡ joined (take i ls) ++ (get_or ls i d ++ rest)) = joined_split ls i d h in
    ap (λ z. take (length (joined (take i ls)) + n) z) r.1 ∙ (take_past (joined (take i ls)) (get_or ls i d ++ r.0) n ∙ ap (λ z. joined (take i ls) ++ z) (take-append-le n (get_or ls i d) r.0 k))

pub longer : (ls : List (List ℕ)) (i : ℕ) (d : List ℕ) → i < length ls → length (joined (take i ls)) + length (get_or ls i d) ≤ length (joined ls)
longer ls i d h =
    let r : (rest : List ℕ) × (joined ls ≡ joined (take i ls) ++ (get_or ls i d ++ rest)) = joined_split ls i d h in
    let e : length (joined ls) ≡ length (joined (take i ls) ++ (get_or ls i d ++ r.0)) = ap length r.1 in
    let f : length (joined (take i ls) ++ (get_or ls i d ++ r.0)) ≡ length (joined (take i ls)) + (length (get_or ls i d) + length r.0) = simp length-append in omega arith

pub appends_both : (old mid new : Option (List ℕ)) (x y : List ℕ) → Appends old mid x → Appends mid new y → Appends old new (x ++ y)
appends_both None mid new x y h k = tt
appends_both (Some a) None new x y h k = absurd h
appends_both (Some a) (Some b) None x y h k = absurd k
appends_both (Some a) (Some b) (Some c) x y h k = k ∙ (ap (λ s. s ++ y) h ∙ append_assoc a x y)

pub appends_none : (old : Option (List ℕ)) → Appends old old []
appends_none None = tt
appends_none (Some a) = sym (append-nil a)

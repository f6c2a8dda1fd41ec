-- A text is one script at most.
use Rattle.std.proofs.Common.{◌≡◌, inl, inr, ◌+◌, ℕ, List, [], ◌∷◌, ◌++◌, length, codes, Ok, refl, sym, ◌∙◌, ap, subst, arith}
use Rattle.std.specs.List.{AllZip}
use Rattle.std.specs.Str.Parse.{digits_value}
use Rattle.std.proofs.lemmas.List.{append_cancel_left}
use Rattle.hex.specs.Hex.{decode_of}
use Rattle.qs_service_connections.specs.Step.{Event, Join, Piece, End}
use Rattle.qs_service_replay.specs.Script.{IsFirstLine, AreLines, IsId, IsLine, IsScript, IsOtherLine}
use Rattle.qs_service_replay.specs.inner.Script.{TellsEvent}
use Rattle.qs_service_replay.proofs.Lines.{no_space, parted_once, unparted, other_first}

-- the first line is one
first_once : (text a b rest other : List ℕ) → IsFirstLine text a rest → IsFirstLine text b other → (a ≡ b) × (rest ≡ other)
first_once text a b rest other (free, inl p) (free2, inl q) =
    let front : a ≡ b = parted_once 10 a rest b other free free2 (sym p ∙ q) in
    let back : 10 ∷ rest ≡ 10 ∷ other = append_cancel_left b (10 ∷ rest) (10 ∷ other) (subst (λ (l : List ℕ). l ++ 10 ∷ rest ≡ b ++ 10 ∷ other) front (sym p ∙ q)) in
    (front, cc)
first_once text a b rest other (free, inl p) (free2, inr q) = absurd (unparted 10 a rest b free2 (sym q.0 ∙ p))
first_once text a b rest other (free, inr p) (free2, inl q) = absurd (unparted 10 b other a free (sym p.0 ∙ q))
first_once text a b rest other (free, inr p) (free2, inr q) = (sym p.0 ∙ q.0, p.2 ∙ sym q.2)

none_first : (line rest : List ℕ) → ¬ IsFirstLine [] line rest
none_first [] rest (free, inl p) = cc
none_first (x ∷ line) rest (free, inl p) = cc
none_first line rest (free, inr p) = p.1 (sym p.0)

-- the lines are one list
lines_once : (text : List ℕ) (a b : List (List ℕ)) → AreLines text a → AreLines text b → a ≡ b
lines_once text [] [] is also = refl
lines_once text [] (l ∷ b) is also = absurd (none_first l also.0 (subst (λ (t : List ℕ). IsFirstLine t l also.0) is also.1))
lines_once text (l ∷ a) [] is also = absurd (none_first l is.0 (subst (λ (t : List ℕ). IsFirstLine t l is.0) also is.1))
lines_once text (l ∷ a) (m ∷ b) is also =
    let first = first_once text l m is.0 also.0 is.1 also.1 in
    let rest : a ≡ b = lines_once also.0 a b (subst (λ (t : List ℕ). AreLines t a) first.1 is.2) also.2 in
    let front : l ≡ m = first.0 in
    cc

same_id : (a b : List ℕ) (i j : ℕ) → a ≡ b → IsId a i → IsId b j → i ≡ j
same_id a b i j same is also = is.2 ∙ (ap (digits_value 10) same ∙ sym also.2)

-- a line tells one event
event_once : (line : List ℕ) (a b : Event) → IsLine line a → IsLine line b → a ≡ b
event_once line (Join i) (Join j) (a, is, p) (b, also, q) = ap Join (same_id a b i j (append_cancel_left (codes "join ") a b (sym p ∙ q)) is also)
event_once line (End i) (End j) (a, is, p) (b, also, q) = ap End (same_id a b i j (append_cancel_left (codes "end ") a b (sym p ∙ q)) is also)
event_once line (Piece i x) (Piece j y) (a, g, is, d, p) (b, h, also, e, q) =
    let both : a ++ 32 ∷ g ≡ b ++ 32 ∷ h = append_cancel_left (codes "piece ") (a ++ 32 ∷ g) (b ++ 32 ∷ h) (sym p ∙ q) in
    let digits : a ≡ b = parted_once 32 a g b h (no_space a i is) (no_space b j also) both in
    let behind : 32 ∷ g ≡ 32 ∷ h = append_cancel_left b (32 ∷ g) (32 ∷ h) (subst (λ (l : List ℕ). l ++ 32 ∷ g ≡ b ++ 32 ∷ h) digits both) in
    let hex : g ≡ h = cc in
    let id : i ≡ j = same_id a b i j digits is also in
    let decoded : decode_of h ≡ Ok x = subst (λ (l : List ℕ). decode_of l ≡ Ok x) hex d in
    let bytes : x ≡ y = cc in
    ap (λ (k : ℕ). Piece k x) id ∙ ap (Piece j) bytes
event_once line (Join i) (Piece j y) (a, is, p) (b, h, also, e, q) = absurd (other_first 106 112 _ _ (λ n. omega (arith, n)) (sym p ∙ q))
event_once line (Join i) (End j) (a, is, p) (b, also, q) = absurd (other_first 106 101 _ _ (λ n. omega (arith, n)) (sym p ∙ q))
event_once line (Piece i x) (Join j) (a, g, is, d, p) (b, also, q) = absurd (other_first 112 106 _ _ (λ n. omega (arith, n)) (sym p ∙ q))
event_once line (Piece i x) (End j) (a, g, is, d, p) (b, also, q) = absurd (other_first 112 101 _ _ (λ n. omega (arith, n)) (sym p ∙ q))
event_once line (End i) (Join j) (a, is, p) (b, also, q) = absurd (other_first 101 106 _ _ (λ n. omega (arith, n)) (sym p ∙ q))
event_once line (End i) (Piece j y) (a, is, p) (b, h, also, e, q) = absurd (other_first 101 112 _ _ (λ n. omega (arith, n)) (sym p ∙ q))

events_once : (lines : List (List ℕ)) (a b : List Event) → AllZip IsLine lines a → AllZip IsLine lines b → a ≡ b
events_once [] [] [] is also = refl
events_once [] [] (y ∷ b) is also = absurd also
events_once [] (x ∷ a) b is also = absurd is
events_once (l ∷ lines) [] b is also = absurd is
events_once (l ∷ lines) (x ∷ a) [] is also = absurd also
events_once (l ∷ lines) (x ∷ a) (y ∷ b) is also =
    let first : x ≡ y = event_once l x y is.0 also.0 in
    let rest : a ≡ b = events_once lines a b is.1 also.1 in
    cc

pub scripts : (text : List ℕ) (a b : List Event) → IsScript text a → IsScript text b → a ≡ b
scripts text a b is also =
    events_once also.0 a b (subst (λ (lines : List (List ℕ)). AllZip IsLine lines a) (lines_once text is.0 also.0 is.1 also.1) is.2) also.2

-- a line that tells none is among no lines that tell an event each
all_tell : (front : List (List ℕ)) (line : List ℕ) (behind : List (List ℕ)) (events : List Event) → AllZip IsLine (front ++ line ∷ behind) events → TellsEvent line
all_tell [] line behind [] is = absurd is
all_tell [] line behind (e ∷ events) is = (e, is.0)
all_tell (l ∷ front) line behind [] is = absurd is
all_tell (l ∷ front) line behind (e ∷ events) is = all_tell front line behind events is.1

pub no_other : (text : List ℕ) (events : List Event) (n : ℕ) → IsScript text events → ¬ IsOtherLine text n
no_other text events n is other =
    other.6 (all_tell other.0 other.2 other.1 events (subst (λ (lines : List (List ℕ)). AllZip IsLine lines events) (lines_once text is.0 (other.0 ++ other.2 ∷ other.1) is.1 other.4) is.2))

-- the first that tells none stands at one place
as_far : (a b x y : List (List ℕ)) (l m : List ℕ) (d e : List Event) → a ++ l ∷ x ≡ b ++ m ∷ y → AllZip IsLine a d → AllZip IsLine b e → (¬ TellsEvent l) → (¬ TellsEvent m) → length a ≡ length b
as_far [] [] x y l m d e same is also none other = refl
as_far [] (k ∷ b) x y l m d [] same is also none other = absurd also
as_far [] (k ∷ b) x y l m d (v ∷ e) same is also none other =
    let front : l ≡ k = cc in
    absurd (none (v, subst (λ (t : List ℕ). IsLine t v) (sym front) also.0))
as_far (k ∷ a) b x y l m [] e same is also none other = absurd is
as_far (k ∷ a) [] x y l m (v ∷ d) e same is also none other =
    let front : k ≡ m = cc in
    absurd (other (v, subst (λ (t : List ℕ). IsLine t v) front is.0))
as_far (k ∷ a) (j ∷ b) x y l m (v ∷ d) [] same is also none other = absurd also
as_far (k ∷ a) (j ∷ b) x y l m (v ∷ d) (w ∷ e) same is also none other =
    let rest : a ++ l ∷ x ≡ b ++ m ∷ y = cc in
    let short : length a ≡ length b = as_far a b x y l m d e rest is.1 also.1 none other in
    omega arith

pub other_once : (text : List ℕ) (a b : ℕ) → IsOtherLine text a → IsOtherLine text b → a ≡ b
other_once text a b is also =
    let same = lines_once text (is.0 ++ is.2 ∷ is.1) (also.0 ++ also.2 ∷ also.1) is.4 also.4 in
    let far : length is.0 ≡ length also.0 = as_far is.0 also.0 is.1 also.1 is.2 also.2 is.3 also.3 same is.5 also.5 is.6 also.6 in
    is.7 ∙ (ap (λ (k : ℕ). k + 1) far ∙ sym also.7)

-- Bytes result in something.
use Rattle.std.proofs.Common.{◌≡◌, ◌≢◌, ◌⊎◌, inl, inr, ℕ, zero, suc, ◌+◌, ◌-◌, ◌<◌, ◌≤◌, Bool, true, false, cond, ◌==◌, List, [], ◌∷◌, ◌++◌, length, take, drop, Option, Some, None, Result, Ok, Err, refl, sym, ap, ◌∙◌, subst, arith, true≢false, length-append, length-drop, take_all, IsUtf8, chars, encode_utf8_all}
use Rattle.std.proofs.lemmas.Bool.{cases_Bool, cases_lt, cond-true, cond-false}
use Rattle.std.proofs.lemmas.Str.{IsUtf8-from_is_utf8, is_utf8-from_IsUtf8, encodes-append, encodes-chars, scalars-chars}
use Rattle.std.specs.Prelude.{if◌then◌else◌}
use Rattle.std.specs.Str.{IsValidUpTo, is_utf8, all_scalars}
use Rattle.std.specs.Str.Lossy.{valid_len_up_to}
use Rattle.qs_lex_regular.specs.inner.Best.{best}
use Rattle.qs_terms.specs.Statement.{Statement}
use Rattle.qs_nquads.specs.Gap.{skip, is_blank, is_line_end}
use Rattle.qs_nquads.specs.inner.Gap.{behind_gap}
use Rattle.qs_nquads.specs.Nquads.{line_at}
use Rattle.qs_nquads.specs.inner.Outcome.{Ends, StopsAt, ReadsAll, FailsAt}
use Rattle.qs_nquads.specs.inner.StatementState.{may_end}
use Rattle.qs_nquads.specs.inner.Reading.{Reading, State, Step, goes, ends, stops, step, step_from, step_over, stepped, read, start, Comes, here, on}
use Rattle.qs_nquads.specs.Table.{table}
use Rattle.qs_nquads.specs.declared.class.Class.{Class}
use Rattle.qs_nquads.specs.declared.fault.NqFaultKind.{NqFaultKind}
use Rattle.qs_nquads.specs.declared.fault.NqFaultKind.TheVariants as fault
use Rattle.qs_nquads.proofs.Fronts.{Front, front_of, scalars_back}
use Rattle.qs_nquads.proofs.Stops.{due_at_stop}

-- ---- bytes that aren't UTF-8 have a longest front that is

longest_front : (bs : List ℕ) (m : ℕ) → IsUtf8 (take (valid_len_up_to bs m) bs) × ((k : ℕ) → valid_len_up_to bs m < k → k ≤ m → ¬ (IsUtf8 (take k bs)))
longest_front bs zero = (([], (refl, refl)), λ k above within. absurd (omega arith))
longest_front bs (suc m) = elim (cases_Bool (is_utf8 (take (suc m) bs))) [
  | inl is_text ↦
      (let is : valid_len_up_to bs (suc m) ≡ suc m = cond-true _ _ _ is_text in
      (subst (λ n. IsUtf8 (take n bs)) (sym is) (IsUtf8-from_is_utf8 _ is_text), λ k above within. absurd (omega arith)))
  | inr is_none ↦
      (let rest = longest_front bs m in
      let is : valid_len_up_to bs (suc m) ≡ valid_len_up_to bs m = cond-false _ _ _ is_none in (
        subst (λ n. IsUtf8 (take n bs)) (sym is) rest.0,
        λ k above inside u. elim (cases_lt m k) [
          | inl top ↦ (let same : k ≡ suc m = omega arith in true≢false (sym (is_utf8-from_IsUtf8 _ (subst (λ n. IsUtf8 (take n bs)) same u)) ∙ is_none))
          | inr low ↦ rest.1 k (omega arith) low u
        ],
      ))
]

valid_up_to : (bs : List ℕ) → ¬ (IsUtf8 bs) → (n : ℕ) × IsValidUpTo bs n
valid_up_to bs never =
    let n : ℕ = valid_len_up_to bs (length bs) in
    let front = longest_front bs (length bs) in
    elim (cases_lt n (length bs)) [
      | inl short ↦ (
        n,
        record {
          short = short;
          front = front.0;
          longest = λ m above u. elim (cases_lt (length bs) m) [
            | inl past ↦ never (subst IsUtf8 (take_all m bs (omega arith)) u)
            | inr inside ↦ front.1 m above inside u
          ];
        },
      )
      | inr whole ↦ absurd (never (subst IsUtf8 (take_all n bs whole) front.0))
    ]

-- ---- a gap is a front, so that reading goes on with less

abbrev pub Gap : Bool → List ℕ → Type 0
Gap b cs = (g : List ℕ) × (cs ≡ g ++ skip b cs)

in_comment : (a : Bool) (c : ℕ) (cs : List ℕ) → Gap true cs → (g : List ℕ) × (c ∷ cs ≡ g ++ cond a (c ∷ cs) (skip true cs))
in_comment true c cs t = ([], refl)
in_comment false c cs t = (c ∷ t.0, ap (λ z. c ∷ z) t.1)

in_blanks : (a b : Bool) (c : ℕ) (cs : List ℕ) → Gap false cs → Gap true cs → (g : List ℕ) × (c ∷ cs ≡ g ++ cond a (skip false cs) (cond b (skip true cs) (c ∷ cs)))
in_blanks true b c cs f t = (c ∷ f.0, ap (λ z. c ∷ z) f.1)
in_blanks false true c cs f t = (c ∷ t.0, ap (λ z. c ∷ z) t.1)
in_blanks false false c cs f t = ([], refl)

pub gap : (b : Bool) (cs : List ℕ) → Gap b cs
gap true [] = ([], refl)
gap false [] = ([], refl)
gap true (c ∷ cs) = in_comment (is_line_end c) c cs (gap true cs)
gap false (c ∷ cs) = in_blanks (is_blank c) (c == 35) c cs (gap false cs) (gap true cs)

record Behind (rest front : List ℕ) : Type 0 where
  utf8 : IsUtf8 front
  less : length front ≤ length rest

behind : (rest : List ℕ) → IsUtf8 rest → Behind rest (behind_gap rest)
behind rest u =
    let cs : List ℕ = skip false (chars rest) in
    let g : Gap false (chars rest) = gap false (chars rest) in
    let ok : all_scalars cs ≡ true = scalars_back g.0 cs (subst (λ z. all_scalars z ≡ true) g.1 (scalars-chars rest u)) in
    let bytes : rest ≡ encode_utf8_all g.0 ++ encode_utf8_all cs = sym (encodes-chars rest u) ∙ (ap (λ z. encode_utf8_all z) g.1 ∙ encodes-append g.0 cs) in
    let size : length rest ≡ length (encode_utf8_all g.0) + length (encode_utf8_all cs) = ap length bytes ∙ length-append (encode_utf8_all g.0) (encode_utf8_all cs) in
    record { utf8 = (cs, (ok, refl)); less = omega (arith, size) }

-- less is left than before
record Less (s t : State) : Type 0 where
  utf8 : IsUtf8 t.rest
  less : length t.rest < length s.rest

goes_same : (a b : State) → goes a ≡ goes b → a ≡ b
goes_same a b e = cc

from_read : (s t : State) (front : List ℕ) (n : ℕ) (r : Result Reading NqFaultKind) → Front front n → length front ≤ length s.rest → stepped front (drop n front) r ≡ goes t → Less s t
from_read s t front n (Ok r) f l e =
    let is : record { reading = r; rest = drop n front } ≡ t = goes_same _ t e in
    let size : length (drop n front) ≡ length front - n = length-drop n front in
    subst (Less s) is (record { utf8 = f.utf8; less = omega (arith, size, f.some, l, f.boundary.0) })
from_read s t front n (Err f) g l e = absurd cc

from_over : (s t : State) (front : List ℕ) (o : Option (Class × ℕ)) → best table (chars front) ≡ o → IsUtf8 front → length front ≤ length s.rest → step_over s.reading front o ≡ goes t → Less s t
from_over s t front None b u l e = absurd cc
from_over s t front (Some k) b u l e = from_read s t front k.1 (read s.reading k.0 (take k.1 front)) (front_of front k.0 k.1 u b) l e

at_end : (b : Bool) (t : State) → (if b then ends else stops fault.Shape []) ≡ goes t → ⊥
at_end true t e = cc
at_end false t e = cc

from_front : (s t : State) (front : List ℕ) → Behind s.rest front → step_from s.reading front ≡ goes t → Less s t
from_front s t [] h e = absurd (at_end (may_end s.reading.place) t e)
from_front s t (b ∷ bs) h e = from_over s t (b ∷ bs) (best table (chars (b ∷ bs))) refl h.utf8 h.less e

-- ---- reading ends or stops

abbrev Something : State → Type 0
Something from = ((r : Reading) × Ends from r) ⊎ ((f : NqFaultKind) × (left : ℕ) × StopsAt from f left)

run : (fuel : ℕ) (from s : State) → Comes from s → IsUtf8 s.rest → length s.rest ≤ fuel → (x : Step) → step s ≡ x → Something from
run fuel from s c u l ends e = inl (s.reading, (s.rest, c, e))
run fuel from s c u l (stops f rest) e = inr (f, length rest, (s, rest, c, e, refl))
run zero from s c u l (goes t) e = let m : Less s t = from_front s t (behind_gap s.rest) (behind s.rest u) e in absurd (omega (arith, m.less, l))
run (suc fuel) from s c u l (goes t) e =
    let m : Less s t = from_front s t (behind_gap s.rest) (behind s.rest u) e in
    run fuel from t (on s t c e) m.utf8 (omega (arith, m.less, l)) (step t) refl

abbrev pub Outcome : List ℕ → ℕ → Type 0
Outcome bytes first = ((quads : List Statement) × (next : ℕ) × ReadsAll bytes first quads next) ⊎ ((kind : NqFaultKind) × (line : ℕ) × (kind ≢ fault.Memory) × FailsAt bytes first kind line)

of_text : (bytes : List ℕ) (first : ℕ) → IsUtf8 bytes → Outcome bytes first
of_text bytes first u = elim (run (length bytes) (start first bytes) (start first bytes) here u (omega arith) (step (start first bytes)) refl) [
  | inl a ↦ inl (a.0.quads, a.0.labels.next, (u, (a.0, a.1, refl, refl)))
  | inr b ↦ (let d = due_at_stop (start first bytes) b.0 b.1 b.2 in inr (b.0, line_at bytes (length bytes - b.1), d.0, inr (u, (b.1, d.1, refl))))
]

pub some_outcome : (bytes : List ℕ) (first : ℕ) → Outcome bytes first
some_outcome bytes first = elim (cases_Bool (is_utf8 bytes)) [
  | inl is_text ↦ of_text bytes first (IsUtf8-from_is_utf8 bytes is_text)
  | inr is_none ↦
      (let not_text : ¬ (IsUtf8 bytes) = λ u. true≢false (sym (is_utf8-from_IsUtf8 bytes u) ∙ is_none) in
      let v : (n : ℕ) × IsValidUpTo bytes n = valid_up_to bytes not_text in
      inr (fault.Utf8, line_at bytes v.0, λ e. cc, inl (refl, not_text, (v.0, v.1, refl))))
]

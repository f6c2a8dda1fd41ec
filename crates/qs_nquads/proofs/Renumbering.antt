-- Labels of written blank nodes get their numbers by first appearance.
use Rattle.std.proofs.Common.{◌≡◌, ℕ, ◌+◌, ◌^◌, ◌<◌, ◌≤◌, Bool, true, false, cond, ◌||◌, ◌==◌, List, [], ◌∷◌, ◌++◌, length, Option, Some, None, Ok, Err, refl, sym, ap, ap₂, ◌∙◌, subst, arith, append_assoc, append-nil, length-append, true≢false, eqb-true, eq-eqb, nat_lt}
use Rattle.std.specs.Prelude.{if◌then◌else◌, decimal}
use Rattle.std.specs.Bool.{Decides}
use Rattle.std.specs.List.{list_any}
use Rattle.std.specs.Map.{lookup}
use Rattle.std.specs.Str.Parse.{digits_value}
use Rattle.std.specs.Str.{bytes_eq}
use Rattle.std.proofs.lemmas.Bool.Decides.{nat_tests}
use Rattle.std.proofs.lemmas.Slice.Eq.{bytes_eq-Decides}
use Rattle.std.proofs.lemmas.Fmt.{decimal_is_IsNumeral}
use Rattle.qs_terms.specs.Bag.{once, with_new}
use Rattle.qs_terms.proofs.FirstOnes.{once_with, or_left_false, or_right_false, or_second}
use Rattle.qs_nquads.specs.Labels.{Numbering, with_label, number, from}
use Rattle.qs_nquads.specs.inner.Labels.{known_or_new}
use Rattle.qs_nquads.specs.declared.fault.NqFaultKind.TheVariants as fault
use Rattle.qs_nquads.specs.Written.{label}
use Rattle.qs_nquads.specs.inner.Renumbered.{before}
use Rattle.qs_nquads.proofs.Numbers.{put_last}

abbrev pub same : ℕ → ℕ → Bool
same = ◌==◌

pub exact : (a b : ℕ) → Decides (same a b) (a ≡ b)
exact a b = (eqb-true a b, eq-eqb a b)

-- ---- labels are apart

label_value : (m n : ℕ) → m < 2 ^ 64 → n < 2 ^ 64 → label m ≡ label n → m ≡ n
label_value m n hm hn e =
    let d : decimal m ≡ decimal n = cc in
    let a = (decimal_is_IsNumeral m hm).1 in let b = (decimal_is_IsNumeral n hn).1 in sym a ∙ (ap (λ z. digits_value 10 z) d ∙ b)

bool_same : (a b : Bool) (P Q : Type 0) → Decides a P → Decides b Q → (P → Q) → (Q → P) → a ≡ b
bool_same true b P Q d e f g = sym (e.1 (f (d.0 refl)))
bool_same false true P Q d e f g = d.1 (g (e.0 refl))
bool_same false false P Q d e f g = refl

label_test : (m n : ℕ) → m < 2 ^ 64 → n < 2 ^ 64 → bytes_eq (label m) (label n) ≡ same m n
label_test m n hm hn = bool_same (bytes_eq (label m) (label n)) (same m n) (label m ≡ label n) (m ≡ n) (bytes_eq-Decides (label m) (label n)) (exact m n) (label_value m n hm hn) (ap label)

-- ---- places

pub any-append : (b : ℕ) (xs ys : List ℕ) → list_any (same b) (xs ++ ys) ≡ (list_any (same b) xs || list_any (same b) ys)
any-append b [] ys = refl
any-append b (x ∷ xs) ys = by (same b x) (any-append b xs ys) where
  by : (c : Bool) → list_any (same b) (xs ++ ys) ≡ (list_any (same b) xs || list_any (same b) ys) → (c || list_any (same b) (xs ++ ys)) ≡ ((c || list_any (same b) xs) || list_any (same b) ys)
  by true e = refl
  by false e = e

before_in : (b : ℕ) (xs ys : List ℕ) → list_any (same b) xs ≡ true → before b (xs ++ ys) ≡ before b xs
before_in b [] ys h = absurd (true≢false (sym h))
before_in b (x ∷ xs) ys h = by (same b x) h (before_in b xs ys) where
  by : (c : Bool) → (c || list_any (same b) xs) ≡ true → (list_any (same b) xs ≡ true → before b (xs ++ ys) ≡ before b xs)
      → (if c then 0 else (before b (xs ++ ys) + 1)) ≡ (if c then 0 else (before b xs + 1))
  by true k f = refl
  by false k f = ap (λ n. n + 1) (f k)

before_out : (b : ℕ) (xs : List ℕ) → list_any (same b) xs ≡ false → before b (xs ++ b ∷ []) ≡ length xs
before_out b [] h = let e : same b b ≡ true = eq-eqb b b refl in rw e refl
before_out b (x ∷ xs) h =
    let e : same b x ≡ false = or_left_false (same b x) (list_any (same b) xs) h in
    let m : before b (xs ++ b ∷ []) ≡ length xs = before_out b xs (or_right_false (same b x) (list_any (same b) xs) h) in rw e (omega arith)

-- what is known of a number
abbrev pub found : ℕ → ℕ → List ℕ → Option ℕ
found first q seen = cond (list_any (same q) seen) (Some (first + before q seen)) None

found_new : (first q b : ℕ) (seen : List ℕ) → list_any (same b) seen ≡ false → found first q (seen ++ b ∷ []) ≡ cond (same q b) (Some (first + length seen)) (found first q seen)
found_new first q b seen n = by (same q b) refl (list_any (same q) seen) refl where
  by : (c : Bool) → same q b ≡ c → (d : Bool) → list_any (same q) seen ≡ d → found first q (seen ++ b ∷ []) ≡ cond c (Some (first + length seen)) (found first q seen)
  by true e d f =
      let z : q ≡ b = eqb-true q b e in
      let out : before q (seen ++ b ∷ []) ≡ length seen = subst (λ w. before w (seen ++ b ∷ []) ≡ length seen) (sym z) (before_out b seen n) in
      let there : list_any (same q) (seen ++ b ∷ []) ≡ true = any-append q seen (b ∷ []) ∙ rw e (or_second (list_any (same q) seen) true refl) in
      rw (there, out) refl
  by false e true f =
      let there : list_any (same q) (seen ++ b ∷ []) ≡ true = any-append q seen (b ∷ []) ∙ rw f refl in
      let in_seen : before q (seen ++ b ∷ []) ≡ before q seen = before_in q seen (b ∷ []) f in
      rw (there, in_seen, f) refl
  by false e false f =
      let there : list_any (same q) (seen ++ b ∷ []) ≡ false = any-append q seen (b ∷ []) ∙ rw (f, e) refl in
      rw (there, f) refl

-- ---- numberings

-- the numbering has these blank nodes, by first appearance from `first`
pub record Agrees (first : ℕ) (xs : List ℕ) (n : Numbering) : Type 0 where
  pub next : n.next ≡ first + length (once same xs)
  pub known : (q : ℕ) → q < 2 ^ 64 → lookup (bytes_eq (label q)) n.numbers ≡ found first q (once same xs)

pub none_yet : (first : ℕ) → Agrees first [] (from first)
none_yet first = record { next = omega arith; known = λ q h. refl }

pub record Numbered (first : ℕ) (xs : List ℕ) (n : Numbering) (b : ℕ) : Type 0 where
  pub behind : Numbering
  pub given : number n (label b) ≡ Ok (first + before b (once same (xs ++ b ∷ [])), behind)
  pub agrees : Agrees first (xs ++ b ∷ []) behind

with_known : (b : ℕ) (seen : List ℕ) → list_any (same b) seen ≡ true → with_new same seen b ≡ seen
with_known b seen h = rw h refl

with_unknown : (b : ℕ) (seen : List ℕ) → list_any (same b) seen ≡ false → with_new same seen b ≡ seen ++ b ∷ []
with_unknown b seen h = rw h refl

room : (x : ℕ) → x < 2 ^ 64 → nat_lt x (2 ^ 64) ≡ true
room x h = grind (arith, nat_tests)

pub numbered : (first : ℕ) (xs : List ℕ) (n : Numbering) (b : ℕ) → b < 2 ^ 64 → Agrees first xs n → first + length (once same (xs ++ b ∷ [])) < 2 ^ 64 → Numbered first xs n b
numbered first xs n b hb a bound = by (list_any (same b) (once same xs)) refl where
  by : (c : Bool) → list_any (same b) (once same xs) ≡ c → Numbered first xs n b
  by true e =
      let o : once same (xs ++ b ∷ []) ≡ once same xs = once_with same exact xs b ∙ with_known b (once same xs) e in
      let l : lookup (bytes_eq (label b)) n.numbers ≡ Some (first + before b (once same xs)) = a.known b hb ∙ rw e refl in
      record {
        behind = n;
        given = ap (λ z. known_or_new n (label b) z) l ∙ ap (λ z. Ok (first + before b z, n)) (sym o);
        agrees = record { next = a.next ∙ ap (λ z. first + length z) (sym o); known = λ q h. a.known q h ∙ ap (found first q) (sym o) };
      }
  by false e =
      let o : once same (xs ++ b ∷ []) ≡ once same xs ++ b ∷ [] = once_with same exact xs b ∙ with_unknown b (once same xs) e in
      let l : lookup (bytes_eq (label b)) n.numbers ≡ None = a.known b hb ∙ rw e refl in
      let len : length (once same (xs ++ b ∷ [])) ≡ length (once same xs) + 1 = ap length o ∙ simp length-append (omega arith) in
      let nx : n.next ≡ first + length (once same xs) = a.next in
      let small : nat_lt (n.next + 1) (2 ^ 64) ≡ true = room (n.next + 1) (omega arith) in
      let place : before b (once same (xs ++ b ∷ [])) ≡ length (once same xs) = ap (before b) o ∙ before_out b (once same xs) e in
      let m : Numbering = with_label n (label b) in
      let g : first + before b (once same (xs ++ b ∷ [])) ≡ n.next = omega arith in
      record {
        behind = m;
        given = ap (λ z. known_or_new n (label b) z) l ∙ (ap (λ (t : Bool). if t then (Ok (n.next, m)) else (Err fault.Full)) small ∙ ap (λ z. Ok (z, m)) (sym g));
        agrees = record {
          next = omega arith;
          known = λ q h. put_last n.numbers (label b) n.next (label q) l ∙ (ap₂ (λ (t : Bool) (z : Option ℕ). cond t (Some n.next) z) (label_test q b h hb) (a.known q h)
              ∙ (ap (λ z. cond (same q b) (Some z) (found first q (once same xs))) nx ∙ (sym (found_new first q b (once same xs) e) ∙ ap (found first q) (sym o))));
        };
      }

-- ---- later blank nodes change no number

pub with_keeps : (b t : ℕ) (seen : List ℕ) → list_any (same b) seen ≡ true → (before b (with_new same seen t) ≡ before b seen) × (list_any (same b) (with_new same seen t) ≡ true)
with_keeps b t seen h = by (list_any (same t) seen) where
  by : (c : Bool) → (before b (if c then seen else (seen ++ t ∷ [])) ≡ before b seen) × (list_any (same b) (if c then seen else (seen ++ t ∷ [])) ≡ true)
  by true = (refl, h)
  by false = (before_in b seen (t ∷ []) h, any-append b seen (t ∷ []) ∙ rw h refl)

pub keeps : (b : ℕ) (more xs : List ℕ) → list_any (same b) (once same xs) ≡ true → before b (once same (xs ++ more)) ≡ before b (once same xs)
keeps b [] xs h = ap (λ z. before b (once same z)) (append-nil xs)
keeps b (t ∷ more) xs h =
    let o : once same (xs ++ t ∷ []) ≡ with_new same (once same xs) t = once_with same exact xs t in
    let k = with_keeps b t (once same xs) h in
    ap (λ z. before b (once same z)) (sym (append_assoc xs (t ∷ []) more))
    ∙ (keeps b more (xs ++ t ∷ []) (ap (list_any (same b)) o ∙ k.1) ∙ (ap (before b) o ∙ k.0))

pub is_there : (b : ℕ) (xs : List ℕ) → list_any (same b) (once same (xs ++ b ∷ [])) ≡ true
is_there b xs = ap (list_any (same b)) (once_with same exact xs b) ∙ by (list_any (same b) (once same xs)) refl where
  by : (c : Bool) → list_any (same b) (once same xs) ≡ c → list_any (same b) (if c then once same xs else (once same xs ++ b ∷ [])) ≡ true
  by true e = e
  by false e = let r : same b b ≡ true = eq-eqb b b refl in any-append b (once same xs) (b ∷ []) ∙ rw (e, r) refl

with_longer : (t : ℕ) (seen : List ℕ) → length seen ≤ length (with_new same seen t)
with_longer t seen = by (list_any (same t) seen) where
  by : (c : Bool) → length seen ≤ length (if c then seen else (seen ++ t ∷ []))
  by true = omega arith
  by false = simp length-append (omega arith)

pub once_longer : (more xs : List ℕ) → length (once same xs) ≤ length (once same (xs ++ more))
once_longer [] xs = let e : length (once same (xs ++ [])) ≡ length (once same xs) = ap (λ z. length (once same z)) (append-nil xs) in omega arith
once_longer (t ∷ more) xs =
    let o : length (once same (xs ++ t ∷ [])) ≡ length (with_new same (once same xs) t) = ap length (once_with same exact xs t) in
    let l : length (once same xs) ≤ length (with_new same (once same xs) t) = with_longer t (once same xs) in
    let m : length (once same (xs ++ t ∷ [])) ≤ length (once same ((xs ++ t ∷ []) ++ more)) = once_longer more (xs ++ t ∷ []) in
    let e : length (once same ((xs ++ t ∷ []) ++ more)) ≡ length (once same (xs ++ t ∷ more)) = ap (λ z. length (once same z)) (append_assoc xs (t ∷ []) more) in
    omega arith

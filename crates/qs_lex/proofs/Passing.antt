-- What passing over steady characters leaves of a scan.
use Rattle.std.proofs.Common.{◌≡◌, ◌≤◌, ◌<◌, ℕ, ◌+◌, ◌-◌, Bool, true, false, cond, List, [], ◌∷◌, ◌++◌, Option, Some, None, option_map, length, refl, sym, ap, ◌∙◌, arith, add_assoc, encode_utf8, encode_utf8_all, length-append, IsUtf8, chars}
use Rattle.std.specs.Char.{len_utf8}
use Rattle.std.proofs.lemmas.Str.{chars_past_char, length-encode, len_utf8_bounds, encodes-chars}
use Rattle.qs_lex_regular.specs.Longest.{Table}
use Rattle.qs_lex_regular.specs.inner.Best.{advance, here, longer, best}
use Rattle.qs_lex_regular.specs.inner.Scan.{later}
use Rattle.qs_lex.specs.inner.Steady.{pass}
use Rattle.qs_lex.proofs.TokenList.{nothing_left}

-- ---- over the bytes that are left

pub pass_step : (p : ℕ → Bool) (bs rest : List ℕ) (c : ℕ) (t : List ℕ) → IsUtf8 bs → bs ≡ encode_utf8 c ++ rest → p c ≡ true → pass p (chars bs) ≡ t → pass p (chars rest) ≡ t
pass_step p bs rest c t u f h e =
    let front : chars bs ≡ c ∷ chars rest = chars_past_char bs rest c u f in
    let on : pass p (c ∷ chars rest) ≡ pass p (chars rest) = rw h refl in
    sym on ∙ (ap (λ z. pass p z) (sym front) ∙ e)

pub pass_stop : (p : ℕ → Bool) (bs rest : List ℕ) (c : ℕ) (t : List ℕ) → IsUtf8 bs → bs ≡ encode_utf8 c ++ rest → p c ≡ false → pass p (chars bs) ≡ t → chars bs ≡ t
pass_stop p bs rest c t u f h e =
    let front : chars bs ≡ c ∷ chars rest = chars_past_char bs rest c u f in
    let stop : pass p (c ∷ chars rest) ≡ c ∷ chars rest = rw h refl in
    front ∙ (sym stop ∙ (ap (λ z. pass p z) (sym front) ∙ e))

pub pass_end : (p : ℕ → Bool) (bs t : List ℕ) → length bs ≡ 0 → pass p (chars bs) ≡ t → chars bs ≡ t
pass_end p bs t z e = let none : chars bs ≡ [] = nothing_left bs z in none ∙ (ap (λ w. pass p w) (sym none) ∙ e)

-- ---- what is found

map_none : {A B : Type 0} (f : A → B) (o : Option A) → option_map f o ≡ None → o ≡ None
map_none f None e = refl
map_none f (Some a) e = absurd cc

longer_none : {K : Type 0} (c : ℕ) (o : Option (K × ℕ)) (k : Option K) → longer c o k ≡ None → k ≡ None
longer_none c (Some t) k e = absurd cc
longer_none c None k e = map_none _ k e

none_here : {K : Type 0} (fs : Table K) (cs : List ℕ) → best fs cs ≡ None → here fs ≡ None
none_here fs [] e = map_none _ (here fs) e
none_here fs (c ∷ cs) e = longer_none c (best (advance fs c) cs) (here fs) e

longer_later : {K : Type 0} (c : ℕ) (o : Option (K × ℕ)) (k : Option K) → (o ≡ None → k ≡ None) → longer c o k ≡ later o (len_utf8 c) None
longer_later c (Some t) k h = refl
longer_later c None k h = rw (h refl) refl

-- a character that leaves the table as it is adds its length
stay_one : {K : Type 0} (fs : Table K) (c : ℕ) (cs : List ℕ) → advance fs c ≡ fs → best fs (c ∷ cs) ≡ later (best fs cs) (len_utf8 c) None
stay_one fs c cs e = ap (λ z. longer c (best z cs) (here fs)) e ∙ longer_later c (best fs cs) (here fs) (none_here fs cs)

pub later_later : {K : Type 0} (o : Option (K × ℕ)) (m n : ℕ) (found : Option (K × ℕ)) → later (later o n None) m found ≡ later o (m + n) found
later_later None m n found = refl
later_later {K} (Some t) m n found = ap (λ (k : ℕ). let w : K × ℕ = (t.0, k) in Some w) (sym (add_assoc m n t.1))

pub later_zero : {K : Type 0} (o : Option (K × ℕ)) (n : ℕ) → n ≡ 0 → later o n None ≡ o
later_zero None n e = refl
later_zero {K} (Some t) n e = ap (λ (k : ℕ). let w : K × ℕ = (t.0, k) in Some w) (let s : n + t.1 ≡ t.1 = omega (arith, e) in s)

size : List ℕ → ℕ
size cs = length (encode_utf8_all cs)

size_more : (c : ℕ) (cs : List ℕ) → size (c ∷ cs) ≡ len_utf8 c + size cs
unfolding size
size_more c cs = length-append (encode_utf8 c) (encode_utf8_all cs) ∙ ap (λ n. n + length (encode_utf8_all cs)) (length-encode c)

shorter_by : (p : ℕ → Bool) (c : ℕ) (cs : List ℕ) (b : Bool) → size (pass p cs) ≤ size cs → size (cond b (pass p cs) (c ∷ cs)) ≤ size (c ∷ cs)
shorter_by p c cs true h = omega (arith, h, size_more c cs)
shorter_by p c cs false h = omega arith

pass_shorter : (p : ℕ → Bool) (cs : List ℕ) → size (pass p cs) ≤ size cs
pass_shorter p [] = omega arith
pass_shorter p (c ∷ cs) = shorter_by p c cs (p c) (pass_shorter p cs)

-- characters that leave the table as it is add their length
abbrev Adds : {K : Type 0} → Table K → (ℕ → Bool) → List ℕ → List ℕ → Type 0
Adds fs p cs left = (n : ℕ) → n + size left ≡ size cs → best fs cs ≡ later (best fs left) n None

adds_by : {K : Type 0} (fs : Table K) (p : ℕ → Bool) (c : ℕ) (cs : List ℕ) (b : Bool) → (b ≡ true → advance fs c ≡ fs) → Adds fs p cs (pass p cs) → Adds fs p (c ∷ cs) (cond b (pass p cs) (c ∷ cs))
adds_by fs p c cs true e rec n h =
    let le = pass_shorter p cs in
    let k : len_utf8 c + (size cs - size (pass p cs)) ≡ n = omega (arith, le, h, size_more c cs) in
    stay_one fs c cs (e refl) ∙ (ap (λ o. later o (len_utf8 c) None) (rec (size cs - size (pass p cs)) (omega (arith, le)))
    ∙ (later_later (best fs (pass p cs)) (len_utf8 c) (size cs - size (pass p cs)) None ∙ ap (λ (m : ℕ). later (best fs (pass p cs)) m None) k))
adds_by fs p c cs false e rec n h = sym (later_zero (best fs (c ∷ cs)) n (omega (arith, h)))

passed_adds : {K : Type 0} (fs : Table K) (p : ℕ → Bool) → ((c : ℕ) → p c ≡ true → advance fs c ≡ fs) → (cs : List ℕ) → Adds fs p cs (pass p cs)
passed_adds fs p e [] n h = sym (later_zero (best fs []) n (omega (arith, h)))
passed_adds fs p e (c ∷ cs) n h = adds_by fs p c cs (p c) (e c) (passed_adds fs p e cs) n h

pub passed : {K : Type 0} (fs : Table K) (p : ℕ → Bool) (text left : List ℕ) → IsUtf8 text → IsUtf8 left → length left ≤ length text → chars left ≡ pass p (chars text)
    → ((c : ℕ) → p c ≡ true → advance fs c ≡ fs) → best fs (chars text) ≡ later (best fs (chars left)) (length text - length left) None
unfolding size
passed fs p text left u v le e stays =
    let whole : length (encode_utf8_all (chars text)) ≡ length text = ap length (encodes-chars text u) in
    let rest : length (encode_utf8_all (pass p (chars text))) ≡ length left = ap (λ z. length (encode_utf8_all z)) (sym e) ∙ ap length (encodes-chars left v) in
    passed_adds fs p stays (chars text) (length text - length left) (omega (arith, whole, rest, le)) ∙ ap (λ z. later (best fs z) (length text - length left) None) (sym e)

-- a scan that has read m bytes goes on after characters that leave the table as it is
pub goes_on : {K : Type 0} (t : Option (K × ℕ)) (fs : Table K) (rest left : List ℕ) (m n : ℕ) (found : Option (K × ℕ)) → t ≡ later (best fs (chars rest)) m found
    → best fs (chars rest) ≡ later (best fs (chars left)) (length rest - length left) None → m + length rest ≡ n → length left ≤ length rest → t ≡ later (best fs (chars left)) (n - length left) found
goes_on t fs rest left m n found e f sizes le =
    let k : m + (length rest - length left) ≡ n - length left = omega (arith, sizes, le) in
    e ∙ (ap (λ o. later o m found) f ∙ (later_later (best fs (chars left)) m (length rest - length left) found ∙ ap (λ (j : ℕ). later (best fs (chars left)) j found) k))

pub one_less : (bs rest left : List ℕ) (c : ℕ) → bs ≡ encode_utf8 c ++ rest → length left ≤ length rest → length left < length bs
one_less bs rest left c f le =
    let b : (1 ≤ len_utf8 c) × (len_utf8 c ≤ 4) = len_utf8_bounds c in
    let l : length bs ≡ len_utf8 c + length rest = ap length f ∙ (length-append (encode_utf8 c) rest ∙ ap (λ n. n + length rest) (length-encode c)) in
    omega (arith, b.0, l, le)

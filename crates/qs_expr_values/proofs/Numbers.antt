-- What std's parse reads is the whole number of the form.
use Rattle.std.proofs.Common.{rules, ◌≡◌, ℕ, zero, suc, ◌+◌, ◌^◌, ◌<◌, ◌≤◌, ◌==◌, Bool, true, false, ◌&&◌, ◌||◌, not, nat_eq, nat_lt, List, [], ◌∷◌, length, Option, Some, None, Result, Ok, Err, refl, ap, sym, ◌∙◌, arith, if◌then◌else◌}
use Rattle.std.specs.Prelude.{ℤ, pos, negsuc, neg_ℤ}
use Rattle.std.specs.Int.{w128, IsInRange}
use Rattle.std.specs.Int.RustNames.{FitsSigned}
use Rattle.std.specs.Fmt.{decimal}
use Rattle.std.proofs.lemmas.Fmt.{decimal_is_IsNumeral_wide}
use Rattle.std.specs.Result.{OkIff, result_ok}
use Rattle.std.specs.Option.{is_some, SomeIff}
use mir.Val.{of_z, to_z}
use Rattle.std.proofs.lemmas.Int.{to_z-of_z}
use Rattle.qs_expr_values.specs.Values.{is_not_zero}
use Rattle.std.specs.Str.{all_ascii_digits}
use Rattle.std.specs.Str.Parse.{ParsesSigned, IsNumeral, digits_value}
use Rattle.std.proofs.lemmas.Bool.Decides.{nat_tests}
use Rattle.std.proofs.lemmas.Str.Parse.{IsNumeralModel, numerals_by_fold, parse_signed_plain, parse_signed_plus, parse_signed_minus}
use borrow.Author.Tests.{ltb-true, eqb-true, eqb-false}
use Rattle.qs_expr_values.specs.Number.{is_numeral, signed, whole_number, is_in_range, in_range, integer_of, canonical}
use Rattle.qs_expr_values.specs.inner.Number.{value_behind, minus}

own : IsNumeralModel (λ ds. all_ascii_digits ds ≡ true) (value_behind 0)
own = numerals_by_fold _ (search rules) value_behind (search rules)

decided : {E : Type 0} (r : Result ℤ E) (Q : Type 0) (x : ℤ) (b : Bool) → OkIff r Q x → (b ≡ true → Q) → (Q → b ≡ true) → result_ok r ≡ (if b then Some x else None)
decided (Ok y) Q x true h f g = ap Some h.1
decided (Ok y) Q x false h f g = let e : false ≡ true = g h.0 in cc
decided (Err e) Q x true h f g = absurd (h (f refl))
decided (Err e) Q x false h f g = refl

ranged : (b c : Bool) (x : ℤ) → is_in_range x ≡ c → in_range (if b then Some x else None) ≡ (if b && c then Some x else None)
ranged true c x e = ap (λ d. if d then Some x else None) e
ranged false c x e = refl

pub below : (n m : ℕ) → n < m → nat_lt n m ≡ true
below n m h = grind (arith, nat_tests)

above : (n m : ℕ) → nat_lt n m ≡ true → n < m
above n m h = ltb-true n m h

both : (a b : Bool) → a ≡ true → b ≡ true → a && b ≡ true
both a b h k = cc

first : (a b : Bool) → a && b ≡ true → a ≡ true
first true b h = refl
first false b h = h

second : (a b : Bool) → a && b ≡ true → b ≡ true
second true b h = h
second false b h = let e : false ≡ true = h in cc

some_digits : (ds : List ℕ) → is_numeral ds ≡ true → 0 < length ds
some_digits [] h = let e : false ≡ true = h in cc
some_digits (c ∷ cs) h = omega arith

all_digits : (ds : List ℕ) → is_numeral ds ≡ true → all_ascii_digits ds ≡ true
all_digits [] h = refl
all_digits (c ∷ cs) h = h

numeral : (ds : List ℕ) → all_ascii_digits ds ≡ true → 0 < length ds → is_numeral ds ≡ true
numeral [] h l = absurd (omega arith)
numeral (c ∷ cs) h l = h

-- the value of digits, as they are read one after another
same_signed_if : (sign : ℕ → ℤ) (ds : List ℕ) (b : Bool) → is_numeral ds ≡ b → (if b then Some (sign (value_behind 0 ds)) else None) ≡ (if b then Some (sign (digits_value 10 ds)) else None)
same_signed_if sign ds true e = ap (λ n. Some (sign n)) (own.same ds (own.to ds (all_digits ds e)))
same_signed_if sign ds false e = refl

pub same_signed : (sign : ℕ → ℤ) (ds : List ℕ) → (if is_numeral ds then Some (sign (value_behind 0 ds)) else None) ≡ signed sign ds
same_signed sign ds = same_signed_if sign ds (is_numeral ds) refl

module _ {E : Type 0} (r : Result ℤ E) (ds : List ℕ) where
  positive : OkIff r ((all_ascii_digits ds ≡ true) × (0 < length ds) × (value_behind 0 ds < 2 ^ 127)) (pos (value_behind 0 ds)) → result_ok r ≡ in_range (signed pos ds)
  positive h =
      decided r _ _ (is_numeral ds && nat_lt (value_behind 0 ds) (2 ^ 127)) h
      (λ e. (all_digits ds (first _ _ e), some_digits ds (first _ _ e), above _ _ (second (is_numeral ds) _ e)))
      (λ q. both _ _ (numeral ds q.0 q.1) (below _ _ q.2))
      ∙ (sym (ranged (is_numeral ds) _ (pos (value_behind 0 ds)) refl) ∙ ap in_range (same_signed pos ds))

  negative : OkIff r ((all_ascii_digits ds ≡ true) × (0 < length ds) × (value_behind 0 ds ≤ 2 ^ 127)) (neg_ℤ (pos (value_behind 0 ds))) → result_ok r ≡ in_range (signed minus ds)
  negative h =
      decided r _ _ (is_numeral ds && is_in_range (minus (value_behind 0 ds))) h
      (λ e. (all_digits ds (first _ _ e), some_digits ds (first _ _ e), to (value_behind 0 ds) (second (is_numeral ds) _ e)))
      (λ q. both _ _ (numeral ds q.0 q.1) (from (value_behind 0 ds) q.2))
      ∙ (sym (ranged (is_numeral ds) _ (minus (value_behind 0 ds)) refl) ∙ ap in_range (same_signed minus ds))
    where
      to : (n : ℕ) → is_in_range (minus n) ≡ true → n ≤ 2 ^ 127
      to zero e = omega arith
      to (suc n) e = let k : n < 2 ^ 127 = above n (2 ^ 127) e in omega arith

      from : (n : ℕ) → n ≤ 2 ^ 127 → is_in_range (minus n) ≡ true
      from zero l = refl
      from (suc n) l = below n (2 ^ 127) (omega arith)

pub parsed : {E : Type 0} (r : Result ℤ E) (bs : List ℕ) → ParsesSigned w128 10 bs r → result_ok r ≡ integer_of bs
unfolding integer_of
parsed (Ok x) [] h = absurd (let k : 0 < 0 = h.0.0.0 in omega arith)
parsed (Err e) [] h = refl
parsed r (c ∷ cs) h = by_sign (c == 43) refl (c == 45) refl
  where
    by_sign : (p : Bool) → (c == 43) ≡ p → (m : Bool) → (c == 45) ≡ m → result_ok r ≡ in_range (if p then signed pos cs else (if m then signed minus cs else signed pos (c ∷ cs)))
    by_sign true e m f = positive r cs (parse_signed_plus own w128 (c ∷ cs) r h (eqb-true c 43 e))
    by_sign false e true f = negative r cs (parse_signed_minus own w128 (c ∷ cs) r h (eqb-true c 45 f))
    by_sign false e false f = positive r (c ∷ cs) (parse_signed_plain own w128 (c ∷ cs) r h (eqb-false c 43 e) (eqb-false c 45 f))

-- ---- what is written is read as it was

-- the digits of a number in any sign's place
module _ (n : ℕ) (small : n ≤ 2 ^ 127) where
  written : IsNumeral 10 (decimal n) × (digits_value 10 (decimal n) ≡ n)
  written = decimal_is_IsNumeral_wide n (omega arith)

  digits : all_ascii_digits (decimal n) ≡ true
  digits = own.from (decimal n) written.0.1

  signed_back : (sign : ℕ → ℤ) → signed sign (decimal n) ≡ Some (sign n)
  signed_back sign = ap (λ b. if b then Some (sign (digits_value 10 (decimal n))) else None) (numeral (decimal n) digits written.0.0) ∙ ap (λ m. Some (sign m)) written.1

pub no_sign : (ds : List ℕ) → all_ascii_digits ds ≡ true → whole_number ds ≡ signed pos ds
no_sign [] h = refl
no_sign (c ∷ cs) h = by (c == 43) refl (c == 45) refl
  where
    digit : IsInRange 48 57 c
    digit = search rules

    by : (p : Bool) → (c == 43) ≡ p → (m : Bool) → (c == 45) ≡ m → (if p then signed pos cs else (if m then signed minus cs else signed pos (c ∷ cs))) ≡ signed pos (c ∷ cs)
    by true e m f = let k : c ≡ 43 = eqb-true c 43 e in let d : 48 ≤ c = digit.0 in absurd (omega arith)
    by false e true f = let k : c ≡ 45 = eqb-true c 45 f in let d : 48 ≤ c = digit.0 in absurd (omega arith)
    by false e false f = refl

pub read_back : (z : ℤ) → FitsSigned w128 z → whole_number (canonical z) ≡ Some z
unfolding canonical
read_back (pos n) h = let k : n < 2 ^ 127 = h.sfits in no_sign (decimal n) (digits n (omega arith)) ∙ signed_back n (omega arith) pos
read_back (negsuc n) h = let k : suc n < 2 ^ 127 + 1 = omega (arith, h) in signed_back (suc n) (omega arith) minus

pub fits : (z : ℤ) → FitsSigned w128 z → is_in_range z ≡ true
fits (pos n) h = below n (2 ^ 127) h.sfits
fits (negsuc n) h = below n (2 ^ 127) h.sfits

pub fits_back : (z : ℤ) → is_in_range z ≡ true → FitsSigned w128 z
fits_back (pos n) h = record { sfits = above n (2 ^ 127) h }
fits_back (negsuc n) h = record { sfits = above n (2 ^ 127) h }

-- ---- steps of the code

pub numeral_of : (ds : List ℕ) → (length ds == 0) ≡ false → is_numeral ds ≡ all_ascii_digits ds
numeral_of [] h = let e : true ≡ false = h in cc
numeral_of (c ∷ cs) h = refl

pub other_than_zero : (z : ℤ) → FitsSigned w128 z → not (nat_eq (of_z w128 z) 0) ≡ is_not_zero (Some z)
other_than_zero (pos n) h = refl
other_than_zero (negsuc n) h = let k : n < 2 ^ 127 = h.sfits in grind (arith, nat_tests)

some_signed : (sign : ℕ → ℤ) (ds : List ℕ) → is_some (signed sign ds) ≡ is_numeral ds
some_signed sign ds = by (is_numeral ds)
  where
    by : (b : Bool) → is_some (if b then Some (sign (digits_value 10 ds)) else None) ≡ b
    by true = refl
    by false = refl

pub some_number : (c : ℕ) (cs : List ℕ) → is_some (whole_number (c ∷ cs)) ≡ (if c == 43 || c == 45 then is_numeral cs else is_numeral (c ∷ cs))
some_number c cs = by (c == 43) (c == 45)
  where
    by : (p m : Bool) → is_some (if p then signed pos cs else (if m then signed minus cs else signed pos (c ∷ cs))) ≡ (if p || m then is_numeral cs else is_numeral (c ∷ cs))
    by true m = some_signed pos cs
    by false true = some_signed minus cs
    by false false = some_signed pos (c ∷ cs)

in_range_some : (o : Option ℤ) (z : ℤ) → in_range o ≡ Some z → o ≡ Some z
in_range_some None z h = h
in_range_some (Some y) z h = by (is_in_range y) h
  where
    by : (b : Bool) → (if b then Some y else None) ≡ Some z → Some y ≡ Some z
    by true e = e
    by false e = let k : None ≡ Some z = e in cc

pub not_zero_in_range : (form : List ℕ) (z : ℤ) → integer_of form ≡ Some z → is_not_zero (whole_number form) ≡ is_not_zero (Some z)
unfolding integer_of
not_zero_in_range form z h = ap is_not_zero (in_range_some (whole_number form) z h)

beyond : (o : Option ℤ) → in_range o ≡ None → is_not_zero o ≡ is_some o
beyond None h = refl
beyond (Some (negsuc n)) h = refl
beyond (Some (pos zero)) h = let k : Some (pos 0) ≡ None = h in cc
beyond (Some (pos (suc n))) h = grind (arith, nat_tests)

pub not_zero_beyond : (form : List ℕ) → integer_of form ≡ None → is_not_zero (whole_number form) ≡ is_some (whole_number form)
unfolding integer_of
not_zero_beyond form h = beyond (whole_number form) h

pub checked : (r : Option ℤ) (z : ℤ) → SomeIff r (FitsSigned w128 z) z → r ≡ in_range (Some z)
checked (Some y) z h = ap Some h.1 ∙ sym (ap (λ b. if b then Some z else None) (fits z h.0))
checked None z h = by (is_in_range z) refl
  where
    by : (b : Bool) → is_in_range z ≡ b → None ≡ (if b then Some z else None)
    by true e = absurd (h (fits_back z e))
    by false e = refl

-- a number that is passed is the same after the call
pub passed : (r : Bool) (z : ℤ) → FitsSigned w128 z → r ≡ is_not_zero (Some (to_z w128 (of_z w128 z))) → r ≡ is_not_zero (Some z)
passed r z h e = e ∙ ap (λ y. is_not_zero (Some y)) (to_z-of_z w128 z h)

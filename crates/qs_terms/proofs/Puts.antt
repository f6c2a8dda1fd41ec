-- What calls that take bytes add up to.
use Rattle.std.proofs.Common.{◌≡◌, ◌≢◌, ℕ, zero, suc, ◌+◌, List, ◌++◌, Option, None, Some, take, drop, refl, sym, ◌∙◌, ap}
use Rattle.std.proofs.Math.Seq.{take-add}
use Rattle.std.proofs.lemmas.List.{append_assoc}
use Rattle.std.specs.Io.KnownBytes.{Appends}
use Rattle.qs_terms.specs.inner.Device.{count_after}

-- the first i bytes, and then n more of the rest
pub appends_more : (old mid new : Option (List ℕ)) (i n : ℕ) (xs : List ℕ) → Appends old mid (take i xs) → Appends mid new (take n (drop i xs)) → Appends old new (take (i + n) xs)
appends_more None mid new i n xs h k = tt
appends_more (Some a) None new i n xs h k = absurd h
appends_more (Some a) (Some b) None i n xs h k = absurd k
appends_more (Some a) (Some b) (Some c) i n xs h k =
    k ∙ ap (λ s. s ++ take n (drop i xs)) h ∙ append_assoc a (take i xs) (take n (drop i xs)) ∙ ap (λ s. a ++ s) (sym (take-add i n xs))

-- a call that took bytes is no fault
pub took_some : (len n faults : ℕ) → n ≢ 0 → count_after len n faults ≡ faults
took_some zero n faults h = refl
took_some (suc len) zero faults h = absurd (h refl)
took_some (suc len) (suc n) faults h = refl

-- Definitions over those of `OrOutOf`, for proofs and the layers between.
use Rattle.std.specs.Prelude.{◌≡◌, ◌≢◌, Result, Ok, Err, MatchResult}

-- the answer is the one that is due, or running out of memory
abbrev pub OrOutOf : {A E : Type 0} → E → Result A E → Result A E → Type 0
OrOutOf memory due (Ok a) = due ≡ Ok a
OrOutOf memory due (Err e) = e ≢ memory → due ≡ Err e

-- the same where a fault that is due comes before any growth: running out of memory stands in the
-- place of a value alone
abbrev pub ValueOrOutOfMemory : {A E : Type 0} → E → Result A E → Result A E → Type 0
ValueOrOutOfMemory memory due answer =
    MatchResult due (λ x. MatchResult answer (λ y. y ≡ x) (λ e. e ≡ memory)) (λ e. answer ≡ Err e)

-- the same of a call that gives a value and changes another: both are due together
abbrev pub WithOrOutOfMemory : {A S E : Type 0} → E → Result (A × S) E → Result A E → S → Type 0
WithOrOutOfMemory memory due (Ok a) new = due ≡ Ok (a, new)
WithOrOutOfMemory memory due (Err e) new = e ≢ memory → due ≡ Err e

-- the same of a call that changes a value alone
abbrev pub BecomesOrOutOfMemory : {A E : Type 0} → E → Result A E → Result (Unit {0}) E → A → Type 0
BecomesOrOutOfMemory memory due (Ok done) new = due ≡ Ok new
BecomesOrOutOfMemory memory due (Err e) new = e ≢ memory → due ≡ Err e

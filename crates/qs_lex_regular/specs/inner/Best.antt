-- The longest front by derivatives: the classes that are still possible, each with what is left
-- of its form. The proofs of `qs_lex` and `qs_nquads` cite lemmas of this crate as they cite
-- std's; they are public laws in `src/laws.rt` too.
use Rattle.std.specs.Prelude.{ℕ, ◌+◌, cond, List, [], ◌∷◌, Option, Some, None, option_map}
use Rattle.std.specs.Char.{len_utf8}
use Rattle.qs_lex_regular.specs.Form.{Form, never}
use Rattle.qs_lex_regular.specs.Longest.{Table}
use Rattle.qs_lex_regular.specs.inner.Derivative.{nullable, derive}

abbrev pub keep : {K : Type 0} → K → Form → Table K → Table K
keep k never fs = fs
keep k r fs = (k, r) ∷ fs

-- what is left of a table after a character
abbrev pub advance : {K : Type 0} → Table K → ℕ → Table K
advance [] c = []
advance (f ∷ fs) c = keep f.0 (derive f.1 c) (advance fs c)

-- the first class of which nothing is left
abbrev pub here : {K : Type 0} → Table K → Option K
here [] = None
here (f ∷ fs) = cond (nullable f.1) (Some f.0) (here fs)

abbrev pub longer : {K : Type 0} → ℕ → Option (K × ℕ) → Option K → Option (K × ℕ)
longer c (Some t) k = Some (t.0, len_utf8 c + t.1)
longer c None k = option_map (λ j. (j, 0)) k

-- the class and the length in bytes of the longest front that is of a class of the table
abbrev pub best : {K : Type 0} → Table K → List ℕ → Option (K × ℕ)
best fs [] = option_map (λ k. (k, 0)) (here fs)
best fs (c ∷ cs) = longer c (best (advance fs c) cs) (here fs)

-- The limit of descriptors, as Linux writes it in a line of `/proc/self/limits`: its name, white
-- space, the soft limit, white space, the hard limit.
use Rattle.std.specs.Prelude.{◌≡◌, ◌<◌, ◌^◌, ◌==◌, ℕ, List, Option, Some, None, MatchOption, codes}
use Rattle.std.specs.List.{before_first}
use Rattle.std.specs.Str.{trim_start}
use Rattle.std.specs.Str.Parse.{IsNumeral, digits_value, without_leading_plus}
use Rattle.std.specs.Str.Pattern.{FindsText, SplitsAroundMatch}

-- what follows the first name of the limit; or none, where the text hasn't the name
abbrev pub IsAfterName : List ℕ → Option (List ℕ) → Type 0
IsAfterName text None = FindsText (codes "Max open files") text None
IsAfterName text (Some rest) =
    (front : List ℕ) × SplitsAroundMatch (FindsText (codes "Max open files")) text front rest

-- the first word of a text
abbrev pub first_word : List ℕ → List ℕ
first_word text = before_first (λ b. b == 32) (trim_start text)

-- the word is a number of a machine word
abbrev pub IsSize : List ℕ → Type 0
IsSize word = IsNumeral 10 (without_leading_plus word)
    × (digits_value 10 (without_leading_plus word) < 2 ^ 64)

-- the number that a word is; or none, where it is no such number
abbrev pub IsNumberOf : List ℕ → Option ℕ → Type 0
IsNumberOf word None = ¬ IsSize word
IsNumberOf word (Some n) = IsSize word × (n ≡ digits_value 10 (without_leading_plus word))

-- the soft limit that the text names; or none, where it names no such number
abbrev pub IsSoftLimit : List ℕ → Option ℕ → Type 0
IsSoftLimit text limit = (after : Option (List ℕ)) × IsAfterName text after
    × MatchOption after (limit ≡ None) (λ rest. IsNumberOf (first_word rest) limit)

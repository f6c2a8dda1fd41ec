-- A dictionary of terms: each term's number is its place in a list of distinct terms, from 1.
use Rattle.std.specs.Prelude.{◌≡◌, ℕ, zero, suc, ◌<◌, ◌≤◌, ◌^◌, List, Option, None, length}
use Rattle.std.specs.Prelude.{slice_get, position}
use Rattle.std.specs.Option.{option_map}
use Rattle.qs_terms.specs.Bag.{Distinct}
use Rattle.qs_terms.specs.Term.{same_term}
use Rattle.qs_terms.specs.declared.term.Term.{Term}

-- the terms by their numbers, and how many there may be
pub record Dictionary : Type 0 where
  pub terms : List Term
  pub limit : ℕ

-- the terms are distinct, and no more than the limit, which is a number of 4 bytes
pub record IsDictionary (d : Dictionary) : Type 0 where
  pub distinct : Distinct same_term d.terms
  pub within : length d.terms ≤ d.limit
  pub bound : d.limit < 2 ^ 32

-- the term with the number, if the number is in use
abbrev pub term_at : List Term → ℕ → Option Term
term_at terms zero = None
term_at terms (suc place) = slice_get terms place

-- the number of the term, if it is there
abbrev pub number_of : List Term → Term → Option ℕ
number_of terms term = option_map suc (position (same_term term) terms)

-- the number is one from 1 to the count of the terms, so that a term has it
abbrev pub IsInUse : List Term → ℕ → Type 0
IsInUse terms number = (0 < number) × (number ≤ length terms)

-- each number up to this one has the term that it had, or none as before
abbrev pub KeepsNumbers : ℕ → List Term → List Term → Type 0
KeepsNumbers last old new = (number : ℕ) → number ≤ last → term_at new number ≡ term_at old number

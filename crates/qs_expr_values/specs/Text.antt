-- Texts in texts (SPARQL 1.1 Query, 17.4.3, CONTAINS), and language ranges (17.4.3, langMatches;
-- RFC 4647, 3.3.1). Texts are compared by bytes. By laws of the crate that says the same as by
-- characters, where they are UTF-8, and so it does of a front, an end and the order of texts. The
-- empty language range matches the empty tag alone; RFC 4647 has no empty range.
use Rattle.std.specs.Prelude.{ℕ, Bool, true, false, ◌&&◌, ◌||◌, List, [], ◌∷◌, ◌++◌, codes, nat_eq}
use Rattle.std.specs.List.{starts_with}
use Rattle.std.specs.Str.{bytes_eq}
use Rattle.qs_terms.specs.Tag.{lowered}

-- the needle stands somewhere in the text
abbrev pub stands_in : List ℕ → List ℕ → Bool
stands_in needle [] = starts_with nat_eq [] needle
stands_in needle (c ∷ cs) = starts_with nat_eq (c ∷ cs) needle || stands_in needle cs

abbrev pub is_not_empty : List ℕ → Bool
is_not_empty [] = false
is_not_empty (c ∷ cs) = true

-- the tag begins with the range, which has something, and `-`
abbrev pub begins_with_range : List ℕ → List ℕ → Bool
begins_with_range range tag = is_not_empty range && starts_with nat_eq tag (range ++ codes "-")

-- `*` matches each tag that has something; basic filtering: the range and the tag are the same but
-- for case, or the range is a front of the tag's subtags (RFC 4647, 3.3.1)
abbrev pub matches_range : List ℕ → List ℕ → Bool
matches_range range tag =
    (is_not_empty tag && bytes_eq range (codes "*"))
    || (bytes_eq (lowered tag) (lowered range) || begins_with_range (lowered range) (lowered tag))

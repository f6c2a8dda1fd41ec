-- Quads as entries of the numbers of their terms.
use Rattle.std.specs.Prelude.{◌≡◌, ℕ, ◌≤◌, ◌++◌, List, [], ◌∷◌, length, map, Option, Some, None}
use Rattle.std.specs.Bool.{IsTrue}
use Rattle.std.specs.List.{Contains}
use Rattle.qs_terms.specs.Statement.{Statement, fits_places}
use Rattle.qs_terms.specs.declared.term.Term.{Term}
use Rattle.qs_terms.specs.declared.term.Term.TheVariants.{Blank}
use Rattle.qs_dict.specs.inner.Dict.{term_at, number_of, IsInUse}

abbrev pub or_blank : Option Term → Term
or_blank None = Blank 0
or_blank (Some term) = term

-- the term with the number, which is in use
abbrev pub term_or : List Term → ℕ → Term
term_or terms number = or_blank (term_at terms number)

-- what an entry says; graph number 0 is the default graph
abbrev pub statement_of : List Term → List ℕ → Statement
statement_of terms (g ∷ s ∷ p ∷ o ∷ []) =
    record {
      graph = term_at terms g;
      subject = term_or terms s;
      predicate = term_or terms p;
      object = term_or terms o;
    }
statement_of terms entry =
    record { graph = None; subject = Blank 0; predicate = Blank 0; object = Blank 0 }

-- the numbers are in use, and the terms may stand where they do
pub record IsPlaced (terms : List Term) (g s p o : ℕ) : Type 0 where
  pub graph : g ≤ length terms
  pub subject : IsInUse terms s
  pub predicate : IsInUse terms p
  pub object : IsInUse terms o
  pub fits : IsTrue (fits_places (term_at terms g) (term_or terms s) (term_or terms p))

abbrev pub IsEntryOf : List Term → List ℕ → Type 0
IsEntryOf terms (g ∷ s ∷ p ∷ o ∷ []) = IsPlaced terms g s p o
IsEntryOf terms entry = ⊥

abbrev pub graph_number : List Term → Option Term → Option ℕ
graph_number terms None = Some 0
graph_number terms (Some name) = number_of terms name

abbrev pub four : Option ℕ → Option ℕ → Option ℕ → Option ℕ → Option (List ℕ)
four (Some g) (Some s) (Some p) (Some o) = Some (g ∷ s ∷ p ∷ o ∷ [])
four (Some g) (Some s) (Some p) None = None
four (Some g) (Some s) None o = None
four (Some g) None p o = None
four None s p o = None

-- the entry of a quad, where all its terms are known
abbrev pub entry_of : List Term → Statement → Option (List ℕ)
entry_of terms q = four (graph_number terms q.graph) (number_of terms q.subject)
    (number_of terms q.predicate) (number_of terms q.object)

-- what the entries say
abbrev pub said : List Term → List (List ℕ) → List Statement
said terms entries = map (statement_of terms) entries

-- each is an entry over these terms
abbrev pub AreEntries : List Term → List (List ℕ) → Type 0
AreEntries terms entries = (x : List ℕ) → Contains entries x → IsEntryOf terms x

-- with an entry after them, entries over more terms say what they said, with its quad after it
pub record IsSaidBehind (terms : List Term) (entries : List (List ℕ)) (q : Statement)
    (more : List Term) (entry : List ℕ) : Type 0 where
  pub entries_are : AreEntries more (entries ++ entry ∷ [])
  pub says : said more (entries ++ entry ∷ []) ≡ said terms entries ++ q ∷ []

-- What bytes say as N-Quads, or the fault that is due (RDF 1.1 N-Quads, 3 and 4). Tokens are read
-- from left to right. What stops reading first decides: the end of a text that is no document, a
-- front that is no token, or a token that has no place after those before it. Bytes result in one
-- thing, but where memory runs out (`laws::some_outcome`, `laws::one_outcome`). The next number
-- is above those of all blank nodes of the statements (`laws::next_number_is_fresh`).
use Rattle.std.specs.Prelude.{◌≡◌, ◌<◌, ◌⊎◌, ℕ, ◌+◌, ◌-◌, ◌==◌, false, List, [], ◌∷◌, ◌++◌}
use Rattle.std.specs.Prelude.{length, take, count_by, Ok, Err}
use Rattle.std.specs.Str.{IsUtf8, IsValidUpTo, chars, encode_utf8_all}
use Rattle.qs_lex_regular.specs.Longest.{LongestFront, HasNoFront}
use Rattle.qs_terms.specs.Literal.{checked_typed}
use Rattle.qs_terms.specs.Statement.{Statement}
use Rattle.qs_terms.specs.declared.fault.TermFault.{TermFault}
use Rattle.qs_nquads.specs.Document.{IsDocument}
use Rattle.qs_nquads.specs.Gap.{skip}
use Rattle.qs_nquads.specs.Labels.{Numbering, from}
use Rattle.qs_nquads.specs.Part.{said}
use Rattle.qs_nquads.specs.Table.{table}
use Rattle.qs_nquads.specs.declared.class.Class.{Class}
use Rattle.qs_nquads.specs.declared.class.Class.TheVariants as class
use Rattle.qs_nquads.specs.declared.fault.NqFaultKind.{NqFaultKind}
use Rattle.qs_nquads.specs.declared.fault.NqFaultKind.TheVariants as fault
use Rattle.qs_nquads.specs.declared.part.Part.{Part}
use Rattle.qs_nquads.specs.declared.part.Part.TheVariants as part

-- From left to right the characters cs are read as these parts, each from the longest front after
-- a gap, with the numbers of labels n before and m after them. What is left is `rest`.
abbrev pub Reads : List ℕ → Numbering → List Part → Numbering → List ℕ → Type 0
Reads cs n [] m rest = (n ≡ m) × (cs ≡ rest)
Reads cs n (p ∷ ps) m rest =
    (k : Class) × (len : ℕ) × (f : LongestFront table (skip false cs) k len) × (o : Numbering)
    × (said n k (encode_utf8_all f.front) ≡ Ok (p, o)) × Reads f.rest o ps m rest

-- the bytes are N-Quads of these statements, in their order and with repeats, and the next new
-- label would get the number `next`
abbrev pub IsNquads : List ℕ → ℕ → List Statement → ℕ → Type 0
IsNquads bytes first quads next =
    IsUtf8 bytes × ((ps : List Part) × (n : Numbering) × (rest : List ℕ)
    × Reads (chars bytes) (from first) ps n rest × (skip false rest ≡ [])
    × IsDocument ps quads × (n.next ≡ next))

-- ---- faults

-- the parts are the front of some document
abbrev pub IsBegun : List Part → Type 0
IsBegun ps = (more : List Part) × (quads : List Statement) × IsDocument (ps ++ more) quads

-- a blank node has its place after the parts
abbrev pub TakesBlank : List Part → Type 0
TakesBlank ps = (b : ℕ) × IsBegun (ps ++ part.Blank b ∷ [])

-- the part is an IRI after `^^` that is the datatype of no literal of the string before it
abbrev pub IsBadType : List Part → Part → Type 0
IsBadType ps p =
    (before : List Part) × (form : List ℕ) × (i : List ℕ) × (f : TermFault)
    × (ps ≡ before ++ part.Form form ∷ part.Carets ∷ []) × (p ≡ part.Iri i)
    × (checked_typed form i ≡ Err f)

-- the longest front of cs is of a class and has bytes of which P holds
abbrev pub HasFront : List ℕ → (Class → List ℕ → Type 0) → Type 0
HasFront cs P =
    (k : Class) × (len : ℕ) × (f : LongestFront table cs k len) × P k (encode_utf8_all f.front)

-- that front says no part, for a reason; or it says a part of which P holds
abbrev pub SaysNone : List ℕ → Numbering → NqFaultKind → Type 0
SaysNone cs n kind = HasFront cs (λ k x. said n k x ≡ Err kind)

abbrev pub Says : List ℕ → Numbering → (Part → Type 0) → Type 0
Says cs n P = HasFront cs (λ k x. (p : Part) × (m : Numbering) × (said n k x ≡ Ok (p, m)) × P p)

-- The fault is due where ps were read, n are the numbers of labels, and cs is left after the gap.
-- An IRI that says no part is `Iri` wherever it stands. A statement that ends too early, a label
-- without a place and any other part without one are `Shape`. A label that has its place and
-- finds no number is `Full`. Memory may run out wherever something is left.
abbrev pub IsDue : List Part → Numbering → List ℕ → NqFaultKind → Type 0
IsDue ps n cs fault.Utf8 = ⊥
IsDue ps n cs fault.Token = ((0 < length cs) × HasNoFront table cs) ⊎ SaysNone cs n fault.Token
IsDue ps n cs fault.Shape =
    ((cs ≡ []) × ((quads : List Statement) → ¬ (IsDocument ps quads)))
    ⊎ ((HasFront cs (λ k x. k ≡ class.Label) × (¬ (TakesBlank ps)))
    ⊎ Says cs n (λ p. (¬ (IsBegun (ps ++ p ∷ []))) × (¬ (IsBadType ps p))))
IsDue ps n cs fault.Iri = SaysNone cs n fault.Iri
IsDue ps n cs fault.Escape = SaysNone cs n fault.Escape
IsDue ps n cs fault.Literal = Says cs n (IsBadType ps)
IsDue ps n cs fault.Memory = 0 < length cs
IsDue ps n cs fault.Full = SaysNone cs n fault.Full × TakesBlank ps

-- the line of a place: 1 and the count of LF before it
abbrev pub line_at : List ℕ → ℕ → ℕ
line_at bytes place = 1 + count_by (λ b. b == 10) (take place bytes)

-- a fault at this line: the bytes aren't UTF-8, which comes before everything, with the line of the
-- first bad byte; or it is due after parts that are the front of some document
abbrev pub IsFault : List ℕ → ℕ → NqFaultKind → ℕ → Type 0
IsFault bytes first kind line =
    ((kind ≡ fault.Utf8) × (¬ (IsUtf8 bytes))
    × ((n : ℕ) × IsValidUpTo bytes n × (line ≡ line_at bytes n)))
    ⊎ (IsUtf8 bytes × ((ps : List Part) × (n : Numbering) × (rest : List ℕ)
    × Reads (chars bytes) (from first) ps n rest × IsBegun ps
    × IsDue ps n (skip false rest) kind
    × (line ≡ line_at bytes (length bytes - length (encode_utf8_all (skip false rest))))))

-- When a text has no token list, and when memory may run out for it.
use Rattle.std.specs.Prelude.{ℕ, ◌<◌, List, length}
use Rattle.std.specs.Str.{chars}
use Rattle.qs_lex.specs.Lexes.{Lexeme, Reads, StopsAt}
use Rattle.qs_terms.specs.declared.fault.QFault.{QFault}
use Rattle.qs_terms.specs.declared.fault.QFault.TheVariants.{Syntax, Memory}

-- the text begins with a token, after white space and comments
abbrev pub HasToken : List ℕ → Type 0
HasToken text = (ts : List Lexeme) × (rest : List ℕ) × Reads (length text) (chars text) ts rest
    × (0 < length ts)

-- the fault is due: no token begins at its place; memory may run out once there is a token to keep
abbrev pub IsFaultOf : List ℕ → QFault → Type 0
IsFaultOf text (Syntax place) = StopsAt text place
IsFaultOf text Memory = HasToken text
IsFaultOf text fault = ⊥

-- What a procedure that takes no memory answers.
use Rattle.std.specs.Prelude.{◌≡◌, List, Result, Ok, Err}
use Rattle.qs_syntax_grammar.specs.declared.fault.Fault.{Fault}
use Rattle.qs_syntax_grammar.specs.inner.Reading.{Outcome}

-- the outcome itself, be it a tree with the tokens after it or a fault; running out of memory is no
-- answer beside it
abbrev pub ReadsExactly : {T A : Type 0} → Outcome T A → Result A Fault → List T → Type 0
ReadsExactly o (Ok a) new = o ≡ Ok (a, new)
ReadsExactly o (Err e) new = o ≡ Err e

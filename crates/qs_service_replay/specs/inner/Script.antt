-- Definitions over those of `Script`, for proofs and the layers between.
use Rattle.std.specs.Prelude.{ℕ, List}
use Rattle.qs_service_connections.specs.Step.{Event}
use Rattle.qs_service_replay.specs.declared.script.ScriptFault.{ScriptFault}
use Rattle.qs_service_replay.specs.declared.script.ScriptFault.TheVariants.{Line, Memory}
use Rattle.qs_service_replay.specs.Script.{IsLine, IsOtherLine}

abbrev pub TellsEvent : List ℕ → Type 0
TellsEvent line = (event : Event) × IsLine line event

-- why a text is no script, or that memory ran out
abbrev pub IsScriptFault : List ℕ → ScriptFault → Type 0
IsScriptFault text (Line n) = IsOtherLine text n
IsScriptFault text Memory = Unit {0}

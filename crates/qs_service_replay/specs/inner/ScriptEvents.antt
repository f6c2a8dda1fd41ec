-- The events that happenings are.
use Rattle.qs_service_connections.specs.Step.{Event, Join, Piece, End}
use Rattle.qs_service_replay.specs.declared.script_event.ScriptEvent.{ScriptEvent}
use Rattle.qs_service_replay.specs.declared.script_event.ScriptEvent.TheVariants as happening

abbrev pub event_of : ScriptEvent → Event
event_of (happening.Join id) = Join id
event_of (happening.Piece id bytes) = Piece id bytes.items
event_of (happening.End id) = End id

-- How a reply is kept.
use Rattle.qs_service_connections.specs.Message.{Message, fixed_message}
use Rattle.qs_service_connections.specs.declared.reply.Bytes.{Bytes}
use Rattle.qs_service_connections.specs.declared.reply.Bytes.TheVariants as bytes

abbrev pub message_in : Bytes → Message
message_in (bytes.Made status reply) = record { status = status; bytes = reply }
message_in (bytes.Fixed f) = fixed_message f

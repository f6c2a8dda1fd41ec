-- Replies (RFC 9112, 4 and 6).
use Rattle.std.specs.Prelude.{ℕ, List}
use Rattle.qs_http.specs.declared.fixed_reply.Fixed.{Fixed}
use Rattle.qs_http.specs.declared.media.Media.{Media}
use Rattle.qs_http.specs.Reply.{reply_of, fixed_of, status_of}

-- a reply: its status, and all its bytes
pub record Message : Type 0 where
  pub status : ℕ
  pub bytes : List ℕ

-- a reply with that status, type and body
abbrev pub message : ℕ → Media → List ℕ → Message
message status media body = record { status = status; bytes = reply_of status media body }

-- a reply that is the same each time
abbrev pub fixed_message : Fixed → Message
fixed_message fixed = record { status = (status_of fixed).0; bytes = fixed_of fixed }

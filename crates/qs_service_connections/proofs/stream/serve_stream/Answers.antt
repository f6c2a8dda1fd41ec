use Rattle.qs_service_connections.proofs.Puts.{served_in_part, served_whole}
use Rattle.qs_service_connections.proofs.stream.serve_stream.Goals as goal

pub returns-in-Ok-clause-served : goal.returns-in-Ok-clause-served
returns-in-Ok-clause-served g c =
    let h = rw c.in-Some.is at c.in_ok-reply.ensures.results in
    served_whole g.M.Meaning.carries c.args.meaning.now c.listen.new.meaning
    (g.S.Stream.left c.args.stream.now) (g.S.Stream.left c.listen.new.stream) (g.S.Stream.sent c.args.stream.now) (g.S.Sink.taken c.listen.new.stream) (g.S.Sink.taken c.put_reply.new.stream)
    c.in-Some.reply c.status.result c.status.ensures h c.in_ok-reply.ensures.taken c.in-Ok.ensures.bytes

pub returns-clause-served : goal.returns-clause-served
returns-clause-served g c =
    let h = rw c.in-Some.is at c.in_ok-reply.ensures.results in
    served_in_part g.M.Meaning.carries c.args.meaning.now c.listen.new.meaning
    (g.S.Stream.left c.args.stream.now) (g.S.Stream.left c.listen.new.stream) (g.S.Stream.sent c.args.stream.now) (g.S.Sink.taken c.listen.new.stream) (g.S.Sink.taken c.put_reply.new.stream)
    c.in-Some.reply c.in-Err.fault h c.in_ok-reply.ensures.taken c.in-Err.ensures.bytes

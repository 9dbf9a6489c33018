use Rattle.std.proofs.Common.{subst}
use Rattle.desk_net.specs.Streams.{unread}
use Rattle.desk_http.specs.Requests.{unused, AnswersUnused, NextCrossed, NextRequest}
use Rattle.desk_http.proofs.Answered.{answers}
use Rattle.desk_http.proofs.Nexts.{next_of_stream, next_crossed}
use Rattle.desk_http.proofs.requests.next_request.Goals as goal

pub returns-clause-next : goal.returns-clause-next
returns-clause-next g c =
    let before = unread (g.N.Link.seen c.args.link.now).stream in
    let now = unread (g.N.Link.seen c.request_in.new.link).stream in
    subst (λ kept. NextRequest before now kept c.request_in.new.bytes.items c.request_in.result) c.buffer.view_is
    (next_of_stream _ _ _ _ c.request_in.result c.request_in.ensures.next)

pub returns-clause-crossed : goal.returns-clause-crossed
returns-clause-crossed g c =
    let before = (g.N.Link.seen c.args.link.now).crossed in
    let now = (g.N.Link.seen c.request_in.new.link).crossed in
    subst (λ kept. NextCrossed before now kept c.request_in.new.bytes.items c.request_in.result) c.buffer.view_is
    (next_crossed _ _ _ _ c.request_in.result c.request_in.ensures.next)

pub returns-clause-answers : goal.returns-clause-answers
returns-clause-answers g c =
    let after = unused c.request_in.new.bytes.items (unread (g.N.Link.seen c.request_in.new.link).stream) in
    subst (λ kept. AnswersUnused (unused kept (unread (g.N.Link.seen c.args.link.now).stream)) after c.request_in.result) c.buffer.view_is
    (answers _ _ _ _ c.request_in.result c.request_in.ensures.same (next_of_stream _ _ _ _ c.request_in.result c.request_in.ensures.next))

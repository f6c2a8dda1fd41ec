use Rattle.std.proofs.Common.{ap, sym}
use Rattle.qs_http.specs.Reply.{fixed_of, status_line, closing, with_body}
use Rattle.std.specs.Fmt.{digits}
use Rattle.qs_http.proofs.replies.fixed_text.Goals as goal

pub returns-in-NoContent : goal.returns-in-NoContent
unfolding fixed_of status_line closing with_body digits
returns-in-NoContent c = ap fixed_of (sym c.in-NoContent.is)

pub returns-in-BadRequest : goal.returns-in-BadRequest
unfolding fixed_of status_line closing with_body digits
returns-in-BadRequest c = ap fixed_of (sym c.in-BadRequest.is)

pub returns-in-NotFound : goal.returns-in-NotFound
unfolding fixed_of status_line closing with_body digits
returns-in-NotFound c = ap fixed_of (sym c.in-NotFound.is)

pub returns-in-QueryMethod : goal.returns-in-QueryMethod
unfolding fixed_of status_line closing with_body digits
returns-in-QueryMethod c = ap fixed_of (sym c.in-QueryMethod.is)

pub returns-in-UpdateMethod : goal.returns-in-UpdateMethod
unfolding fixed_of status_line closing with_body digits
returns-in-UpdateMethod c = ap fixed_of (sym c.in-UpdateMethod.is)

pub returns-in-DataMethod : goal.returns-in-DataMethod
unfolding fixed_of status_line closing with_body digits
returns-in-DataMethod c = ap fixed_of (sym c.in-DataMethod.is)

pub returns-in-NoLength : goal.returns-in-NoLength
unfolding fixed_of status_line closing with_body digits
returns-in-NoLength c = ap fixed_of (sym c.in-NoLength.is)

pub returns-in-BodyTooLarge : goal.returns-in-BodyTooLarge
unfolding fixed_of status_line closing with_body digits
returns-in-BodyTooLarge c = ap fixed_of (sym c.in-BodyTooLarge.is)

pub returns-in-MediaType : goal.returns-in-MediaType
unfolding fixed_of status_line closing with_body digits
returns-in-MediaType c = ap fixed_of (sym c.in-MediaType.is)

pub returns-in-HeadTooLarge : goal.returns-in-HeadTooLarge
unfolding fixed_of status_line closing with_body digits
returns-in-HeadTooLarge c = ap fixed_of (sym c.in-HeadTooLarge.is)

pub returns-in-Memory : goal.returns-in-Memory
unfolding fixed_of status_line closing with_body digits
returns-in-Memory c = ap fixed_of (sym c.in-Memory.is)

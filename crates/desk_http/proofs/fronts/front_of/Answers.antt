use Rattle.std.proofs.Common.{ap, Err, ◌∙◌}
use Rattle.desk_http.proofs.Room.{no_excess}
use Rattle.desk_http.proofs.fronts.front_of.Goals as goal

pub returns-in-Err-TooManyHeaders : goal.returns-in-Err-TooManyHeaders
returns-in-Err-TooManyHeaders c =
    absurd (no_excess _ _ c.requires.room c.requires.short (c.parse_request.ensures.too_many (c.in-Err-TooManyHeaders.is ∙ ap Err c.in-Err-TooManyHeaders.field-0-is)))

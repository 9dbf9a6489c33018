-- The response to a request, and the state after it.
use Rattle.std.specs.Prelude.{ℕ, List, ◌++◌, codes}
use Rattle.desk.specs.Keeping.{Choice, Given, answer_with}
use Rattle.desk.specs.Run.{said_text}
use Rattle.desk_http.specs.Responses.{typed_response}
use Rattle.desk_json.specs.Replies.{bad_text}
use Rattle.desk_state.specs.State.{State}
use Rattle.service.specs.Statuses.{status_of}
use Rattle.service.specs.declared.requested.Requested.{Requested}
use Rattle.service.specs.declared.requested.Requested.TheVariants as requested
use Rattle.service.specs.declared.responses.Media.{Media}
use Rattle.service.specs.declared.responses.Media.TheVariants.{Json, Metrics}
use Rattle.service.specs.declared.responses.Response.{Response}

abbrev pub media_type : Media → List ℕ
media_type Json = codes "application/json"
media_type Metrics = codes "text/plain; version=0.0.4; charset=utf-8"

-- the response with a JSON body
abbrev pub in_json : ℕ → List ℕ → Response
in_json status body = record { status = status; media = Json; body = body }

-- the bytes of a response
abbrev pub bytes_of : Response → List ℕ
bytes_of r = typed_response r.status (media_type r.media) r.body

-- an error response with the name of the fault
abbrev pub failing : ℕ → List ℕ → Response
failing status name = in_json status (codes "{\"error\":\"" ++ name ++ codes "\"}")

-- a response, and the state after it
pub record Exchanged : Type 0 where
  pub response : Response
  pub state : State

abbrev pub staying : State → Response → Exchanged
staying s r = record { response = r; state = s }

-- the response to a call
abbrev pub replying : Given → Exchanged
replying g = record { response = in_json (status_of g.outcome.said) (said_text g.outcome.said); state = g.state }

-- The response to a request at a moment, under a choice. Only a call changes the state or needs the moment.
abbrev pub exchanged : Choice → ℕ → State → ℕ → Requested → Exchanged
exchanged c lane s at (requested.Call call) = replying (answer_with c lane s at call)
exchanged c lane s at (requested.Bad fault) = staying s (in_json 400 (bad_text fault))
exchanged c lane s at requested.NoRoute = staying s (failing 404 (codes "NoRoute"))
exchanged c lane s at requested.WrongMethod = staying s (failing 405 (codes "WrongMethod"))

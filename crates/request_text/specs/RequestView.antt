-- What requests, refusals and replies stand for.
use Rattle.std.specs.Prelude.{◌≡◌, map, Result, Ok, Err, string_bytes, ⊤}
use Rattle.request_text.specs.Request as spec
use Rattle.request_text.specs.Request.{open_text, edit, status, report, sums, proofs, quit, bad_json, bad_op, bad_field, too_long}
use Rattle.request_text.specs.declared.request.Put.{Put}
use Rattle.request_text.specs.declared.request.Request.{Request}
use Rattle.request_text.specs.declared.request.Request.TheVariants.{Open, Edit, Status, Report, Sums, Proofs, Quit}
use Rattle.request_text.specs.declared.request.BadRequest.{BadRequest}
use Rattle.request_text.specs.declared.request.BadRequest.TheVariants.{Json, Op, Field, Long, Memory}

abbrev pub put_view : Put → spec.Put
put_view p = record { name = string_bytes p.name; text = string_bytes p.text }

abbrev pub request_view : Request → spec.Request
request_view (Open text) = open_text (string_bytes text)
request_view (Edit put drop) = edit (map put_view put.items) (map string_bytes drop.items)
request_view Status = status
request_view Report = report
request_view Sums = sums
request_view Proofs = proofs
request_view Quit = quit

-- what a refusal says of the answer that is wanted; want of memory says nothing
abbrev pub SaysOf : BadRequest → Result spec.Request spec.BadRequest → Type 0
SaysOf Json wanted = wanted ≡ Err bad_json
SaysOf Op wanted = wanted ≡ Err bad_op
SaysOf Field wanted = wanted ≡ Err bad_field
SaysOf Long wanted = wanted ≡ Err too_long
SaysOf Memory wanted = ⊤

-- the answer is the one that is wanted, or there was no memory
abbrev pub IsAnswer : Result spec.Request spec.BadRequest → Result Request BadRequest → Type 0
IsAnswer wanted (Ok r) = wanted ≡ Ok (request_view r)
IsAnswer wanted (Err e) = SaysOf e wanted

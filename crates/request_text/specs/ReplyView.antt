-- What replies stand for.
use Rattle.std.specs.Prelude.{map, string_bytes}
use Rattle.request_text.specs.Request as spec
use Rattle.request_text.specs.Request.{bad_json, bad_op, bad_field, too_long, accepted, counted, reported, summed, proved, ended, refused, memory, absent, misnamed, fault}
use Rattle.request_text.specs.declared.request.BadRequest.{BadRequest}
use Rattle.request_text.specs.declared.request.BadRequest.TheVariants.{Json, Op, Field, Long, Memory}
use Rattle.request_text.specs.declared.reply.Reply.{Reply}
use Rattle.request_text.specs.declared.reply.Reply.TheVariants as reply

-- want of memory in reading a line is answered as any other
abbrev pub refusal_view : BadRequest → spec.Reply
refusal_view Json = refused bad_json
refusal_view Op = refused bad_op
refusal_view Field = refused bad_field
refusal_view Long = refused too_long
refusal_view Memory = memory

abbrev pub reply_view : Reply → spec.Reply
reply_view (reply.Accepted goals rebuilt version) = accepted goals rebuilt version
reply_view (reply.Status done pending version) = counted done pending version
reply_view (reply.Report lines version) = reported (map string_bytes lines.items) version
reply_view (reply.Sums lines version) = summed (map string_bytes lines.items) version
reply_view (reply.Proofs lines version) = proved (map string_bytes lines.items) version
reply_view reply.Quit = ended
reply_view (reply.Bad why) = refusal_view why
reply_view reply.Memory = memory
reply_view (reply.Absent name) = absent (string_bytes name)
reply_view (reply.Name name) = misnamed (string_bytes name)
reply_view (reply.Fault kind decl place word) = fault (string_bytes kind) (string_bytes decl) place.line place.col (string_bytes word)

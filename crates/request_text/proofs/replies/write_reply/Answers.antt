use Rattle.std.proofs.Common.{◌∙◌, ap}
use Rattle.serde_json.specs.Written.{has_float}
use Rattle.request_text.specs.ReplyView.{reply_view}
use Rattle.request_text.proofs.NoFloats.{no_float}
use Rattle.request_text.proofs.replies.write_reply.Goals as goal

pub line_of-requires : goal.line_of-requires
line_of-requires c = ap has_float c.in_ok-value.ensures ∙ no_float (reply_view c.args.reply.now)

-- What the code's answers say of declarations, and of what a line is answered.
use Rattle.std.specs.Prelude.{◌≡◌, List, Result, Ok, Err}
use Rattle.bpl_ast.specs.Statement.{Decl}
use Rattle.vc_build.specs.Rebuild.{BuiltProc, rebuilt}
use Rattle.program_opening.specs.Opening.{opening}
use Rattle.request_text.specs.Request as spec
use Rattle.request_text.specs.ReplyView.{reply_view}
use Rattle.request_text.specs.declared.reply.Reply.{Reply}
use Rattle.edit_session.specs.Asking.{taken, denied, judged}
use Rattle.edit_session.specs.declared.program.Judged.{Judged}
use Rattle.edit_session.specs.declared.program.Judged.TheVariants as found

-- these declarations, where this was built before
abbrev pub IsJudged : List BuiltProc → List Decl → Judged → Type 0
IsJudged old ds (found.Taken p n) = (judged ds (opening ds) ≡ taken p) × (n ≡ rebuilt old p.typed)
IsJudged old ds (found.Refused x) = judged ds (opening ds) ≡ denied (reply_view x)

-- want of memory is told as any reply
abbrev pub reply_of : {E : Type 0} → Result Reply E → spec.Reply
reply_of (Ok x) = reply_view x
reply_of (Err e) = spec.memory

-- What an open or an edit is: other declarations without a fault, or the reply that refuses it.
use Rattle.std.specs.Prelude.{◌≡◌, ℕ, List, Option, Some, None}
use Rattle.bpl_ast.specs.Statement.{Decl}
use Rattle.bpl_model.specs.Module.{Module}
use Rattle.fault_text.specs.Written.{Written}
use Rattle.fault_text.specs.WrittenFault.{text_fault}
use Rattle.program_opening.specs.Opening.{Opening, program, refused, opening}
use Rattle.request_text.specs.Request.{Request, Reply, absent, misnamed, fault}
use Rattle.program_edits.specs.Edited.{Edited, edited, lacking, faulty, other_name, IsEdited}

-- a program's fault, in the declaration of this name
abbrev pub fault_in : List ℕ → Written → Reply
fault_in name w = fault w.kind name (w.place).line (w.place).col w.word

abbrev pub fault_reply : Written → Reply
fault_reply w = fault_in w.decl w

-- of a text's fault in an edit the put's name is told
abbrev pub text_reply : Option (List ℕ) → Written → Reply
text_reply None w = fault_reply w
text_reply (Some put) w = fault_in put w

-- declarations, with their module
pub record Taken : Type 0 where
  pub decls : List Decl
  pub typed : Module

pub data Outcome : Type 0 where
  taken : Taken → Outcome
  denied : Reply → Outcome

-- declarations without a fault are taken; of others the first fault by names and sorts is told, or else that their goals are too large
abbrev pub judged : List Decl → Opening → Outcome
judged ds (program m) = taken (record { decls = ds; typed = m })
judged ds (refused w) = denied (fault_reply w)

abbrev pub outcome_of : Edited → Outcome
outcome_of (edited ds) = judged ds (opening ds)
outcome_of (lacking name) = denied (absent name)
outcome_of (faulty put text f) = denied (text_reply put (text_fault text f))
outcome_of (other_name name) = denied (misnamed name)

-- where these declarations are open
pub record Asks (old : List Decl) (r : Request) (o : Outcome) : Type 0 where
  pub edit : Edited
  pub is_edited : IsEdited old r edit
  pub is : o ≡ outcome_of edit

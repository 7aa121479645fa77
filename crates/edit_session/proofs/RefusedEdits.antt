-- What a refused edit is answered.
use Rattle.std.proofs.Common.{◌≡◌, ◌∙◌, refl, sym, ap, ℕ, List, Option}
use Rattle.bpl_ast.specs.Statement.{Decl}
use Rattle.bpl_grammar.specs.Fault.{Fault}
use Rattle.fault_text.specs.Written.{Written}
use Rattle.fault_text.specs.WrittenFault.{text_fault}
use Rattle.request_text.specs.Request.{Request, Reply, absent, misnamed}
use Rattle.program_edits.specs.Edited.{Edited, IsEdited, lacking, faulty, other_name}
use Rattle.edit_session.specs.Asking.{text_reply, denied, outcome_of, Asks}

asks_by : (old : List Decl) (r : Request) (x : Reply) (e f : Edited) → IsEdited old r e → e ≡ f → denied x ≡ outcome_of f → Asks old r (denied x)
asks_by old r x e f is same told = record { edit = e; is_edited = is; is = told ∙ ap outcome_of (sym same) }

pub absent_asks : (old : List Decl) (r : Request) (n : List ℕ) → (e : Edited) × IsEdited old r e × (e ≡ lacking n) → Asks old r (denied (absent n))
absent_asks old r n h = asks_by old r (absent n) h.0 (lacking n) h.1 h.2 refl

pub name_asks : (old : List Decl) (r : Request) (n : List ℕ) → (e : Edited) × IsEdited old r e × (e ≡ other_name n) → Asks old r (denied (misnamed n))
name_asks old r n h = asks_by old r (misnamed n) h.0 (other_name n) h.1 h.2 refl

pub parse_asks : (T : Fault → Type 0) (old : List Decl) (r : Request) (put : Option (List ℕ)) (w : Written) (x : Reply) → x ≡ text_reply put w
    → (e : Edited) × IsEdited old r e × ((text : List ℕ) × (f : Fault) × (e ≡ faulty put text f) × T f × (w ≡ text_fault text f)) → Asks old r (denied x)
parse_asks T old r put w x is h =
    let t = h.2 in
    asks_by old r x h.0 (faulty put t.0 t.1) h.1 t.2 (ap denied is ∙ ap (λ v. denied (text_reply put v)) t.4)

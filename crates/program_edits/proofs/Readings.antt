-- What the parser makes of a text is what the text spells, and nothing else is.
use Rattle.std.proofs.Common.{◌≡◌, ℕ, List, Option, Some, Result, Ok, Err, refl, sym, ap, ◌∙◌}
use Rattle.bpl_ast.specs.Statement.{Decl}
use Rattle.bpl_grammar.specs.Fault.{Fault}
use Rattle.bpl_grammar.specs.ReadPrograms.{read_text}
use Rattle.bpl_grammar.specs.ProgramLaw.{IsReadExactly}
use Rattle.bpl_grammar.proofs.ProgramsUnique.{programs_are_unique}
use Rattle.bpl_grammar.proofs.TextsUnique.{faults_are_found}
use Rattle.bpl_grammar.proofs.ProgramFaults.{programs_are_exact}
use Rattle.request_text.specs.Request.{Request}
use Rattle.program_edits.specs.Edited.{Edited, IsReadAs, Texts, TellsTexts, edited_by, IsEdited}
use Rattle.program_edits.specs.Laws.{OneEdit}
use Rattle.program_edits.specs.Refusals.{reading}

tells_by : (text : List ℕ) (r : Result (List Decl) Fault) → read_text text ≡ r → IsReadExactly text → IsReadAs text r
tells_by text (Ok ds) e exact = exact.reads ds e
tells_by text (Err f) e exact = exact.refuses f e

pub reading_tells : TellsTexts reading
unfolding reading
reading_tells text = tells_by text (read_text text) refl (programs_are_exact text)

pub reading_is : (text : List ℕ) (r : Result (List Decl) Fault) → IsReadAs text r → reading text ≡ r
unfolding reading
reading_is text (Ok ds) is = programs_are_unique text ds is
reading_is text (Err f) is = faults_are_found text f is

-- what texts spell is one thing
texts_are : (s : Texts) → TellsTexts s → reading ≡ s
texts_are s tells = λ i text. reading_is text (s text) (tells text) i

pub is_edited : (old : List Decl) (r : Request) (e : Edited) → edited_by reading old r ≡ Some e → IsEdited old r e
is_edited old r e is = (reading, reading_tells, is)

pub edited_is : (old : List Decl) (r : Request) (e : Edited) → IsEdited old r e → edited_by reading old r ≡ Some e
edited_is old r e (s, tells, is) = ap (λ t. edited_by t old r) (texts_are s tells) ∙ is

some_same : (e f : Edited) → ◌≡◌ {A = Option Edited} (Some e) (Some f) → e ≡ f
some_same e f p = cc

pub one_edit : OneEdit
one_edit old r e f x y = some_same e f (sym (edited_is old r e x) ∙ edited_is old r f y)

-- Edits of declarations of texts are declarations of texts.
use Rattle.std.proofs.Common.{refl, ℕ, Bool, true, false, cond, List, [], ◌∷◌}
use Rattle.std.specs.List.{AllByRecursion}
use Rattle.bpl_ast.specs.Statement.{Decl, name_of}
use Rattle.bpl_grammar.specs.Programs.{SpellsProgram}
use Rattle.program_opening.specs.Spelled.{IsSpelled}
use Rattle.program_opening.proofs.Spelled.{spelled_declarations}
use Rattle.program_edits.specs.Edited.{is_axiom, renamed}
use Rattle.program_edits.specs.Refusals.{texts_of}
use Rattle.program_edits.proofs.Keeps.{edits_keep}
use Rattle.edit_session.proofs.TrueReports.{EditsStaySpelled}

renumbered : (k : ℕ) (d : Decl) → IsSpelled d → IsSpelled (record d { name = name_of k d.body })
renumbered k d s = record { text = s.text; decls = s.decls; one = s.one; spelled = s.spelled; there = s.there; source = s.source; body = s.body; axioms_before = k; name = refl }

renamed_spelled : (k : ℕ) (d : Decl) → IsSpelled d → IsSpelled (renamed k d)
renamed_spelled k d s = by_test (is_axiom d.body)
  where
    by_test : (b : Bool) → IsSpelled (cond b (record d { name = name_of k d.body }) d)
    by_test true = renumbered k d s
    by_test false = s

each_text : (texts : List (List ℕ)) → AllByRecursion (λ text. (ds : List Decl) → SpellsProgram text ds → AllByRecursion IsSpelled ds) texts
each_text [] = tt
each_text (text ∷ texts) = (spelled_declarations text, each_text texts)

pub edits_stay_spelled : EditsStaySpelled
edits_stay_spelled old r new spelled is = edits_keep IsSpelled renamed_spelled old new r is (each_text (texts_of r)) spelled

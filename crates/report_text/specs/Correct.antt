-- What a report's bytes say of a procedure.
use Rattle.std.specs.Prelude.{◌≡◌, ℕ, true, List, map, All, slice_get, Some}
use Rattle.std.specs.List.{list_all}
use Rattle.flow_core.specs.declared.mark.Mark.{Mark}
use Rattle.tableau.specs.Search.{Verdict, is_proved}
use Rattle.report_text.specs.Report.{report}
use Rattle.bv_base.specs.Text.{text_of, HasLine}
use Rattle.report_text.specs.Called.{correct_line, IsName}

-- one of the procedures has this name, and each of its verdicts is that a proof was found
pub record IsProvedAmong (names : List (List ℕ)) (vss : List (List Verdict)) (name : List ℕ) : Type 0 where
  pub place : ℕ
  pub verdicts : List Verdict
  pub named : slice_get names place ≡ Some name
  pub given : slice_get vss place ≡ Some verdicts
  pub proved : list_all is_proved verdicts ≡ true

-- where the line that a procedure is correct stands in a report's bytes, each of its goals is proved
abbrev pub CorrectIsProved : Type 0
CorrectIsProved = (names : List (List ℕ)) (mss : List (List Mark)) (vss : List (List Verdict)) (name : List ℕ)
    → All IsName names → IsName name
    → HasLine (text_of (report names mss vss)) (correct_line name)
    → IsProvedAmong names vss name

-- The lines of a report: each goal's head and verdict, and whether the procedure is correct.
use Rattle.std.specs.Prelude.{ℕ, cond, List, [], ◌∷◌, ◌++◌, codes, decimal}
use Rattle.std.specs.List.{list_all}
use Rattle.flow_core.specs.declared.mark.GoalKind.{GoalKind}
use Rattle.flow_core.specs.declared.mark.GoalKind.TheVariants.{Assert, InvariantEntry, InvariantKept, Requires, Ensures, Point}
use Rattle.flow_core.specs.declared.mark.Mark.{Mark}
use Rattle.tableau.specs.Search.{Verdict, proved, «open», turns, wide, is_proved}

abbrev pub kind_text : GoalKind → List ℕ
kind_text Assert = codes "assert"
kind_text InvariantEntry = codes "invariant-entry"
kind_text InvariantKept = codes "invariant-kept"
kind_text (Requires k) = codes "requires(" ++ decimal k ++ codes ")"
kind_text Ensures = codes "ensures"
kind_text (Point k) = codes "point(" ++ decimal k ++ codes ")"

-- the procedure, line and column, and the kind
abbrev pub head : List ℕ → Mark → List ℕ
head name m = name ++ codes " " ++ decimal m.place.line ++ codes ":" ++ decimal m.place.col ++ codes " " ++ kind_text m.kind

abbrev pub verdict_text : Verdict → List ℕ
verdict_text proved = codes "proved"
verdict_text «open» = codes "open"
verdict_text turns = codes "turns"
verdict_text wide = codes "wide"

abbrev pub goal_line : List ℕ → Mark → Verdict → List ℕ
goal_line name m v = head name m ++ codes " " ++ verdict_text v

-- correct exactly where all its goals are proved
abbrev pub last_words : List Verdict → List ℕ
last_words vs = cond (list_all is_proved vs) (codes " correct") (codes " not proved")

abbrev pub last_line : List ℕ → List Verdict → List ℕ
last_line name vs = name ++ last_words vs

abbrev pub goal_lines : List ℕ → List Mark → List Verdict → List (List ℕ)
goal_lines name [] vs = []
goal_lines name (m ∷ ms) [] = []
goal_lines name (m ∷ ms) (v ∷ vs) = goal_line name m v ∷ goal_lines name ms vs

-- of one procedure: its goals' lines in order, and then its own
abbrev pub proc_lines : List ℕ → List Mark → List Verdict → List (List ℕ)
proc_lines name ms vs = goal_lines name ms vs ++ last_line name vs ∷ []

-- of the procedures with a body, in order, with their marks and verdicts
abbrev pub report : List (List ℕ) → List (List Mark) → List (List Verdict) → List (List ℕ)
report [] mss vss = []
report (n ∷ ns) [] vss = []
report (n ∷ ns) (ms ∷ mss) [] = []
report (n ∷ ns) (ms ∷ mss) (vs ∷ vss) = proc_lines n ms vs ++ report ns mss vss

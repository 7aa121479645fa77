-- The summary of a generated program: what was generated, and how many of its goals have each verdict.
use Rattle.std.specs.Prelude.{ℕ, Bool, true, false, List, ◌++◌, length, flat_map, count_by, codes, decimal}
use Rattle.tableau.specs.Search.{Verdict, proved, «open», turns, wide}
use Rattle.program_opening.specs.ProcGoals.{ProcGoals}
use Rattle.report_laws.specs.Scratch.{verdicts}

-- the verdicts of all goals in order, each searched with the same turns
abbrev pub verdicts_on : ℕ → List ProcGoals → List Verdict
verdicts_on n ps = flat_map (λ p. verdicts n p.goals) ps

abbrev pub is_verdict : Verdict → Verdict → Bool
is_verdict proved proved = true
is_verdict «open» «open» = true
is_verdict turns turns = true
is_verdict wide wide = true
is_verdict v w = false

abbrev pub number_of : Verdict → List Verdict → ℕ
number_of v vs = count_by (is_verdict v) vs

-- the seed, the number of procedures and that of the text's bytes
abbrev pub drawn_part : ℕ → ℕ → ℕ → List ℕ
drawn_part seed size bytes = codes "gen seed=" ++ decimal seed ++ codes " size=" ++ decimal size ++ codes " bytes=" ++ decimal bytes

abbrev pub verdicts_part : List Verdict → List ℕ
verdicts_part vs =
    codes " goals=" ++ decimal (length vs) ++ codes " proved=" ++ decimal (number_of proved vs) ++ codes " open=" ++ decimal (number_of «open» vs)
    ++ codes " turns=" ++ decimal (number_of turns vs) ++ codes " wide=" ++ decimal (number_of wide vs)

abbrev pub summary : ℕ → ℕ → ℕ → List Verdict → List ℕ
summary seed size bytes vs = drawn_part seed size bytes ++ verdicts_part vs

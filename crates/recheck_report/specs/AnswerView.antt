-- What the code says of goals one after another.
use Rattle.std.specs.Prelude.{◌≡◌, ℕ, ◌^◌, ◌<◌, Bool, false, List, ◌++◌, length, Vec, Option, Some, None, option_map}
use Rattle.std.specs.List.{AllByRecursion}
use Rattle.std.specs.declared.alloc.Global.{Global}
use Rattle.vc_build.specs.declared.goal.Goal.{Goal}
use Rattle.report_text.specs.Report.{head}
use Rattle.recheck_report.specs.Judged.{Judgement, IsJudged, complaint}
use Rattle.recheck_report.specs.Recheck.{Head, Rechecks}

-- what is said of a goal of the procedure with this name, by its line
abbrev pub IsSaid : List ℕ → Goal → List ℕ → Option (Vec ℕ Global) → Type 0
IsSaid name g line said = (j : Judgement) × IsJudged g.obligation line j × (option_map (λ v. v.items) said ≡ complaint (head name g.mark) j)

-- where nothing is said of these goals, the answer is that to the goals behind them and the lines that are left; else it is what is said
abbrev pub LeadsOn : List Head → List (List ℕ) → Option (Vec ℕ Global) → List (List ℕ) → Type 0
LeadsOn gs ls None left = (hs : List Head) (answer : List ℕ) (all : Bool) → Rechecks hs left answer all → Rechecks (gs ++ hs) ls answer all
LeadsOn gs ls (Some line) left = (hs : List Head) → Rechecks (gs ++ hs) ls line.items false

-- each of these lines has fewer than 2^32 bytes
abbrev pub AreShort : List (List ℕ) → Type 0
AreShort ls = AllByRecursion (λ l. length l < 2 ^ 32) ls

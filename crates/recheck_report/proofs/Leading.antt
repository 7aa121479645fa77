-- Goal after goal: the answer to the goals and lines that are left is that to all.
use Rattle.std.proofs.Common.{◌≡◌, ◌∙◌, refl, sym, ap, subst, subst₂, arith, drop-cons, ℕ, suc, ◌+◌, ◌<◌, Bool, true, false, is_some, List, [], ◌∷◌, ◌++◌, map, length, drop, get_or, Vec, Global, Option, Some, None, option_map, Result, IfOk}
use Rattle.std.proofs.lemmas.Result.{IfOk-weaker}
use Rattle.logic_core.specs.Def.{Obligation}
use Rattle.vc_build.specs.declared.goal.Goal.{Goal}
use Rattle.report_text.specs.Report.{head as head_text}
use Rattle.recheck_report.specs.Lines.{first_line, later_lines}
use Rattle.program_opening.specs.ProcGoals.{ProcGoals}
use Rattle.recheck_report.specs.Judged.{Judgement, accepted, missing, bad, rejected, IsJudged, complaint}
use Rattle.recheck_report.specs.Accepted.{accepted_line}
use Rattle.recheck_report.specs.Recheck.{Head, head_of, heads_in, heads, Rechecks, all_accepted, has_proof, lacks_one}
use Rattle.recheck_report.specs.AnswerView.{IsSaid, LeadsOn}

-- nothing is said only of what is accepted
only_accepted : (head : List ℕ) (j : Judgement) → None ≡ complaint head j → j ≡ accepted
only_accepted head accepted e = refl
only_accepted head missing e = absurd (cc)
only_accepted head (bad at) e = absurd (cc)
only_accepted head (rejected n r) e = absurd (cc)

-- what is said of a goal, by its obligation, its head and what its line is
pub said_by : {E : Type 0} (name : List ℕ) (g : Goal) (line : List ℕ) (o : Obligation) (head : List ℕ) (j : Judgement) (r : Result (Option (Vec ℕ Global)) E) → o ≡ g.obligation → head ≡ head_text name g.mark
    → IsJudged o line j → IfOk r (λ said. option_map (λ v. v.items) said ≡ complaint head j) → IfOk r (IsSaid name g line)
said_by name g line o head j r same headed h said =
    IfOk-weaker r (λ said. option_map (λ v. v.items) said ≡ complaint head j) (IsSaid name g line)
    (λ said e. (j, subst (λ (x : Obligation). IsJudged x line j) same h, e ∙ ap (λ x. complaint x j) headed)) said

-- the answer to these goals and lines is that to these others
abbrev pub Leads : List Head → List (List ℕ) → List Head → List (List ℕ) → Type 0
Leads gs ls hs left = (answer : List ℕ) (all : Bool) → Rechecks hs left answer all → Rechecks gs ls answer all

-- where nothing is said of the first goal's line, that to the others
passed : (name : List ℕ) (g : Goal) (hs : List Head) (ls : List (List ℕ)) → IsSaid name g (first_line ls) None → Leads (head_of name g ∷ hs) ls hs (later_lines ls)
passed name g hs ls (j, h, e) answer all r =
    has_proof (subst (λ (k : Judgement). IsJudged g.obligation (first_line ls) k) (only_accepted (head_of name g).head j e) h) r

-- and else what is said
stopped : (name : List ℕ) (g : Goal) (hs : List Head) (ls : List (List ℕ)) (line : Vec ℕ Global) → IsSaid name g (first_line ls) (Some line) → Rechecks (head_of name g ∷ hs) ls line.items false
stopped name g hs ls line (j, h, e) = lacks_one j h (sym e)

-- ---- in one procedure: these are the goals that are left of it, and the lines

abbrev pub InProc : List Head → List (List ℕ) → List ℕ → List Goal → List (List ℕ) → Type 0
InProc gs ls name left lines = (hs : List Head) → Leads (gs ++ hs) ls (map (head_of name) left ++ hs) lines

pub goal_passed : (gs : List Head) (ls : List (List ℕ)) (name : List ℕ) (left : List Goal) (g : Goal) (rest : List Goal) (lines : List (List ℕ)) → left ≡ g ∷ rest
    → InProc gs ls name left lines → IsSaid name g (first_line lines) None → InProc gs ls name rest (later_lines lines)
goal_passed gs ls name left g rest lines e before said hs answer all r =
    before hs answer all (subst (λ (xs : List Goal). Rechecks (map (head_of name) xs ++ hs) lines answer all) (sym e) (passed name g (map (head_of name) rest ++ hs) lines said answer all r))

pub goal_stopped : (gs : List Head) (ls : List (List ℕ)) (name : List ℕ) (left : List Goal) (g : Goal) (rest : List Goal) (lines : List (List ℕ)) (line : Vec ℕ Global) → left ≡ g ∷ rest
    → InProc gs ls name left lines → IsSaid name g (first_line lines) (Some line) → (hs : List Head) → Rechecks (gs ++ hs) ls line.items false
goal_stopped gs ls name left g rest lines line e before said hs =
    before hs line.items false (subst (λ (xs : List Goal). Rechecks (map (head_of name) xs ++ hs) lines line.items false) (sym e) (stopped name g (map (head_of name) rest ++ hs) lines line said))

-- what is left begins with the item of this place
pub left_is : {A : Type 0} (ts xs : List A) (i : ℕ) (x : A) → ts ≡ xs → i < length ts → x ≡ get_or ts i x → drop i xs ≡ x ∷ drop (i + 1) xs
left_is ts xs i x same below is =
    let next : suc i ≡ i + 1 = omega arith in
    subst (λ us. drop i us ≡ x ∷ drop (i + 1) us) same (drop-cons ts i x below ∙ (λ j. sym is j ∷ drop (next j) ts))

-- the same by what the code says of a goal
pub said_stops : (gs : List Head) (ls : List (List ℕ)) (name word : List ℕ) (left : List Goal) (g : Goal) (rest : List Goal) (lines : List (List ℕ)) (line : List ℕ) (after : List (List ℕ)) (said : Option (Vec ℕ Global))
    → left ≡ g ∷ rest → word ≡ name → line ≡ first_line lines → is_some said ≡ true → InProc gs ls name left lines → IsSaid word g line said → LeadsOn gs ls said after
said_stops gs ls name word left g rest lines line after None e named first some before h = absurd (cc)
said_stops gs ls name word left g rest lines line after (Some v) e named first some before h =
    goal_stopped gs ls name left g rest lines v e before (subst₂ (λ n l. IsSaid n g l (Some v)) named first h)

pub said_passes : (gs : List Head) (ls : List (List ℕ)) (name word : List ℕ) (left : List Goal) (g : Goal) (rest : List Goal) (lines : List (List ℕ)) (line : List ℕ) (after : List (List ℕ)) (said : Option (Vec ℕ Global))
    → left ≡ g ∷ rest → word ≡ name → line ≡ first_line lines → after ≡ later_lines lines → is_some said ≡ false → InProc gs ls name left lines → IsSaid word g line said → InProc gs ls name rest after
said_passes gs ls name word left g rest lines line after (Some v) e named first later none before h = absurd (cc)
said_passes gs ls name word left g rest lines line after None e named first later none before h =
    subst (λ (xs : List (List ℕ)). InProc gs ls name rest xs) (sym later) (goal_passed gs ls name left g rest lines e before (subst₂ (λ n l. IsSaid n g l None) named first h))

pub proc_passed : (gs : List Head) (ls : List (List ℕ)) (name : List ℕ) (left : List Goal) (lines : List (List ℕ)) → left ≡ [] → InProc gs ls name left lines → LeadsOn gs ls None lines
proc_passed gs ls name left lines e before hs answer all r =
    before hs answer all (subst (λ (xs : List Goal). Rechecks (map (head_of name) xs ++ hs) lines answer all) (sym e) r)

-- ---- over the procedures

abbrev pub InAll : List ProcGoals → List (List ℕ) → List ProcGoals → List (List ℕ) → Type 0
InAll ps ls left lines = Leads (heads ps) ls (heads left) lines

pub next_proc : (ps : List ProcGoals) (ls : List (List ℕ)) (left : List ProcGoals) (p : ProcGoals) (rest : List ProcGoals) (lines after : List (List ℕ)) → left ≡ p ∷ rest
    → InAll ps ls left lines → LeadsOn (heads_in p) lines None after → InAll ps ls rest after
next_proc ps ls left p rest lines after e before leads answer all r =
    before answer all (subst (λ (xs : List ProcGoals). Rechecks (heads xs) lines answer all) (sym e) (leads (heads rest) answer all r))

pub stopped_in : (ps : List ProcGoals) (ls : List (List ℕ)) (left : List ProcGoals) (p : ProcGoals) (rest : List ProcGoals) (lines after : List (List ℕ)) (line : Vec ℕ Global) → left ≡ p ∷ rest
    → InAll ps ls left lines → LeadsOn (heads_in p) lines (Some line) after → Rechecks (heads ps) ls line.items false
stopped_in ps ls left p rest lines after line e before leads =
    before line.items false (subst (λ (xs : List ProcGoals). Rechecks (heads xs) lines line.items false) (sym e) (leads (heads rest)))

pub at_the_end : (ps : List ProcGoals) (ls : List (List ℕ)) (left : List ProcGoals) (lines : List (List ℕ)) → left ≡ [] → InAll ps ls left lines → Rechecks (heads ps) ls accepted_line true
at_the_end ps ls left lines e before = before accepted_line true (subst (λ (xs : List ProcGoals). Rechecks (heads xs) lines accepted_line true) (sym e) all_accepted)

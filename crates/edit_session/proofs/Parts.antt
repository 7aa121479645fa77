-- What is found of all goals, procedure by procedure.
use Rattle.std.proofs.Common.{◌≡◌, ◌∙◌, refl, sym, ap, arith, append_assoc, ℕ, ◌+◌, ◌<◌, List, get_or, [], ◌∷◌, ◌++◌, map, length, take, drop, sum, length-append}
use Rattle.std.specs.Prelude.{flat_map}
use Rattle.std.proofs.lemmas.List.{map-id, take-map, drop-map, take_at, drop_at, at_drop_more, length-map}
use Rattle.std.proofs.lemmas.List.Sums.{sum_by-cons}
use Rattle.obligation_text.specs.Asked.{Asked}
use Rattle.tableau.specs.Settled.{Settled, settled_by}
use Rattle.vc_build.specs.declared.goal.Goal.{Goal}
use Rattle.vc_build.specs.Rebuild.{BuiltProc}
use Rattle.tableau.specs.Search.{Verdict}
use Rattle.flow_core.specs.declared.mark.Mark.{Mark}
use Rattle.bpl_ast.specs.Statement.{Decl}
use Rattle.bpl_model.specs.Module.{Module}
use Rattle.report_text.specs.Report.{report, proc_lines}
use Rattle.stmt_checksum.specs.SumLines.{sum_lines}
use Rattle.program_opening.specs.ProcGoals.{ProcGoals}
use Rattle.report_laws.specs.Scratch.{verdicts, lines_on}
use Rattle.report_laws.proofs.Mapped.{map_map, map_flat}
use Rattle.edit_session.specs.Program.{question, text_or_none, proof_line}
use Rattle.edit_session.specs.Sums.{sums_on}
use Rattle.edit_session.specs.Built.{proc_goals, goal_counts, questions_of, in_parts, told_lines}
use Rattle.edit_session.specs.AnswerLines.{report_by}

-- parts of a list that is joined of parts are those parts
parts_back : {A B C : Type 0} (f : A → C) (g : B → List C) (bs : List B) (xs : List A) → map f xs ≡ flat_map g bs → map (map f) (in_parts (map (λ b. length (g b)) bs) xs) ≡ map g bs
parts_back f g [] xs e = refl
parts_back f g (b ∷ bs) xs e =
    let front : map f (take (length (g b)) xs) ≡ g b = sym (take-map f (length (g b)) xs) ∙ ap (take (length (g b))) e ∙ take_at (g b) (flat_map g bs) (length (g b)) refl in
    let back : map f (drop (length (g b)) xs) ≡ flat_map g bs = sym (drop-map f (length (g b)) xs) ∙ ap (drop (length (g b))) e ∙ drop_at (g b) (flat_map g bs) (length (g b)) refl in
    λ i. front i ∷ parts_back f g bs (drop (length (g b)) xs) back i

-- of the procedure at a place and those behind it
pub counts_next : (bs : List BuiltProc) (k : ℕ) (b : BuiltProc) → k < length bs → b ≡ get_or bs k b → sum (goal_counts (drop k bs)) ≡ length b.goals + sum (goal_counts (drop (k + 1) bs))
counts_next bs k b below is =
    at_drop_more (λ xs. sum (goal_counts xs)) bs k b below ∙ ap (λ x. sum (goal_counts (x ∷ drop (k + 1) bs))) (sym is) ∙ sum_by-cons (λ n. n) (length b.goals) (goal_counts (drop (k + 1) bs))

lines_next : (bs : List BuiltProc) (k : ℕ) (b : BuiltProc) (vs own behind : List Verdict) → k < length bs → b ≡ get_or bs k b → own ≡ take (length b.goals) vs → behind ≡ drop (length b.goals) vs
    → told_lines (drop k bs) vs ≡ proc_lines b.name (map (λ (g : Goal). g.mark) b.goals) own ++ told_lines (drop (k + 1) bs) behind
lines_next bs k b vs own behind below is first rest =
    at_drop_more (λ xs. told_lines xs vs) bs k b below ∙ ap (λ x. told_lines (x ∷ drop (k + 1) bs) vs) (sym is)
    ∙ (λ i. proc_lines b.name (map (λ (g : Goal). g.mark) b.goals) (sym first i) ++ told_lines (drop (k + 1) bs) (sym rest i))

-- the lines of a procedure that came behind, and those that are left
pub lines_more : (bs : List BuiltProc) (k : ℕ) (b : BuiltProc) (vs own behind : List Verdict) (old new whole : List (List ℕ)) → k < length bs → b ≡ get_or bs k b → own ≡ take (length b.goals) vs → behind ≡ drop (length b.goals) vs
    → new ≡ old ++ proc_lines b.name (map (λ (g : Goal). g.mark) b.goals) own → old ++ told_lines (drop k bs) vs ≡ whole → new ++ told_lines (drop (k + 1) bs) behind ≡ whole
lines_more bs k b vs own behind old new whole below is first rest came before =
    ap (λ ls. ls ++ told_lines (drop (k + 1) bs) behind) came ∙ append_assoc old (proc_lines b.name (map (λ (g : Goal). g.mark) b.goals) own) (told_lines (drop (k + 1) bs) behind)
    ∙ ap (λ ls. old ++ ls) (sym (lines_next bs k b vs own behind below is first rest)) ∙ before

-- parts of what is mapped
parts_mapped : {A B : Type 0} (f : A → B) (ns : List ℕ) (xs : List A) → in_parts ns (map f xs) ≡ map (map f) (in_parts ns xs)
parts_mapped f [] xs = refl
parts_mapped f (n ∷ ns) xs = λ i. take-map f n xs i ∷ (ap (in_parts ns) (drop-map f n xs) ∙ parts_mapped f ns (drop n xs)) i

-- the verdicts of a procedure's goals are as many as the goals
same_counts : (turns : ℕ) (bs : List BuiltProc) → map (λ (b : BuiltProc). length (verdicts turns b.goals)) bs ≡ goal_counts bs
same_counts turns [] = refl
same_counts turns (b ∷ bs) = λ i. length-map b.goals (λ (g : Goal). (settled_by (question turns g)).verdict) i ∷ same_counts turns bs i

flat_same : {A B : Type 0} (f g : A → List B) (xs : List A) → ((x : A) → f x ≡ g x) → flat_map f xs ≡ flat_map g xs
flat_same f g [] h = refl
flat_same f g (x ∷ xs) h = λ i. h x i ++ flat_same f g xs h i

-- what the search says of a procedure's questions are the verdicts of its goals
its_verdicts : (turns : ℕ) (b : BuiltProc) → map (λ (q : Asked). (settled_by q).verdict) (map (question turns) b.goals) ≡ verdicts turns b.goals
its_verdicts turns b = map_map (question turns) (λ (q : Asked). (settled_by q).verdict) b.goals

-- procedures have as many questions as goals
pub many_questions : (turns : ℕ) (bs : List BuiltProc) → sum (goal_counts bs) ≡ length (questions_of turns bs)
many_questions turns [] = refl
many_questions turns (b ∷ bs) =
    let all : sum (goal_counts (b ∷ bs)) ≡ length b.goals + sum (goal_counts bs) = sum_by-cons (λ n. n) (length b.goals) (goal_counts bs) in
    let questions : length (questions_of turns (b ∷ bs)) ≡ length (map (question turns) b.goals) + length (questions_of turns bs) = length-append (map (question turns) b.goals) (questions_of turns bs) in
    omega (arith, many_questions turns bs, all, questions, length-map b.goals (question turns))

-- over what the answers stand for
module _ {X : Type 0} (value : X → Settled) (turns : ℕ) where
  pub verdicts_by_proc : (bs : List BuiltProc) (xs : List X) → map value xs ≡ map settled_by (questions_of turns bs)
      → map (map (λ x. (value x).verdict)) (in_parts (goal_counts bs) xs) ≡ map (λ (b : BuiltProc). verdicts turns b.goals) bs
  verdicts_by_proc bs xs e =
      let flat : map (λ x. (value x).verdict) xs ≡ flat_map (λ (b : BuiltProc). verdicts turns b.goals) bs =
      sym (map_map value (λ (s : Settled). s.verdict) xs) ∙ ap (map (λ (s : Settled). s.verdict)) e ∙ map_map settled_by (λ (s : Settled). s.verdict) (questions_of turns bs)
      ∙ map_flat (λ (b : BuiltProc). map (question turns) b.goals) (λ (q : Asked). (settled_by q).verdict) bs ∙ flat_same (λ (b : BuiltProc). map (λ (q : Asked). (settled_by q).verdict) (map (question turns) b.goals)) (λ (b : BuiltProc). verdicts turns b.goals) bs (its_verdicts turns) in
      ap (λ ns. map (map (λ x. (value x).verdict)) (in_parts ns xs)) (sym (same_counts turns bs)) ∙ parts_back (λ x. (value x).verdict) (λ (b : BuiltProc). verdicts turns b.goals) bs xs flat

  pub as_many : (bs : List BuiltProc) (xs : List X) → map value xs ≡ map settled_by (questions_of turns bs) → sum (goal_counts bs) ≡ length xs
  as_many bs xs e = omega (arith, many_questions turns bs, ap length e, length-map xs value, length-map (questions_of turns bs) settled_by)

  -- the proofs found
  pub proofs_by_question : (qs : List Asked) (xs : List X) → map value xs ≡ map settled_by qs → map (λ x. text_or_none (value x).found) xs ≡ map proof_line qs
  proofs_by_question qs xs e =
      sym (map_map value (λ (s : Settled). text_or_none s.found) xs) ∙ ap (map (λ (s : Settled). text_or_none s.found)) e ∙ map_map settled_by (λ (s : Settled). text_or_none s.found) qs

-- ---- the lines that names, marks and verdicts give

its_names : (bs : List BuiltProc) (ns : List (List ℕ)) → ns ≡ map (λ (b : BuiltProc). b.name) bs → ns ≡ map (λ (p : ProcGoals). p.name) (map proc_goals bs)
its_names bs ns e = e ∙ sym (map_map proc_goals (λ (p : ProcGoals). p.name) bs)

its_marks : (bs : List BuiltProc) (mss : List (List Mark)) → mss ≡ map (λ (b : BuiltProc). map (λ (g : Goal). g.mark) b.goals) bs → mss ≡ map (λ (p : ProcGoals). map (λ (g : Goal). g.mark) p.goals) (map proc_goals bs)
its_marks bs mss e = e ∙ sym (map_map proc_goals (λ (p : ProcGoals). map (λ (g : Goal). g.mark) p.goals) bs)

pub reported_lines : (turns : ℕ) (bs : List BuiltProc) (ns : List (List ℕ)) (mss : List (List Mark)) (vss : List (List Verdict)) → ns ≡ map (λ (b : BuiltProc). b.name) bs
    → mss ≡ map (λ (b : BuiltProc). map (λ (g : Goal). g.mark) b.goals) bs → vss ≡ map (λ (b : BuiltProc). verdicts turns b.goals) bs → report ns mss vss ≡ lines_on turns (map proc_goals bs)
reported_lines turns bs ns mss vss n k v =
    let found : vss ≡ map (λ (p : ProcGoals). verdicts turns p.goals) (map proc_goals bs) = v ∙ sym (map_map proc_goals (λ (p : ProcGoals). verdicts turns p.goals) bs) in
    λ i. report (its_names bs ns n i) (its_marks bs mss k i) (found i)

-- the lines by the verdicts of the answers are the report's
pub answered_lines : {X : Type 0} (value : X → Settled) (turns : ℕ) (bs : List BuiltProc) (xs : List X) → map value xs ≡ map settled_by (questions_of turns bs)
    → told_lines bs (map (λ x. (value x).verdict) xs) ≡ lines_on turns (map proc_goals bs)
answered_lines value turns bs xs answers =
    reported_lines turns bs _ _ _ refl refl (parts_mapped (λ x. (value x).verdict) (goal_counts bs) xs ∙ verdicts_by_proc value turns bs xs answers)

-- by the answers of the questions
pub reported_by : (turns : ℕ) (bs : List BuiltProc) (xs : List Settled) → xs ≡ map settled_by (questions_of turns bs) → report_by (map proc_goals bs) xs ≡ lines_on turns (map proc_goals bs)
reported_by turns bs xs e =
    let ps = map proc_goals bs in
    let counts : map (λ (p : ProcGoals). length p.goals) ps ≡ goal_counts bs = map_map proc_goals (λ (p : ProcGoals). length p.goals) bs in
    let found : map (map (λ (a : Settled). a.verdict)) (in_parts (map (λ (p : ProcGoals). length p.goals) ps) xs) ≡ map (λ (p : ProcGoals). verdicts turns p.goals) ps =
    ap (λ ns. map (map (λ (a : Settled). a.verdict)) (in_parts ns xs)) counts ∙ (verdicts_by_proc (λ a. a) turns bs xs (map-id xs ∙ e) ∙ sym (map_map proc_goals (λ (p : ProcGoals). verdicts turns p.goals) bs)) in
    ap (report (map (λ (p : ProcGoals). p.name) ps) (map (λ (p : ProcGoals). map (λ (g : Goal). g.mark) p.goals) ps)) found

summed_lines : (m : Module) (ds : List Decl) (bs : List BuiltProc) (ns : List (List ℕ)) (mss : List (List Mark)) → ns ≡ map (λ (b : BuiltProc). b.name) bs
    → mss ≡ map (λ (b : BuiltProc). map (λ (g : Goal). g.mark) b.goals) bs → sum_lines m ds ns mss ≡ sums_on m ds (map proc_goals bs)
summed_lines m ds bs ns mss n k = λ i. sum_lines m ds (its_names bs ns n i) (its_marks bs mss k i)

-- of texts that are the lines of these declarations, which are those
pub sums_told : (m : Module) (es ds : List Decl) (bs : List BuiltProc) (found lines ns : List (List ℕ)) (mss : List (List Mark)) → es ≡ ds → ns ≡ map (λ (b : BuiltProc). b.name) bs
    → mss ≡ map (λ (b : BuiltProc). map (λ (g : Goal). g.mark) b.goals) bs → lines ≡ sum_lines m es ns mss → found ≡ lines → found ≡ sums_on m ds (map proc_goals bs)
sums_told m es ds bs found lines ns mss d n k l f = f ∙ l ∙ ap (λ xs. sum_lines m xs ns mss) d ∙ summed_lines m ds bs ns mss n k

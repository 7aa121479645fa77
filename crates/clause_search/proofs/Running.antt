-- Steps of a run over numbers, whose store grows.
use Rattle.std.proofs.Common.{◌≡◌, refl, sym, ap, ◌∙◌, ℕ, ◌-◌, ◌<◌, ◌≤◌, List, [], ◌∷◌, ◌++◌, map, length, reverse, subst}
use Rattle.std.specs.List.{AllByRecursion}
use Rattle.std.proofs.lemmas.List.{map-append, append-nil, reverse-append}
use Rattle.logic_core.specs.Tree.{Tree}
use Rattle.logic_core.specs.Def.{Def}
use Rattle.logic_core.proofs.EachOf.{every_append}
use Rattle.term_bank.specs.Numbered.{Begins}
use Rattle.tableau_branch.specs.Branch.{Attempt, gives, none, leaves}
use Rattle.tableau_branch.specs.Move as move
use Rattle.tableau.specs.Search.{Run, Verdict, proved, «open», wide, turns, run, step, ended, after_attempt}
use Rattle.tableau.specs.RunView.{verdict_of}
use Rattle.tableau.specs.declared.ended.Verdict as declared
use Rattle.tableau.specs.declared.ended.Verdict.TheVariants.{Proved, Open, Turns, Wide}
use Rattle.tableau.proofs.Turns.{before_run, run_step, goes_on, stops}
use Rattle.numbered_branches.specs.Branches.{NumberedBranch, branch_at, made_at, IsBranchOver}
use Rattle.numbered_branches.specs.Moves.{NumberedMove, NumberedPlayed, move_at, played_at, cost, branches_of, played, IsMoveOver, IsPlayedBelow}
use Rattle.clause_search.specs.Stepped.{IsLast}
use Rattle.numbered_branches.proofs.Moving.{one_cost, one_branches, one_played}
use Rattle.numbered_branches.proofs.Standing.{branches_on, played_on}

module _ (defs : List Def) (ts us : List Tree) (grows : Begins ts us) (left : ℕ) (b : NumberedBranch) (bs : List NumberedBranch) (ms : List NumberedPlayed)
    (over : AllByRecursion (IsBranchOver ts) bs) (below : AllByRecursion (IsPlayedBelow (length ts)) ms) where
  -- what is left is what it was, over the terms of now
  abbrev run_before : Run
  run_before = before_run (map (played_at ts) ms) (run defs left left (branch_at ts b ∷ map (branch_at ts) bs))

  same_moves : map (played_at us) ms ≡ map (played_at ts) ms
  same_moves = (played_on ts us ms grows below).1

  -- the end of a run without a further step
  at_end : (v : Verdict) → run defs left left (branch_at ts b ∷ map (branch_at ts) bs) ≡ ended v → record { verdict = v; moves = map (played_at us) ms } ≡ run_before
  at_end v e = (λ k. record { verdict = v; moves = (same_moves ∙ sym (append-nil (map (played_at ts) ms))) k }) ∙ ap (before_run (map (played_at ts) ms)) (sym e)

  moves_below : AllByRecursion (IsPlayedBelow (length us)) ms
  moves_below = (played_on ts us ms grows below).0

  ends_open : step defs (branch_at ts b) ≡ none → record { verdict = «open»; moves = map (played_at us) ms } ≡ run_before
  ends_open e = at_end «open» (run_step defs left (branch_at ts b) (map (branch_at ts) bs) ∙ ap (after_attempt (λ l s. run defs l l s) left (map (branch_at ts) bs)) e)

  ends_wide : step defs (branch_at ts b) ≡ leaves → record { verdict = wide; moves = map (played_at us) ms } ≡ run_before
  ends_wide e = at_end wide (run_step defs left (branch_at ts b) (map (branch_at ts) bs) ∙ ap (after_attempt (λ l s. run defs l l s) left (map (branch_at ts) bs)) e)

  module _ (m : NumberedMove) (h : IsMoveOver us m) (e : step defs (branch_at ts b) ≡ gives (move_at us m)) where
    ends_turns : left < cost m → record { verdict = turns; moves = map (played_at us) ms } ≡ run_before
    ends_turns l = (λ k. record { verdict = turns; moves = same_moves k }) ∙ sym (stops defs left (branch_at ts b) (map (branch_at ts) bs) (move_at us m) (map (played_at ts) ms) e (subst (λ n. left < n) (one_cost us m) l))

    -- the step is paid, and its branches are put on the stack
    module _ (paid : cost m ≤ left) (stack : List NumberedBranch) (moves : List NumberedPlayed) (s : stack ≡ branches_of m.made ++ bs) (p : moves ≡ ms ++ played m ∷ []) where
      stack_over : AllByRecursion (IsBranchOver us) stack
      stack_over = subst (AllByRecursion (IsBranchOver us)) (sym s) (every_append (IsBranchOver us) (branches_of m.made) bs (one_branches us m.made h.made).0 (branches_on ts us bs grows over).0)

      played_below : AllByRecursion (IsPlayedBelow (length us)) moves
      played_below = subst (AllByRecursion (IsPlayedBelow (length us))) (sym p) (every_append (IsPlayedBelow (length us)) ms (played m ∷ []) moves_below ((one_played us m h).0, tt))

      same_stack : map (branch_at us) stack ≡ move.branches_of (map (made_at us) m.made) ++ map (branch_at ts) bs
      same_stack = ap (map (branch_at us)) s ∙ map-append (branch_at us) (branches_of m.made) bs ∙ (λ k. (one_branches us m.made h.made).1 k ++ (branches_on ts us bs grows over).1 k)

      same_played : map (played_at us) moves ≡ map (played_at ts) ms ++ move.played (move_at us m) ∷ []
      same_played = ap (map (played_at us)) p ∙ map-append (played_at us) ms (played m ∷ []) ∙ (λ k. same_moves k ++ (one_played us m h).1 k ∷ [])

      on : before_run (map (played_at us) moves) (run defs (left - cost m) (left - cost m) (map (branch_at us) stack)) ≡ run_before
      on = (λ k. before_run (same_played k) (run defs (left - one_cost us m k) (left - one_cost us m k) (same_stack k)))
          ∙ sym (goes_on defs left (branch_at ts b) (map (branch_at ts) bs) (move_at us m) (map (played_at ts) ms) e (subst (λ n. n ≤ left) (one_cost us m) paid))

-- the branch on top of a stack
module _ (ts : List Tree) (b : NumberedBranch) (rest items : List NumberedBranch) (popped : items ≡ rest ++ b ∷ []) where
  on_top : reverse items ≡ b ∷ reverse rest
  on_top = ap reverse popped ∙ reverse-append rest (b ∷ [])

  pub top_over : AllByRecursion (IsBranchOver ts) (reverse items) → AllByRecursion (IsBranchOver ts) (b ∷ reverse rest)
  top_over h = subst (AllByRecursion (IsBranchOver ts)) on_top h

  -- a turn of the loop, where the store went on to us
  module _ (us : List Tree) (grows : Begins ts us) (kept defs : List Def) (same : kept ≡ defs) (left : ℕ) (ms : List NumberedPlayed) (all : Run)
      (over : AllByRecursion (IsBranchOver ts) (reverse items)) (below : AllByRecursion (IsPlayedBelow (length ts)) ms)
      (before : before_run (map (played_at ts) ms) (run defs left left (map (branch_at ts) (reverse items))) ≡ all) where
    so_far : before_run (map (played_at ts) ms) (run defs left left (branch_at ts b ∷ map (branch_at ts) (reverse rest))) ≡ all
    so_far = ap (λ bs. before_run (map (played_at ts) ms) (run defs left left (map (branch_at ts) bs))) (sym on_top) ∙ before

    stepped : (x : Attempt move.Move) → step kept (branch_at ts b) ≡ x → step defs (branch_at ts b) ≡ x
    stepped x e = ap (λ ds. step ds (branch_at ts b)) (sym same) ∙ e

    pub still_below : AllByRecursion (IsPlayedBelow (length us)) ms
    still_below = moves_below defs ts us grows left b (reverse rest) ms (top_over over).1 below

    pub end_open : step kept (branch_at ts b) ≡ none → record { verdict = «open»; moves = map (played_at us) ms } ≡ all
    end_open e = ends_open defs ts us grows left b (reverse rest) ms (top_over over).1 below (stepped none e) ∙ so_far

    pub end_wide : step kept (branch_at ts b) ≡ leaves → record { verdict = wide; moves = map (played_at us) ms } ≡ all
    end_wide e = ends_wide defs ts us grows left b (reverse rest) ms (top_over over).1 below (stepped leaves e) ∙ so_far

    module _ (m : NumberedMove) (price : ℕ) (costs : price ≡ cost m) (made : IsMoveOver us m × (step kept (branch_at ts b) ≡ gives (move_at us m))) where
      pub end_turns : left < price → record { verdict = turns; moves = map (played_at us) ms } ≡ all
      end_turns l = ends_turns defs ts us grows left b (reverse rest) ms (top_over over).1 below m made.0 (stepped (gives (move_at us m)) made.1) (subst (λ n. left < n) costs l) ∙ so_far

      -- the step is paid
      module _ (paid : price ≤ left) (stack : List NumberedBranch) (moves : List NumberedPlayed) (s : reverse stack ≡ branches_of m.made ++ reverse rest) (p : moves ≡ ms ++ played m ∷ []) where
        pub next_over : AllByRecursion (IsBranchOver us) (reverse stack)
        next_over = stack_over defs ts us grows left b (reverse rest) ms (top_over over).1 below m made.0 (stepped (gives (move_at us m)) made.1) (subst (λ n. n ≤ left) costs paid) (reverse stack) moves s p

        pub next_below : AllByRecursion (IsPlayedBelow (length us)) moves
        next_below = played_below defs ts us grows left b (reverse rest) ms (top_over over).1 below m made.0 (stepped (gives (move_at us m)) made.1) (subst (λ n. n ≤ left) costs paid) (reverse stack) moves s p

        pub next_run : before_run (map (played_at us) moves) (run defs (left - price) (left - price) (map (branch_at us) (reverse stack))) ≡ all
        next_run = ap (λ n. before_run (map (played_at us) moves) (run defs (left - n) (left - n) (map (branch_at us) (reverse stack)))) costs
            ∙ on defs ts us grows left b (reverse rest) ms (top_over over).1 below m made.0 (stepped (gives (move_at us m)) made.1) (subst (λ n. n ≤ left) costs paid) (reverse stack) moves s p ∙ so_far

-- a turn of the loop in which no step is taken
pub end_last : (ts : List Tree) (b : NumberedBranch) (rest items : List NumberedBranch) (popped : items ≡ rest ++ b ∷ []) (us : List Tree) (grows : Begins ts us) (kept defs : List Def) (same : kept ≡ defs) (left : ℕ) (ms : List NumberedPlayed) (all : Run)
    (over : AllByRecursion (IsBranchOver ts) (reverse items)) (below : AllByRecursion (IsPlayedBelow (length ts)) ms)
    (before : before_run (map (played_at ts) ms) (run defs left left (map (branch_at ts) (reverse items))) ≡ all)
    (v : declared.Verdict) → IsLast left kept ts us b v → record { verdict = verdict_of v; moves = map (played_at us) ms } ≡ all
end_last ts b rest items popped us grows kept defs same left ms all over below before Proved h = absurd h
end_last ts b rest items popped us grows kept defs same left ms all over below before Open h = end_open ts b rest items popped us grows kept defs same left ms all over below before h
end_last ts b rest items popped us grows kept defs same left ms all over below before Turns h = end_turns ts b rest items popped us grows kept defs same left ms all over below before h.0 (cost h.0) refl h.1.0 h.1.1
end_last ts b rest items popped us grows kept defs same left ms all over below before Wide h = end_wide ts b rest items popped us grows kept defs same left ms all over below before h

-- where the stack is empty
pub end_proved : (defs : List Def) (ts : List Tree) (left : ℕ) (items : List NumberedBranch) (ms : List NumberedPlayed) (all : Run) → items ≡ []
    → before_run (map (played_at ts) ms) (run defs left left (map (branch_at ts) (reverse items))) ≡ all → record { verdict = proved; moves = map (played_at ts) ms } ≡ all
end_proved defs ts left items ms all e h = (λ i. record { verdict = proved; moves = sym (append-nil (map (played_at ts) ms)) i })
    ∙ ap (λ bs. before_run (map (played_at ts) ms) (run defs left left (map (branch_at ts) (reverse bs)))) (sym e) ∙ h

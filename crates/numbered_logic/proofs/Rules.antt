-- The moves of rules over numbers, from what is made one after another.
use Rattle.std.proofs.Common.{◌≡◌, refl, sym, ap, ◌∙◌, ℕ, ◌<◌, Vec, Option, Some, None, Ok, List, [], map, length}
use Rattle.std.specs.declared.alloc.Global.{Global}
use Rattle.logic_core.specs.Tree.{Tree}
use Rattle.logic_core.specs.Normal.{normal}
use Rattle.proof_core.specs.Proof.{by_split, by_unfold}
use Rattle.term_bank.specs.Numbered.{at}
use Rattle.tableau_branch.specs.Branch.{each, without}
use Rattle.tableau_branch.specs.Cases.{case}
use Rattle.tableau_branch.specs.OneBranch.{changing}
use Rattle.logic_rules.specs.Flattening.{adding_each, flattened_at}
use Rattle.logic_rules.specs.Splitting.{split_at}
use Rattle.logic_rules.specs.Unfolding.{with_call, unfolded_form, unfolded_at}
use Rattle.logic_rules.proofs.MovesMade.{flattens, flattens_not, splits, splits_not, unfolds, unfolds_not}
use Rattle.numbered_terms.specs.Stored.{Numbered, Grows}
use Rattle.numbered_branches.specs.Applied.{GivesMoveAt}
use Rattle.numbered_branches.specs.Branches.{NumberedBranch, NumberedMade, branch_at, made_at, IsBranchOver}
use Rattle.numbered_branches.specs.Moves.{move_at}
use Rattle.numbered_branches.specs.Standing.{IsMoveAt, AreMadeAt}
use Rattle.numbered_branches.specs.View.{move_seen}
use Rattle.numbered_branches.specs.declared.played.Ending.TheVariants.{Forks}
use Rattle.numbered_branches.specs.declared.played.Move.{Move}
use Rattle.numbered_branches.proofs.Changing.{branch_more}
use Rattle.numbered_logic.specs.declared.found.Found.{Found}
use Rattle.numbered_logic.specs.declared.found.FoundOne.{FoundOne}
use Rattle.numbered_logic.specs.Forms.{branch_over}
use Rattle.numbered_logic.specs.Found.{found_at, found_one_at}
use Rattle.numbered_logic.proofs.Later.{at_later}

-- the store before, and once normal forms are there; the move is made over a longer one
module _ (n m : Numbered) (g : Grows n m) (b : NumberedBranch) (vars : n.vars ≡ b.vars) (over : IsBranchOver n.terms b) where
  abbrev pub forms_of : List ℕ → Option (List Tree)
  forms_of ids = each (λ t. normal n.vars n.defs [] t) (map (at n.terms) ids)

  over_vars : (ids : List ℕ) (p : Option (List Tree)) → forms_of ids ≡ p → each (λ t. normal b.vars n.defs [] t) (map (at n.terms) ids) ≡ p
  over_vars ids p e = ap (λ vs. each (λ t. normal vs n.defs [] t) (map (at n.terms) ids)) (sym vars) ∙ e

  branch_later : branch_at m.terms b ≡ branch_at n.terms b
  branch_later = (branch_more n.terms m.terms g.terms b over).1

  rest_is : (i : ℕ) (rest : NumberedBranch) → branch_at m.terms rest ≡ without i (branch_at m.terms b) → branch_at m.terms rest ≡ without i (branch_at n.terms b)
  rest_is i rest e = e ∙ ap (without i) branch_later

  pub flattens_at : (us : List Tree) (a : Found) (ids forms passed : List ℕ) (rest : NumberedBranch) (v : Move) → ids ≡ a.terms.items → passed ≡ forms → forms_of ids ≡ Some (map (at m.terms) forms)
      → branch_at m.terms rest ≡ without a.at (branch_at m.terms b) → IsMoveAt us (move_seen v) (adding_each (by_split a.number) (map (at m.terms) passed) (branch_at m.terms rest))
      → GivesMoveAt us (Ok v) (flattened_at n.defs (branch_at n.terms b) (found_at n.terms a))
  flattens_at us a ids forms passed rest v is_ids is_passed e r is = (
    is.0,
    flattens n.defs (branch_at n.terms b) (found_at n.terms a) (map (at m.terms) forms) (branch_at m.terms rest) a.number (move_at us (move_seen v)) (over_vars a.terms.items (Some (map (at m.terms) forms)) (ap forms_of (sym is_ids) ∙ e))
        (rest_is a.at rest r) refl (is.1 ∙ ap (λ ps. adding_each (by_split a.number) (map (at m.terms) ps) (branch_at m.terms rest)) is_passed),
  )

  pub flattens_none : (a : Found) (ids : List ℕ) → ids ≡ a.terms.items → forms_of ids ≡ None → flattened_at n.defs (branch_at n.terms b) (found_at n.terms a) ≡ None
  flattens_none a ids is_ids e = flattens_not n.defs (branch_at n.terms b) (found_at n.terms a) (over_vars a.terms.items None (ap forms_of (sym is_ids) ∙ e))

  pub splits_at : (us : List Tree) (a : Found) (ids forms passed : List ℕ) (rest : NumberedBranch) (made : Vec NumberedMade Global) → ids ≡ a.terms.items → passed ≡ forms → forms_of ids ≡ Some (map (at m.terms) forms)
      → branch_at m.terms rest ≡ without a.at (branch_at m.terms b) → AreMadeAt us made.items (map (case (branch_at m.terms rest)) (map (at m.terms) passed))
      → GivesMoveAt us (Ok (record { ending = Forks a.number; made = made })) (split_at n.defs (branch_at n.terms b) (found_at n.terms a))
  splits_at us a ids forms passed rest made is_ids is_passed e r are = (
    record { ending = tt; made = are.0 },
    splits n.defs (branch_at n.terms b) (found_at n.terms a) (map (at m.terms) forms) (branch_at m.terms rest) a.number (map (made_at us) made.items) (over_vars a.terms.items (Some (map (at m.terms) forms)) (ap forms_of (sym is_ids) ∙ e))
        (rest_is a.at rest r) refl (are.1 ∙ ap (λ ps. map (case (branch_at m.terms rest)) (map (at m.terms) ps)) is_passed),
  )

  pub splits_none : (a : Found) (ids : List ℕ) → ids ≡ a.terms.items → forms_of ids ≡ None → split_at n.defs (branch_at n.terms b) (found_at n.terms a) ≡ None
  splits_none a ids is_ids e = splits_not n.defs (branch_at n.terms b) (found_at n.terms a) (over_vars a.terms.items None (ap forms_of (sym is_ids) ∙ e))

  abbrev pub unfolded : ℕ → ℕ → Option Tree
  unfolded f t = unfolded_form n.defs (branch_over n.vars) (at n.terms f) (at n.terms t)

  form_over : (a : FoundOne) (p : Option Tree) → unfolded a.formula a.term ≡ p → unfolded_form n.defs (branch_at n.terms b) (at n.terms a.formula) (at n.terms a.term) ≡ p
  form_over a p e = ap (λ vs. unfolded_form n.defs (branch_over vs) (at n.terms a.formula) (at n.terms a.term)) (sym vars) ∙ e

  pub unfolds_at : (us : List Tree) (a : FoundOne) (form : ℕ) (more : NumberedBranch) (v : Move) → a.term < length n.terms → unfolded a.formula a.term ≡ Some (at m.terms form)
      → branch_at m.terms more ≡ with_call m.defs (at m.terms a.term) (branch_at m.terms b) → IsMoveAt us (move_seen v) (changing a.at (by_unfold a.number (at m.terms a.term)) (at m.terms form) (branch_at m.terms more))
      → GivesMoveAt us (Ok v) (unfolded_at n.defs (branch_at n.terms b) (found_one_at n.terms a))
  unfolds_at us a form more v low e c is = let same : at m.terms a.term ≡ at n.terms a.term = at_later n m a.term g low in (
    is.0,
    unfolds n.defs (branch_at n.terms b) (found_one_at n.terms a) (at m.terms form) (branch_at m.terms more) a.at (by_unfold a.number (at m.terms a.term)) (move_at us (move_seen v)) (form_over a (Some (at m.terms form)) e)
        (c ∙ λ k. with_call (g.defs k) (same k) (branch_later k)) refl (ap (by_unfold a.number) same) is.1,
  )

  pub unfolds_none : (a : FoundOne) → unfolded a.formula a.term ≡ None → unfolded_at n.defs (branch_at n.terms b) (found_one_at n.terms a) ≡ None
  unfolds_none a e = unfolds_not n.defs (branch_at n.terms b) (found_one_at n.terms a) (form_over a None e)

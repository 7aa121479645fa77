-- What a rule gives of what was found, over a store that went on.
use Rattle.std.proofs.Common.{◌≡◌, refl, sym, ap, ◌∙◌, Option, Some, None, Result, Ok, Err, List}
use Rattle.std.specs.Result.{IsErrAnd}
use Rattle.logic_core.specs.declared.fault.NormalFault.{NormalFault}
use Rattle.logic_core.specs.declared.fault.NormalFault.TheVariants.{Wide}
use Rattle.logic_core.specs.Tree.{Tree}
use Rattle.logic_core.specs.Def.{Def}
use Rattle.tableau_branch.specs.Branch as branch
use Rattle.tableau_branch.specs.Move as move
use Rattle.numbered_terms.specs.Stored.{Numbered, Grows}
use Rattle.numbered_branches.specs.Applied.{TriesAt, GivesMoveAt}
use Rattle.numbered_branches.specs.Branches.{NumberedBranch, branch_at, IsBranchOver}
use Rattle.numbered_branches.specs.declared.played.Attempt.{Attempt}
use Rattle.numbered_branches.specs.declared.played.Attempt.TheVariants.{Passes, Gives}
use Rattle.numbered_branches.specs.declared.played.Move.{Move}
use Rattle.numbered_branches.proofs.Changing.{branch_more}

module _ {A : Type 0} (rule : List Def → branch.Branch → A → Option move.Move) (n m : Numbered) (g : Grows n m) (b : NumberedBranch) (over : IsBranchOver n.terms b) (us : List Tree) (o : Option A) where
  abbrev ruled : Option A → branch.Attempt move.Move
  ruled p = elim p [ None ↦ branch.none | Some a ↦ branch.unless_wide (rule n.defs (branch_at n.terms b) a) ]

  as_before : (a : A) → rule n.defs (branch_at n.terms b) a ≡ rule m.defs (branch_at m.terms b) a
  as_before a = sym (λ k. rule (g.defs k) ((branch_more n.terms m.terms g.terms b over).1 k) a)

  -- nothing
  pub rule_passes : o ≡ None → TriesAt m.terms (branch_at n.terms b) (Ok (Passes b)) (ruled o)
  rule_passes e = (branch_more n.terms m.terms g.terms b over, ap ruled e)

  -- a move
  pub rule_gives : (v : Move) (a : A) → o ≡ Some a → GivesMoveAt us (Ok v) (rule m.defs (branch_at m.terms b) a) → TriesAt us (branch_at n.terms b) (Ok (Gives v)) (ruled o)
  rule_gives v a e h = (h.0, ap ruled e ∙ ap branch.unless_wide (as_before a ∙ h.1))

  -- a number that leaves 128 bits
  pub rule_leaves : (r : Result Attempt NormalFault) (a : A) (e : NormalFault) → o ≡ Some a → IsErrAnd r (λ d. d ≡ e) → (e ≡ Wide → rule m.defs (branch_at m.terms b) a ≡ None) → TriesAt us (branch_at n.terms b) r (ruled o)
  rule_leaves (Ok v) a e found h none = absurd h
  rule_leaves (Err d) a e found h none = λ wide. ap ruled found ∙ ap branch.unless_wide (as_before a ∙ none (let w : e ≡ Wide = cc in w))

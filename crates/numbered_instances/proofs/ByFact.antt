-- The move by an oriented fact, by number.
use Rattle.std.proofs.Common.{◌≡◌, sym, ap, subst, ◌∙◌, ℕ, ◌<◌, Option, Some, None, List, length, arith}
use Rattle.logic_core.specs.Tree.{Tree}
use Rattle.logic_core.specs.Wide.{◌>>=◌}
use Rattle.proof_core.specs.Says.{says}
use Rattle.term_bank.specs.Numbered.{at}
use Rattle.term_bank.proofs.Numbers.{begins_at, begins_length}
use Rattle.tableau_branch.specs.Change.{Made, begun}
use Rattle.tableau_branch.specs.Move as move
use Rattle.tableau_branch.specs.Replacing.{replaced_each}
use Rattle.tableau_branch.specs.declared.changing.Ground.TheVariants as ground
use Rattle.logic_rules.specs.Rewriting.{rewritten_by}
use Rattle.logic_rules.specs.View.{rest_rewritten}
use Rattle.logic_rules.proofs.Rewritten.{says_nothing, facts_not, rewrites_as}
use Rattle.numbered_terms.specs.Stored.{Numbered, Grows}
use Rattle.numbered_branches.specs.Branches.{NumberedFact, NumberedBranch, NumberedMade, IsBranchOver, IsMadeOver, branch_at, made_at, fact_at}
use Rattle.numbered_branches.specs.Moves.{on_one, move_at}
use Rattle.numbered_branches.specs.NumberedChange as numbered
use Rattle.numbered_branches.specs.Replacing.{IsReplacing}
use Rattle.numbered_branches.proofs.Changing.{branch_more}

module _ (n : Numbered) (b : NumberedBranch) (over : IsBranchOver n.terms b) (fact : NumberedFact) (left : ℕ) (low : left < length n.terms) where
  abbrev by : Option move.Move
  by = rewritten_by n.defs (branch_at n.terms b) (fact_at n.terms fact) (at n.terms left)

  -- the fact doesn't say what its left side is
  pub says_not : says (at n.terms fact.term) (at n.terms left) ≡ None → by ≡ None
  says_not h = says_nothing n.defs (branch_at n.terms b) (fact_at n.terms fact) (at n.terms left) h

  -- over the store in which the right side is
  module _ (m : Numbered) (g : Grows n m) (right : ℕ) (said : says (at n.terms fact.term) (at n.terms left) ≡ Some (at m.terms right)) (start : NumberedMade) (begins : start ≡ numbered.begun b) (number : ℕ) (named : number ≡ fact.number) where
    pub start_over : IsMadeOver m.terms start
    start_over = subst (IsMadeOver m.terms) (sym begins) (record { branch = (branch_more n.terms m.terms g.terms b over).0; steps = tt })

    pub start_vars : n.vars ≡ b.vars → m.vars ≡ start.branch.vars
    start_vars vars = g.vars ∙ vars ∙ sym (ap (λ (x : NumberedMade). x.branch.vars) begins)

    pub replacing_over : right < length m.terms → IsReplacing m.terms (record { ground = ground.Fact number; left = left; right = right })
    replacing_over l = record { left = omega (arith, low, begins_length n.terms m.terms g.terms); right = l; ground = tt }

    abbrev changed : Option Made
    changed = replaced_each m.defs (ground.Fact number) (at m.terms left) (at m.terms right) (made_at m.terms start)

    start_is : made_at m.terms start ≡ begun (branch_at n.terms b)
    start_is = ap (made_at m.terms) begins ∙ ap begun (branch_more n.terms m.terms g.terms b over).1

    as_before : changed ≡ replaced_each n.defs (ground.Fact fact.number) (at n.terms left) (at m.terms right) (begun (branch_at n.terms b))
    as_before = λ k. replaced_each (g.defs k) (ground.Fact (named k)) (begins_at n.terms m.terms left g.terms low k) (at m.terms right) (start_is k)

    -- a fact that leaves 128 bits
    pub facts_leave : changed ≡ None → by ≡ None
    facts_leave h = facts_not n.defs (branch_at n.terms b) (fact_at n.terms fact) (at n.terms left) (at m.terms right) said (sym as_before ∙ h)

    -- the facts, and then the rest
    module _ (o : Numbered) (d : Grows m o) (right_low : right < length m.terms) (mid : NumberedMade) (facts : changed ≡ Some (made_at o.terms mid)) where
      abbrev rest : Option Made
      rest = rest_rewritten o.defs (at o.terms left) (at o.terms right) (made_at o.terms mid)

      abbrev on_one_after : Option Made → Option move.Move
      on_one_after q = q >>= λ x. Some (move.on_one x)

      by_rest : by ≡ on_one_after rest
      by_rest =
          let left_low : left < length m.terms = omega (arith, low, begins_length n.terms m.terms g.terms) in
          rewrites_as n.defs (branch_at n.terms b) (fact_at n.terms fact) (at n.terms left) (at m.terms right) (made_at o.terms mid) said (sym as_before ∙ facts)
          ∙ ap on_one_after (λ k. rest_rewritten (sym (d.defs ∙ g.defs) k) (sym (begins_at m.terms o.terms left d.terms left_low ∙ begins_at n.terms m.terms left g.terms low) k) (sym (begins_at m.terms o.terms right d.terms right_low) k) (made_at o.terms mid))

      pub rest_leaves : rest ≡ None → by ≡ None
      rest_leaves h = by_rest ∙ ap on_one_after h

      pub moves : (us : List Tree) (last : NumberedMade) → rest ≡ Some (made_at us last) → by ≡ Some (move_at us (on_one last))
      moves us last h = by_rest ∙ ap on_one_after h

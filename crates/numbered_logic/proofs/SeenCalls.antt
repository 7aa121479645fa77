-- The branch with one seen call more.
use Rattle.std.proofs.Common.{◌≡◌, sym, ap, subst, ◌∙◌, ℕ, ◌<◌, true, false, cond, Result, List, [], ◌∷◌, ◌++◌, length}
use Rattle.std.specs.Prelude.{IfOk}
use Rattle.std.proofs.lemmas.List.{map-append}
use Rattle.std.proofs.lemmas.Result.{IfOk-weaker}
use Rattle.logic_core.specs.Tree.{Tree}
use Rattle.logic_core.specs.Def.{Def}
use Rattle.logic_core.proofs.EachOf.{every_append}
use Rattle.logic_rules.specs.Unfolding.{is_plain, with_seen, with_call}
use Rattle.term_bank.specs.Numbered.{at}
use Rattle.numbered_branches.specs.Branches.{NumberedBranch, branch_at, IsBranchOver}

module _ (ts : List Tree) (b : NumberedBranch) (call : ℕ) (low : call < length ts) (over : IsBranchOver ts b) where
  abbrev seen : NumberedBranch
  seen = record b { calls = b.calls ++ call ∷ [] }

  seen_at : branch_at ts seen ≡ with_seen (at ts call) (branch_at ts b)
  seen_at = ap (λ us. record (branch_at ts b) { calls = us }) (map-append (at ts) b.calls (call ∷ []))

  over_seen : IsBranchOver ts seen
  over_seen = record { facts = over.facts; calls = every_append (λ i. i < length ts) b.calls (call ∷ []) over.calls (low, tt); marks = over.marks }

  pub seen_over : {E : Type 0} (r : Result NumberedBranch E) → IfOk r (λ c. c ≡ record b { calls = b.calls ++ call ∷ [] }) → IfOk r (λ c. IsBranchOver ts c)
  seen_over r h = IfOk-weaker r (λ c. c ≡ seen) (λ c. IsBranchOver ts c) (λ c e. subst (IsBranchOver ts) (sym e) over_seen) h

  pub seen_facts : {E : Type 0} (r : Result NumberedBranch E) → IfOk r (λ c. c ≡ record b { calls = b.calls ++ call ∷ [] }) → IfOk r (λ c. c.facts ≡ b.facts)
  seen_facts r h = IfOk-weaker r (λ c. c ≡ seen) (λ c. c.facts ≡ b.facts) (λ c e. ap (λ (d : NumberedBranch). d.facts) e) h

  module _ (defs : List Def) where
    pub seen_is : {E : Type 0} (r : Result NumberedBranch E) → is_plain defs (at ts call) ≡ true → IfOk r (λ c. c ≡ record b { calls = b.calls ++ call ∷ [] }) → IfOk r (λ c. branch_at ts c ≡ with_call defs (at ts call) (branch_at ts b))
    seen_is r plain h = IfOk-weaker r (λ c. c ≡ seen) (λ c. branch_at ts c ≡ with_call defs (at ts call) (branch_at ts b))
        (λ c e. ap (branch_at ts) e ∙ seen_at ∙ sym (ap (λ p. cond p (with_seen (at ts call) (branch_at ts b)) (branch_at ts b)) plain)) h

    pub not_seen : is_plain defs (at ts call) ≡ false → branch_at ts b ≡ with_call defs (at ts call) (branch_at ts b)
    not_seen other = sym (ap (λ p. cond p (with_seen (at ts call) (branch_at ts b)) (branch_at ts b)) other)

-- New variables by number, one after another, and the move that adds an Exists' body with them.
use Rattle.std.proofs.Common.{◌≡◌, refl, sym, ap, subst, ◌∙◌, ℕ, ◌+◌, ◌<◌, ◌≤◌, Option, Some, None, Result, Ok, List, [], ◌∷◌, ◌++◌, map, length, drop}
use Rattle.std.specs.List.{AllByRecursion}
use Rattle.std.proofs.lemmas.List.{map-append}
use Rattle.logic_core.specs.Tree.{Kind, Tree, free}
use Rattle.logic_core.specs.Def.{Def}
use Rattle.logic_core.specs.Normal.{normal}
use Rattle.logic_core.specs.Substitute.{substitute}
use Rattle.logic_core.specs.declared.fault.NormalFault.{NormalFault}
use Rattle.proof_core.specs.Context.{new_variables, variables_from}
use Rattle.proof_core.specs.Proof.{by_skolem}
use Rattle.term_bank.specs.Numbered.{at, Begins}
use Rattle.tableau_branch.specs.Branch.{Branch, normal_in, without}
use Rattle.tableau_branch.specs.OneBranch.{adding}
use Rattle.tableau_branch.specs.Variables.{with_variables}
use Rattle.logic_rules.specs.Skolem.{skolemized_at}
use Rattle.logic_rules.proofs.MovesMade.{skolemizes, skolemizes_not}
use Rattle.logic_rules.proofs.NewVariables.{variables_more}
use Rattle.numbered_terms.specs.At.{IsAt, GivesAt}
use Rattle.numbered_terms.specs.Stored.{Numbered, Grows}
use Rattle.numbered_branches.specs.Applied.{GivesMoveAt}
use Rattle.numbered_branches.specs.Branches.{NumberedBranch, names, branch_at, step_at, IsBranchOver}
use Rattle.numbered_branches.specs.Moves.{move_at}
use Rattle.numbered_branches.specs.Standing.{IsMoveAt}
use Rattle.numbered_branches.specs.View.{move_seen}
use Rattle.numbered_branches.specs.declared.played.Move.{Move}
use Rattle.numbered_branches.proofs.Changing.{branch_more}
use Rattle.numbered_branches.proofs.Growing.{same_terms}
use Rattle.numbered_logic.specs.Exists.{exists_at}
use Rattle.numbered_logic.specs.declared.skolemizing.FoundExists.{FoundExists}

-- one new variable more
pub variables_next : (us ws : List Tree) (ks : List Kind) (i n : ℕ) (is is' : List ℕ) (j : ℕ) (whole : List Tree) → Begins us ws → AllByRecursion (λ x. x < length us) is → i < length ks → at ws j ≡ free n → is' ≡ is ++ j ∷ []
    → map (at us) is ++ variables_from n (drop i ks) ≡ whole → map (at ws) is' ++ variables_from (n + 1) (drop (i + 1) ks) ≡ whole
variables_next us ws ks i n is is' j whole b low within made pushed so_far =
    variables_more ks i n (map (at us) is) (map (at ws) is') whole within (ap (map (at ws)) pushed ∙ map-append (at ws) is (j ∷ []) ∙ λ k. same_terms us ws b is low k ++ made k ∷ []) so_far

-- a branch with more variables
module _ (ts : List Tree) (b rest wider : NumberedBranch) (i : ℕ) (ks : List Kind) (e : wider ≡ record rest { vars = rest.vars ++ ks }) where
  pub wider_over : IsBranchOver ts rest → IsBranchOver ts wider
  wider_over over = subst (IsBranchOver ts) (sym e) (record { facts = over.facts; calls = over.calls; marks = over.marks })

  pub wider_is : branch_at ts rest ≡ without i (branch_at ts b) → branch_at ts wider ≡ with_variables ks (without i (branch_at ts b))
  wider_is is = ap (branch_at ts) e ∙ ap (with_variables ks) is

-- a store whose variables are others for a while
pub begun : (n s : Numbered) (vs : List Kind) → s ≡ record n { vars = vs } → (us : List Tree) → Begins s.terms us → Begins n.terms us
begun n s vs first us h = subst (λ ts. Begins ts us) (ap (λ (x : Numbered). x.terms) first) h

module _ (n s t o : Numbered) (vs before : List Kind) (first : s ≡ record n { vars = vs }) (g : Grows s t) (last : o ≡ record t { vars = before }) where
  pub longer : Begins n.terms o.terms
  longer = subst (Begins n.terms) (sym (ap (λ (x : Numbered). x.terms) last)) (begun n s vs first t.terms g.terms)

  pub as_before : before ≡ n.vars → Grows n o
  as_before same = record { terms = longer; vars = ap (λ (x : Numbered). x.vars) last ∙ same; defs = ap (λ (x : Numbered). x.defs) last ∙ g.defs ∙ ap (λ (x : Numbered). x.defs) first }

  pub form_as_before : (r : Result ℕ NormalFault) (i : ℕ) → GivesAt t.terms r (normal s.vars s.defs [] (at s.terms i)) → GivesAt o.terms r (normal vs n.defs [] (at n.terms i))
  form_as_before r i h = subst (λ us. GivesAt us r (normal vs n.defs [] (at n.terms i))) (sym (ap (λ (x : Numbered). x.terms) last)) (subst (λ (x : Numbered). GivesAt t.terms r (normal x.vars x.defs [] (at x.terms i))) first h)

-- the body with new variables, and the branch to which it is added
module _ (n m : Numbered) (g : Grows n m) (b : NumberedBranch) (over : IsBranchOver n.terms b) (a : FoundExists) (i : ℕ) (is : IsAt m.terms i (substitute (at n.terms a.body) (new_variables (record { vars = b.vars; facts = [] }) a.sorts.items)))
    (wider : NumberedBranch) (wide : branch_at m.terms wider ≡ with_variables a.sorts.items (without a.at (branch_at m.terms b))) where
  wide_is : branch_at m.terms wider ≡ with_variables a.sorts.items (without a.at (branch_at n.terms b))
  wide_is = wide ∙ ap (λ (c : Branch). with_variables a.sorts.items (without a.at c)) (branch_more n.terms m.terms g.terms b over).1

  form_is : (o : Option Tree) → normal wider.vars m.defs [] (at m.terms i) ≡ o → normal_in n.defs (branch_at m.terms wider) (at m.terms i) ≡ o
  form_is o e = ap (λ (ds : List Def). normal wider.vars ds [] (at m.terms i)) (sym g.defs) ∙ e

  pub skolemizes_none : normal wider.vars m.defs [] (at m.terms i) ≡ None → skolemized_at n.defs (branch_at n.terms b) (exists_at n.terms a) ≡ None
  skolemizes_none e = skolemizes_not n.defs (branch_at n.terms b) (exists_at n.terms a) (at m.terms i) (branch_at m.terms wider) is.1 wide_is (form_is None e)

  pub skolemizes_at : (us ws : List Tree) (form : ℕ) (v : Move) → Begins m.terms us → IsBranchOver m.terms wider → normal wider.vars m.defs [] (at m.terms i) ≡ Some (at us form)
      → IsMoveAt ws (move_seen v) (adding (step_at us (names a.number)) (at us form) (branch_at us wider)) → GivesMoveAt ws (Ok v) (skolemized_at n.defs (branch_at n.terms b) (exists_at n.terms a))
  skolemizes_at us ws form v later low e moved = (
    moved.0,
    skolemizes n.defs (branch_at n.terms b) (exists_at n.terms a) (at m.terms i) (at us form) (branch_at m.terms wider) (by_skolem a.number) (move_at ws (move_seen v)) is.1 wide_is refl (form_is (Some (at us form)) e)
        (moved.1 ∙ ap (adding (by_skolem a.number) (at us form)) (branch_more m.terms us later wider low).1),
  )

-- An instance that is added, and its mark, by number.
use Rattle.std.proofs.Common.{◌≡◌, refl, sym, ap, subst, ◌∙◌, ℕ, ◌<◌, Option, Some, None, Result, Ok, Err, List, [], ◌∷◌, ◌++◌, map, length, arith}
use Rattle.std.specs.List.{AllByRecursion}
use Rattle.std.specs.Result.{IsErrAnd}
use Rattle.std.proofs.lemmas.List.{map-append}
use Rattle.logic_core.specs.declared.fault.NormalFault.{NormalFault}
use Rattle.logic_core.specs.declared.fault.NormalFault.TheVariants.{Wide}
use Rattle.logic_core.specs.Tree.{Tree}
use Rattle.logic_core.specs.Normal.{normal}
use Rattle.logic_core.specs.Substitute.{substitute}
use Rattle.logic_core.proofs.EachOf.{every_append}
use Rattle.proof_core.specs.Proof.{by_instantiate}
use Rattle.term_bank.specs.Numbered.{at}
use Rattle.term_bank.proofs.Numbers.{begins_at}
use Rattle.tableau_branch.specs.Branch as branch
use Rattle.tableau_branch.specs.Move as move
use Rattle.tableau_branch.specs.OneBranch.{adding}
use Rattle.logic_rules.specs.Instantiating.{mark_of, with_mark, instantiated_by}
use Rattle.logic_rules.proofs.MovesMade.{instantiates, instantiates_not}
use Rattle.numbered_terms.specs.Stored.{Numbered, Grows}
use Rattle.numbered_facts.specs.Answers.{AreAt}
use Rattle.numbered_branches.specs.Applied.{GivesMoveAt}
use Rattle.numbered_branches.specs.Branches.{NumberedFact, NumberedMark, NumberedBranch, instantiates as instantiated, IsMarkOver, IsBranchOver, branch_at, mark_at, step_at, terms_in}
use Rattle.numbered_branches.specs.declared.played.Move.{Move}
use Rattle.numbered_branches.proofs.Changing.{branch_more}
use Rattle.numbered_branches.proofs.Standing.{mark_stays}
use Rattle.numbered_instances.specs.Candidates.{candidate_of}
use Rattle.numbered_instances.specs.Instances.{body_in}
use Rattle.numbered_instances.proofs.NewTuples.{marks_more}

-- the same fault is returned
pub move_err : (us : List Tree) (r : Result Move NormalFault) (e : NormalFault) (o : Option move.Move) → IsErrAnd r (λ d. d ≡ e) → (e ≡ Wide → o ≡ None) → GivesMoveAt us r o
move_err us (Ok m) e o h none = absurd h
move_err us (Err d) e o h none = λ wide. none (let w : e ≡ Wide = cc in w)

-- a branch with one mark more
abbrev pub marked : NumberedBranch → ℕ → ℕ → NumberedBranch
marked b fact tuple = record { facts = b.facts; calls = b.calls; marks = b.marks ++ record { fact = fact; tuple = tuple } ∷ []; vars = b.vars; next = b.next }

module _ (n m : Numbered) (g : Grows n m) (b : NumberedBranch) (over : IsBranchOver n.terms b) (fact : NumberedFact) (tuple : ℕ) (found : IsMarkOver n.terms (record { fact = fact.term; tuple = tuple })) where
  abbrev mark : NumberedMark
  mark = record { fact = fact.term; tuple = tuple }

  pub marked_over : IsBranchOver m.terms (marked b fact.term tuple)
  marked_over = let r = (branch_more n.terms m.terms g.terms b over).0 in
      record { facts = r.facts; calls = r.calls; marks = every_append (IsMarkOver m.terms) b.marks (mark ∷ []) r.marks ((mark_stays n.terms m.terms g.terms mark found).0, tt) }

  marked_is : branch_at m.terms (marked b fact.term tuple) ≡ with_mark (mark_of (candidate_of n.terms fact tuple)) (branch_at n.terms b)
  marked_is =
      let marks : map (mark_at m.terms) (b.marks ++ mark ∷ []) ≡ map (mark_at n.terms) b.marks ++ mark_at n.terms mark ∷ [] = map-append (mark_at m.terms) b.marks (mark ∷ []) ∙ (λ k. (marks_more n.terms m.terms g.terms b.marks over.marks).1 k ++ (mark_stays n.terms m.terms g.terms mark found).1 k ∷ []) in
      λ k. let x = (branch_more n.terms m.terms g.terms b over).1 k in record { facts = x.facts; calls = x.calls; marks = marks k; vars = b.vars; next = b.next }

  abbrev instance : Tree
  instance = substitute (body_in (at n.terms fact.term)) (terms_in (at n.terms tuple))

  module _ (vars : n.vars ≡ b.vars) where
    form_is : (o : Option Tree) → normal n.vars n.defs [] instance ≡ o → normal b.vars n.defs [] instance ≡ o
    form_is o form = ap (λ vs. normal vs n.defs [] instance) (sym vars) ∙ form

    -- there is no instance
    pub no_instance : normal n.vars n.defs [] instance ≡ None → instantiated_by n.defs (branch_at n.terms b) (candidate_of n.terms fact tuple) ≡ None
    no_instance form = instantiates_not n.defs (branch_at n.terms b) (candidate_of n.terms fact tuple) (form_is None form)

    pub instance_added : (i : ℕ) (is : List ℕ) (c : NumberedBranch) (x : move.Move) → normal n.vars n.defs [] instance ≡ Some (at m.terms i)
        → AreAt m.terms is (terms_in (at m.terms tuple)) → c ≡ marked b fact.term tuple → x ≡ adding (step_at m.terms (instantiated fact.number is)) (at m.terms i) (branch_at m.terms c)
        → instantiated_by n.defs (branch_at n.terms b) (candidate_of n.terms fact tuple) ≡ Some x
    instance_added i is c x form terms is_c is_x =
        instantiates n.defs (branch_at n.terms b) (candidate_of n.terms fact tuple) (at m.terms i) (branch_at m.terms c) (step_at m.terms (instantiated fact.number is)) x (form_is (Some (at m.terms i)) form)
        (ap (branch_at m.terms) is_c ∙ marked_is)
        (ap (by_instantiate fact.number) (terms.1 ∙ ap terms_in (begins_at n.terms m.terms tuple g.terms found.1))) is_x

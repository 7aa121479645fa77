-- A branch of numbers that is closed, or can't be.
use Rattle.std.proofs.Common.{◌≡◌, refl, sym, ap, ◌∙◌, ℕ, Some, None, Ok, List, [], ◌∷◌, map, length}
use Rattle.std.specs.List.{AllByRecursion}
use Rattle.logic_core.specs.Tree.{Tree}
use Rattle.tableau_branch.specs.Branch.{Fact, with_facts, none}
use Rattle.logic_rules.specs.Closing.{pair_from, close}
use Rattle.logic_rules.specs.View.{close_of}
use Rattle.numbered_terms.specs.Stored.{Numbered, Grows, AreStored}
use Rattle.numbered_branches.specs.Applied.{TriesAt}
use Rattle.numbered_branches.specs.Branches.{NumberedFact, NumberedBranch, fact_at, branch_at, IsFactBelow, IsBranchOver}
use Rattle.numbered_branches.specs.declared.played.Attempt.TheVariants.{Passes, Gives}
use Rattle.numbered_branches.specs.declared.played.Ending.TheVariants.{Closes}
use Rattle.numbered_branches.specs.declared.played.Move.{Move}
use Rattle.numbered_branches.proofs.Changing.{branch_more}
use Rattle.numbered_logic.specs.declared.closing.Denied.{Denied}
use Rattle.numbered_logic.specs.Apart.{IsListed, AreApart}
use Rattle.numbered_logic.specs.declared.apart.Apart.{Apart}
use Rattle.numbered_logic.specs.Denied.{AreDenied, denied_at}
use Rattle.numbered_logic.specs.Forms.{branch_over}
use Rattle.numbered_logic.proofs.Later.{fact_later}
use Rattle.numbered_logic.proofs.NoPair.{none_close}

-- where no pair closes it
pub closes_none : (fs : List Fact) → pair_from [] fs ≡ None → close (with_facts (branch_over []) fs) ≡ none
closes_none fs h = rw h refl

facts_are : (n m : Numbered) → Grows n m → (fs : List NumberedFact) → AllByRecursion (IsFactBelow (length n.terms)) fs → map (fact_at m.terms) fs ≡ map (fact_at n.terms) fs
facts_are n m g [] h = refl
facts_are n m g (f ∷ fs) h = λ k. fact_later n m f g h.0 k ∷ facts_are n m g fs h.1 k

-- where no two facts do
pub apart_passes : (n m : Numbered) → Grows n m → (b : NumberedBranch) → IsBranchOver n.terms b → pair_from [] (map (fact_at m.terms) b.facts) ≡ None → TriesAt m.terms (branch_at n.terms b) (Ok (Passes b)) (close (branch_at n.terms b))
apart_passes n m g b over h = (branch_more n.terms m.terms g.terms b over, closes_none (map (fact_at n.terms) b.facts) (ap (pair_from []) (sym (facts_are n m g b.facts over.facts)) ∙ h))

as_facts : (ts : List Tree) (ds : List Denied) → map (denied_at ts) ds ≡ map (fact_at ts) (map (λ (d : Denied). d.fact) ds)
as_facts ts [] = refl
as_facts ts (d ∷ ds) = ap (λ fs. denied_at ts d ∷ fs) (as_facts ts ds)

module _ (n m : Numbered) (g : Grows n m) (b : NumberedBranch) (ds : List Denied) (over : IsBranchOver n.terms b) (denied : AreDenied m.terms ds b.facts) where
  of_branch : close (with_facts (branch_over []) (map (denied_at m.terms) ds)) ≡ close (branch_at n.terms b)
  of_branch = ap (λ fs. close (with_facts (branch_over []) fs)) (as_facts m.terms ds ∙ ap (map (fact_at m.terms)) denied.1 ∙ facts_are n m g b.facts over.facts)

  pub closed_by : (v : Move) (p q : ℕ) → v.ending ≡ Closes p q → v.made.items ≡ [] → close_of (Some (p, q)) ≡ close (with_facts (branch_over []) (map (denied_at m.terms) ds)) → TriesAt m.terms (branch_at n.terms b) (Ok (Gives v)) (close (branch_at n.terms b))
  closed_by v p q ending made h = let x : close (branch_at n.terms b) ≡ close_of (Some (p, q)) = sym (h ∙ of_branch) in
      rw (ending, made) (record { ending = tt; made = tt }, x)

  pub not_closed : close_of None ≡ close (with_facts (branch_over []) (map (denied_at m.terms) ds)) → TriesAt m.terms (branch_at n.terms b) (Ok (Passes b)) (close (branch_at n.terms b))
  not_closed h = (branch_more n.terms m.terms g.terms b over, sym (h ∙ of_branch))

-- facts that are known to be apart have no pair
all_listed : (numbers : List ℕ) (ds : List Denied) → AllByRecursion (λ (d : Denied). IsListed numbers d.fact) ds → AllByRecursion (IsListed numbers) (map (λ (d : Denied). d.fact) ds)
all_listed numbers [] h = tt
all_listed numbers (d ∷ ds) h = (h.0, all_listed numbers ds h.1)

pub none_among : (ts : List Tree) → AreStored ts → (a : Apart) → AreApart ts a → (ds : List Denied) → AllByRecursion (λ (d : Denied). IsListed a.facts d.fact) ds → pair_from [] (map (denied_at ts) ds) ≡ None
none_among ts stored a apart ds h = ap (pair_from []) (as_facts ts ds) ∙ none_close ts stored a.facts a.negations apart (map (λ (d : Denied). d.fact) ds) (all_listed a.facts ds h)

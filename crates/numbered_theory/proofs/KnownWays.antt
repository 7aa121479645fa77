-- Ways of a number that are there already, by number, in a store that grows.
use Rattle.std.proofs.Common.{◌≡◌, refl, sym, ap, ◌∙◌, ℕ, ◌<◌, Bool, true, false, ◌||◌, Option, Some, IfSome, option_map, List, length}
use Rattle.std.specs.List.{list_any}
use Rattle.logic_core.specs.Tree.{Tree}
use Rattle.logic_core.specs.Tighten.{tighten}
use Rattle.term_bank.specs.Numbered.{at}
use Rattle.tableau_branch.specs.Branch as branch
use Rattle.theory_rules.specs.Trichotomy.{is_known_way}
use Rattle.numbered_terms.specs.At.{IsAt}
use Rattle.numbered_terms.specs.Stored.{Numbered, Grows, AreStored}
use Rattle.numbered_branches.specs.Branches.{NumberedFact, NumberedBranch, branch_at, is_there, IsBranchOver}
use Rattle.numbered_branches.proofs.Changing.{branch_more, there}
use Rattle.numbered_theory.specs.Forms.{forms_at, AreFormsBelow}
use Rattle.numbered_theory.specs.declared.trichotomy.Forms.{Forms}
use Rattle.numbered_theory.proofs.Deciding.{some_stays}

or_nothing : (b : Bool) → b ≡ (b || false)
or_nothing true = refl
or_nothing false = refl

module _ (n m : Numbered) (g : Grows n m) (code : NumberedBranch) (over : IsBranchOver n.terms code) where
  -- the tightened formula is one of the facts
  pub known_is : AreStored m.terms → (fs : List NumberedFact) (i tight : ℕ) → fs ≡ code.facts → IsAt m.terms tight (tighten (at n.terms i)) → is_there tight fs ≡ is_known_way (branch_at n.terms code) (Some (at n.terms i))
  known_is stored fs i tight is tightened =
      let more = branch_more n.terms m.terms g.terms code over in
      ap (is_there tight) is ∙ there m.terms stored tight code.facts tightened.0 (more.0).facts ∙ (λ k. branch.is_there (tightened.1 k) (more.1 k).facts)

  -- whether a way is there is asked in a longer store
  pub known_later : (o : Option ℕ) → IfSome o (λ (i : ℕ). i < length n.terms) → is_known_way (branch_at m.terms code) (option_map (at m.terms) o) ≡ is_known_way (branch_at n.terms code) (option_map (at n.terms) o)
  known_later o h = λ k. is_known_way ((branch_more n.terms m.terms g.terms code over).1 k) (some_stays n m o g h k)

  -- which of three is the first that is there
  module _ (f : Forms) (h : AreFormsBelow (length n.terms) f) where
    abbrev known : Option Tree → Bool
    known o = is_known_way (branch_at n.terms code) o

    pub second_known : known (option_map (at n.terms) f.below) ≡ false → is_known_way (branch_at m.terms code) (option_map (at m.terms) f.zero) ≡ true → true ≡ list_any known (forms_at n.terms f)
    second_known first second = ap (λ (b : Bool). b || (true || (known (option_map (at n.terms) f.above) || false))) (sym first)
        ∙ ap (λ (b : Bool). known (option_map (at n.terms) f.below) || (b || (known (option_map (at n.terms) f.above) || false))) (sym second ∙ known_later f.zero h.zero)

    pub second_before : is_known_way (branch_at m.terms code) (option_map (at m.terms) f.zero) ≡ false → known (option_map (at n.terms) f.zero) ≡ false
    second_before second = sym (known_later f.zero h.zero) ∙ second

    pub third_known : known (option_map (at n.terms) f.below) ≡ false → known (option_map (at n.terms) f.zero) ≡ false → is_known_way (branch_at m.terms code) (option_map (at m.terms) f.above) ≡ list_any known (forms_at n.terms f)
    third_known first second = known_later f.above h.above ∙ or_nothing (known (option_map (at n.terms) f.above)) ∙ (λ k. sym first k || (sym second k || (known (option_map (at n.terms) f.above) || false)))

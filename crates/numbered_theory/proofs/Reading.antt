-- Reads of Writes by number: what they read, and the branches of the rule past.
use Rattle.std.proofs.Common.{◌≡◌, refl, sym, ap, ◌∙◌, ℕ, ◌+◌, Bool, true, false, cond, Option, Some, None, List, [], ◌∷◌, flat_map, filter}
use Rattle.logic_core.specs.Tree.{Tree, Kind}
use Rattle.logic_core.specs.Def.{Def}
use Rattle.tableau_branch.specs.Branch.{Fact, Branch, At, Attempt, none, unless_wide, first_attempt, first_from}
use Rattle.tableau_branch.specs.Move.{Move}
use Rattle.tableau_branch.specs.Shapes.{is_access}
use Rattle.term_bank.specs.Numbered.{at}
use Rattle.theory_rules.specs.Back.{accesses_in}
use Rattle.theory_rules.specs.Condition.{first_some}
use Rattle.theory_rules.specs.Past.{first_access, past_by, past}
use Rattle.theory_rules.specs.ReadsBack.{after_attempt, moved_back, replaced_back, back_in_parts}
use Rattle.theory_rules.proofs.Attempting.{or_else, first_is, first_of_both}
use Rattle.numbered_theory.specs.Places.{over}
use Rattle.numbered_theory.proofs.Loops.{or_some, some_first}
use Rattle.numbered_branches.proofs.Among.{filter_by}

-- Reads of Writes tried one after another
module _ {B : Type 0} (f : Tree → Attempt B) where
  abbrev pub one_read : Tree → Attempt B
  one_read t = cond (is_access t) (f t) none

  pub reads_step : (t : Tree) (ts : List Tree) → first_attempt f (filter is_access (t ∷ ts)) ≡ or_else (one_read t) (first_attempt f (filter is_access ts))
  reads_step t ts = by (is_access t) refl
    where
      by : (b : Bool) → is_access t ≡ b → first_attempt f (filter is_access (t ∷ ts)) ≡ or_else (cond (is_access t) (f t) none) (first_attempt f (filter is_access ts))
      by true e = ap (first_attempt f) (filter_by is_access true t ts e) ∙ first_is f t (filter is_access ts) ∙ ap (λ b. or_else (cond b (f t) none) (first_attempt f (filter is_access ts))) (sym e)
      by false e = ap (first_attempt f) (filter_by is_access false t ts e) ∙ ap (λ b. or_else (cond b (f t) none) (first_attempt f (filter is_access ts))) (sym e)

  pub read_is : (t : Tree) (x : Attempt B) → is_access t ≡ true → f t ≡ x → one_read t ≡ x
  read_is t x h e = ap (λ b. cond b (f t) none) h ∙ e

  pub facts_step : (g : Fact) (gs : List Fact) → first_attempt f (flat_map accesses_in (g ∷ gs)) ≡ or_else (first_attempt f (accesses_in g)) (first_attempt f (flat_map accesses_in gs))
  facts_step g gs = first_of_both f (accesses_in g) (flat_map accesses_in gs)

-- the oldest fact with a Read of a Write
abbrev what_of : Option (At Tree) → Option Tree
what_of None = None
what_of (Some a) = Some a.what

what_is : (test : Fact → Option Tree) (n : ℕ) (fs : List Fact) → what_of (first_from test n fs) ≡ first_some test fs
what_is test n [] = refl
what_is test n (f ∷ fs) = by (test f) (what_is test (n + 1) fs) ∙ sym (some_first test f fs)
  where
    by : (o : Option Tree) → what_of (first_from test (n + 1) fs) ≡ first_some test fs
        → ◌≡◌ {A = Option Tree} (what_of (elim o [ None ↦ first_from test (n + 1) fs | Some t ↦ Some (record { at = n; fact = f; what = t }) ])) (or_some o (first_some test fs))
    by None r = r
    by (Some t) r = refl

abbrev pub past_of : List Def → Branch → Option Tree → Attempt Move
past_of defs b None = none
past_of defs b (Some t) = unless_wide (past_by defs b t)

pub past_is : (defs : List Def) (b : Branch) (o : Option Tree) → first_some first_access b.facts ≡ o → past defs b ≡ past_of defs b o
past_is defs b o h = by (first_from first_access 0 b.facts) ∙ ap (past_of defs b) (what_is first_access 0 b.facts ∙ h)
  where
    by : (a : Option (At Tree)) → ◌≡◌ {A = Attempt Move} (elim a [ None ↦ none | Some x ↦ unless_wide (past_by defs b x.what) ]) (past_of defs b (what_of a))
    by None = refl
    by (Some x) = refl

-- of a branch its variables alone matter
pub reads_over : (defs : List Def) (b : Branch) (vars : List Kind) (x : Attempt (Tree × Tree)) → vars ≡ b.vars → first_attempt (moved_back defs (over vars)) (flat_map accesses_in b.facts) ≡ x → first_attempt (moved_back defs b) (flat_map accesses_in b.facts) ≡ x
reads_over defs b vars x e h = ap (λ vs. first_attempt (moved_back defs (over vs)) (flat_map accesses_in b.facts)) (sym e) ∙ h

-- back by what was found, and by the changed facts
pub backs : (defs : List Def) (b : Branch) (x : Attempt (Tree × Tree)) → first_attempt (moved_back defs b) (flat_map accesses_in b.facts) ≡ x → back_in_parts defs b ≡ after_attempt x (λ p. unless_wide (replaced_back defs b p.0 p.1))
backs defs b x h = ap (λ y. after_attempt y (λ p. unless_wide (replaced_back defs b p.0 p.1))) h

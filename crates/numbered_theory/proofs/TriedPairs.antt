-- Pairs by number of which nothing comes, as facts are listed and the store goes on.
use Rattle.std.proofs.Common.{◌≡◌, refl, sym, ap, subst, ◌∙◌, ℕ, Vec, Result, Ok, Err, OnOk, ◌≤◌, List, [], length, take, arith}
use Rattle.std.specs.List.{AllByRecursion}
use Rattle.std.specs.declared.alloc.Global.{Global}
use Rattle.std.proofs.lemmas.List.{length-map, take-map, take_all}
use Rattle.logic_core.specs.Tree.{Tree}
use Rattle.tableau_branch.specs.Branch.{none, first_attempt}
use Rattle.term_bank.specs.Numbered.{Begins}
use Rattle.theory_rules.specs.Combining as combining
use Rattle.theory_rules.specs.Combining.{combine_pair, pairs_from}
use Rattle.numbered_terms.specs.Stored.{Numbered, Grows}
use Rattle.numbered_theory.specs.Entries.{entry_at, entries_at, IsEntryBelow}
use Rattle.numbered_theory.specs.Tried.{IsTried, AreTried}
use Rattle.numbered_theory.specs.declared.entries.Entry.{Entry}
use Rattle.numbered_theory.specs.declared.tried.Tried.{Tried}
use Rattle.numbered_theory.proofs.Entered.{entries_below, entries_stay}
use Rattle.numbered_theory.proofs.PairsKept.{no_pairs, tried_on}

-- over more terms
pub tried_more : (ts us : List Tree) → Begins ts us → (t : Tried) → AreTried ts t → AreTried us t
tried_more ts us b t h =
    let n : Numbered = record { terms = ts; vars = []; defs = [] } in let m : Numbered = record { terms = us; vars = []; defs = [] } in
    let g : Grows n m = record { terms = b; vars = refl; defs = refl } in
    record {
      entries = entries_below n m g t.entries.items h.entries;
      within = h.within;
      tried = subst (λ (es : List combining.Entry). IsTried es t.pairs) (sym (entries_stay n m g t.entries.items h.entries)) h.tried;
    }

-- once these facts are listed
pub listed_tried : (ts : List Tree) (t : Tried) (v : Vec Entry Global) → t.entries ≡ v → AllByRecursion (IsEntryBelow (length ts)) v.items → t.pairs ≤ length v.items → IsTried (entries_at ts v.items) t.pairs → AreTried ts t
listed_tried ts t v e low within h = record {
  entries = subst (λ (w : Vec Entry Global). AllByRecursion (IsEntryBelow (length ts)) w.items) (sym e) low;
  within = subst (λ (w : Vec Entry Global). t.pairs ≤ length w.items) (sym e) within;
  tried = subst (λ (w : Vec Entry Global). IsTried (entries_at ts w.items) t.pairs) (sym e) h;
}

-- of facts that begin with the others
pub listed_on : (ts : List Tree) (es fs : List Entry) (k : ℕ) → k ≤ length es → take (length es) fs ≡ es → IsTried (entries_at ts es) k → IsTried (entries_at ts fs) k
listed_on ts es fs k l same h =
    tried_on (entries_at ts es) (entries_at ts fs) k (omega (arith, l, length-map es (entry_at ts)))
    ((λ j. take (length-map es (entry_at ts) j) (entries_at ts fs)) ∙ take-map (entry_at ts) (length es) fs ∙ ap (entries_at ts) same) h

-- more facts than there are
pub all_tried : (es : List combining.Entry) (i : ℕ) → length es ≤ i → IsTried es i → first_attempt (combine_pair es) (pairs_from [] es) ≡ none
all_tried es i l h = ap (λ (fs : List combining.Entry). first_attempt (combine_pair es) (pairs_from [] fs)) (sym (take_all i es l)) ∙ h

pub tried_whole : (ts : List Tree) (es : List Entry) (i : ℕ) → length es ≤ i → IsTried (entries_at ts es) i → IsTried (entries_at ts es) (length es)
tried_whole ts es i l h = ap (λ (fs : List combining.Entry). first_attempt (combine_pair (entries_at ts es)) (pairs_from [] fs)) (take_all (length es) (entries_at ts es) (omega (arith, length-map es (entry_at ts))))
    ∙ all_tried (entries_at ts es) i (omega (arith, l, length-map es (entry_at ts))) h

pub as_many : (ts : List Tree) (es : List Entry) (i : ℕ) → length es ≤ i → length (entries_at ts es) ≤ i
as_many ts es i l = omega (arith, l, length-map es (entry_at ts))

-- of no facts
pub nothing_tried : (ts : List Tree) (v : Vec Entry Global) → v.items ≡ [] → AreTried ts (record { entries = v; pairs = 0 })
nothing_tried ts v e = record { entries = subst (AllByRecursion (IsEntryBelow (length ts))) (sym e) tt; within = omega arith; tried = no_pairs (entries_at ts v.items) }

-- once more pairs were tried
pub tried_after : {A E : Type 0} (r : Result A E) (n m : Numbered) → Grows n m → (t : Tried) (k : ℕ) (es : List Entry) → es ≡ t.entries.items → AreTried n.terms t → OnOk r (k ≤ length es) → OnOk r (IsTried (entries_at n.terms es) k)
    → OnOk r (AreTried m.terms (record { entries = t.entries; pairs = k }))
tried_after (Ok a) n m g t k es same h l i = tried_more n.terms m.terms g.terms (record { entries = t.entries; pairs = k })
    (record { entries = h.entries; within = subst (λ (fs : List Entry). k ≤ length fs) same l; tried = subst (λ (fs : List Entry). IsTried (entries_at n.terms fs) k) same i })
tried_after (Err e) n m g t k es same h l i = tt

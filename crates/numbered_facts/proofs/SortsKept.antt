-- Sorts that are kept, over equal variables and definitions.
use Rattle.std.proofs.Common.{◌≡◌, subst, ℕ, Option, Some, List, []}
use Rattle.logic_core.specs.Tree.{Kind, Tree}
use Rattle.logic_core.specs.Def.{Def}
use Rattle.logic_core.specs.Sorts.{sort_of}
use Rattle.term_bank.specs.Numbered.{at}
use Rattle.numbered_terms.specs.Slots.{kept_at, AreKept}
use Rattle.numbered_terms.specs.Stored.{Numbered}
use Rattle.numbered_facts.specs.Memos.{IsSort}

pub sorts_over : (ts : List Tree) (ks : List (Option (Option Kind))) (vs ws : List Kind) (ds es : List Def) → vs ≡ ws → ds ≡ es → AreKept (IsSort (record { terms = ts; vars = vs; defs = ds })) ks → AreKept (IsSort (record { terms = ts; vars = ws; defs = es })) ks
sorts_over ts ks vs ws ds es e f h = subst (λ us. AreKept (IsSort (record { terms = ts; vars = us; defs = es })) ks) e (subst (λ us. AreKept (IsSort (record { terms = ts; vars = vs; defs = us })) ks) f h)

-- what is kept of a number is its term's sort
pub sort_kept : (n m : Numbered) (ks : List (Option (Option Kind))) (vs : List Kind) (ds : List Def) → vs ≡ n.vars → ds ≡ n.defs → n ≡ m → AreKept (IsSort (record { terms = n.terms; vars = vs; defs = ds })) ks
    → (i : ℕ) (o : Option Kind) → kept_at ks i ≡ Some o → o ≡ sort_of m.vars m.defs [] (at m.terms i)
sort_kept n m ks vs ds e f same h i o k = subst (λ (l : Numbered). o ≡ sort_of l.vars l.defs [] (at l.terms i)) same (sorts_over n.terms ks vs n.vars ds n.defs e f h i o k).1

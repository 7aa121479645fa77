-- Sorts that are the same are equal.
use Rattle.std.proofs.Common.{◌≡◌, sym, ap, ◌∙◌, ℕ, Bool, true, List, [], take}
use Rattle.logic_core.specs.Tree.{Kind, Tree, truth, for_all, no_patterns}
use Rattle.logic_core.specs.Same.{same_kinds}
use Rattle.logic_core.proofs.Booleans.{and_true}
use Rattle.logic_core.proofs.SameTerm.{same_is_equal}

abbrev sorts_of : Tree → List Kind
sorts_of (for_all ss ps t) = ss
sorts_of t = []

pub same_sorts : (js ks : List Kind) → same_kinds js ks ≡ true → js ≡ ks
same_sorts js ks h = ap sorts_of (same_is_equal (for_all js no_patterns (truth true)) (for_all ks no_patterns (truth true)) (and_true (same_kinds js ks) ∙ h))

-- what a test of the first so many says
pub same_front : (n : ℕ) (js ks given copied : List Kind) (test : Bool) → given ≡ js → copied ≡ ks → test ≡ same_kinds (take n given) (take n ks) → test ≡ true → take n js ≡ take n copied
same_front n js ks given copied test e f is h = ap (take n) (sym e) ∙ same_sorts (take n given) (take n ks) (sym is ∙ h) ∙ ap (take n) (sym f)

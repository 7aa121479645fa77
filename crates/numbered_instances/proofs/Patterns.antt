-- Patterns that are matched by number.
use Rattle.std.proofs.Common.{◌≡◌, refl, sym, ap, ◌∙◌, ℕ, ℤ, Vec, nat_eq, Bool, true, false, Option, Some, None, List, length, min, drop}
use Rattle.std.specs.declared.alloc.Global.{Global}
use Rattle.logic_core.specs.Tree.{Kind, Tree}
use Rattle.logic_core.specs.Def.{Def}
use Rattle.logic_core.specs.Same.{same_term}
use Rattle.logic_core.specs.Wide.{◌>>=◌, when}
use Rattle.term_bank.specs.declared.node.Node.{Node}
use Rattle.term_bank.specs.declared.node.Node.TheVariants.{Num, Truth, Free, Bound, Sum, Mul, Read, Write, If, Call, Not, And, Or, Eq, Le, ForAll, Exists}
use Rattle.term_bank.specs.Node.{tree_over}
use Rattle.quantifier_triggers.specs.Match.{Found, matched, matched_each}
use Rattle.logic_core.specs.View.{trees_of}
use Rattle.std.specs.List.{drop-map}
use Rattle.std.proofs.lemmas.List.{length-map}
use Rattle.term_bank.specs.Numbered.{at}
use Rattle.quantifier_triggers.proofs.MatchedParts.{parts_end}
use Rattle.numbered_terms.specs.Lists.{terms_at}

-- a pattern that is no variable, Read or Call matches itself
pub itself : (vars : List Kind) (defs : List Def) (kinds : List Kind) (of : ℕ → Tree) (m : Node) (t : Tree) (b : Found) → ((v : ℕ) → m ≡ Bound v → ⊥) → ((x y : ℕ) → m ≡ Read x y → ⊥) → ((f : ℕ) (is : Vec ℕ Global) → m ≡ Call f is → ⊥)
    → matched vars defs kinds false (tree_over of m) t b ≡ when (same_term (tree_over of m) t) (Some b)
itself vars defs kinds of (Num n) t b no_bound no_read no_call = refl
itself vars defs kinds of (Truth n) t b no_bound no_read no_call = refl
itself vars defs kinds of (Free n) t b no_bound no_read no_call = refl
itself vars defs kinds of (Bound n) t b no_bound no_read no_call = absurd (no_bound n refl)
itself vars defs kinds of (Sum ps c) t b no_bound no_read no_call = refl
itself vars defs kinds of (Mul x y) t b no_bound no_read no_call = refl
itself vars defs kinds of (Read x y) t b no_bound no_read no_call = absurd (no_read x y refl)
itself vars defs kinds of (Write x y z) t b no_bound no_read no_call = refl
itself vars defs kinds of (If x y z) t b no_bound no_read no_call = refl
itself vars defs kinds of (Call f is) t b no_bound no_read no_call = absurd (no_call f is refl)
itself vars defs kinds of (Not x) t b no_bound no_read no_call = refl
itself vars defs kinds of (And is) t b no_bound no_read no_call = refl
itself vars defs kinds of (Or is) t b no_bound no_read no_call = refl
itself vars defs kinds of (Eq x y) t b no_bound no_read no_call = refl
itself vars defs kinds of (Le x y) t b no_bound no_read no_call = refl
itself vars defs kinds of (ForAll ss ps x) t b no_bound no_read no_call = refl
itself vars defs kinds of (Exists ss ps x) t b no_bound no_read no_call = refl

-- where one of two lists of numbers ends
pub numbers_end : (ts : List Tree) (vars : List Kind) (defs : List Def) (kinds : List Kind) (ps is : List ℕ) (i : ℕ) (b : Found) → i ≡ min (length ps) (length is)
    → matched_each vars defs kinds (trees_of (terms_at ts (drop i ps))) (trees_of (terms_at ts (drop i is))) b ≡ when (nat_eq (length ps) (length is)) (Some b)
numbers_end ts vars defs kinds ps is i b e =
    (λ k. matched_each vars defs kinds (trees_of (sym (drop-map (at ts) i ps) k)) (trees_of (sym (drop-map (at ts) i is) k)) b)
    ∙ parts_end vars defs kinds (terms_at ts ps) (terms_at ts is) i b (e ∙ (λ k. min (sym (length-map ps (at ts)) k) (sym (length-map is (at ts)) k)))
    ∙ (λ k. when (nat_eq (length-map ps (at ts) k) (length-map is (at ts) k)) (Some b))

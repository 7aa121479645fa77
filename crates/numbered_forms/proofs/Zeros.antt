-- Eq(d, 0) for a term that is no number.
use Rattle.std.proofs.Common.{◌≡◌, refl, sym, ap, ◌∙◌, ℕ, ℤ, pos, negsuc, ◌<◌, Option, Some, option_map, if◌then◌else◌, List, length}
use Rattle.logic_core.specs.Tree.{Tree, num, equal}
use Rattle.logic_core.specs.Sum.{affine}
use Rattle.logic_core.specs.Normal.{has_negative_lead, equals_zero}
use Rattle.term_bank.specs.declared.node.Node.{Node}
use Rattle.term_bank.specs.declared.node.Node.TheVariants.{Num}
use Rattle.term_bank.specs.Numbered.{at, Begins}
use Rattle.term_bank.specs.Node.{tree_over}
use Rattle.term_bank.proofs.Numbers.{begins_at}
use Rattle.numbered_terms.specs.At.{IsAt}

-- the side with a positive lead
abbrev pub side_of : Tree → Option Tree
side_of d = if has_negative_lead d then affine (negsuc 0) d (pos 0) else Some d

pub no_number : (of : ℕ → Tree) (m : Node) → ((n : ℤ) → m ≡ Num n → ⊥) → equals_zero (tree_over of m) ≡ option_map (λ e. equal e (num (pos 0))) (side_of (tree_over of m))
no_number of (Num n) h = absurd (h n refl)
no_number of m h = refl

-- the equation is made of the side and of 0
pub sides_made : (o : Option Tree) (ts us vs : List Tree) (side zero i : ℕ) → Begins ts us → (side < length ts) × (o ≡ Some (at ts side)) → IsAt us zero (num (pos 0)) → IsAt vs i (equal (at us side) (at us zero))
    → (i < length vs) × (option_map (λ e. equal e (num (pos 0))) o ≡ Some (at vs i))
sides_made o ts us vs side zero i b s z e = (e.0, ap (option_map (λ x. equal x (num (pos 0)))) s.1 ∙ ap Some ((λ k. equal (sym (begins_at ts us side b s.0) k) (sym z.1 k)) ∙ sym e.1))

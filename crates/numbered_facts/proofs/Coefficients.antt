-- Atoms of sums over numbers, and what facts say of terms.
use Rattle.std.proofs.Common.{◌≡◌, refl, sym, ap, subst, ◌∙◌, ℕ, ℤ, Vec, pos, ◌<◌, nat_eq, Bool, true, false, cond, Option, Some, None, Result, IfOk, List, [], ◌∷◌, map, length, if◌then◌else◌}
use Rattle.std.specs.List.{AllByRecursion}
use Rattle.std.specs.declared.alloc.AllocError.{AllocError}
use Rattle.std.specs.declared.alloc.Global.{Global}
use Rattle.logic_core.specs.Tree.{Tree, num, linear, equal, no_parts, part}
use Rattle.logic_core.specs.Same.{same_term}
use Rattle.logic_core.specs.Sum.{Linear, sum_term, term_of}
use Rattle.logic_core.specs.View.{parts_of}
use Rattle.logic_core.specs.Wide.{◌>>=◌}
use Rattle.logic_core.specs.Junction.{is_zero}
use Rattle.logic_core.specs.Combine.{sum_of}
use Rattle.proof_core.specs.Says as says
use Rattle.proof_core.specs.Says.{or_else, by_truth}
use Rattle.term_bank.specs.declared.node.Node.{Node}
use Rattle.term_bank.specs.declared.node.Node.TheVariants.{Num, Sum, Eq}
use Rattle.term_bank.specs.Node.{tree_over}
use Rattle.term_bank.specs.Numbered.{at, Begins}
use Rattle.term_bank.proofs.Numbers.{begins_at}
use Rattle.numbered_terms.specs.Lists.{atoms_at, AtomsBelow}
use Rattle.numbered_terms.specs.Stored.{AreStored}
use Rattle.numbered_terms.proofs.Replacing.{same_number}
use Rattle.numbered_forms.specs.Sums.{sum_at}
use Rattle.numbered_forms.specs.declared.sum.NumberedSum.{NumberedSum}
use Rattle.numbered_facts.specs.Answers.{StandsFor}
use Rattle.numbered_facts.specs.Saying.{coefficient_of, without, solved_by, solved_alone}

-- the atoms beside one have the numbers that they had
pub without_below : (P : ℕ → Type 0) (i : ℕ) (ps qs : List (ℤ × ℕ)) → qs ≡ without i ps → AllByRecursion P (map (λ (p : ℤ × ℕ). p.1) ps) → AllByRecursion P (map (λ (p : ℤ × ℕ). p.1) qs)
without_below P i ps qs e h = subst (λ xs. AllByRecursion P (map (λ (p : ℤ × ℕ). p.1) xs)) (sym e) (by ps h)
  where
    chosen : (b : Bool) (x : ℤ × ℕ) (xs : List (ℤ × ℕ)) → P x.1 → AllByRecursion P (map (λ (p : ℤ × ℕ). p.1) xs) → AllByRecursion P (map (λ (p : ℤ × ℕ). p.1) (without i xs))
        → AllByRecursion P (map (λ (p : ℤ × ℕ). p.1) (cond b xs (x ∷ without i xs)))
    chosen true x xs h g r = g
    chosen false x xs h g r = (h, r)

    by : (xs : List (ℤ × ℕ)) → AllByRecursion P (map (λ (p : ℤ × ℕ). p.1) xs) → AllByRecursion P (map (λ (p : ℤ × ℕ). p.1) (without i xs))
    by [] h = tt
    by (x ∷ xs) h = chosen (nat_eq i x.1) x xs h.0 h.1 (by xs h.1)

module _ (ts : List Tree) (stored : AreStored ts) (i : ℕ) (l : i < length ts) where
  coefficient_is : (ps : List (ℤ × ℕ)) → AtomsBelow (length ts) ps → says.coefficient (at ts i) (parts_of (atoms_at ts ps)) ≡ coefficient_of i ps
  coefficient_is [] h = refl
  coefficient_is (p ∷ ps) h = λ k. cond (sym (same_number ts i p.1 stored l h.0) k) (Some p.0) (coefficient_is ps h.1 k)

  without_is : (ps : List (ℤ × ℕ)) → AtomsBelow (length ts) ps → says.without (at ts i) (parts_of (atoms_at ts ps)) ≡ parts_of (atoms_at ts (without i ps))
  without_is [] h = refl
  without_is (p ∷ ps) h = (λ k. cond (sym (same_number ts i p.1 stored l h.0) k) (parts_of (atoms_at ts ps)) (part p.0 (at ts p.1) (without_is ps h.1 k))) ∙ by (nat_eq i p.1)
    where
      by : (b : Bool) → cond b (parts_of (atoms_at ts ps)) (part p.0 (at ts p.1) (parts_of (atoms_at ts (without i ps)))) ≡ parts_of (atoms_at ts (cond b ps (p ∷ without i ps)))
      by true = refl
      by false = refl

  module _ (d : ℕ) (ps : List (ℤ × ℕ)) (c : ℤ) (shape : at ts d ≡ linear (parts_of (atoms_at ts ps)) c) (h : AtomsBelow (length ts) ps) where
    -- by the coefficient of the number
    solved_is : says.solved (sum_of (at ts d)) (at ts i) ≡ (coefficient_of i ps >>= λ k. solved_by k (sum_term (parts_of (atoms_at ts (without i ps))) c))
    solved_is = ap (λ t. says.solved (sum_of t) (at ts i)) shape ∙ (λ j. coefficient_is ps h j >>= λ k. solved_by k (sum_term (without_is ps h j) c))

    pub solved_there : (k : ℤ) (s : NumberedSum) → coefficient_of i ps ≡ Some k → s.parts.items ≡ without i ps → s.rest ≡ c → solved_by k (term_of (sum_at ts s)) ≡ says.solved (sum_of (at ts d)) (at ts i)
    solved_there k s e parts rest = (λ j. solved_by k (sum_term (parts_of (atoms_at ts (parts j))) (rest j))) ∙ sym (solved_is ∙ ap (λ o. o >>= λ n. solved_by n (sum_term (parts_of (atoms_at ts (without i ps))) c)) e)

    pub not_solved : coefficient_of i ps ≡ None → says.solved (sum_of (at ts d)) (at ts i) ≡ None
    not_solved e = solved_is ∙ ap (λ o. o >>= λ n. solved_by n (sum_term (parts_of (atoms_at ts (without i ps))) c)) e

-- a term that is no sum is solved alone
abbrev alone : Tree → Linear
alone d = record { parts = part (pos 1) d no_parts; rest = pos 0 }

alone_by : (d t : Tree) (b : Bool) → same_term t d ≡ b → says.solved (alone d) t ≡ (if b then Some (num (pos 0)) else None)
alone_by d t true h = λ j. (if (h j) then Some (pos 1) else None) >>= λ k. solved_by k (sum_term (if (h j) then no_parts else part (pos 1) d no_parts) (pos 0))
alone_by d t false h = λ j. (if (h j) then Some (pos 1) else None) >>= λ k. solved_by k (sum_term (if (h j) then no_parts else part (pos 1) d no_parts) (pos 0))

alone_is : (of : ℕ → Tree) (m : Node) → ((n : ℤ) → m ≡ Num n → ⊥) → ((ps : Vec (ℤ × ℕ) Global) (c : ℤ) → m ≡ Sum ps c → ⊥) → sum_of (tree_over of m) ≡ alone (tree_over of m)
alone_is of (Num n) h g = absurd (h n refl)
alone_is of (Sum ps c) h g = absurd (g ps c refl)
alone_is of m h g = refl

pub solved_as : (of : ℕ → Tree) (m : Node) (d t : Tree) → ((n : ℤ) → m ≡ Num n → ⊥) → ((ps : Vec (ℤ × ℕ) Global) (c : ℤ) → m ≡ Sum ps c → ⊥) → tree_over of m ≡ d → solved_alone d t ≡ says.solved (sum_of d) t
solved_as of m d t h g is = let e : sum_of d ≡ alone d = subst (λ u. sum_of u ≡ alone u) is (alone_is of m h g) in sym (ap (λ s. says.solved s t) e ∙ alone_by d t (same_term t d) refl)

-- what the first of two says, and where it says nothing the other
pub said_first : (us : List Tree) (o : Option ℕ) (i : ℕ) (a b : Option Tree) → StandsFor us o a → o ≡ Some i → StandsFor us (Some i) (or_else a b)
said_first us o i a b h e = let g : StandsFor us (Some i) a = subst (λ x. StandsFor us x a) e h in (g.0, ap (λ x. or_else x b) g.1)

pub said_next : (us vs : List Tree) (o : Option ℕ) (r : Result (Option ℕ) AllocError) (a b : Option Tree) → StandsFor us o a → o ≡ None → IfOk r (λ x. StandsFor vs x b) → IfOk r (λ x. StandsFor vs x (or_else a b))
said_next us vs o r a b h e g = let none : a ≡ None = subst (λ x. StandsFor us x a) e h in subst (λ x. IfOk r (λ y. StandsFor vs y (or_else x b))) (sym none) g

-- a fact and a term say the same in a longer store
pub truth_later : (ts us : List Tree) (b : Begins ts us) (i j : ℕ) → i < length ts → j < length ts → by_truth (at us i) (at us j) ≡ by_truth (at ts i) (at ts j)
truth_later ts us b i j l m = λ k. by_truth (begins_at ts us i b l k) (begins_at ts us j b m k)

-- what an equation says, by its sides
pub zero_says : (f d z t : Tree) → f ≡ equal d z → is_zero z ≡ true → says.solved (sum_of d) t ≡ says.by_equation f t
zero_says f d z t s h = ap (λ b. if b then says.solved (sum_of d) t else says.other_side d z t) (sym h) ∙ ap (λ g. says.by_equation g t) (sym s)

pub side_says : (f d z t : Tree) → f ≡ equal d z → is_zero z ≡ false → says.other_side d z t ≡ says.by_equation f t
side_says f d z t s h = ap (λ b. if b then says.solved (sum_of d) t else says.other_side d z t) (sym h) ∙ ap (λ g. says.by_equation g t) (sym s)

pub others_say : (of : ℕ → Tree) (m : Node) (t : Tree) → ((d z : ℕ) → m ≡ Eq d z → ⊥) → says.by_equation (tree_over of m) t ≡ None
others_say of (Eq d z) t h = absurd (h d z refl)
others_say of m t h = refl

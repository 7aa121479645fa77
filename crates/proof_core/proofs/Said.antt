-- What a fact says is so: where it holds, the term and what it says the term is equal to have one value and one sort.
use Rattle.std.proofs.Common.{◌≡◌, ◌∙◌, refl, sym, ap, subst, ℤ, pos, negsuc, ◌+ℤ◌, ◌*ℤ◌, Bool, true, false, not, cond, IsTrue, Option, Some, None, List, [], arith, int_eq}
use Rattle.std.proofs.lemmas.Int.{ints}
use Rattle.std.proofs.lemmas.Bool.Decides.{Decides-int_eq}
use Rattle.logic_core.proofs.Booleans.{all_true}
use Rattle.logic_core.specs.Tree.{Kind, int, boolean, Tree, num, truth, linear, negation, equal, Parts, no_parts, part}
use Rattle.logic_core.specs.Value.{Value, whole, flag, table, int_of, holds, is_of, are_of}
use Rattle.logic_core.specs.Def.{Def}
use Rattle.logic_core.specs.Same.{same_term}
use Rattle.logic_core.specs.Sorts.{is, sort_of, are_ints, bodies_sorted}
use Rattle.logic_core.specs.Sum.{Linear, affine}
use Rattle.logic_core.specs.Junction.{is_zero}
use Rattle.logic_core.specs.Valid.{calls_of}
use Rattle.logic_core.proofs.Defined.{has_defined, keeps_defined}
use Rattle.logic_core.proofs.Replaced.{Same}
use Rattle.logic_core.proofs.SameTerm.{same_is_equal}
use Rattle.logic_laws.proofs.Options.{some_has, bind_some, when_some, cond_has, cond_some}
use Rattle.logic_laws.proofs.SortTests.{sort_is}
use Rattle.logic_laws.proofs.SumSorts.{first_int, sum_sort, affine_sort}
use Rattle.logic_laws.proofs.FormulaSorts.{part_of_negation, parts_of_equal}
use Rattle.logic_laws.proofs.SameValue.{same_equal}
use Rattle.logic_laws.proofs.Gives.{GivesSum}
use Rattle.logic_laws.proofs.SumValues.{linear_gives, affine_gives}
use Rattle.logic_laws.proofs.FormulaValues.{zero_found}
use Rattle.logic_core.specs.Combine.{sum_of}
use Rattle.proof_core.specs.Says.{coefficient, without, rest_of, solved, other_side, by_equation, by_truth, or_else, says}
use Rattle.proof_core.proofs.Sums.{parted, zero_sum}
use Rattle.proof_core.proofs.Closed.{Of, HoldsIn, Has, has_one, value_holds, same_by_value, call_sorts, value_sort}

-- what both answers have
or_else_has : (P : Tree → Type 0) (o p : Option Tree) (u : Tree) → or_else o p ≡ Some u → (o ≡ Some u → P u) → (p ≡ Some u → P u) → P u
or_else_has P None p u e f g = g e
or_else_has P (Some a) p u e f g = f e

module _ (vars : List Kind) (defs : List Def) where
  abbrev Sort : Tree → Kind → Type 0
  Sort t k = sort_of vars defs [] t ≡ Some k

  abbrev Numbers : Parts → Type 0
  Numbers ps = are_ints vars defs [] ps ≡ true

  -- an atom of a sum is a number, and so are the rest
  coefficient_sort : (t : Tree) (ps : Parts) (k : ℤ) → Numbers ps → coefficient t ps ≡ Some k → Sort t int
  coefficient_sort t no_parts k h e = absurd (cc)
  coefficient_sort t (part j u ps) k h e = let f = first_int vars defs j u ps [] h in
      cond_some (λ _. Sort t int) (same_term t u) (Some j) (coefficient t ps) k e (λ s _. subst (λ x. Sort x int) (sym (same_is_equal t u s)) f.0) (λ _ g. coefficient_sort t ps k f.1 g)

  without_numbers : (t : Tree) (ps : Parts) → Numbers ps → Numbers (without t ps)
  without_numbers t no_parts h = refl
  without_numbers t (part j u ps) h = let f = first_int vars defs j u ps [] h in
      cond_has (λ qs. Numbers qs) (same_term t u) ps (part j u (without t ps)) (λ _. f.1) (λ _. all_true (is int (sort_of vars defs [] u)) (are_ints vars defs [] (without t ps)) (sort_is int (sort_of vars defs [] u) f.0) (without_numbers t ps f.1))

  atom_numbers : (t : Tree) → Sort t int → Numbers (part (pos 1) t no_parts)
  atom_numbers t s = all_true (is int (sort_of vars defs [] t)) true (sort_is int (sort_of vars defs [] t) s) refl

  sum_numbers : (d : Tree) → Sort d int → Numbers (sum_of d).parts
  sum_numbers (num n) s = refl
  sum_numbers (linear ps c) s = (when_some (are_ints vars defs [] ps) int int s).0
  sum_numbers d s = atom_numbers d s

  -- the term that solves a sum is a number
  solved_sort : (s : Linear) (t u : Tree) (k : Kind) → Numbers s.parts → Sort t k → solved s t ≡ Some u → Sort u k
  solved_sort s t u k h sort e =
      let p = bind_some (coefficient t s.parts) (λ k. cond (int_eq k (pos 1)) (affine (negsuc 0) (rest_of s t) (pos 0)) (cond (int_eq k (negsuc 0)) (Some (rest_of s t)) None)) u e in
      let number : Sort t int = coefficient_sort t s.parts p.0 h p.1 in
      let k_int : int ≡ k = cc in
      let rest : Sort (rest_of s t) int = sum_sort vars defs (without t s.parts) s.rest [] (without_numbers t s.parts h) in
      subst (Sort u) k_int (cond_some (λ x. Sort x int) (int_eq p.0 (pos 1)) (affine (negsuc 0) (rest_of s t) (pos 0)) (cond (int_eq p.0 (negsuc 0)) (Some (rest_of s t)) None) u p.2
      (λ _ a. affine_sort vars defs (negsuc 0) (rest_of s t) (pos 0) u [] rest a)
      (λ _ g. cond_some (λ x. Sort x int) (int_eq p.0 (negsuc 0)) (Some (rest_of s t)) None u g (λ _ a. some_has (λ x. Sort x int) (rest_of s t) u a rest) (λ _ a. absurd (cc))))

  other_side_sort : (a b t u : Tree) (j k : Kind) → Sort a j → Sort b j → Sort t k → other_side a b t ≡ Some u → Sort u k
  other_side_sort a b t u j k sa sb st e = cond_some (λ x. Sort x k) (same_term a t) (Some b) (cond (same_term b t) (Some a) None) u e
      (λ s g. let at_a : Sort a k = subst (λ x. Sort x k) (sym (same_is_equal a t s)) st in some_has (λ x. Sort x k) b u g (cc))
      (λ _ g. cond_some (λ x. Sort x k) (same_term b t) (Some a) None u g
      (λ s f. let at_b : Sort b k = subst (λ x. Sort x k) (sym (same_is_equal b t s)) st in some_has (λ x. Sort x k) a u f (cc))
      (λ _ f. absurd (cc)))

  by_equation_sort : (g t u : Tree) (k : Kind) → Sort g boolean → Sort t k → by_equation g t ≡ Some u → Sort u k
  by_equation_sort (equal d z) t u k sg st e = let p = parts_of_equal vars defs d z [] boolean sg in
      cond_some (λ x. Sort x k) (is_zero z) (solved (sum_of d) t) (other_side d z t) u e
      (λ zero g. let number : p.0 ≡ int = (let a : Sort (num (pos 0)) p.0 = subst (λ x. Sort x p.0) (zero_found z zero) p.2 in cc) in
      solved_sort (sum_of d) t u k (sum_numbers d (subst (Sort d) number p.1)) st g)
      (λ _ g. other_side_sort d z t u p.0 k p.1 p.2 st g)
  by_equation_sort g t u k sg st e = absurd (cc)

  truth_sort : (x : Bool) (g t u : Tree) (k : Kind) → Sort g boolean → Sort t k → same_term g t ≡ true → Some (truth x) ≡ Some u → Sort u k
  truth_sort x g t u k sg st s e =
      let at_g : Sort g k = subst (λ y. Sort y k) (sym (same_is_equal g t s)) st in
      let sort : boolean ≡ k = cc in
      some_has (λ y. Sort y k) (truth x) u e (ap Some sort)

  itself_sort : (g t u : Tree) (k : Kind) → Sort g boolean → Sort t k → cond (same_term g t) (Some (truth true)) None ≡ Some u → Sort u k
  itself_sort g t u k sg st e = cond_some (λ x. Sort x k) (same_term g t) (Some (truth true)) None u e (λ s f. truth_sort true g t u k sg st s f) (λ _ f. absurd (cc))

  by_truth_sort : (g t u : Tree) (k : Kind) → Sort g boolean → Sort t k → by_truth g t ≡ Some u → Sort u k
  by_truth_sort (negation a) t u k sg st e = cond_some (λ x. Sort x k) (same_term a t) (Some (truth false)) (cond (same_term (negation a) t) (Some (truth true)) None) u e
      (λ s f. truth_sort false a t u k (part_of_negation vars defs a [] boolean sg) st s f)
      (λ _ f. itself_sort (negation a) t u k sg st f)
  by_truth_sort g t u k sg st e = itself_sort g t u k sg st e

  -- what a fact says a term is equal to has the term's sort
  pub said_sort : (g t u : Tree) (k : Kind) → Sort g boolean → Sort t k → says g t ≡ Some u → Sort u k
  said_sort g t u k sg st e = or_else_has (λ x. Sort x k) (by_equation g t) (by_truth g t) u e (by_equation_sort g t u k sg st) (by_truth_sort g t u k sg st)

solved_up : (k m n r : ℤ) → k ≡ pos 1 → ((k *ℤ m) +ℤ n) +ℤ r ≡ pos 0 → (negsuc 0 *ℤ (n +ℤ r)) +ℤ pos 0 ≡ m
solved_up k m n r unit e = let f : ((pos 1 *ℤ m) +ℤ n) +ℤ r ≡ pos 0 = subst (λ i. ((i *ℤ m) +ℤ n) +ℤ r ≡ pos 0) unit e in omega (arith, ints)

solved_down : (k m n r : ℤ) → k ≡ negsuc 0 → ((k *ℤ m) +ℤ n) +ℤ r ≡ pos 0 → n +ℤ r ≡ m
solved_down k m n r unit e = let f : ((negsuc 0 *ℤ m) +ℤ n) +ℤ r ≡ pos 0 = subst (λ i. ((i *ℤ m) +ℤ n) +ℤ r ≡ pos 0) unit e in omega (arith, ints)

-- a value of Int is a number
pub number_value : (v : Value) → IsTrue (is_of int v) → whole (int_of v) ≡ v
number_value (whole n) h = refl
number_value (flag b) h = absurd (cc)
number_value (table d es) h = absurd (cc)

-- a value of Bool that isn't true, and one that is
false_value : (v : Value) → IsTrue (is_of boolean v) → IsTrue (not (holds v)) → v ≡ flag false
false_value (flag true) h e = absurd (cc)
false_value (flag false) h e = refl
false_value (whole n) h e = absurd (cc)
false_value (table d es) h e = absurd (cc)

true_value : (v : Value) → IsTrue (holds v) → v ≡ flag true
true_value (flag true) e = refl
true_value (flag false) e = absurd (cc)
true_value (whole n) e = absurd (cc)
true_value (table d es) e = absurd (cc)

module _ (vars : List Kind) (defs : List Def) (bodies : IsTrue (bodies_sorted vars [] defs)) (frees : List Value) (fit : IsTrue (are_of vars frees)) where
  -- two closed terms have one value
  abbrev Shared : Tree → Tree → Type 0
  Shared t u = (v : Value) × Has defs frees t v × Has defs frees u v

  -- the rest of the sum, and then its opposite, have the value of the atom
  solved_shared : (s : Linear) (t u : Tree) (n : ℤ) → Numbers vars defs s.parts → GivesSum frees (calls_of frees defs) s.parts [] n → n +ℤ s.rest ≡ pos 0 → solved s t ≡ Some u → Shared t u
  solved_shared s t u n numbers gs zero e =
      let p = bind_some (coefficient t s.parts) (λ k. cond (int_eq k (pos 1)) (affine (negsuc 0) (rest_of s t) (pos 0)) (cond (int_eq k (negsuc 0)) (Some (rest_of s t)) None)) u e in
      let number : Sort vars defs t int = coefficient_sort vars defs t s.parts p.0 numbers p.1 in
      let others : Numbers vars defs (without t s.parts) = without_numbers vars defs t s.parts numbers in
      let rest : Sort vars defs (rest_of s t) int = sum_sort vars defs (without t s.parts) s.rest [] others in
      let q = parted frees (calls_of frees defs) t s.parts p.0 n p.1 gs in
      let sum : ((p.0 *ℤ int_of q.0) +ℤ q.1) +ℤ s.rest ≡ pos 0 = ap (λ i. i +ℤ s.rest) (sym q.4) ∙ zero in
      let w : whole (int_of q.0) ≡ q.0 = number_value q.0 (value_sort vars defs bodies frees fit t int q.0 number q.2) in
      let r : Has defs frees (rest_of s t) (whole (q.1 +ℤ s.rest)) = linear_gives vars defs frees (calls_of frees defs) (has_defined frees defs) (keeps_defined frees defs) fit (call_sorts vars defs bodies frees fit) (record { parts = without t s.parts; rest = s.rest }) [] [] (q.1 +ℤ s.rest) others refl (q.1, q.3, refl) in (
        q.0,
        q.2,
        cond_some (λ x. Has defs frees x q.0) (int_eq p.0 (pos 1)) (affine (negsuc 0) (rest_of s t) (pos 0)) (cond (int_eq p.0 (negsuc 0)) (Some (rest_of s t)) None) u p.2
            (λ up a. let unit : p.0 ≡ pos 1 = (Decides-int_eq p.0 (pos 1)).0 up in
            subst (Has defs frees u) (ap whole (solved_up p.0 (int_of q.0) q.1 s.rest unit sum) ∙ w)
            (affine_gives vars defs frees (calls_of frees defs) (has_defined frees defs) (keeps_defined frees defs) fit (call_sorts vars defs bodies frees fit) (negsuc 0) (rest_of s t) (pos 0) u [] [] (whole (q.1 +ℤ s.rest)) rest refl r a))
            (λ _ g. cond_some (λ x. Has defs frees x q.0) (int_eq p.0 (negsuc 0)) (Some (rest_of s t)) None u g
            (λ down a. let unit : p.0 ≡ negsuc 0 = (Decides-int_eq p.0 (negsuc 0)).0 down in
            some_has (λ x. Has defs frees x q.0) (rest_of s t) u a (subst (Has defs frees (rest_of s t)) (ap whole (solved_down p.0 (int_of q.0) q.1 s.rest unit sum) ∙ w) r))
            (λ _ a. absurd (cc))),
      )

  other_side_shared : (a b t u : Tree) (v : Value) → Has defs frees a v → Has defs frees b v → other_side a b t ≡ Some u → Shared t u
  other_side_shared a b t u v ha hb e = cond_some (λ x. Shared t x) (same_term a t) (Some b) (cond (same_term b t) (Some a) None) u e
      (λ s g. some_has (λ x. Shared t x) b u g (v, subst (λ x. Has defs frees x v) (same_is_equal a t s) ha, hb))
      (λ _ g. cond_some (λ x. Shared t x) (same_term b t) (Some a) None u g
      (λ s f. some_has (λ x. Shared t x) a u f (v, subst (λ x. Has defs frees x v) (same_is_equal b t s) hb, ha))
      (λ _ f. absurd (cc)))

  itself_shared : (g t u : Tree) → Has defs frees g (flag true) → cond (same_term g t) (Some (truth true)) None ≡ Some u → Shared t u
  itself_shared g t u h e = cond_some (λ x. Shared t x) (same_term g t) (Some (truth true)) None u e
      (λ s f. some_has (λ x. Shared t x) (truth true) u f (flag true, subst (λ x. Has defs frees x (flag true)) (same_is_equal g t s) h, refl))
      (λ _ f. absurd (cc))

  by_truth_shared : (g t u : Tree) → Sort vars defs g boolean → Has defs frees g (flag true) → by_truth g t ≡ Some u → Shared t u
  by_truth_shared (negation a) t u sg h e = cond_some (λ x. Shared t x) (same_term a t) (Some (truth false)) (cond (same_term (negation a) t) (Some (truth true)) None) u e
      (λ s f. let is_false : h.0 ≡ flag false = false_value h.0 (value_sort vars defs bodies frees fit a boolean h.0 (part_of_negation vars defs a [] boolean sg) h.1) (sym (ap holds h.2)) in
      some_has (λ x. Shared t x) (truth false) u f (flag false, subst (λ x. Has defs frees x (flag false)) (same_is_equal a t s) (subst (Has defs frees a) is_false h.1), refl))
      (λ _ f. itself_shared (negation a) t u h f)
  by_truth_shared g t u sg h e = itself_shared g t u h e

  by_equation_shared : (g t u : Tree) → Sort vars defs g boolean → Has defs frees g (flag true) → by_equation g t ≡ Some u → Shared t u
  by_equation_shared (equal d z) t u sg h e =
      let p = parts_of_equal vars defs d z [] boolean sg in
      let one : h.0 ≡ h.1 = same_equal h.0 h.1 (sym (ap holds h.4)) in
      cond_some (λ x. Shared t x) (is_zero z) (solved (sum_of d) t) (other_side d z t) u e
      (λ zero g. let is_number : z ≡ num (pos 0) = zero_found z zero in
      let number : p.0 ≡ int = (let a : Sort vars defs (num (pos 0)) p.0 = subst (λ x. Sort vars defs x p.0) is_number p.2 in cc) in
      let at_zero : h.1 ≡ whole (pos 0) = subst (λ x. Has defs frees x h.1) is_number h.3 in
      let sum = zero_sum frees (calls_of frees defs) d h.0 h.2 (one ∙ at_zero) in
      solved_shared (sum_of d) t u sum.0 (sum_numbers vars defs d (subst (Sort vars defs d) number p.1)) sum.1 sum.2 g)
      (λ _ g. other_side_shared d z t u h.0 h.2 (subst (Has defs frees z) (sym one) h.3) g)
  by_equation_shared g t u sg h e = absurd (cc)

  -- what a fact that holds says a term is equal to has the term's value
  pub said_value : (g t u : Tree) → Sort vars defs g boolean → HoldsIn defs frees g → says g t ≡ Some u → Same (Of defs frees t) (Of defs frees u)
  said_value g t u sg holds_g e = same_by_value defs frees t u (λ go. has_one defs frees g (λ v h.
      let is_true : v ≡ flag true = true_value v (value_holds defs frees g v h holds_g) in
      let true_g : Has defs frees g (flag true) = subst (Has defs frees g) is_true h in
      let one = or_else_has (λ x. Shared t x) (by_equation g t) (by_truth g t) u e (by_equation_shared g t u sg true_g) (by_truth_shared g t u sg true_g) in
      go one.0 one.1 one.2))

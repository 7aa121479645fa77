-- As many proofs as cases, and what the cases of a split decide.
use Rattle.std.proofs.Common.{◌≡◌, ◌≢◌, ◌∙◌, refl, sym, ℕ, true, false, arith, Option, Some, None, List, [], ◌∷◌, length, map}
use Rattle.std.specs.Prelude.{nat_eq, Result, Ok}
use Rattle.logic_core.specs.Tree.{Tree}
use Rattle.logic_core.specs.Def.{Def}
use Rattle.proof_core.specs.Proof.{Proof, Proofs, by_cases}
use Rattle.proof_core.specs.View.{proofs_of}
use Rattle.proof_core.specs.Context.{Context, with_fact}
use Rattle.proof_core.specs.Ends.{after_cases}
use Rattle.proof_core.specs.Verdict.{next, for_each, number_of, judged, judged_end, judged_each}
use Rattle.proof_check.specs.declared.fault.CheckFault.{CheckFault}
use Rattle.proof_check.specs.Checked.{JudgesAs}

-- the numbers of proofs and of cases
number_of_proofs : (ps : List Proof) → number_of (proofs_of ps) ≡ length ps
number_of_proofs [] = refl
number_of_proofs (p ∷ ps) = let e = number_of_proofs ps in omega arith

number_of_cases : (c : Context) (ts : List Tree) → length (map (λ t. with_fact c t) ts) ≡ length ts
number_of_cases c [] = refl
number_of_cases c (t ∷ ts) = let e = number_of_cases c ts in omega arith

same_number : (m n : ℕ) → m ≡ n → nat_eq m n ≡ true
same_number m n h = grind arith

other_number : (m n : ℕ) → m ≢ n → nat_eq m n ≡ false
other_number m n h = grind arith

-- there is a proof for each case
pub counted : (c : Context) (first : Tree) (others : List Tree) (ps : List Proof) (o : Option (Context × List Context)) → o ≡ Some (with_fact c first, map (λ t. with_fact c t) others) → length others ≡ length ps → for_each (proofs_of ps) o ≡ o
counted c first others ps o h same = rw (h, same_number _ _ (number_of_cases c others ∙ same ∙ sym (number_of_proofs ps))) refl

-- there isn't
pub miscounted : (c : Context) (first : Tree) (others : List Tree) (ps : List Proof) (o : Option (Context × List Context)) → o ≡ Some (with_fact c first, map (λ t. with_fact c t) others) → length others ≢ length ps → for_each (proofs_of ps) o ≡ None
miscounted c first others ps o h other = rw (h, other_number _ _ (λ e. other (sym (number_of_cases c others) ∙ e ∙ number_of_proofs ps))) refl

-- the first case is accepted, and the others decide
pub cases_judged : {A : Type 0} (seen : A → ℕ) (result : Result A CheckFault) (defs : List Def) (n m : ℕ) (c d : Context) (ds : List Context) (f : ℕ) (p : Proof) (ps : Proofs) → for_each ps (after_cases defs c f) ≡ Some (d, ds) → judged defs (next n) d p ≡ Ok m → JudgesAs seen result (judged_each defs m ds ps) → JudgesAs seen result (judged_end defs n c (by_cases f p ps))
cases_judged seen result defs n m c d ds f p ps given first others = rw (given, first) others

-- Facts in which a term isn't replaced.
use Rattle.std.proofs.Common.{◌≡◌, refl, sym, ap, ◌∙◌, ℕ, ◌+◌, ◌<◌, nat_eq, Bool, true, false, not, ◌&&◌, Option, Some, None, List, [], length, slice_get}
use Rattle.std.specs.List.{list_any}
use Rattle.logic_core.specs.Tree.{Kind, Tree}
use Rattle.logic_core.specs.Def.{Def}
use Rattle.logic_core.specs.Wide.{◌>>=◌}
use Rattle.logic_core.specs.Normal.{normal}
use Rattle.logic_core.specs.Subterm.{occurs, replaced}
use Rattle.logic_core.proofs.Booleans.{and_false, both_true}
use Rattle.proof_core.specs.Proof.{Step}
use Rattle.term_bank.specs.Numbered.{at}
use Rattle.tableau_branch.specs.Branch.{Fact}
use Rattle.tableau_branch.specs.Replacing.{picks_on, node_on, replaced_in}
use Rattle.tableau_branch.specs.declared.changing.Ground.{Ground}
use Rattle.tableau_branch.specs.declared.changing.Ground.TheVariants as ground
use Rattle.numbered_terms.specs.Stored.{Numbered}
use Rattle.numbered_facts.specs.Atoms.{is_atom, AreAtomsIn}
use Rattle.numbered_facts.proofs.Growing.{same}
use Rattle.numbered_branches.specs.Branches.{NumberedFact, NumberedMade, fact_at, IsMadeOver}
use Rattle.numbered_branches.specs.Replacing.{is_access, is_plain, IsReplacing, changed_on}
use Rattle.numbered_branches.specs.declared.replacing.Replacing.{Replacing}
use Rattle.numbered_branches.proofs.Replaced.{over_vars, changed_not}

-- what isn't so
is_not : (b : Bool) → not b ≡ true → b ≡ false
is_not true h = absurd (cc)
is_not false h = refl

-- an atom that isn't among those in a term doesn't occur there
pub known_absent : (ts : List Tree) (atom id : ℕ) (is : List ℕ) (b few : Bool) → atom < length ts → is_atom (at ts atom) ≡ true → AreAtomsIn ts id is → b ≡ (few && not (list_any (nat_eq atom) is)) → b ≡ true → occurs (at ts atom) (at ts id) ≡ false
known_absent ts atom id is b few l kind atoms e t =
    sym (ap (λ c. c && occurs (at ts atom) (at ts id)) kind) ∙ sym (atoms.are atom l)
    ∙ is_not (list_any (nat_eq atom) is) (both_true few (not (list_any (nat_eq atom) is)) (sym e ∙ t)).1

pub plain_atom : (ts : List Tree) (r : Replacing) → is_plain ts r ≡ true → (is_access r.ground ≡ false) × (is_atom (at ts r.left) ≡ true)
plain_atom ts r e = let both = both_true (not (is_access r.ground)) (is_atom (at ts r.left)) e in (is_not (is_access r.ground) both.0, both.1)

-- what doesn't occur in a fact isn't replaced there
unpicked : (g : Ground) (l : Tree) (f : Fact) → is_access g ≡ false → occurs l f.term ≡ false → picks_on g l f ≡ false
unpicked (ground.Fact n) l f h e = ap (λ b. not (nat_eq n f.number) && b) e ∙ and_false (not (nat_eq n f.number))
unpicked (ground.Equation n) l f h e = e
unpicked ground.Access l f h e = absurd (cc)

not_replaced : (defs : List Def) (g : Ground) (l r : Tree) (vars : List Kind) (f : Fact) → picks_on g l f ≡ false → replaced_in defs g l r vars f ≡ Some None
not_replaced defs g l r vars f e = let o : Option Tree = normal vars defs [] (replaced l r f.term) in let s : Step = node_on g l f in
    ap (λ b. elim b [ false ↦ Some None | true ↦ (o >>= λ t. Some (Some (s, t))) ]) e

pub passed : (n : Numbered) (r : Replacing) → IsReplacing n.terms r → (made : NumberedMade) → IsMadeOver n.terms made → (place : ℕ) (f : NumberedFact) → slice_get made.branch.facts place ≡ Some f → n.vars ≡ made.branch.vars
    → is_plain n.terms r ≡ true → occurs (at n.terms r.left) (at n.terms f.term) ≡ false → changed_on n r made (place + 1) ≡ changed_on n r made place
passed n r h made over place f got vars plain absent = changed_not n r h made over place f got n (same n)
    (over_vars n r f made.branch.vars (Some None) vars (not_replaced n.defs r.ground (at n.terms r.left) (at n.terms r.right) n.vars (fact_at n.terms f) (unpicked r.ground (at n.terms r.left) (fact_at n.terms f) (plain_atom n.terms r plain).0 absent)))

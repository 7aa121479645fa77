-- The branches of the rule past, by number, in a store that grows.
use Rattle.std.proofs.Common.{◌≡◌, sym, ap, subst, ◌∙◌, ℕ, ◌<◌, Option, Some, None, List, [], ◌∷◌, length}
use Rattle.logic_core.specs.Tree.{Tree, Kind, read}
use Rattle.logic_core.specs.Def.{Def}
use Rattle.logic_core.specs.Normal.{normal}
use Rattle.logic_core.specs.Subterm.{occurs, replaced}
use Rattle.logic_core.specs.Wide.{◌>>=◌}
use Rattle.proof_core.specs.Proof.{by_replace}
use Rattle.proof_core.specs.Says.{says}
use Rattle.proof_core.specs.Maps.{Access, access, distance, before_write, below_zero, at_zero, above_zero}
use Rattle.tableau_branch.specs.Branch.{Branch, context_of}
use Rattle.tableau_branch.specs.Change.{Made, changed_each}
use Rattle.tableau_branch.specs.Move as move
use Rattle.tableau_branch.specs.Replacing.{replaced_each}
use Rattle.tableau_branch.specs.declared.changing.Ground.TheVariants as ground
use Rattle.term_bank.specs.Numbered.{at}
use Rattle.theory_rules.specs.Past.{replaced_by, passed, three_passed, past_by}
use Rattle.theory_rules.specs.PassBegun.{pass_forms, pass_begun}
use Rattle.theory_rules.proofs.Given.{passes, passes_not, passes_three}
use Rattle.numbered_terms.specs.Stored.{Numbered, Grows}
use Rattle.numbered_branches.specs.Branches.{NumberedFact, NumberedBranch, NumberedMade, fact_at, branch_at, made_at, IsBranchOver, IsMadeOver}
use Rattle.numbered_branches.specs.Moves as moves
use Rattle.numbered_branches.specs.Moves.{IsMoveOver, move_at}
use Rattle.numbered_branches.proofs.Changing.{branch_more, made_more}
use Rattle.numbered_theory.specs.Places.{over}
use Rattle.numbered_theory.specs.Reads.{access_at, IsAccessBelow}
use Rattle.numbered_theory.specs.declared.reads.Written.{Written}
use Rattle.numbered_facts.proofs.Growing.{then}
use Rattle.numbered_branches.proofs.Growing.{stays, below}

-- over the variables of the branch
forms_in : (n : Numbered) (code : NumberedBranch) (t way u : Tree) (o : Option (Tree × Tree)) → n.vars ≡ code.vars → pass_forms n.defs (over n.vars) t way u ≡ o → pass_forms n.defs (branch_at n.terms code) t way u ≡ o
forms_in n code t way u o vars h = ap (λ (vs : List Kind). pass_forms n.defs (over vs) t way u) (sym vars) ∙ h

-- a form leaves 128 bits
pub pass_none : (n : Numbered) (code : NumberedBranch) (t way u : Tree) → n.vars ≡ code.vars → pass_forms n.defs (over n.vars) t way u ≡ None → passed n.defs (branch_at n.terms code) t way u ≡ None
pass_none n code t way u vars h = passes_not n.defs (branch_at n.terms code) t way u (forms_in n code t way u None vars h)

-- the branch is begun, and the Read is replaced in it
pub pass_done : (n m v : Numbered) → Grows n m → Grows m v → (code : NumberedBranch) → IsBranchOver n.terms code → n.vars ≡ code.vars → (a way said l e : ℕ) → a < length n.terms → (made : NumberedMade) (fact : NumberedFact)
    → pass_forms n.defs (over n.vars) (at n.terms a) (at n.terms way) (at n.terms said) ≡ Some (at m.terms l, at m.terms e)
    → made_at v.terms made ≡ (pass_begun (at m.terms l) (at m.terms e) (branch_at m.terms code)).0
    → fact_at v.terms fact ≡ (pass_begun (at m.terms l) (at m.terms e) (branch_at m.terms code)).1
    → replaced_by v.defs (branch_at v.terms made.branch) (at v.terms a) (fact_at v.terms fact) (made_at v.terms made) ≡ passed n.defs (branch_at n.terms code) (at n.terms a) (at n.terms way) (at n.terms said)
pass_done n m v g d code h vars a way said l e low made fact forms is_made is_fact =
    let b = branch_at n.terms code in let t = at n.terms a in let far = then n m v g d in
    let L = at m.terms l in let E = at m.terms e in
    let same : branch_at m.terms code ≡ b = (branch_more n.terms m.terms g.terms code h).1 in
    let here : replaced_by v.defs (branch_at v.terms made.branch) (at v.terms a) (fact_at v.terms fact) (made_at v.terms made) ≡ replaced_by n.defs (branch_at v.terms made.branch) t (fact_at v.terms fact) (made_at v.terms made) =
    λ k. replaced_by (far.defs k) (branch_at v.terms made.branch) (stays n v a far low k) (fact_at v.terms fact) (made_at v.terms made) in
    here ∙ sym (passes n.defs b t (at n.terms way) (at n.terms said) L E (made_at v.terms made) (fact_at v.terms fact) (forms_in n code t (at n.terms way) (at n.terms said) (Some (L, E)) vars forms)
    (is_made ∙ ap (λ (c : Branch). (pass_begun L E c).0) same) (is_fact ∙ ap (λ (c : Branch). (pass_begun L E c).1) same))

-- one of the three branches, over the terms before
pub pass_before : (n m : Numbered) → Grows n m → (code copy : NumberedBranch) → copy ≡ code → IsBranchOver n.terms code → (a w s : ℕ) (way : Tree) → a < length n.terms → s < length n.terms → at m.terms w ≡ way
    → passed m.defs (branch_at m.terms copy) (at m.terms a) (at m.terms w) (at m.terms s) ≡ passed n.defs (branch_at n.terms code) (at n.terms a) way (at n.terms s)
pass_before n m g code copy is h a w s way low lower e =
    ap (λ (c : NumberedBranch). passed m.defs (branch_at m.terms c) (at m.terms a) (at m.terms w) (at m.terms s)) is
    ∙ (λ k. passed (g.defs k) ((branch_more n.terms m.terms g.terms code h).1 k) (stays n m a g low k) (e k) (stays n m s g lower k))

-- the Read replaced by what an equation says, over the terms before
pub replaced_is : (n m : Numbered) → Grows n m → (made : NumberedMade) → IsMadeOver n.terms made → (a t number s : ℕ) (e : NumberedFact) (o : Option Made) → a < length n.terms → record { term = t; number = number } ≡ e → says (at n.terms t) (at n.terms a) ≡ Some (at m.terms s)
    → replaced_each m.defs (ground.Equation number) (at m.terms a) (at m.terms s) (made_at m.terms made) ≡ o → replaced_by n.defs (branch_at n.terms made.branch) (at n.terms a) (fact_at n.terms e) (made_at n.terms made) ≡ o
replaced_is n m g made h a t number s e o low is said done =
    let r = at n.terms a in let u = at m.terms s in let M = made_at n.terms made in
    let one : replaced_by n.defs (branch_at n.terms made.branch) r (fact_at n.terms (record { term = t; number = number })) M ≡ replaced_each n.defs (ground.Equation number) r u M =
    ap (λ (p : Option Tree). p >>= λ w. changed_each (λ f. occurs r f.term) (λ x. normal made.branch.vars n.defs [] (replaced r w x)) (λ f. by_replace f.number number r) M) said in
    let here : replaced_each m.defs (ground.Equation number) (at m.terms a) u (made_at m.terms made) ≡ replaced_each n.defs (ground.Equation number) r u M =
    λ k. replaced_each (g.defs k) (ground.Equation number) (stays n m a g low k) u ((made_more n.terms m.terms g.terms made h).1 k) in
    subst (λ (f : NumberedFact). replaced_by n.defs (branch_at n.terms made.branch) r (fact_at n.terms f) M ≡ o) is (one ∙ sym here ∙ done)

-- and over the terms at all
pub pass_later : (n m : Numbered) → Grows n m → (code : NumberedBranch) → IsBranchOver n.terms code → (way : Tree → Tree) (a d s : ℕ) → a < length n.terms → d < length n.terms → s < length n.terms
    → passed m.defs (branch_at m.terms code) (at m.terms a) (way (at m.terms d)) (at m.terms s) ≡ passed n.defs (branch_at n.terms code) (at n.terms a) (way (at n.terms d)) (at n.terms s)
pass_later n m g code h way a d s low_a low_d low_s = λ k. passed (g.defs k) ((branch_more n.terms m.terms g.terms code h).1 k) (stays n m a g low_a k) (way (stays n m d g low_d k)) (stays n m s g low_s k)

module _ (defs : List Def) (b : Branch) (t d before v : Tree) where
  pub below_none : passed defs b t (below_zero d) before ≡ None → three_passed defs b t d before v ≡ None
  below_none h = rw h

  pub same_none : (x : Made) → passed defs b t (below_zero d) before ≡ Some x → passed defs b t (at_zero d) v ≡ None → three_passed defs b t d before v ≡ None
  same_none x h k = rw (h, k)

  pub above_none : (x y : Made) → passed defs b t (below_zero d) before ≡ Some x → passed defs b t (at_zero d) v ≡ Some y → passed defs b t (above_zero d) before ≡ None → three_passed defs b t d before v ≡ None
  above_none x y h k l = rw (h, k, l)

-- the three branches in the last store
pub three_done : (n u w v : Numbered) → Grows n u → Grows u w → Grows w v → (b : Branch) (a : ℕ) (d before value : Tree) → a < length n.terms → (x y z : NumberedMade) (ms : List NumberedMade) → ms ≡ x ∷ y ∷ z ∷ []
    → IsMadeOver u.terms x → IsMadeOver w.terms y → IsMadeOver v.terms z
    → passed n.defs b (at n.terms a) (below_zero d) before ≡ Some (made_at u.terms x) → passed n.defs b (at n.terms a) (at_zero d) value ≡ Some (made_at w.terms y) → passed n.defs b (at n.terms a) (above_zero d) before ≡ Some (made_at v.terms z)
    → IsMoveOver v.terms (record { ending = moves.passes a; made = ms }) × (three_passed n.defs b (at n.terms a) d before value ≡ Some (move_at v.terms (record { ending = moves.passes a; made = ms })))
three_done n u w v g h k b a d before value low x y z ms is over_x over_y over_z is_x is_y is_z =
    let far = then n u v g (then u w v h k) in
    let p = made_more u.terms v.terms (then u w v h k).terms x over_x in let q = made_more w.terms v.terms k.terms y over_y in
    subst (λ (ns : List NumberedMade). IsMoveOver v.terms (record { ending = moves.passes a; made = ns }) × (three_passed n.defs b (at n.terms a) d before value ≡ Some (move_at v.terms (record { ending = moves.passes a; made = ns })))) (sym is) (
      record { ending = below n v a far low; made = (p.0, (q.0, (over_z, tt))) },
      passes_three n.defs b (at n.terms a) d before value (made_at u.terms x) (made_at w.terms y) (made_at v.terms z) is_x is_y is_z
          ∙ (λ j. Some (record { ending = move.passes (sym (stays n v a far low) j); made = sym p.1 j ∷ sym q.1 j ∷ made_at v.terms z ∷ [] })),
    )

-- the rule of the parts of a Read of a Write
pub past_done : (n m w : Numbered) → Grows n m → Grows m w → (code : NumberedBranch) → IsBranchOver n.terms code → n.vars ≡ code.vars → (id : ℕ) → id < length n.terms → (a : Written) → IsAccessBelow (length n.terms) a → access (at n.terms id) ≡ Some (access_at n.terms a)
    → (d before : ℕ) → d < length m.terms → distance n.defs (context_of (over n.vars)) (access_at n.terms a) ≡ Some (at m.terms d) → at w.terms before ≡ read (at m.terms a.table) (at m.terms a.index)
    → three_passed w.defs (branch_at w.terms code) (at w.terms id) (at w.terms d) (at w.terms before) (at w.terms a.value) ≡ past_by n.defs (branch_at n.terms code) (at n.terms id)
past_done n m w g h code is_over vars id low a parts is d before low_d dist is_before =
    let b = branch_at n.terms code in let t = at n.terms id in let A = access_at n.terms a in let far = then n m w g h in
    let same : branch_at w.terms code ≡ b = (branch_more n.terms w.terms far.terms code is_over).1 in
    let made : at w.terms before ≡ before_write A = is_before ∙ (λ j. read (stays n m a.table g parts.table j) (stays n m a.index g parts.index j)) in
    let here : three_passed w.defs (branch_at w.terms code) (at w.terms id) (at w.terms d) (at w.terms before) (at w.terms a.value) ≡ three_passed n.defs b t (at m.terms d) (before_write A) A.value =
    λ k. three_passed (far.defs k) (same k) (stays n w id far low k) (stays m w d h low_d k) (made k) (stays n w a.value far parts.value k) in
    let apart : distance n.defs (context_of b) A ≡ Some (at m.terms d) = ap (λ (vs : List Kind). distance n.defs (context_of (over vs)) A) (sym vars) ∙ dist in
    here ∙ sym (ap (λ (o : Option Access). o >>= λ x. distance n.defs (context_of b) x >>= λ y. three_passed n.defs b t y (before_write x) x.value) is
    ∙ ap (λ (o : Option Tree). o >>= λ y. three_passed n.defs b t y (before_write A) A.value) apart)

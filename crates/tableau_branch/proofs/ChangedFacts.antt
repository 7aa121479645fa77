-- Facts that are changed one after another, one fact on.
use Rattle.std.specs.Prelude.{◌≡◌, refl, ℕ, ◌+◌, take, drop, Bool, true, false, Option, Some, None, Result, Ok, Err, IfErr, List, [], ◌∷◌, ◌++◌}
use Rattle.std.proofs.Common.{ap, sym, ◌∙◌}
use Rattle.std.specs.Result.{IsErrAnd}
use Rattle.logic_core.specs.declared.fault.NormalFault.{NormalFault}
use Rattle.logic_core.specs.declared.fault.NormalFault.TheVariants.{Wide}
use Rattle.logic_core.specs.Tree.{Tree}
use Rattle.logic_core.specs.Wide.{◌>>=◌}
use Rattle.logic_core.specs.Def.{Def}
use Rattle.logic_core.specs.Normal.{normal}
use Rattle.logic_core.specs.Subterm.{replaced}
use Rattle.proof_core.specs.Proof.{Step}
use Rattle.tableau_branch.specs.Branch.{Fact, with_facts}
use Rattle.tableau_branch.specs.Change.{Made, appended_one, kept, changed_at, emptied, with_size, changed_from, changed_each}
use Rattle.tableau_branch.specs.Replacing.{picks_on, node_on, replaced_in, replaced_from}
use Rattle.tableau_branch.specs.declared.changing.Ground.{Ground}

module _ (picks : Fact → Bool) (new : Tree → Option Tree) (node : Fact → Step) (done : List Fact) (f : Fact) (fs : List Fact) (m : Made) where
  -- the fact changed to t
  abbrev pub changed_on : Tree → Option Made
  changed_on t = let p = appended_one (node f ∷ []) t m in
      changed_from picks new node (kept done p.0 fs) fs (record { branch = (p.1).branch; steps = (p.1).steps; size = with_size (p.1).size (p.0).term })

  abbrev one_on : Bool → Option Tree → Option Made
  one_on b o = elim b [ false ↦ changed_from picks new node (done ++ f ∷ []) fs m | true ↦ (o >>= changed_on) ]

  pub passes : picks f ≡ false → changed_from picks new node done (f ∷ fs) m ≡ changed_from picks new node (done ++ f ∷ []) fs m
  passes h = ap (λ b. one_on b (new f.term)) h

  pub changes : (t : Tree) → picks f ≡ true → new f.term ≡ Some t → changed_from picks new node done (f ∷ fs) m ≡ changed_on t
  changes t h e = ap (λ b. one_on b (new f.term)) h ∙ ap (one_on true) e

  pub changes_not : picks f ≡ true → new f.term ≡ None → changed_from picks new node done (f ∷ fs) m ≡ None
  changes_not h e = ap (λ b. one_on b (new f.term)) h ∙ ap (one_on true) e

-- the seen calls, the marks and the variables stay as they are
module _ (picks : Fact → Bool) (new : Tree → Option Tree) (node : Fact → Step) where
  abbrev pub KeepsRest : Made → Made → Type 0
  KeepsRest m n = (n.branch.calls ≡ m.branch.calls) × (n.branch.marks ≡ m.branch.marks) × (n.branch.vars ≡ m.branch.vars)

  rest_from : (done fs : List Fact) (m n : Made) → changed_from picks new node done fs m ≡ Some n → KeepsRest m n
  rest_from done [] m n h = let is_n : record { branch = with_facts m.branch done; steps = m.steps; size = m.size } ≡ n = cc in
      (sym (ap (λ (x : Made). x.branch.calls) is_n), sym (ap (λ (x : Made). x.branch.marks) is_n), sym (ap (λ (x : Made). x.branch.vars) is_n))
  rest_from done (f ∷ fs) m n h = at_pick (λ g x k. rest_from g fs x n k) (picks f) refl
    where
      at_new : ((g : List Fact) (x : Made) → changed_from picks new node g fs x ≡ Some n → KeepsRest x n) → picks f ≡ true → (o : Option Tree) → new f.term ≡ o → KeepsRest m n
      at_new rest e None k = absurd (let no : None ≡ Some n = sym (changes_not picks new node done f fs m e k) ∙ h in cc)
      at_new rest e (Some t) k = let p = appended_one (node f ∷ []) t m in
          rest (kept done p.0 fs) (record { branch = (p.1).branch; steps = (p.1).steps; size = with_size (p.1).size (p.0).term }) (sym (changes picks new node done f fs m t e k) ∙ h)

      at_pick : ((g : List Fact) (x : Made) → changed_from picks new node g fs x ≡ Some n → KeepsRest x n) → (b : Bool) → picks f ≡ b → KeepsRest m n
      at_pick rest false e = rest (done ++ f ∷ []) m (sym (passes picks new node done f fs m e) ∙ h)
      at_pick rest true e = at_new rest e (new f.term) refl

  pub keeps_rest : (m n : Made) → changed_each picks new node m ≡ Some n → KeepsRest m n
  keeps_rest m n h = rest_from [] m.branch.facts (emptied m) n h

-- the same fault is returned
pub wide_err : {A B : Type 0} (r : Result A NormalFault) (e : NormalFault) (o : Option B) → IsErrAnd r (λ d. d ≡ e) → (e ≡ Wide → o ≡ None) → IfErr r (λ d. d ≡ Wide → o ≡ None)
wide_err (Ok a) e o h none = tt
wide_err (Err d) e o h none = λ wide. none (let w : e ≡ Wide = cc in w)

-- the pair, where there is one
abbrev pair_or : Step × Tree → Option (Option (Step × Tree)) → Step × Tree
pair_or p (Some (Some q)) = q
pair_or p o = p

-- how a fact is changed, by whether it is picked and by its new normal form
module _ (node : Step) where
  abbrev change_by : Bool → Option Tree → Option (Option (Step × Tree))
  change_by b o = elim b [ false ↦ Some None | true ↦ (o >>= λ t. Some (Some (node, t))) ]

  picked : (b : Bool) (o : Option Tree) (s : Step) (t : Tree) → change_by b o ≡ Some (Some (s, t)) → (b ≡ true) × (o ≡ Some t) × (s ≡ node)
  picked false o s t h = absurd (cc)
  picked true None s t h = absurd (cc)
  picked true (Some u) s t h = let e : (node, u) ≡ (s, t) = ap (pair_or (s, t)) h in (refl, ap (λ (p : Step × Tree). Some p.1) e, sym (ap (λ (p : Step × Tree). p.0) e))

  passed : (b : Bool) (o : Option Tree) → change_by b o ≡ Some None → b ≡ false
  passed false o h = refl
  passed true None h = absurd (cc)
  passed true (Some u) h = absurd (cc)

  left : (b : Bool) (o : Option Tree) → change_by b o ≡ None → (b ≡ true) × (o ≡ None)
  left false o h = absurd (cc)
  left true None h = (refl, refl)
  left true (Some u) h = absurd (cc)

module _ (defs : List Def) (ground : Ground) (l r : Tree) where
  -- the fact at this place is changed, and the code goes on at the next one
  pub replaced_on : (old made : Made) (at k : ℕ) (f : Fact) (t : Tree)
      → drop at old.branch.facts ≡ f ∷ drop (at + 1) old.branch.facts → picks_on ground l f ≡ true → normal old.branch.vars defs [] (replaced l r f.term) ≡ Some t
      → take k made.branch.facts ≡ kept (take at old.branch.facts) (appended_one (node_on ground l f ∷ []) t old).0 (drop (at + 1) old.branch.facts)
      → drop k made.branch.facts ≡ drop (at + 1) old.branch.facts
      → made ≡ (let p = appended_one (node_on ground l f ∷ []) t old in changed_at at p.0 p.1)
      → replaced_from defs ground l r made k ≡ replaced_from defs ground l r old at
  replaced_on old made at k f t rest picks form before behind is_made =
      let P = picks_on ground l in
      let N : Made → Tree → Option Tree = λ m u. normal m.branch.vars defs [] (replaced l r u) in
      let S : Fact → Step = node_on ground l in
      let done = take at old.branch.facts in
      let later = drop (at + 1) old.branch.facts in
      let next = kept done (appended_one (node_on ground l f ∷ []) t old).0 later in
      ap (λ fs. changed_from P (N made) S fs (drop k made.branch.facts) (emptied made)) before
      ∙ ap (λ fs. changed_from P (N made) S next fs (emptied made)) behind
      ∙ ap (λ (m : Made). changed_from P (N m) S next later (emptied m)) is_made
      ∙ sym (ap (λ fs. changed_from P (N old) S done fs (emptied old)) rest ∙ changes P (N old) S done f later (emptied old) t picks form)

  -- the same by the node, the fact and what is made of it as the code names them
  pub replaced_by : (old more made : Made) (at k : ℕ) (f : Fact) (t : Tree) (s : Step) (g : Fact)
      → drop at old.branch.facts ≡ f ∷ drop (at + 1) old.branch.facts → replaced_in defs ground l r old.branch.vars f ≡ Some (Some (s, t))
      → g ≡ (appended_one (s ∷ []) t old).0 → more ≡ (appended_one (s ∷ []) t old).1
      → take k made.branch.facts ≡ kept (take at more.branch.facts) g (drop (at + 1) more.branch.facts)
      → drop k made.branch.facts ≡ drop (at + 1) more.branch.facts
      → made ≡ changed_at at g more
      → replaced_from defs ground l r made k ≡ replaced_from defs ground l r old at
  replaced_by old more made at k f t s g rest change is_fact is_more before behind is_made =
      let how = picked (node_on ground l f) (picks_on ground l f) (normal old.branch.vars defs [] (replaced l r f.term)) s t change in
      replaced_on old made at k f t rest how.0 how.1
      (before ∙ (λ i. kept (take at (is_more i).branch.facts) (is_fact i) (drop (at + 1) (is_more i).branch.facts)))
      (behind ∙ (λ i. drop (at + 1) (is_more i).branch.facts))
      (is_made ∙ (λ i. changed_at at (is_fact i) (is_more i)) ∙ (λ i. let p = appended_one (how.2 i ∷ []) t old in changed_at at p.0 p.1))

  -- the fact stays
  pub replaced_not : (old : Made) (at : ℕ) (f : Fact) → drop at old.branch.facts ≡ f ∷ drop (at + 1) old.branch.facts → take (at + 1) old.branch.facts ≡ take at old.branch.facts ++ f ∷ []
      → replaced_in defs ground l r old.branch.vars f ≡ Some None → replaced_from defs ground l r old (at + 1) ≡ replaced_from defs ground l r old at
  replaced_not old at f rest done stays =
      let P = picks_on ground l in
      let N : Tree → Option Tree = λ u. normal old.branch.vars defs [] (replaced l r u) in
      let S : Fact → Step = node_on ground l in
      let later = drop (at + 1) old.branch.facts in
      let not : P f ≡ false = passed (node_on ground l f) (P f) (N f.term) stays in
      ap (λ fs. changed_from P N S fs later (emptied old)) done
      ∙ sym (ap (λ fs. changed_from P N S (take at old.branch.facts) fs (emptied old)) rest ∙ passes P N S (take at old.branch.facts) f later (emptied old) not)

  -- its normal form leaves 128 bits
  pub replaced_wide : (old : Made) (at : ℕ) (f : Fact) → drop at old.branch.facts ≡ f ∷ drop (at + 1) old.branch.facts
      → replaced_in defs ground l r old.branch.vars f ≡ None → replaced_from defs ground l r old at ≡ None
  replaced_wide old at f rest leaves =
      let P = picks_on ground l in
      let N : Tree → Option Tree = λ u. normal old.branch.vars defs [] (replaced l r u) in
      let S : Fact → Step = node_on ground l in
      let how = left (node_on ground l f) (P f) (N f.term) leaves in
      ap (λ fs. changed_from P N S (take at old.branch.facts) fs (emptied old)) rest ∙ changes_not P N S (take at old.branch.facts) f (drop (at + 1) old.branch.facts) (emptied old) how.0 how.1

-- Facts, marks and terms of numbers, one after another.
use Rattle.std.proofs.Common.{◌≡◌, refl, sym, ap, subst, ◌∙◌, ℕ, ◌+◌, ◌<◌, List, [], ◌∷◌, ◌++◌, map, length, take, get_or, arith}
use Rattle.std.specs.List.{AllByRecursion}
use Rattle.std.proofs.lemmas.List.{map-append, take_more}
use Rattle.logic_core.specs.Tree.{Kind, Tree, all}
use Rattle.logic_core.specs.View.{trees_of}
use Rattle.logic_core.proofs.EachOf.{every_append}
use Rattle.logic_rules.proofs.Listed.{listed_trees}
use Rattle.proof_core.specs.Proof as proof
use Rattle.proof_core.specs.View.{step_of, steps_of}
use Rattle.proof_core.specs.declared.proof.Step as proofs
use Rattle.term_bank.specs.Numbered.{at, Begins}
use Rattle.term_bank.proofs.Numbers.{begins_then, begins_at, begins_length}
use Rattle.term_bank.proofs.Rows.{trees_listed}
use Rattle.numbered_terms.specs.At.{IsAt}
use Rattle.tableau_branch.specs.Change as change
use Rattle.tableau_branch.specs.Branch as branch
use Rattle.numbered_branches.specs.Branches.{NumberedFact, NumberedMark, NumberedBranch, NumberedStep, NumberedMade, fact_at, mark_at, branch_at, step_at, made_at, terms_in, IsFactBelow, IsStepBelow, IsTuple, IsMarkOver, IsBranchOver, IsMadeOver}
use Rattle.numbered_branches.specs.Moves.{NumberedPlayed, played_at, IsPlayedBelow}
use Rattle.numbered_branches.proofs.Changing.{branch_more, made_more, step_more, step_same}
use Rattle.numbered_branches.proofs.Moving.{played_more}
use Rattle.numbered_facts.specs.Answers.{AreAt}
use Rattle.numbered_branches.specs.Standing.{IsFactAt, AreFactsAt, IsMarkAt, AreMarksAt, IsBranchAt, IsStepAt, AreStepsAt, IsMadeAt, AreMadeAt}
use Rattle.numbered_branches.specs.StepView.{step_seen}
use Rattle.numbered_branches.specs.declared.step.Step.{Step}

-- things over a store that stand for others, as the store grows
module _ {A B : Type 0} (P : List Tree → A → Type 0) (of : List Tree → A → B) (stays : (ts us : List Tree) → Begins ts us → (a : A) → P ts a → P us a × (of us a ≡ of ts a)) where
  abbrev pub Stand : List Tree → List A → List B → Type 0
  Stand ts xs ys = AllByRecursion (P ts) xs × (map (of ts) xs ≡ ys)

  pub all_stay : (ts us : List Tree) → Begins ts us → (xs : List A) → AllByRecursion (P ts) xs → AllByRecursion (P us) xs × (map (of us) xs ≡ map (of ts) xs)
  all_stay ts us b [] h = (tt, refl)
  all_stay ts us b (x ∷ xs) h = let one = stays ts us b x h.0 in let rest = all_stay ts us b xs h.1 in ((one.0, rest.0), λ k. one.1 k ∷ rest.1 k)

  pub stand_on : (ts us : List Tree) (xs : List A) (ys : List B) → Begins ts us → Stand ts xs ys → Stand us xs ys
  stand_on ts us xs ys b h = let r = all_stay ts us b xs h.0 in (r.0, r.1 ∙ h.1)

  -- one more of each
  pub stand_next : (ts us : List Tree) (xs new : List A) (x : A) (ys : List B) (i : ℕ) (y : B) → Begins ts us → i < length ys → y ≡ get_or ys i y → Stand ts xs (take i ys) → P us x → of us x ≡ y → new ≡ xs ++ x ∷ []
      → Stand us new (take (i + 1) ys)
  stand_next ts us xs new x ys i y b l g h p e q = let r = stand_on ts us xs (take i ys) b h in
      subst (λ zs. Stand us zs (take (i + 1) ys)) (sym q) (
        every_append (P us) xs (x ∷ []) r.0 (p, tt),
        map-append (of us) xs (x ∷ []) ∙ (λ k. r.1 k ++ e k ∷ []) ∙ ap (λ z. take i ys ++ z ∷ []) g ∙ sym (take_more ys i y l),
      )

pub fact_stays : (ts us : List Tree) → Begins ts us → (f : NumberedFact) → IsFactBelow (length ts) f → IsFactBelow (length us) f × (fact_at us f ≡ fact_at ts f)
fact_stays ts us b f l = (omega (arith, l, begins_length ts us b), λ k. record { term = begins_at ts us f.term b l k; number = f.number })

pub mark_stays : (ts us : List Tree) → Begins ts us → (m : NumberedMark) → IsMarkOver ts m → IsMarkOver us m × (mark_at us m ≡ mark_at ts m)
mark_stays ts us b m l = (
  (omega (arith, l.0, begins_length ts us b), omega (arith, l.1, begins_length ts us b), subst IsTuple (sym (begins_at ts us m.tuple b l.1)) l.2),
  λ k. record { fact = begins_at ts us m.fact b l.0 k; tuple = terms_in (begins_at ts us m.tuple b l.1 k) },
)

pub term_stays : (ts us : List Tree) → Begins ts us → (i : ℕ) → i < length ts → (i < length us) × (at us i ≡ at ts i)
term_stays ts us b i l = (omega (arith, l, begins_length ts us b), begins_at ts us i b l)

abbrev StepBelow : List Tree → NumberedStep → Type 0
StepBelow ts s = IsStepBelow (length ts) s

step_stays : (ts us : List Tree) → Begins ts us → (s : NumberedStep) → IsStepBelow (length ts) s → IsStepBelow (length us) s × (step_at us s ≡ step_at ts s)
step_stays ts us b s h = (step_more ts us b s h, step_same ts us b s h)

abbrev PlayedBelow : List Tree → NumberedPlayed → Type 0
PlayedBelow ts p = IsPlayedBelow (length ts) p

abbrev Below : List Tree → ℕ → Type 0
Below ts i = i < length ts

abbrev FactBelow : List Tree → NumberedFact → Type 0
FactBelow ts f = IsFactBelow (length ts) f

pub facts_on : (ts us : List Tree) (fs : List NumberedFact) (gs : List branch.Fact) → Begins ts us → AreFactsAt ts fs gs → AreFactsAt us fs gs
facts_on ts us fs gs b h = stand_on FactBelow fact_at fact_stays ts us fs gs b h

pub facts_next : (ts us : List Tree) (fs new : List NumberedFact) (f : NumberedFact) (gs : List branch.Fact) (i : ℕ) (g : branch.Fact) → Begins ts us → i < length gs → g ≡ get_or gs i g → AreFactsAt ts fs (take i gs) → IsFactAt us f g → new ≡ fs ++ f ∷ []
    → AreFactsAt us new (take (i + 1) gs)
facts_next ts us fs new f gs i g b l e h p q = stand_next FactBelow fact_at fact_stays ts us fs new f gs i g b l e h p.0 p.1 q

pub marks_on : (ts us : List Tree) (ms : List NumberedMark) (ns : List branch.Mark) → Begins ts us → AreMarksAt ts ms ns → AreMarksAt us ms ns
marks_on ts us ms ns b h = stand_on IsMarkOver mark_at mark_stays ts us ms ns b h

pub marks_next : (ts us : List Tree) (ms new : List NumberedMark) (m : NumberedMark) (ns : List branch.Mark) (i : ℕ) (n : branch.Mark) → Begins ts us → i < length ns → n ≡ get_or ns i n → AreMarksAt ts ms (take i ns) → IsMarkAt us m n → new ≡ ms ++ m ∷ []
    → AreMarksAt us new (take (i + 1) ns)
marks_next ts us ms new m ns i n b l e h p q = stand_next IsMarkOver mark_at mark_stays ts us ms new m ns i n b l e h p.0 p.1 q

pub terms_on : (ts us : List Tree) (is : List ℕ) (vs : List Tree) → Begins ts us → AreAt ts is vs → AreAt us is vs
terms_on ts us is vs b h = stand_on Below at term_stays ts us is vs b h

pub terms_next : (ts us : List Tree) (is new : List ℕ) (j : ℕ) (vs : List Tree) (i : ℕ) (v : Tree) → Begins ts us → i < length vs → v ≡ get_or vs i v → AreAt ts is (take i vs) → j < length us → at us j ≡ v → new ≡ is ++ j ∷ []
    → AreAt us new (take (i + 1) vs)
terms_next ts us is new j vs i v b l e h p r q = stand_next Below at term_stays ts us is new j vs i v b l e h p r q

pub branches_on : (ts us : List Tree) (bs : List NumberedBranch) → Begins ts us → AllByRecursion (IsBranchOver ts) bs → AllByRecursion (IsBranchOver us) bs × (map (branch_at us) bs ≡ map (branch_at ts) bs)
branches_on ts us bs b h = all_stay IsBranchOver branch_at (λ ts us b c l. branch_more ts us b c l) ts us b bs h

pub played_on : (ts us : List Tree) (ps : List NumberedPlayed) → Begins ts us → AllByRecursion (IsPlayedBelow (length ts)) ps → AllByRecursion (IsPlayedBelow (length us)) ps × (map (played_at us) ps ≡ map (played_at ts) ps)
played_on ts us ps b h = all_stay PlayedBelow played_at (λ ts us b p l. played_more ts us b p l) ts us b ps h

-- a mark: the number of the And of its terms
pub mark_made : (ts us ws : List Tree) → Begins ts us → Begins us ws → (fact id : ℕ) (is : List ℕ) (m : branch.Mark) (t : Tree) (ps qs : List Tree)
    → IsAt ts fact t → AreAt us is ps → IsAt ws id (all (trees_of (map (at us) is))) → record { fact = t; tuple = qs } ≡ m → ps ≡ qs → IsMarkAt ws (record { fact = fact; tuple = id }) m
mark_made ts us ws b d fact id is m t ps qs f h g e q = let c = begins_then ts us ws b d in (
  (omega (arith, f.0, begins_length ts ws c), g.0, subst IsTuple (sym g.1) (ap all (trees_listed (trees_of (map (at us) is))))),
  (λ k. record { fact = begins_at ts ws fact c f.0 k; tuple = terms_in (g.1 k) })
      ∙ (λ k. record { fact = f.1 k; tuple = (listed_trees (map (at us) is) ∙ h.1 ∙ q) k }) ∙ e,
)

-- nodes, one after another
pub steps_on : (ts us : List Tree) (ss : List NumberedStep) (ps : List proof.Step) → Begins ts us → AreStepsAt ts ss ps → AreStepsAt us ss ps
steps_on ts us ss ps b h = stand_on StepBelow step_at step_stays ts us ss ps b h

pub steps_next : (ts us : List Tree) (xs new : List Step) (x : Step) (ys : List proofs.Step) (i : ℕ) (y : proofs.Step) → Begins ts us → i < length ys → y ≡ get_or ys i y
    → AreStepsAt ts (map step_seen xs) (steps_of (take i ys)) → IsStepAt us (step_seen x) (step_of y) → new ≡ xs ++ x ∷ [] → AreStepsAt us (map step_seen new) (steps_of (take (i + 1) ys))
steps_next ts us xs new x ys i y b l e h p q = let r = stand_on StepBelow step_at step_stays ts us (map step_seen xs) (steps_of (take i ys)) b h in
    subst (λ ss. AreStepsAt us ss (steps_of (take (i + 1) ys))) (sym (ap (map step_seen) q ∙ map-append step_seen xs (x ∷ []))) (
      every_append (StepBelow us) (map step_seen xs) (step_seen x ∷ []) r.0 (p.0, tt),
      map-append (step_at us) (map step_seen xs) (step_seen x ∷ []) ∙ (λ k. r.1 k ++ p.1 k ∷ []) ∙ ap (λ z. steps_of (take i ys) ++ step_of z ∷ []) e
          ∙ sym (map-append step_of (take i ys) (get_or ys i y ∷ [])) ∙ ap steps_of (sym (take_more ys i y l)),
    )

-- what steps make, one after another
pub mades_next : (ts us : List Tree) (ms new : List NumberedMade) (m : NumberedMade) (ns : List change.Made) (i : ℕ) (n : change.Made) → Begins ts us → i < length ns → n ≡ get_or ns i n → AreMadeAt ts ms (take i ns) → IsMadeAt us m n → new ≡ ms ++ m ∷ []
    → AreMadeAt us new (take (i + 1) ns)
mades_next ts us ms new m ns i n b l e h p q = stand_next IsMadeOver made_at (λ ts us b m h. made_more ts us b m h) ts us ms new m ns i n b l e h p.0 p.1 q

-- a branch of lists that stand over earlier terms
pub branch_made : (ts us ws : List Tree) → Begins ts us → Begins us ws → (fs : List NumberedFact) (is : List ℕ) (ms : List NumberedMark) (vars : List Kind) (b : branch.Branch)
    → AreFactsAt ts fs b.facts → AreAt us is b.calls → AreMarksAt ws ms b.marks → vars ≡ b.vars → IsBranchAt ws (record { facts = fs; calls = is; marks = ms; vars = vars; next = b.next }) b
branch_made ts us ws f g fs is ms vars b h k m e = let x = facts_on ts ws fs b.facts (begins_then ts us ws f g) h in let y = terms_on us ws is b.calls g k in
    (record { facts = x.0; calls = y.0; marks = m.0 }, λ i. record { facts = x.1 i; calls = y.1 i; marks = m.1 i; vars = e i; next = b.next })

-- the same of a branch that is seen as its lists
pub branch_of : (ts us ws : List Tree) → Begins ts us → Begins us ws → (fs : List NumberedFact) (is : List ℕ) (ms : List NumberedMark) (vars : List Kind) (next : ℕ) (gs hs : List branch.Fact) (vs us' : List Tree) (ns os : List branch.Mark) (kinds kinds' : List Kind) (b : branch.Branch)
    → AreFactsAt ts fs gs → AreAt us is vs → AreMarksAt ws ms ns → vars ≡ kinds → gs ≡ hs → vs ≡ us' → ns ≡ os → kinds ≡ kinds' → record { facts = hs; calls = us'; marks = os; vars = kinds'; next = next } ≡ b
    → IsBranchAt ws (record { facts = fs; calls = is; marks = ms; vars = vars; next = next }) b
branch_of ts us ws f g fs is ms vars next gs hs vs us' ns os kinds kinds' b h k m v p q r t e =
    let c : branch.Branch = record { facts = hs; calls = us'; marks = os; vars = kinds'; next = next } in
    subst (IsBranchAt ws (record { facts = fs; calls = is; marks = ms; vars = vars; next = next })) e (branch_made ts us ws f g fs is ms vars c (h.0, h.1 ∙ p) (k.0, k.1 ∙ q) (m.0, m.1 ∙ r) (v ∙ t))

pub made_made : (ts us : List Tree) → Begins ts us → (b : NumberedBranch) (ss : List NumberedStep) (m : change.Made) → IsBranchAt ts b m.branch → AreStepsAt us ss m.steps → IsMadeAt us (record { branch = b; steps = ss; size = m.size }) m
made_made ts us f b ss m h k = let x = branch_more ts us f b h.0 in (record { branch = x.0; steps = k.0 }, λ i. record { branch = (x.1 ∙ h.1) i; steps = k.1 i; size = m.size })

pub made_of : (ts us : List Tree) → Begins ts us → (b : NumberedBranch) (ss : List NumberedStep) (size : ℕ) (c : branch.Branch) (ps qs : List proof.Step) (m : change.Made)
    → IsBranchAt ts b c → AreStepsAt us ss ps → ps ≡ qs → record { branch = c; steps = qs; size = size } ≡ m → IsMadeAt us (record { branch = b; steps = ss; size = size }) m
made_of ts us f b ss size c ps qs m h k p e = let n : change.Made = record { branch = c; steps = qs; size = size } in
    subst (IsMadeAt us (record { branch = b; steps = ss; size = size })) e (made_made ts us f b ss n h (k.0, k.1 ∙ p))

-- What becomes of a branch and its context by a move: contexts of the branches that it makes, whose proofs make the branch's proof.
use Rattle.std.specs.Prelude.{◌≡◌, refl, ℕ, Some, IsTrue, List, [], ◌∷◌, ◌++◌, length, drop}
use Rattle.std.proofs.Common.{subst}
use Rattle.logic_core.specs.Def.{Def}
use Rattle.logic_core.specs.Tree.{Tree}
use Rattle.proof_core.specs.Proof.{Step, Proof, proof}
use Rattle.proof_core.specs.View.{proofs_of}
use Rattle.proof_core.specs.Context.{Context}
use Rattle.proof_core.specs.Close.{closes}
use Rattle.proof_core.specs.Ends.{after_cases, after_condition, after_past, after_trichotomy}
use Rattle.proof_core.specs.Accepted.{Leads, Refutes, RefuteEach}
use Rattle.proof_core.specs.Soundness.{IsSorted}
use Rattle.proof_core.proofs.Building.{refutes_on, refutes_by_close, refutes_by_cases}
use Rattle.tableau_branch.specs.Branch.{Branch}
use Rattle.tableau_branch.specs.Move.{Ending, goes_on, Move, branches_of, steps_of}
use Rattle.tableau_branch.specs.Move as move
use Rattle.tableau.specs.Search.{begin_with, begin_each, proof_of, chosen_proof, passed_proof, decided_proof}
use Rattle.tableau.proofs.Tracked.{Tracks}

module _ (defs : List Def) where
  -- from each of the contexts its nodes lead to its own
  abbrev pub LeadEach : List Context → List (List Step) → List Context → Type 0
  LeadEach [] [] [] = Unit {0}
  LeadEach (c ∷ cs) (ss ∷ sss) (d ∷ ds) = Leads defs c ss d × LeadEach cs sss ds
  LeadEach cs sss ds = ⊥

  -- by this ending and these nodes the proof of a branch goes on in these contexts
  abbrev pub Goes : Context → Ending → List (List Step) → List Context → Type 0
  Goes c goes_on sss ds = LeadEach (c ∷ []) sss ds
  Goes c (move.closes f g) sss ds = (sss ≡ []) × (ds ≡ []) × IsTrue (closes c f g)
  Goes c (move.forks f) sss ds = (d : Context) × (rest : List Context) × (after_cases defs c f ≡ Some (d, rest)) × LeadEach (d ∷ rest) sss ds
  Goes c (move.chooses f t) sss ds = (d : Context) × (e : Context) × (after_condition defs c f t ≡ Some (d, e)) × LeadEach (d ∷ e ∷ []) sss ds
  Goes c (move.passes t) sss ds = (d : Context) × (e : Context) × (g : Context) × (after_past defs c t ≡ Some (d, e, g)) × LeadEach (d ∷ e ∷ g ∷ []) sss ds
  Goes c (move.decides t) sss ds = (d : Context) × (e : Context) × (g : Context) × (after_trichotomy defs c t ≡ Some (d, e, g)) × LeadEach (d ∷ e ∷ g ∷ []) sss ds

  -- a branch beside a context of formulas
  pub record IsPlaced (b : Branch) (c : Context) : Type 0 where
    pub tracks : Tracks b c
    pub sorted : IsSorted defs c

  abbrev pub ArePlaced : List Branch → List Context → Type 0
  ArePlaced [] [] = Unit {0}
  ArePlaced (b ∷ bs) (c ∷ cs) = IsPlaced b c × ArePlaced bs cs
  ArePlaced [] (c ∷ cs) = ⊥
  ArePlaced (b ∷ bs) [] = ⊥

  pub placed_append : (bs es : List Branch) (cs ds : List Context) → ArePlaced bs cs → ArePlaced es ds → ArePlaced (bs ++ es) (cs ++ ds)
  placed_append [] es [] ds h k = k
  placed_append (b ∷ bs) es (c ∷ cs) ds h k = (h.0, placed_append bs es cs ds h.1 k)
  placed_append [] es (c ∷ cs) ds h k = absurd h
  placed_append (b ∷ bs) es [] ds h k = absurd h

  pub record Outcome (c : Context) (m : Move) : Type 0 where
    pub contexts : List Context
    pub goes : Goes c m.ending (steps_of m.made) contexts
    pub placed : ArePlaced (branches_of m.made) contexts

  -- of proofs that refute contexts one after another
  abbrev pub RefutedBy : List Context → List Proof → Type 0
  RefutedBy cs ps = RefuteEach defs cs (proofs_of ps)

  begun_refutes : (ss : List Step) (p : Proof) (c d : Context) → Leads defs c ss d → Refutes defs d p → Refutes defs c (begin_with ss p)
  begun_refutes ss (proof ts e) c d h r = refutes_on defs ss ts e c d h r

  -- the first proofs, each after its nodes, are those of the children, and the others are left
  each_refuted : (starts : List Context) (sss : List (List Step)) (ds cs : List Context) (ps : List Proof) → LeadEach starts sss ds → RefutedBy (ds ++ cs) ps → RefutedBy starts (begin_each sss ps) × RefutedBy cs (drop (length sss) ps)
  each_refuted [] [] [] cs ps h r = (tt, r)
  each_refuted (c ∷ starts) (ss ∷ sss) (d ∷ ds) cs [] h r = absurd r
  each_refuted (c ∷ starts) (ss ∷ sss) (d ∷ ds) cs (p ∷ ps) h r = let rest = each_refuted starts sss ds cs ps h.1 r.1 in ((begun_refutes ss p c d h.0 r.0, rest.0), rest.1)
  each_refuted [] [] (d ∷ ds) cs ps h r = absurd h
  each_refuted [] (ss ∷ sss) ds cs ps h r = absurd h
  each_refuted (c ∷ starts) [] ds cs ps h r = absurd h
  each_refuted (c ∷ starts) (ss ∷ sss) [] cs ps h r = absurd h

  -- the proof of a node with children, from theirs
  on_one_refutes : (c : Context) (qs : List Proof) → RefutedBy (c ∷ []) qs → Refutes defs c (proof_of goes_on qs)
  on_one_refutes c [] r = absurd r
  on_one_refutes c (q ∷ qs) r = r.0

  forks_refutes : (f : ℕ) (c d : Context) (rest : List Context) (qs : List Proof) → after_cases defs c f ≡ Some (d, rest) → RefutedBy (d ∷ rest) qs → Refutes defs c (proof_of (move.forks f) qs)
  forks_refutes f c d rest [] h r = absurd r
  forks_refutes f c d rest (q ∷ qs) h r = refutes_by_cases defs f q (proofs_of qs) c d rest h r.0 r.1

  chooses_refutes : (f : ℕ) (t : Tree) (c d e : Context) (qs : List Proof) → after_condition defs c f t ≡ Some (d, e) → RefutedBy (d ∷ e ∷ []) qs → Refutes defs c (chosen_proof f t qs)
  chooses_refutes f t c d e [] h r = absurd r
  chooses_refutes f t c d e (p ∷ []) h r = absurd r.1
  chooses_refutes f t c d e (p ∷ q ∷ []) h r = (c, refl, (d, e, h, r.0, r.1.0))
  chooses_refutes f t c d e (p ∷ q ∷ x ∷ xs) h r = absurd r.1.1

  passes_refutes : (t : Tree) (c d e g : Context) (qs : List Proof) → after_past defs c t ≡ Some (d, e, g) → RefutedBy (d ∷ e ∷ g ∷ []) qs → Refutes defs c (passed_proof t qs)
  passes_refutes t c d e g [] h r = absurd r
  passes_refutes t c d e g (p ∷ []) h r = absurd r.1
  passes_refutes t c d e g (p ∷ q ∷ []) h r = absurd r.1.1
  passes_refutes t c d e g (p ∷ q ∷ x ∷ []) h r = (c, refl, (d, e, g, h, r.0, r.1.0, r.1.1.0))
  passes_refutes t c d e g (p ∷ q ∷ x ∷ y ∷ ys) h r = absurd r.1.1.1

  decides_refutes : (t : Tree) (c d e g : Context) (qs : List Proof) → after_trichotomy defs c t ≡ Some (d, e, g) → RefutedBy (d ∷ e ∷ g ∷ []) qs → Refutes defs c (decided_proof t qs)
  decides_refutes t c d e g [] h r = absurd r
  decides_refutes t c d e g (p ∷ []) h r = absurd r.1
  decides_refutes t c d e g (p ∷ q ∷ []) h r = absurd r.1.1
  decides_refutes t c d e g (p ∷ q ∷ x ∷ []) h r = (c, refl, (d, e, g, h, r.0, r.1.0, r.1.1.0))
  decides_refutes t c d e g (p ∷ q ∷ x ∷ y ∷ ys) h r = absurd r.1.1.1

  -- the proofs of the branches of a move make the proof of the branch, and the others are left
  pub refuted_before : (e : Ending) (sss : List (List Step)) (c : Context) (ds cs : List Context) (ps : List Proof) → Goes c e sss ds → RefutedBy (ds ++ cs) ps → Refutes defs c (proof_of e (begin_each sss ps)) × RefutedBy cs (drop (length sss) ps)
  refuted_before goes_on sss c ds cs ps g r = let x = each_refuted (c ∷ []) sss ds cs ps g r in (on_one_refutes c (begin_each sss ps) x.0, x.1)
  refuted_before (move.closes f g) sss c ds cs ps h r = rw h.0 (refutes_by_close defs f g c h.2, subst (λ xs. RefutedBy (xs ++ cs) ps) h.1 r)
  refuted_before (move.forks f) sss c ds cs ps g r = let x = each_refuted (g.0 ∷ g.1) sss ds cs ps g.3 r in (forks_refutes f c g.0 g.1 (begin_each sss ps) g.2 x.0, x.1)
  refuted_before (move.chooses f t) sss c ds cs ps g r = let x = each_refuted (g.0 ∷ g.1 ∷ []) sss ds cs ps g.3 r in (chooses_refutes f t c g.0 g.1 (begin_each sss ps) g.2 x.0, x.1)
  refuted_before (move.passes t) sss c ds cs ps g r = let x = each_refuted (g.0 ∷ g.1 ∷ g.2 ∷ []) sss ds cs ps g.4 r in (passes_refutes t c g.0 g.1 g.2 (begin_each sss ps) g.3 x.0, x.1)
  refuted_before (move.decides t) sss c ds cs ps g r = let x = each_refuted (g.0 ∷ g.1 ∷ g.2 ∷ []) sss ds cs ps g.4 r in (decides_refutes t c g.0 g.1 g.2 (begin_each sss ps) g.3 x.0, x.1)

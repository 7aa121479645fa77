-- An accepted proof shows that its goal is valid.
use Rattle.std.proofs.Common.{subst, List, [], ◌∷◌}
use Rattle.std.specs.Prelude.{All}
use Rattle.std.proofs.lemmas.List.Elements.{All-nil, All-cons, All-head, All-tail}
use Rattle.logic_core.specs.Def.{Def}
use Rattle.proof_core.specs.Proof.{Step, by_split, by_instantiate, by_skolem, by_replace, by_unfold, by_back, by_differ, by_combine, by_tighten, Proof, proof, Proofs, no_proofs, one_proof, End, by_close, by_cases, by_condition, by_past, by_trichotomy}
use Rattle.proof_core.specs.Context.{Context}
use Rattle.proof_core.specs.Accepted.{Leads, Refutes, Ends, RefuteEach}
use Rattle.proof_core.specs.Soundness.{IsSorted, IsUnsatisfiable, IsRefutedBy, StepIsSound, AcceptanceIsSound}
use Rattle.proof_core.proofs.CloseSound.{close_is_sound, start_is_sound}
use Rattle.proof_core.proofs.SplitSound.{split_is_sound, cases_are_sound, condition_is_sound}
use Rattle.proof_core.proofs.QuantifiersSound.{instantiate_is_sound, skolem_is_sound}
use Rattle.proof_core.proofs.ReplaceSound.{replace_is_sound, unfold_is_sound}
use Rattle.proof_core.proofs.MapsSound.{back_is_sound, past_is_sound, differ_is_sound}
use Rattle.proof_core.proofs.ArithmeticSound.{combine_is_sound, tighten_is_sound, trichotomy_is_sound}

step_is_sound : (s : Step) → StepIsSound s
step_is_sound (by_split f) = split_is_sound f
step_is_sound (by_instantiate f ts) = instantiate_is_sound f ts
step_is_sound (by_skolem f) = skolem_is_sound f
step_is_sound (by_replace f g t) = replace_is_sound f g t
step_is_sound (by_unfold f t) = unfold_is_sound f t
step_is_sound (by_back f t) = back_is_sound f t
step_is_sound (by_differ f) = differ_is_sound f
step_is_sound (by_combine f p g q) = combine_is_sound f p g q
step_is_sound (by_tighten f) = tighten_is_sound f

module _ (defs : List Def) where
  steps_are_sound : (ss : List Step) (c d : Context) → IsSorted defs c → Leads defs c ss d → IsSorted defs d × (IsUnsatisfiable defs d → IsUnsatisfiable defs c)
  steps_are_sound [] c d sorted h = subst (λ x. IsSorted defs x × (IsUnsatisfiable defs x → IsUnsatisfiable defs c)) h (sorted, λ u. u)
  steps_are_sound (s ∷ ss) c d sorted h =
      let one = step_is_sound s defs c h.0 sorted h.1 in
      let rest = steps_are_sound ss h.0 d one.0 h.2 in
      (rest.0, λ u. one.1 (rest.1 u))

  abbrev IsRefuted : Context → Type 0
  IsRefuted d = IsUnsatisfiable defs d

  first_sorted : (c d : Context) (ds : List Context) → IsRefutedBy defs c (d ∷ ds) → IsSorted defs d
  first_sorted c d ds k = All-head (IsSorted defs) d ds k.0

  second_sorted : (c d e : Context) (ds : List Context) → IsRefutedBy defs c (d ∷ e ∷ ds) → IsSorted defs e
  second_sorted c d e ds k = All-head (IsSorted defs) e ds (All-tail (IsSorted defs) d (e ∷ ds) k.0)

  third_sorted : (c d e g : Context) (ds : List Context) → IsRefutedBy defs c (d ∷ e ∷ g ∷ ds) → IsSorted defs g
  third_sorted c d e g ds k = All-head (IsSorted defs) g ds (All-tail (IsSorted defs) e (g ∷ ds) (All-tail (IsSorted defs) d (e ∷ g ∷ ds) k.0))

  -- two and three children that are refuted
  by_two : (c d e : Context) → IsRefutedBy defs c (d ∷ e ∷ []) → IsRefuted d → IsRefuted e → IsRefuted c
  by_two c d e k u v = k.1 (All-cons IsRefuted d (e ∷ []) u (All-cons IsRefuted e [] v (All-nil IsRefuted)))

  by_three : (c d e g : Context) → IsRefutedBy defs c (d ∷ e ∷ g ∷ []) → IsRefuted d → IsRefuted e → IsRefuted g → IsRefuted c
  by_three c d e g k u v w = k.1 (All-cons IsRefuted d (e ∷ g ∷ []) u (All-cons IsRefuted e (g ∷ []) v (All-cons IsRefuted g [] w (All-nil IsRefuted))))

  mutual
    -- the facts of a context that a proof refutes can't all hold
    pub refuted : (p : Proof) (c : Context) → IsSorted defs c → Refutes defs c p → IsUnsatisfiable defs c
    refuted (proof ss e) c sorted h = let s = steps_are_sound ss c h.0 sorted h.1 in s.1 (ended e h.0 s.0 h.2)

    ended : (e : End) (c : Context) → IsSorted defs c → Ends defs c e → IsUnsatisfiable defs c
    ended (by_close f g) c sorted h = close_is_sound f g defs c sorted h
    ended (by_cases f p ps) c sorted h = let k = cases_are_sound f defs c h.0 h.1 sorted h.2 in
        k.1 (All-cons IsRefuted h.0 h.1 (refuted p h.0 (first_sorted c h.0 h.1 k) h.3) (each_refuted ps h.1 (All-tail (IsSorted defs) h.0 h.1 k.0) h.4))
    ended (by_condition f t p q) c sorted h = let k = condition_is_sound f t defs c h.0 h.1 sorted h.2 in
        by_two c h.0 h.1 k (refuted p h.0 (first_sorted c h.0 (h.1 ∷ []) k) h.3) (refuted q h.1 (second_sorted c h.0 h.1 [] k) h.4)
    ended (by_past t p q r) c sorted h = let k = past_is_sound t defs c h.0 h.1 h.2 sorted h.3 in
        by_three c h.0 h.1 h.2 k (refuted p h.0 (first_sorted c h.0 (h.1 ∷ h.2 ∷ []) k) h.4) (refuted q h.1 (second_sorted c h.0 h.1 (h.2 ∷ []) k) h.5) (refuted r h.2 (third_sorted c h.0 h.1 h.2 [] k) h.6)
    ended (by_trichotomy t p q r) c sorted h = let k = trichotomy_is_sound t defs c h.0 h.1 h.2 sorted h.3 in
        by_three c h.0 h.1 h.2 k (refuted p h.0 (first_sorted c h.0 (h.1 ∷ h.2 ∷ []) k) h.4) (refuted q h.1 (second_sorted c h.0 h.1 (h.2 ∷ []) k) h.5) (refuted r h.2 (third_sorted c h.0 h.1 h.2 [] k) h.6)

    each_refuted : (ps : Proofs) (ds : List Context) → All (IsSorted defs) ds → RefuteEach defs ds ps → All (IsUnsatisfiable defs) ds
    each_refuted no_proofs [] sorted h = All-nil (IsUnsatisfiable defs)
    each_refuted (one_proof p ps) (d ∷ ds) sorted h = All-cons (IsUnsatisfiable defs) d ds (refuted p d (All-head (IsSorted defs) d ds sorted) h.0) (each_refuted ps ds (All-tail (IsSorted defs) d ds sorted) h.1)
    each_refuted (one_proof p ps) [] sorted h = absurd h
    each_refuted no_proofs (d ∷ ds) sorted h = absurd h

pub acceptance_is_sound : AcceptanceIsSound
acceptance_is_sound o p sorted accepted = let s = start_is_sound o accepted.0 sorted accepted.1 in s.1 (refuted o.defs p accepted.0 s.0 accepted.2)

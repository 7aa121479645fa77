-- The status with which a session ends.
use Rattle.std.proofs.Common.{◌≡◌, ◌≢◌, ◌∙◌, ◌⊎◌, inl, inr, ℕ, ◌+◌, List, ◌++◌, length, Option, Some, None, refl, sym, ap, subst, arith}
use Rattle.std.proofs.lemmas.List.{length-append}
use Rattle.bv_base.specs.Known.{Takes, HasRisen}
use Rattle.goal_board.specs.Calls.{BoardCall}
use Rattle.line_server.specs.declared.serving.Ending.{Ending}
use Rattle.line_server.specs.declared.serving.Ending.TheVariants as ending
use Rattle.edit_session.specs.Served.{IsWithin, Serves, ServesAnyWorkers}
use Rattle.edit_session.specs.SessionLimits.{session_total}
use Rattle.edit_server.specs.Session.{Served, IsSessionShort, status_of}
use Rattle.text_answers.specs.declared.status.Status.{Status}
use Rattle.text_answers.specs.declared.status.Status.TheVariants.{Done, NotAll, Usage, ReadFault, WriteFault, Memory, Refused, SessionFull}

served_by : (turns workers : ℕ) (calls : List BoardCall) (left left' held held' : Option (List ℕ)) (e : Ending) → Serves turns workers calls left left' held held' e → Served turns workers calls left left' held held' (status_of e)
served_by turns workers calls left left' held held' ending.Done s = s
served_by turns workers calls left left' held held' ending.ReadFault s = s
served_by turns workers calls left left' held held' ending.WriteFault s = s
served_by turns workers calls left left' held held' ending.Memory s = s
served_by turns workers calls left left' held held' ending.Full s = s

of_read : (e : Ending) → status_of e ≡ ReadFault → e ≡ ending.ReadFault
of_read ending.Done is = absurd (cc)
of_read ending.ReadFault is = refl
of_read ending.WriteFault is = absurd (cc)
of_read ending.Memory is = absurd (cc)
of_read ending.Full is = absurd (cc)

of_write : (e : Ending) → status_of e ≡ WriteFault → e ≡ ending.WriteFault
of_write ending.Done is = absurd (cc)
of_write ending.ReadFault is = absurd (cc)
of_write ending.WriteFault is = refl
of_write ending.Memory is = absurd (cc)
of_write ending.Full is = absurd (cc)

never_usage : (e : Ending) → status_of e ≡ Usage → ⊥
never_usage ending.Done is = cc
never_usage ending.ReadFault is = cc
never_usage ending.WriteFault is = cc
never_usage ending.Memory is = cc
never_usage ending.Full is = cc

-- no more is taken than is told
not_further : (taken : List ℕ) (left left' : Option (List ℕ)) → Takes left left' taken → IsSessionShort left → length taken ≡ session_total + 1 → ⊥
not_further taken None left' takes short further = short
not_further taken (Some bytes) None takes short further = cc
not_further taken (Some bytes) (Some known) takes short further =
    let same : bytes ≡ taken ++ known = cc in
    omega (arith, short, further, ap length same, length-append taken known)

completes : (turns workers : ℕ) (calls : List BoardCall) (left left' held held' : Option (List ℕ)) (e : Ending) (r r' w w' : ℕ) → Serves turns workers calls left left' held held' e
    → (e ≡ ending.ReadFault → HasRisen r r') → (e ≡ ending.WriteFault → HasRisen w w') → ¬ HasRisen r r' → ¬ HasRisen w w' → IsSessionShort left
    → (status_of e ≡ Done) ⊎ (status_of e ≡ Memory)
completes turns workers calls left left' held held' ending.Done r r' w w' s read write no_read no_write short = inl refl
completes turns workers calls left left' held held' ending.ReadFault r r' w w' s read write no_read no_write short = absurd (no_read (read refl))
completes turns workers calls left left' held held' ending.WriteFault r r' w w' s read write no_read no_write short = absurd (no_write (write refl))
completes turns workers calls left left' held held' ending.Memory r r' w w' s read write no_read no_write short = inr refl
completes turns workers calls left left' held held' ending.Full r r' w w' s read write no_read no_write short = absurd (not_further s.taken left left' s.takes short s.further)

-- how many workers there are makes no difference, where there are some
pub served_by_any : ServesAnyWorkers → (turns v w : ℕ) (calls : List BoardCall) (left left' held held' : Option (List ℕ)) (status : Status) → v ≢ 0 → w ≢ 0 → Served turns v calls left left' held held' status → Served turns w calls left left' held held' status
served_by_any law turns v w calls left left' held held' Done some others s = law turns v w calls left left' held held' ending.Done some others s
served_by_any law turns v w calls left left' held held' NotAll some others s = absurd s
served_by_any law turns v w calls left left' held held' Usage some others s = absurd s
served_by_any law turns v w calls left left' held held' ReadFault some others s = law turns v w calls left left' held held' ending.ReadFault some others s
served_by_any law turns v w calls left left' held held' WriteFault some others s = law turns v w calls left left' held held' ending.WriteFault some others s
served_by_any law turns v w calls left left' held held' Memory some others s = law turns v w calls left left' held held' ending.Memory some others s
served_by_any law turns v w calls left left' held held' Refused some others s = absurd s
served_by_any law turns v w calls left left' held held' SessionFull some others s = law turns v w calls left left' held held' ending.Full some others s

-- ---- the same of a status that is the ending's

module _ (e : Ending) (status : Status) (is : status ≡ status_of e) where
  pub serves_so : (turns workers : ℕ) (calls : List BoardCall) (left left' held held' : Option (List ℕ)) → Serves turns workers calls left left' held held' e → Served turns workers calls left left' held held' status
  serves_so turns workers calls left left' held held' s = subst (Served turns workers calls left left' held held') (sym is) (served_by turns workers calls left left' held held' e s)

  pub within_so : (left left' : Option (List ℕ)) → (¬ (e ≡ ending.Full) → IsWithin left left') → ¬ (status ≡ SessionFull) → IsWithin left left'
  within_so left left' f other = f (λ full. other (is ∙ ap status_of full))

  pub usage_never : status ≡ Usage → ⊥
  usage_never u = never_usage e (sym is ∙ u)

  pub read_so : (r r' : ℕ) → (e ≡ ending.ReadFault → HasRisen r r') → status ≡ ReadFault → HasRisen r r'
  read_so r r' f u = f (of_read e (sym is ∙ u))

  pub read_quiet_so : (r r' : ℕ) → (¬ (e ≡ ending.ReadFault) → r' ≡ r) → ¬ (status ≡ ReadFault) → r' ≡ r
  read_quiet_so r r' f other = f (λ u. other (is ∙ ap status_of u))

  pub write_so : (w w' : ℕ) → (e ≡ ending.WriteFault → HasRisen w w') → status ≡ WriteFault → HasRisen w w'
  write_so w w' f u = f (of_write e (sym is ∙ u))

  pub write_quiet_so : (w w' : ℕ) → (¬ (e ≡ ending.WriteFault) → w' ≡ w) → ¬ (status ≡ WriteFault) → w' ≡ w
  write_quiet_so w w' f other = f (λ u. other (is ∙ ap status_of u))

  pub complete_so : (turns workers : ℕ) (calls : List BoardCall) (left left' held held' : Option (List ℕ)) (r r' w w' : ℕ) → Serves turns workers calls left left' held held' e
      → (e ≡ ending.ReadFault → HasRisen r r') → (e ≡ ending.WriteFault → HasRisen w w') → ¬ HasRisen r r' → ¬ HasRisen w w' → IsSessionShort left → (status ≡ Done) ⊎ (status ≡ Memory)
  complete_so turns workers calls left left' held held' r r' w w' s read write no_read no_write short =
      subst (λ (t : Status). (t ≡ Done) ⊎ (t ≡ Memory)) (sym is) (completes turns workers calls left left' held held' e r r' w w' s read write no_read no_write short)

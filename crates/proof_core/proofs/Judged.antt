-- No node is refused exactly where the proof is accepted.
use Rattle.std.specs.Prelude.{◌≡◌, refl, ℕ, ◌+◌, nat_eq, Bool, true, false, IsTrue, Option, Some, None, List, [], ◌∷◌, length, Result, Ok, Err, IsOk, is_ok as is_ok_test, if◌then◌else◌}
use Rattle.std.proofs.Common.{ap, arith, ◌∙◌}
use Rattle.logic_core.specs.Def.{Def}
use Rattle.logic_core.specs.Wide.{when}
use Rattle.proof_core.specs.Proof.{Step, Proof, proof, Proofs, no_proofs, one_proof, End, by_close, by_cases, by_condition, by_past, by_trichotomy}
use Rattle.proof_core.specs.Rule.{Rule, close, split, past, trichotomy, step_rule, first_rule}
use Rattle.proof_core.specs.Context.{Context, start}
use Rattle.proof_core.specs.Close.{closes}
use Rattle.proof_core.specs.Steps.{after_step}
use Rattle.proof_core.specs.Ends.{after_cases, after_condition, after_past, after_trichotomy}
use Rattle.proof_core.specs.Accepted.{Leads, Refutes, Ends, RefuteEach, IsAccepted}
use Rattle.proof_core.specs.Verdict.{Refused, refused, next, and_then, or_refused, for_each, number_of, after_steps, judged, judged_end, judged_each, verdict, RefusesTheOthers}

-- what was Ok, and what then was
was_ok : {A B : Type 0} (r : Result A Refused) (f : A → Result B Refused) (b : B) → and_then r f ≡ Ok b → (a : A) × (r ≡ Ok a) × (f a ≡ Ok b)
was_ok (Ok a) f b h = (a, refl, h)
was_ok (Err e) f b h = absurd (cc)

was_some : {A : Type 0} (o : Option A) (n : ℕ) (r : Rule) (a : A) → or_refused o n r ≡ Ok a → o ≡ Some a
was_some (Some b) n r a h = cc
was_some None n r a h = absurd (cc)

was_true : (b : Bool) (n m k : ℕ) (r : Rule) → ◌≡◌ {A = Result ℕ Refused} (if b then Ok n else refused k r) (Ok m) → IsTrue b
was_true true n m k r h = refl
was_true false n m k r h = absurd (cc)

were_counted : (b : Bool) (ds es : Context × List Context) → when b (Some ds) ≡ Some es → ds ≡ es
were_counted true ds es h = cc
were_counted false ds es h = absurd (cc)

were_cases : (ps : Proofs) (o : Option (Context × List Context)) (ds : Context × List Context) → for_each ps o ≡ Some ds → o ≡ Some ds
were_cases ps None ds h = absurd (cc)
were_cases ps (Some es) ds h = ap Some (were_counted _ es ds h)

module _ (defs : List Def) where
  leads : (n : ℕ) (c : Context) (ss : List Step) (p : ℕ × Context) → after_steps defs n c ss ≡ Ok p → Leads defs c ss p.1
  leads n c [] p h = let e : ◌≡◌ {A = ℕ × Context} (n, c) p = cc in ap (λ q. q.1) e
  leads n c (s ∷ ss) p h = let w = was_ok (or_refused (after_step defs c s) n (step_rule s)) (λ d. after_steps defs (next n) d ss) p h in
      (w.0, was_some (after_step defs c s) n (step_rule s) w.0 w.1, leads (next n) w.0 ss p w.2)

  mutual
    refutes : (n : ℕ) (c : Context) (p : Proof) (m : ℕ) → judged defs n c p ≡ Ok m → Refutes defs c p
    refutes n c (proof ss e) m h = let w = was_ok (after_steps defs n c ss) (λ p. judged_end defs p.0 p.1 e) m h in
        ((w.0).1, leads n c ss w.0 w.1, ends (w.0).0 (w.0).1 e m w.2)

    ends : (n : ℕ) (c : Context) (e : End) (m : ℕ) → judged_end defs n c e ≡ Ok m → Ends defs c e
    ends n c (by_close f g) m h = was_true (closes c f g) (next n) m n close h
    ends n c (by_cases f p ps) m h =
        let w = was_ok (or_refused (for_each ps (after_cases defs c f)) n split) (λ ds. and_then (judged defs (next n) ds.0 p) (λ k. judged_each defs k ds.1 ps)) m h in
        let v = was_ok (judged defs (next n) (w.0).0 p) (λ k. judged_each defs k (w.0).1 ps) m w.2 in
        ((w.0).0, (w.0).1, were_cases ps (after_cases defs c f) w.0 (was_some (for_each ps (after_cases defs c f)) n split w.0 w.1), refutes (next n) (w.0).0 p v.0 v.1, refutes_each v.0 (w.0).1 ps m v.2)
    ends n c (by_condition f t p q) m h =
        let w = was_ok (or_refused (after_condition defs c f t) n split) (λ ds. and_then (judged defs (next n) ds.0 p) (λ k. judged defs k ds.1 q)) m h in
        let v = was_ok (judged defs (next n) (w.0).0 p) (λ k. judged defs k (w.0).1 q) m w.2 in
        ((w.0).0, (w.0).1, was_some (after_condition defs c f t) n split w.0 w.1, refutes (next n) (w.0).0 p v.0 v.1, refutes v.0 (w.0).1 q m v.2)
    ends n c (by_past t p q r) m h =
        let w = was_ok (or_refused (after_past defs c t) n past) (λ ds. and_then (judged defs (next n) ds.0 p) (λ k. and_then (judged defs k ds.1 q) (λ l. judged defs l ds.2 r))) m h in
        let v = was_ok (judged defs (next n) (w.0).0 p) (λ k. and_then (judged defs k (w.0).1 q) (λ l. judged defs l (w.0).2 r)) m w.2 in
        let u = was_ok (judged defs v.0 (w.0).1 q) (λ l. judged defs l (w.0).2 r) m v.2 in
        ((w.0).0, (w.0).1, (w.0).2, was_some (after_past defs c t) n past w.0 w.1, refutes (next n) (w.0).0 p v.0 v.1, refutes v.0 (w.0).1 q u.0 u.1, refutes u.0 (w.0).2 r m u.2)
    ends n c (by_trichotomy t p q r) m h =
        let w = was_ok (or_refused (after_trichotomy defs c t) n trichotomy) (λ ds. and_then (judged defs (next n) ds.0 p) (λ k. and_then (judged defs k ds.1 q) (λ l. judged defs l ds.2 r))) m h in
        let v = was_ok (judged defs (next n) (w.0).0 p) (λ k. and_then (judged defs k (w.0).1 q) (λ l. judged defs l (w.0).2 r)) m w.2 in
        let u = was_ok (judged defs v.0 (w.0).1 q) (λ l. judged defs l (w.0).2 r) m v.2 in
        ((w.0).0, (w.0).1, (w.0).2, was_some (after_trichotomy defs c t) n trichotomy w.0 w.1, refutes (next n) (w.0).0 p v.0 v.1, refutes v.0 (w.0).1 q u.0 u.1, refutes u.0 (w.0).2 r m u.2)

    refutes_each : (n : ℕ) (ds : List Context) (ps : Proofs) (m : ℕ) → judged_each defs n ds ps ≡ Ok m → RefuteEach defs ds ps
    refutes_each n [] no_proofs m h = tt
    refutes_each n (d ∷ ds) (one_proof p ps) m h = let w = was_ok (judged defs n d p) (λ k. judged_each defs k ds ps) m h in
        (refutes n d p w.0 w.1, refutes_each w.0 ds ps m w.2)
    refutes_each n [] (one_proof p ps) m h = absurd (cc)
    refutes_each n (d ∷ ds) no_proofs m h = absurd (cc)

-- the other way round
is_ok : {A B : Type 0} (r : Result A Refused) (f : A → Result B Refused) (a : A) (b : B) → r ≡ Ok a → f a ≡ Ok b → and_then r f ≡ Ok b
is_ok (Ok c) f a b h k = let e : c ≡ a = cc in ap f e ∙ k
is_ok (Err c) f a b h k = absurd (cc)

is_given : {A : Type 0} (o : Option A) (n : ℕ) (r : Rule) (a : A) → o ≡ Some a → or_refused o n r ≡ Ok a
is_given o n r a h = ap (λ p. or_refused p n r) h

same_number : (m n : ℕ) → m ≡ n → nat_eq m n ≡ true
same_number m n h = grind arith

is_counted : (ps : Proofs) (ds : Context × List Context) → length ds.1 ≡ number_of ps → for_each ps (Some ds) ≡ Some ds
is_counted ps ds h = ap (λ b. when b (Some ds)) (same_number (length ds.1) (number_of ps) h)

module _ (defs : List Def) where
  reaches : (n : ℕ) (c : Context) (ss : List Step) (d : Context) → Leads defs c ss d → (m : ℕ) × (after_steps defs n c ss ≡ Ok (m, d))
  reaches n c [] d h = (n, ap (λ x. Ok (n, x)) h)
  reaches n c (s ∷ ss) d h = let r = reaches (next n) h.0 ss d h.2 in
      (r.0, is_ok (or_refused (after_step defs c s) n (step_rule s)) (λ x. after_steps defs (next n) x ss) h.0 (r.0, d) (is_given (after_step defs c s) n (step_rule s) h.0 h.1) r.1)

  counted : (ds : List Context) (ps : Proofs) → RefuteEach defs ds ps → length ds ≡ number_of ps
  counted [] no_proofs h = refl
  counted (d ∷ ds) (one_proof p ps) h = let e : length ds ≡ number_of ps = counted ds ps h.1 in omega arith
  counted [] (one_proof p ps) h = absurd h
  counted (d ∷ ds) no_proofs h = absurd h

  -- three children one after another
  abbrev Three : Proof → Proof → Proof → ℕ → Context × Context × Context → Result ℕ Refused
  Three p q r n ds = and_then (judged defs n ds.0 p) (λ k. and_then (judged defs k ds.1 q) (λ l. judged defs l ds.2 r))

  three : (p q r : Proof) (n : ℕ) (ds : Context × Context × Context) (k l m : ℕ) → judged defs n ds.0 p ≡ Ok k → judged defs k ds.1 q ≡ Ok l → judged defs l ds.2 r ≡ Ok m → Three p q r n ds ≡ Ok m
  three p q r n ds k l m e f g = is_ok (judged defs n ds.0 p) (λ k. and_then (judged defs k ds.1 q) (λ l. judged defs l ds.2 r)) k m e (is_ok (judged defs k ds.1 q) (λ l. judged defs l ds.2 r) l m f g)

  mutual
    judges : (n : ℕ) (c : Context) (p : Proof) → Refutes defs c p → (m : ℕ) × (judged defs n c p ≡ Ok m)
    judges n c (proof ss e) h = let r = reaches n c ss h.0 h.1 in let k = judges_end r.0 h.0 e h.2 in
        (k.0, is_ok (after_steps defs n c ss) (λ p. judged_end defs p.0 p.1 e) (r.0, h.0) k.0 r.1 k.1)

    judges_end : (n : ℕ) (c : Context) (e : End) → Ends defs c e → (m : ℕ) × (judged_end defs n c e ≡ Ok m)
    judges_end n c (by_close f g) h = (next n, ap (λ b. if b then Ok (next n) else refused n close) h)
    judges_end n c (by_cases f p ps) h =
        let k = judges (next n) h.0 p h.3 in
        let r = judges_each k.0 h.1 ps h.4 in (
          r.0,
          is_ok (or_refused (for_each ps (after_cases defs c f)) n split) (λ ds. and_then (judged defs (next n) ds.0 p) (λ m. judged_each defs m ds.1 ps)) (h.0, h.1) r.0
              (is_given (for_each ps (after_cases defs c f)) n split (h.0, h.1) (ap (for_each ps) h.2 ∙ is_counted ps (h.0, h.1) (counted h.1 ps h.4)))
              (is_ok (judged defs (next n) h.0 p) (λ m. judged_each defs m h.1 ps) k.0 r.0 k.1 r.1),
        )
    judges_end n c (by_condition f t p q) h =
        let k = judges (next n) h.0 p h.3 in
        let r = judges k.0 h.1 q h.4 in (
          r.0,
          is_ok (or_refused (after_condition defs c f t) n split) (λ ds. and_then (judged defs (next n) ds.0 p) (λ m. judged defs m ds.1 q)) (h.0, h.1) r.0
              (is_given (after_condition defs c f t) n split (h.0, h.1) h.2) (is_ok (judged defs (next n) h.0 p) (λ m. judged defs m h.1 q) k.0 r.0 k.1 r.1),
        )
    judges_end n c (by_past t p q r) h =
        let k = judges (next n) h.0 p h.4 in
        let l = judges k.0 h.1 q h.5 in
        let m = judges l.0 h.2 r h.6 in
        (m.0, is_ok (or_refused (after_past defs c t) n past) (λ ds. Three p q r (next n) ds) (h.0, h.1, h.2) m.0 (is_given (after_past defs c t) n past (h.0, h.1, h.2) h.3) (three p q r (next n) (h.0, h.1, h.2) k.0 l.0 m.0 k.1 l.1 m.1))
    judges_end n c (by_trichotomy t p q r) h =
        let k = judges (next n) h.0 p h.4 in
        let l = judges k.0 h.1 q h.5 in
        let m = judges l.0 h.2 r h.6 in
        (m.0, is_ok (or_refused (after_trichotomy defs c t) n trichotomy) (λ ds. Three p q r (next n) ds) (h.0, h.1, h.2) m.0 (is_given (after_trichotomy defs c t) n trichotomy (h.0, h.1, h.2) h.3) (three p q r (next n) (h.0, h.1, h.2) k.0 l.0 m.0 k.1 l.1 m.1))

    judges_each : (n : ℕ) (ds : List Context) (ps : Proofs) → RefuteEach defs ds ps → (m : ℕ) × (judged_each defs n ds ps ≡ Ok m)
    judges_each n [] no_proofs h = (n, refl)
    judges_each n (d ∷ ds) (one_proof p ps) h = let r = judges n d p h.0 in let k = judges_each r.0 ds ps h.1 in
        (k.0, is_ok (judged defs n d p) (λ m. judged_each defs m ds ps) r.0 k.0 r.1 k.1)
    judges_each n [] (one_proof p ps) h = absurd h
    judges_each n (d ∷ ds) no_proofs h = absurd h

value_of : {A : Type 0} (r : Result A Refused) → IsOk r → (a : A) × (r ≡ Ok a)
value_of (Ok a) h = (a, refl)
value_of (Err e) h = absurd (cc)

pub refuses_the_others : RefusesTheOthers
refuses_the_others o p = (there, back)
  where
    there : IsOk (verdict o p) → IsAccepted o p
    there h = let v = value_of (verdict o p) h in let w = was_ok (or_refused (start o) 1 (first_rule p)) (λ c. judged o.defs 1 c p) v.0 v.1 in
        (w.0, was_some (start o) 1 (first_rule p) w.0 w.1, refutes o.defs 1 w.0 p v.0 w.2)

    back : IsAccepted o p → IsOk (verdict o p)
    back a = let k = judges o.defs 1 a.0 p a.2 in
        ap is_ok_test (is_ok (or_refused (start o) 1 (first_rule p)) (λ c. judged o.defs 1 c p) a.0 k.0 (is_given (start o) 1 (first_rule p) a.0 a.1) k.1)

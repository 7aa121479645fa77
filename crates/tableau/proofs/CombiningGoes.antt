-- The rule combine is a rule of proofs.
use Rattle.std.specs.Prelude.{◌≡◌, refl, ℕ, ◌/◌, ℤ, Bool, true, false, ◌||◌, Option, Some, None, is_none, List, [], ◌∷◌, ◌++◌, All, map, if◌then◌else◌}
use Rattle.std.proofs.Common.{◌∙◌, ap, subst}
use Rattle.std.proofs.lemmas.List.Elements.{All-nil, All-cons, All-head, All-tail, All-append, All-push}
use Rattle.logic_core.proofs.Booleans.{all_true}
use Rattle.logic_core.specs.Tree.{Tree}
use Rattle.logic_core.specs.Def.{Def}
use Rattle.logic_core.specs.Wide.{◌>>=◌}
use Rattle.logic_core.specs.Sum.{Linear}
use Rattle.logic_core.specs.Junction.{is_truth}
use Rattle.logic_core.specs.Tighten.{tighten, gcd}
use Rattle.logic_core.specs.Combine.{linear_of, combined, lead, at_least_zero}
use Rattle.logic_laws.proofs.Options.{bind_some, cond_has}
use Rattle.linear_certs.specs.Multiplier.{may_multiply}
use Rattle.proof_core.specs.Proof.{by_combine}
use Rattle.proof_core.specs.Context.{Context, fact, with_fact}
use Rattle.proof_core.specs.Steps.{after_step}
use Rattle.proof_core.proofs.ArithmeticSound.{combine_is_sound}
use Rattle.tableau_branch.specs.Branch.{Fact, Branch, Attempt, none, leaves, gives, first_attempt}
use Rattle.tableau_branch.specs.Change.{begun, appended_one, added}
use Rattle.tableau_branch.specs.Oriented.{left_side}
use Rattle.tableau_branch.specs.Move.{Move}
use Rattle.theory_rules.specs.Combining.{Entry, counted, is_at_most, are_opposite, lead_size, multiplier, Combined, combined_pair, is_known, combine_pair, pairs_from, entries_of, entries, combined_by, combine}
use Rattle.tableau.proofs.Tracked.{IsKnown}
use Rattle.tableau.proofs.Outcomes.{IsPlaced, Outcome}
use Rattle.tableau.proofs.Tightening.{added_reached, on_one_goes}
use Rattle.tableau.proofs.Appending.{one_appended}
use Rattle.tableau.proofs.ClosingGoes.{found_first}
use Rattle.tableau.proofs.PastGoes.{flat_has}
use Rattle.theory_rules.proofs.Multipliers.{divided_positive, lead_sizes, may_by}

-- a linear fact of the context, which is no Le where it is turned
record Stands (c : Context) (e : Entry) : Type 0 where
  term : Tree
  known : fact c e.number ≡ Some term
  linear : linear_of term ≡ Some e.form
  turned : e.turned ≡ true → is_at_most term ≡ false

-- a pair of such entries
abbrev BothStand : Context → Entry × Entry → Type 0
BothStand c p = Stands c p.0 × Stands c p.1

pairs_with : (c : Context) (e : Entry) (ds : List Entry) → Stands c e → All (Stands c) ds → All (BothStand c) (map (λ d. (d, e)) ds)
pairs_with c e [] k all = All-nil (BothStand c)
pairs_with c e (d ∷ ds) k all = All-cons (BothStand c) (d, e) (map (λ d. (d, e)) ds) (All-head (Stands c) d ds all, k) (pairs_with c e ds k (All-tail (Stands c) d ds all))

pairs_stand : (c : Context) (before es : List Entry) → All (Stands c) before → All (Stands c) es → All (BothStand c) (pairs_from before es)
pairs_stand c before [] h k = All-nil (BothStand c)
pairs_stand c before (e ∷ es) h k =
    let first = All-head (Stands c) e es k in
    All-append (BothStand c) (map (λ d. (d, e)) before) (pairs_from (before ++ e ∷ []) es) (pairs_with c e before first h) (pairs_stand c (before ++ e ∷ []) es (All-push (Stands c) before e h first) (All-tail (Stands c) e es k))

module _ (defs : List Def) where
  one_stands : (c : Context) (f : Fact) (s : Linear) (x : Bool) → IsKnown c f → linear_of f.term ≡ Some s → (x ≡ true → is_at_most f.term ≡ false) → Stands c (record { number = f.number; form = s; turned = x })
  one_stands c f s x k h t = record { term = f.term; known = k; linear = h; turned = t }

  entries_stand : (b : Branch) (c : Context) (f : Fact) → IsKnown c f → All (Stands c) (entries_of defs b f)
  entries_stand b c f k = at_form (linear_of f.term) refl
    where
      at_form : (o : Option Linear) → linear_of f.term ≡ o → All (Stands c) (elim o [
        | None ↦ []
        | Some s ↦ (if is_at_most f.term then record { number = f.number; form = s; turned = false } ∷ []
            else (if is_none (left_side b.vars defs f.term) then record { number = f.number; form = s; turned = false } ∷ record { number = f.number; form = s; turned = true } ∷ [] else []))
      ])
      at_form None h = All-nil (Stands c)
      at_form (Some s) h =
          let plain : Entry = record { number = f.number; form = s; turned = false } in
          let back : Entry = record { number = f.number; form = s; turned = true } in
          let first = one_stands c f s false k h (λ e. absurd (cc)) in
          cond_has (All (Stands c)) (is_at_most f.term) (plain ∷ []) (if is_none (left_side b.vars defs f.term) then plain ∷ back ∷ [] else [])
          (λ _. All-cons (Stands c) plain [] first (All-nil (Stands c)))
          (λ no_less. cond_has (All (Stands c)) (is_none (left_side b.vars defs f.term)) (plain ∷ back ∷ []) []
          (λ _. All-cons (Stands c) plain (back ∷ []) first (All-cons (Stands c) back [] (one_stands c f s true k h (λ _. no_less)) (All-nil (Stands c)))) (λ _. All-nil (Stands c)))

  combines : (c : Context) (m n : ℕ) (f g : Tree) (p q : ℤ) (d e s : Linear) → fact c m ≡ Some f → fact c n ≡ Some g → may_multiply p f ≡ true → may_multiply q g ≡ true → linear_of f ≡ Some d → linear_of g ≡ Some e → combined d p e q ≡ Some s
      → after_step defs c (by_combine m p n q) ≡ Some (with_fact c (at_least_zero s))
  combines c m n f g p q d e s kf kg mp mq lf lg h = let both = all_true (may_multiply p f) (may_multiply q g) mp mq in rw (kf, kg, both, lf, lg, h) refl

  pair_combines : (c : Context) (d e : Entry) (x : Combined) → BothStand c (d, e) → are_opposite (lead (counted d)) (lead (counted e)) ≡ true → combined_pair d e ≡ Some x
      → after_step defs c (by_combine (x.first).number x.p (x.second).number x.q) ≡ Some (with_fact c x.fact)
  pair_combines c d e x stand h made =
      let a = lead_size d in
      let b = lead_size e in
      let g = gcd a b in
      let sizes = lead_sizes d e h in
      let above = divided_positive a b sizes.0 sizes.1 in
      let finish : ℤ → ℤ → Linear → Option Combined = λ p q s. Some (record { first = d; second = e; p = p; q = q; fact = at_least_zero s }) in
      let p = bind_some (multiplier d (b / g)) (λ p. multiplier e (a / g) >>= λ q. combined d.form p e.form q >>= finish p q) x made in
      let q = bind_some (multiplier e (a / g)) (λ q. combined d.form p.0 e.form q >>= finish p.0 q) x p.2 in
      let s = bind_some (combined d.form p.0 e.form q.0) (finish p.0 q.0) x q.2 in
      let is_x : record { first = d; second = e; p = p.0; q = q.0; fact = at_least_zero s.0 } ≡ x = cc in
      subst (λ (y : Combined). after_step defs c (by_combine (y.first).number y.p (y.second).number y.q) ≡ Some (with_fact c y.fact)) is_x
      (combines c d.number e.number stand.0.term stand.1.term p.0 q.0 d.form e.form s.0 stand.0.known stand.1.known
      (may_by d (b / g) p.0 stand.0.term above.0 stand.0.turned p.1) (may_by e (a / g) q.0 stand.1.term above.1 stand.1.turned q.1) stand.0.linear stand.1.linear s.1)

  -- a pair that is combined has opposite leads
  pair_gives : (es : List Entry) (p : Entry × Entry) (x : Combined) → combine_pair es p ≡ gives x → (are_opposite (lead (counted p.0)) (lead (counted p.1)) ≡ true) × (combined_pair p.0 p.1 ≡ Some x)
  pair_gives es p x h = at_test (are_opposite (lead (counted p.0)) (lead (counted p.1))) refl (combined_pair p.0 p.1) refl h
    where
      at_known : (z : Bool) (y : Combined) → ◌≡◌ {A = Attempt Combined} (elim z [ true ↦ none | false ↦ gives y ]) (gives x) → y ≡ x
      at_known true y k = absurd (cc)
      at_known false y k = cc

      at_test : (w : Bool) → are_opposite (lead (counted p.0)) (lead (counted p.1)) ≡ w → (o : Option Combined) → combined_pair p.0 p.1 ≡ o
          → ◌≡◌ {A = Attempt Combined} (elim w [ false ↦ none | true ↦ elim o [ None ↦ leaves | Some c ↦ elim (is_truth true c.fact || is_known es (tighten c.fact)) [ true ↦ none | false ↦ gives c ] ] ]) (gives x)
          → (are_opposite (lead (counted p.0)) (lead (counted p.1)) ≡ true) × (combined_pair p.0 p.1 ≡ Some x)
      at_test false e o i k = absurd (cc)
      at_test true e None i k = absurd (cc)
      at_test true e (Some c) i k = (e, i ∙ ap Some (at_known (is_truth true c.fact || is_known es (tighten c.fact)) c k))

  combined_goes : (b : Branch) (c : Context) (x : Combined) → IsPlaced defs b c → after_step defs c (by_combine (x.first).number x.p (x.second).number x.q) ≡ Some (with_fact c x.fact) → Outcome defs c (combined_by defs b x)
  combined_goes b c x placed step =
      let node = by_combine (x.first).number x.p (x.second).number x.q in
      let one = appended_one (node ∷ []) x.fact (begun b) in
      let r = one_appended defs c c c (begun b) node x.fact refl step placed (combine_is_sound (x.first).number x.p (x.second).number x.q defs c (with_fact c x.fact) placed.sorted step).0 in
      on_one_goes defs c r.at (added one.0 one.1) (added_reached defs c r.at one.0 one.1 r.reached r.known)

  pub combine_goes : (b : Branch) (c : Context) (m : Move) → combine defs b ≡ gives m → IsPlaced defs b c → Outcome defs c m
  combine_goes b c m h placed = at_first (first_attempt (combine_pair (entries defs b)) (pairs_from [] (entries defs b))) refl h
    where
      all : All (BothStand c) (pairs_from [] (entries defs b))
      all = pairs_stand c [] (entries defs b) (All-nil (Stands c)) (flat_has (IsKnown c) (Stands c) (entries_of defs b) b.facts (λ f k. entries_stand b c f k) placed.tracks.facts)

      at_first : (o : Attempt Combined) → first_attempt (combine_pair (entries defs b)) (pairs_from [] (entries defs b)) ≡ o → ◌≡◌ {A = Attempt Move} (elim o [ none ↦ none | leaves ↦ leaves | gives x ↦ gives (combined_by defs b x) ]) (gives m) → Outcome defs c m
      at_first none e k = absurd (cc)
      at_first leaves e k = absurd (cc)
      at_first (gives x) e k =
          let is_m : combined_by defs b x ≡ m = cc in
          let o = found_first (combine_pair (entries defs b)) (BothStand c) (pairs_from [] (entries defs b)) x all e in
          let g = pair_gives (entries defs b) o.0 x o.2 in
          subst (λ n. Outcome defs c n) is_m (combined_goes b c x placed (pair_combines c (o.0).0 (o.0).1 x o.1 g.0 g.1))

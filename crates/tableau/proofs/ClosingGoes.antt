-- The rule close is a rule of proofs; and what is found of a rule at the oldest fact in which something is found.
use Rattle.std.specs.Prelude.{◌≡◌, refl, nat_eq, nat_le, Bool, true, false, ◌&&◌, ◌||◌, cond, Option, Some, None, List, [], ◌∷◌, ◌++◌, find, All, if◌then◌else◌}
use Rattle.std.proofs.Common.{sym, ◌∙◌, ap, subst, inl, inr, ◌⊎◌}
use Rattle.std.proofs.lemmas.List.Elements.{All-nil, All-head, All-tail, All-push}
use Rattle.std.proofs.lemmas.Bool.{eqb-true, eq-eqb}
use Rattle.logic_core.proofs.Booleans.{neither, or_second as second}
use Rattle.logic_core.specs.Def.{Def}
use Rattle.logic_core.specs.Junction.{is_truth}
use Rattle.logic_laws.proofs.Options.{cond_has}
use Rattle.proof_core.specs.Context.{Context}
use Rattle.proof_core.specs.Close.{is_negation_of}
use Rattle.proof_core.specs.Close as ends
use Rattle.tableau_branch.specs.Branch.{Fact, Branch, Attempt, none, leaves, gives, unless_wide, At, oldest, first_attempt}
use Rattle.tableau_branch.specs.Move.{Move, closes}
use Rattle.logic_rules.specs.Closing.{are_opposed, pair_from, close_by, close}
use Rattle.tableau.proofs.Tracked.{IsKnown}
use Rattle.tableau.proofs.Outcomes.{IsPlaced, Outcome}

-- close
abbrev AreClosing : Fact → Fact → Type 0
AreClosing f g = (are_opposed f g ≡ true) ⊎ ((f ≡ g) × (is_truth false g.term ≡ true))

either_way : (a b : Bool) → (a || b) ≡ (b || a)
either_way true true = refl
either_way true false = refl
either_way false true = refl
either_way false false = refl

turned : (f g : Fact) → AreClosing f g → AreClosing g f
turned f g (inl h) = inl (either_way (is_negation_of f.term g.term) (is_negation_of g.term f.term) ∙ h)
turned f g (inr h) = inr (sym h.0, subst (λ (x : Fact). is_truth false x.term ≡ true) (sym h.0) h.1)

found_of : {A : Type 0} (P : A → Type 0) (p : A → Bool) (xs : List A) (x : A) → find p xs ≡ Some x → All P xs → P x × (p x ≡ true)
found_of P p [] x h every = absurd (cc)
found_of {A} P p (y ∷ xs) x h every = at_test (p y) refl h (λ k. found_of P p xs x k (All-tail P y xs every))
  where
    at_test : (c : Bool) → p y ≡ c → cond c (Some y) (find p xs) ≡ Some x → (find p xs ≡ Some x → P x × (p x ≡ true)) → P x × (p x ≡ true)
    at_test true e k further = let is_x : y ≡ x = cc in subst (λ z. P z × (p z ≡ true)) is_x (All-head P y xs every, e)
    at_test false e k further = further k

pair_known : (P : Fact → Type 0) (before fs : List Fact) (p : Fact × Fact) → pair_from before fs ≡ Some p → All P before → All P fs → P p.0 × P p.1 × AreClosing p.0 p.1
pair_known P before [] p h b every = absurd (cc)
pair_known P before (g ∷ gs) p h b every = at_pair (find (λ f. are_opposed f g) before) refl h (λ k. pair_known P (before ++ g ∷ []) gs p k (All-push P before g b (All-head P g gs every)) (All-tail P g gs every))
  where
    at_false : (c : Bool) → is_truth false g.term ≡ c → (elim c [ true ↦ Some (g, g) | false ↦ pair_from (before ++ g ∷ []) gs ]) ≡ Some p → (pair_from (before ++ g ∷ []) gs ≡ Some p → P p.0 × P p.1 × AreClosing p.0 p.1) → P p.0 × P p.1 × AreClosing p.0 p.1
    at_false true e k further = let is_p : (g, g) ≡ p = cc in subst (λ (q : Fact × Fact). P q.0 × P q.1 × AreClosing q.0 q.1) is_p (All-head P g gs every, All-head P g gs every, inr (refl, e))
    at_false false e k further = further k

    at_pair : (o : Option Fact) → find (λ f. are_opposed f g) before ≡ o → (elim o [ Some f ↦ Some (f, g) | None ↦ elim (is_truth false g.term) [ true ↦ Some (g, g) | false ↦ pair_from (before ++ g ∷ []) gs ] ]) ≡ Some p → (pair_from (before ++ g ∷ []) gs ≡ Some p → P p.0 × P p.1 × AreClosing p.0 p.1) → P p.0 × P p.1 × AreClosing p.0 p.1
    at_pair (Some f) e k further = let is_p : (f, g) ≡ p = cc in let found = found_of P (λ x. are_opposed x g) before f e b in
        subst (λ (q : Fact × Fact). P q.0 × P q.1 × AreClosing q.0 q.1) is_p (found.0, All-head P g gs every, inl found.1)
    at_pair None e k further = at_false (is_truth false g.term) refl k further

-- two facts of which one is the Not of the other, or one that is false, close the context
closing : (c : Context) (f g : Fact) → IsKnown c f → IsKnown c g → (nat_eq f.number g.number && is_truth false f.term || is_negation_of g.term f.term) ≡ true → ends.closes c f.number g.number ≡ true
closing c f g kf kg h = rw (kf, kg) h

same_number : (c : Context) (f g : Fact) → IsKnown c f → IsKnown c g → nat_eq f.number g.number ≡ true → f.term ≡ g.term
same_number c f g kf kg h = let e = eqb-true f.number g.number h in cc

closes_first : (c : Context) (f g : Fact) → IsKnown c f → IsKnown c g → AreClosing f g → (x y : Bool) → nat_eq f.number g.number ≡ x → is_negation_of g.term f.term ≡ y → (x || y) ≡ true → ends.closes c f.number g.number ≡ true
closes_first c f g kf kg h x true ex ey e = closing c f g kf kg (second (nat_eq f.number g.number && is_truth false f.term) (is_negation_of g.term f.term) ey)
closes_first c f g kf kg h false false ex ey e = absurd (cc)
closes_first c f g kf kg (inr h) true false ex ey e = closing c f g kf kg (let t : is_truth false f.term ≡ true = subst (λ (z : Fact). is_truth false z.term ≡ true) (sym h.0) h.1 in rw (ex, t) refl)
closes_first c f g kf kg (inl h) true false ex ey e =
    let same = same_number c f g kf kg ex in
    let back : is_negation_of f.term g.term ≡ true = (let k : (is_negation_of g.term f.term || is_negation_of f.term g.term) ≡ true = h in rw ey at k) in
    let there : is_negation_of g.term f.term ≡ true = subst (λ t. is_negation_of t f.term ≡ true) same (subst (λ t. is_negation_of f.term t ≡ true) (sym same) back) in absurd (cc)

closes_second : (c : Context) (f g : Fact) → IsKnown c f → IsKnown c g → AreClosing f g → (nat_eq f.number g.number || is_negation_of g.term f.term) ≡ false → ends.closes c g.number f.number ≡ true
closes_second c f g kf kg (inl h) e =
    let k = neither (nat_eq f.number g.number) (is_negation_of g.term f.term) e in
    let back : is_negation_of f.term g.term ≡ true = (let o : (is_negation_of g.term f.term || is_negation_of f.term g.term) ≡ true = h in rw k.1 at o) in
    closing c g f kg kf (second (nat_eq g.number f.number && is_truth false g.term) (is_negation_of f.term g.term) back)
closes_second c f g kf kg (inr h) e =
    let k = neither (nat_eq f.number g.number) (is_negation_of g.term f.term) e in
    let same : nat_eq f.number g.number ≡ true = eq-eqb f.number g.number (ap (λ (z : Fact). z.number) h.0) in absurd (cc)

module _ (defs : List Def) where
  close_by_goes : (c : Context) (f g : Fact) → IsKnown c f → IsKnown c g → AreClosing f g → Outcome defs c (close_by f g)
  close_by_goes c f g kf kg h = cond_has (λ (m : Move). Outcome defs c m) (nat_eq f.number g.number || is_negation_of g.term f.term) (record { ending = closes f.number g.number; made = [] }) (record { ending = closes g.number f.number; made = [] })
      (λ e. record { contexts = []; goes = (refl, refl, closes_first c f g kf kg h (nat_eq f.number g.number) (is_negation_of g.term f.term) refl refl e); placed = tt })
      (λ e. record { contexts = []; goes = (refl, refl, closes_second c f g kf kg h e); placed = tt })

  pub close_goes : (b : Branch) (c : Context) (m : Move) → close b ≡ gives m → IsPlaced defs b c → Outcome defs c m
  close_goes b c m h placed = at_pair (pair_from [] b.facts) refl h
    where
      at_pair : (o : Option (Fact × Fact)) → pair_from [] b.facts ≡ o → (elim o [ None ↦ none | Some p ↦ gives (if nat_le (p.0).number (p.1).number then close_by p.0 p.1 else close_by p.1 p.0) ]) ≡ gives m → Outcome defs c m
      at_pair None e k = absurd (cc)
      at_pair (Some p) e k =
          let is_m : (if nat_le (p.0).number (p.1).number then close_by p.0 p.1 else close_by p.1 p.0) ≡ m = cc in
          let pair = pair_known (IsKnown c) [] b.facts p e (All-nil (IsKnown c)) placed.tracks.facts in
          subst (λ n. Outcome defs c n) is_m (cond_has (λ (n : Move). Outcome defs c n) (nat_le (p.0).number (p.1).number) (close_by p.0 p.1) (close_by p.1 p.0)
          (λ _. close_by_goes c p.0 p.1 pair.0 pair.1 pair.2) (λ _. close_by_goes c p.1 p.0 pair.1 pair.0 (turned p.0 p.1 pair.2)))

-- a rule that is applied at the oldest fact in which something is found
pub found_at_oldest : {A : Type 0} (test : Fact → Option A) (apply : At A → Option Move) (b : Branch) (m : Move)
    → ◌≡◌ {A = Attempt Move} (elim (oldest test b) [ None ↦ none | Some a ↦ unless_wide (apply a) ]) (gives m) → (a : At A) × (oldest test b ≡ Some a) × (apply a ≡ Some m)
found_at_oldest {A} test apply b m h = at_oldest (oldest test b) refl h
  where
    at_gives : (o : Option Move) → unless_wide o ≡ gives m → o ≡ Some m
    at_gives None k = absurd (cc)
    at_gives (Some n) k = cc

    at_oldest : (o : Option (At A)) → oldest test b ≡ o → ◌≡◌ {A = Attempt Move} (elim o [ None ↦ none | Some a ↦ unless_wide (apply a) ]) (gives m) → (a : At A) × (oldest test b ≡ Some a) × (apply a ≡ Some m)
    at_oldest None e k = absurd (cc)
    at_oldest (Some a) e k = (a, e, at_gives (apply a) k)

-- a rule that is applied at the first of these
pub found_first : {A B : Type 0} (try : A → Attempt B) (P : A → Type 0) (xs : List A) (m : B) → All P xs → first_attempt try xs ≡ gives m → (x : A) × P x × (try x ≡ gives m)
found_first try P [] m all h = absurd (cc)
found_first {A} {B} try P (x ∷ xs) m all h = at_try (try x) refl h (λ k. found_first try P xs m (All-tail P x xs all) k)
  where
    at_try : (o : Attempt B) → try x ≡ o → ◌≡◌ {A = Attempt B} (elim o [ none ↦ first_attempt try xs | leaves ↦ leaves | gives b ↦ gives b ]) (gives m) → (first_attempt try xs ≡ gives m → (y : A) × P y × (try y ≡ gives m)) → (y : A) × P y × (try y ≡ gives m)
    at_try none e k further = further k
    at_try leaves e k further = absurd (cc)
    at_try (gives b) e k further = (x, All-head P x xs all, e ∙ k)

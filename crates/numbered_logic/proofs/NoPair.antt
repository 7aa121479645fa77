-- Facts of which none closes a branch, as the store goes on and as more facts join them.
use Rattle.std.proofs.Common.{◌≡◌, refl, sym, ap, subst, ◌∙◌, true≢false, ℕ, ◌<◌, nat_eq, Bool, true, false, cond, ◌||◌, Option, Some, None, List, [], ◌∷◌, ◌++◌, map, find, length, arith}
use Rattle.std.specs.List.{list_any, AllByRecursion}
use Rattle.std.proofs.lemmas.Bool.{eq-eqb, eqb-true, ne_eqb}
use Rattle.std.proofs.lemmas.List.{map-append}
use Rattle.logic_core.specs.Tree.{Tree}
use Rattle.logic_core.specs.Same.{same_term, is_some_and}
use Rattle.logic_core.specs.Junction.{negated, is_truth}
use Rattle.logic_core.proofs.EachOf.{every_append}
use Rattle.logic_core.proofs.Booleans.{none_of}
use Rattle.proof_core.specs.Close.{is_negation_of}
use Rattle.term_bank.specs.Numbered.{at, Begins}
use Rattle.term_bank.proofs.Numbers.{begins_at, begins_length}
use Rattle.logic_rules.specs.Closing.{are_opposed, pair_from}
use Rattle.logic_rules.proofs.Pairs.{pairs_later}
use Rattle.numbered_terms.specs.Stored.{AreStored}
use Rattle.numbered_terms.proofs.Inserting.{inserted}
use Rattle.numbered_facts.specs.Answers.{StandsFor}
use Rattle.numbered_facts.proofs.EachOnce.{same_number}
use Rattle.numbered_branches.specs.Branches.{NumberedFact, fact_at}
use Rattle.numbered_logic.specs.Apart.{is_among, IsAmong, AreStill, IsListed, IsApart}
use Rattle.numbered_logic.proofs.Later.{stands_later}

abbrev All : List Tree → List ℕ → List ℕ → Type 0
All ts facts negations = (i : ℕ) → list_any (nat_eq i) facts ≡ true → IsApart ts negations i

-- in a store that goes on
pub apart_later : (ts us : List Tree) → Begins ts us → (facts negations : List ℕ) → All ts facts negations → All us facts negations
apart_later ts us b facts negations h i there = let a = h i there in let same = begins_at ts us i b a.within in record {
  within = omega (arith, a.within, begins_length ts us b);
  truth = ap (is_truth false) same ∙ a.truth;
  lacking = a.lacking;
  negation = (a.negation.0, (stands_later ts us a.negation.0 (negated (at ts i)) (negated (at us i)) b (ap negated (sym same)) a.negation.1.0, a.negation.1.1));
}

still : (a b : Bool) → a ≡ true → (a || b) ≡ true
still true b h = refl
still false b h = absurd (true≢false (sym h))

pub one_of : {R : Type 0} (a b : Bool) → (a ≡ true → R) → (b ≡ true → R) → (a || b) ≡ true → R
one_of true b f g h = f refl
one_of false b f g h = g h

pub first_false : (a b : Bool) → (a || b) ≡ false → a ≡ false
first_false true b h = h
first_false false b h = refl

pub second_false : (a b : Bool) → (a || b) ≡ false → b ≡ false
second_false true b h = absurd (true≢false h)
second_false false b h = h

module _ (ts : List Tree) (facts negations : List ℕ) (apart : All ts facts negations) where
  -- a normal Not more, which is none of the facts
  module _ (new : List ℕ) (o : Option ℕ) (more : (j : ℕ) → list_any (nat_eq j) new ≡ (list_any (nat_eq j) negations || is_some_and o (nat_eq j))) where
    other : (p : Option ℕ) → is_among facts p ≡ false → (i : ℕ) → list_any (nat_eq i) facts ≡ true → is_some_and p (nat_eq i) ≡ false
    other None h i there = refl
    other (Some n) h i there = ne_eqb i n (λ e. true≢false (sym there ∙ ap (λ j. list_any (nat_eq j) facts) e ∙ h))

    among_still : (p : Option ℕ) → IsAmong negations p → IsAmong new p
    among_still None h = tt
    among_still (Some n) h = more n ∙ still (list_any (nat_eq n) negations) (is_some_and o (nat_eq n)) h

    pub negation_more : is_among facts o ≡ false → All ts facts new
    negation_more h i there = let a = apart i there in record {
      within = a.within;
      truth = a.truth;
      lacking = more i ∙ none_of (list_any (nat_eq i) negations) (is_some_and o (nat_eq i)) a.lacking (other o h i there);
      negation = (a.negation.0, (a.negation.1.0, among_still a.negation.0 a.negation.1.1));
    }

  -- a fact more
  pub fact_more : (new : List ℕ) (i : ℕ) → new ≡ cond (list_any (nat_eq i) facts) facts (facts ++ i ∷ []) → IsApart ts negations i → All ts new negations
  fact_more new i e a j there = one_of (list_any (nat_eq j) facts) (nat_eq j i) (apart j) (λ q. subst (IsApart ts negations) (sym (eqb-true j i q)) a) (sym (inserted i j facts new e) ∙ there)

pub fact_kept : (facts new : List ℕ) (i : ℕ) → new ≡ cond (list_any (nat_eq i) facts) facts (facts ++ i ∷ []) → AreStill facts new
fact_kept facts new i e j h = inserted i j facts new e ∙ still (list_any (nat_eq j) facts) (nat_eq j i) h

pub fact_there : (facts new : List ℕ) (i : ℕ) → new ≡ cond (list_any (nat_eq i) facts) facts (facts ++ i ∷ []) → list_any (nat_eq i) new ≡ true
fact_there facts new i e = inserted i i facts new e ∙ by (list_any (nat_eq i) facts)
  where
    by : (b : Bool) → (b || nat_eq i i) ≡ true
    by true = refl
    by false = eq-eqb i i refl

-- the normal Not of a new fact
pub now_among : (negations new : List ℕ) (o : Option ℕ) → ((j : ℕ) → list_any (nat_eq j) new ≡ (list_any (nat_eq j) negations || is_some_and o (nat_eq j))) → IsAmong new o
now_among negations new None more = tt
now_among negations new (Some n) more = more n ∙ by (list_any (nat_eq n) negations)
  where
    by : (b : Bool) → (b || nat_eq n n) ≡ true
    by true = refl
    by false = eq-eqb n n refl

pub listed_still : (facts new : List ℕ) → AreStill facts new → (fs : List NumberedFact) → AllByRecursion (IsListed facts) fs → AllByRecursion (IsListed new) fs
listed_still facts new kept [] h = tt
listed_still facts new kept (f ∷ fs) h = (kept f.term h.0, listed_still facts new kept fs h.1)

-- no two of them close a branch
module _ (ts : List Tree) (stored : AreStored ts) (facts negations : List ℕ) (apart : All ts facts negations) where
  not_negation : (g f : NumberedFact) → IsListed facts g → IsListed facts f → is_negation_of (at ts g.term) (at ts f.term) ≡ false
  not_negation g f hg hf = let a = apart f.term hf in let c = apart g.term hg in by c.within c.lacking a.negation.0 a.negation.1.0 a.negation.1.1
    where
      by : g.term < length ts → list_any (nat_eq g.term) negations ≡ false → (o : Option ℕ) → StandsFor ts o (negated (at ts f.term)) → IsAmong negations o → is_some_and (negated (at ts f.term)) (λ u. same_term u (at ts g.term)) ≡ false
      by w lacking None h among = ap (λ p. is_some_and p (λ u. same_term u (at ts g.term))) h
      by w lacking (Some n) h among = ap (λ p. is_some_and p (λ u. same_term u (at ts g.term))) h.1
          ∙ sym (same_number ts stored.apart n g.term h.0 w) ∙ ne_eqb n g.term (λ e. true≢false (sym among ∙ ap (λ j. list_any (nat_eq j) negations) e ∙ lacking))

  not_opposed : (f g : NumberedFact) → IsListed facts f → IsListed facts g → are_opposed (fact_at ts f) (fact_at ts g) ≡ false
  not_opposed f g hf hg = λ k. (not_negation g f hg hf k || not_negation f g hf hg k)

  none_found : (g : NumberedFact) → IsListed facts g → (fs : List NumberedFact) → AllByRecursion (IsListed facts) fs → find (λ f. are_opposed f (fact_at ts g)) (map (fact_at ts) fs) ≡ None
  none_found g hg [] h = refl
  none_found g hg (f ∷ fs) h = rw (not_opposed f g h.0 hg) (none_found g hg fs h.1)

  none_from : (before fs : List NumberedFact) → AllByRecursion (IsListed facts) before → AllByRecursion (IsListed facts) fs → pair_from (map (fact_at ts) before) (map (fact_at ts) fs) ≡ None
  none_from before [] hb h = refl
  none_from before (f ∷ fs) hb h = pairs_later (map (fact_at ts) before) (fact_at ts f) (map (fact_at ts) fs) (none_found f h.0 before hb) (apart f.term h.0).truth
      ∙ ap (λ bs. pair_from bs (map (fact_at ts) fs)) (sym (map-append (fact_at ts) before (f ∷ [])))
      ∙ none_from (before ++ f ∷ []) fs (every_append (IsListed facts) before (f ∷ []) hb (h.0, tt)) h.1

  pub none_close : (fs : List NumberedFact) → AllByRecursion (IsListed facts) fs → pair_from [] (map (fact_at ts) fs) ≡ None
  none_close fs h = none_from [] fs tt h

-- What the rules keep, as the store goes on.
use Rattle.std.proofs.Common.{◌≡◌, ◌∙◌, sym, subst, Result}
use Rattle.std.specs.Prelude.{OnOk}
use Rattle.std.proofs.lemmas.Result.{on_ok_weaker}
use Rattle.term_bank.specs.Numbered.{Begins}
use Rattle.numbered_terms.specs.Stored.{Numbered, Grows}
use Rattle.numbered_terms.proofs.Results.{on_ok}
use Rattle.numbered_logic.specs.Apart.{AreApart}
use Rattle.numbered_logic.proofs.NoPair.{apart_later}
use Rattle.numbered_instances.specs.Shared.{IsCounted}
use Rattle.numbered_instances.proofs.SharedAtoms.{counted_on}
use Rattle.numbered_theory.specs.Tried.{AreTried}
use Rattle.numbered_theory.proofs.TriedPairs.{tried_more}
use Rattle.clause_search.specs.Tables.{AreRight}
use Rattle.clause_search.specs.declared.rules.Tables.{Tables}

module _ {A E : Type 0} (r : Result A E) (n m : Numbered) (b : Begins n.terms m.terms) (t : Tables) (right : AreRight n.terms t) where
  -- another rule was tried
  pub right_later : OnOk r (AreRight m.terms t)
  right_later = on_ok r (record {
    apart = apart_later n.terms m.terms b t.apart.facts t.apart.negations right.apart;
    counted = counted_on n.terms m.terms b t.shared right.counted;
    tried = tried_more n.terms m.terms b t.tried right.tried;
  })

  -- close was tried
  pub closed_later : (new : Tables) → new.shared ≡ t.shared → new.tried ≡ t.tried → OnOk r (AreApart m.terms new.apart) → OnOk r (AreRight m.terms new)
  closed_later new same last h = on_ok_weaker r (λ a. record {
    apart = a;
    counted = subst (IsCounted m.terms) (sym same) (counted_on n.terms m.terms b t.shared right.counted);
    tried = subst (AreTried m.terms) (sym last) (tried_more n.terms m.terms b t.tried right.tried);
  }) h

  -- rewrite was tried
  pub rewritten_later : (new : Tables) → new.apart ≡ t.apart → new.tried ≡ t.tried → OnOk r (IsCounted m.terms new.shared) → OnOk r (AreRight m.terms new)
  rewritten_later new same last h = on_ok_weaker r (λ c. record {
    apart = subst (AreApart m.terms) (sym same) (apart_later n.terms m.terms b t.apart.facts t.apart.negations right.apart);
    counted = c;
    tried = subst (AreTried m.terms) (sym last) (tried_more n.terms m.terms b t.tried right.tried);
  }) h

  -- one that keeps something else was tried
  pub rested_later : (new : Tables) → new.apart ≡ t.apart → new.shared ≡ t.shared → new.tried ≡ t.tried → OnOk r (AreRight m.terms new)
  rested_later new first second last = on_ok r (record {
    apart = subst (AreApart m.terms) (sym first) (apart_later n.terms m.terms b t.apart.facts t.apart.negations right.apart);
    counted = subst (IsCounted m.terms) (sym second) (counted_on n.terms m.terms b t.shared right.counted);
    tried = subst (AreTried m.terms) (sym last) (tried_more n.terms m.terms b t.tried right.tried);
  })

  -- combine was tried
  pub combined_later : (new : Tables) → new.apart ≡ t.apart → new.shared ≡ t.shared → OnOk r (AreTried m.terms new.tried) → OnOk r (AreRight m.terms new)
  combined_later new first second h = on_ok_weaker r (λ d. record {
    apart = subst (AreApart m.terms) (sym first) (apart_later n.terms m.terms b t.apart.facts t.apart.negations right.apart);
    counted = subst (IsCounted m.terms) (sym second) (counted_on n.terms m.terms b t.shared right.counted);
    tried = d;
  }) h

-- the same definitions
pub defs_later : {A E : Type 0} (r : Result A E) (l n m : Numbered) → n.defs ≡ l.defs → OnOk r (Grows n m) → OnOk r (m.defs ≡ l.defs)
defs_later r l n m same h = on_ok_weaker r (λ (g : Grows n m). g.defs ∙ same) h

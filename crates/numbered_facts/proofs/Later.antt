-- What is kept of terms stays right in a longer store.
use Rattle.std.proofs.Common.{◌≡◌, sym, ap, subst, ◌∙◌, ℕ, Vec, ◌<◌, ◌&&◌, Option, Some, None, List, [], length, filter, option_map, arith}
use Rattle.std.specs.Prelude.{find, slice_get}
use Rattle.std.specs.declared.alloc.Global.{Global}
use Rattle.logic_core.specs.Tree.{Kind, Tree}
use Rattle.logic_core.specs.Def.{Def}
use Rattle.logic_core.specs.Junction.{negated}
use Rattle.logic_core.specs.Sorts.{sort_of}
use Rattle.logic_core.specs.Subterm.{occurs, outside, replaced}
use Rattle.logic_core.specs.Tighten.{tighten}
use Rattle.tableau_branch.specs.Oriented.{is_application, left_side}
use Rattle.tableau_branch.specs.Shapes.{is_call, is_choice, is_access}
use Rattle.logic_rules.specs.Instantiating.{each_once}
use Rattle.term_bank.specs.Numbered.{at, Begins}
use Rattle.term_bank.proofs.Numbers.{begins_at}
use Rattle.numbered_terms.proofs.Walking.{still_below}
use Rattle.numbered_forms.proofs.LongerStores.{terms_stay, numbers_stay}
use Rattle.numbered_forms.proofs.NormalParts.{forms_later}
use Rattle.numbered_facts.specs.Answers.{StandsFor, AreAt}
use Rattle.numbered_facts.specs.Atoms.{is_atom}
use Rattle.numbered_terms.specs.At.{IsAt}
use Rattle.numbered_terms.specs.Slots.{AreKept}
use Rattle.numbered_facts.specs.Memos.{IsNegation, IsLeft, AreAtoms, IsStanding, IsReplacement, AreReplacements, IsTight, IsBody, IsSort, AreMemos}
use Rattle.numbered_facts.specs.declared.replacements.Replacement.{Replacement}
use Rattle.numbered_facts.specs.declared.standing.Standing.{Standing}

module _ (ts us : List Tree) (b : Begins ts us) where
  pub stands_later : (o : Option ℕ) (t : Option Tree) → StandsFor ts o t → StandsFor us o t
  stands_later None t h = h
  stands_later (Some i) t h = (still_below ts us i b h.0, h.1 ∙ ap Some (sym (begins_at ts us i b h.0)))

  pub are_later : (is : List ℕ) (ws : List Tree) → AreAt ts is ws → AreAt us is ws
  are_later is ws h = (numbers_stay ts us b is h.0, terms_stay ts us b is h.0 ∙ h.1)

  pub negations_later : (ns : List (Option (Option ℕ))) → AreKept (IsNegation ts) ns → AreKept (IsNegation us) ns
  negations_later ns h = λ i o e. let r = h i o e in
      (still_below ts us i b r.0, subst (λ t. StandsFor us o (negated t)) (sym (begins_at ts us i b r.0)) (stands_later o (negated (at ts i)) r.1))

  pub atoms_later : (as' : List (Option (Vec ℕ Global))) → AreKept (AreAtoms ts) as' → AreKept (AreAtoms us) as'
  atoms_later as' h = λ i v e. let r = h i v e in record {
    whole = still_below ts us i b r.whole;
    within = r.within;
    rising = r.rising;
    are = λ j l. let w : j < length ts = omega (arith, l, r.whole) in
        let one = sym (begins_at ts us j b w) in let whole = sym (begins_at ts us i b r.whole) in
        r.are j l ∙ (λ k. is_atom (one k) && occurs (one k) (whole k));
  }

  pub standing_later : (ss : List (Option Standing)) → AreKept (IsStanding ts) ss → AreKept (IsStanding us) ss
  standing_later ss h = λ i s e. let r = h i s e in let same = sym (begins_at ts us i b r.whole) in record {
    whole = still_below ts us i b r.whole;
    ground = subst (λ t. AreAt us s.ground.items (each_once [] (filter is_application (outside t)))) same (are_later s.ground.items (each_once [] (filter is_application (outside (at ts i)))) r.ground);
    call = subst (λ t. StandsFor us s.call (find is_call (outside t))) same (stands_later s.call (find is_call (outside (at ts i))) r.call);
    choice = subst (λ t. StandsFor us s.choice (find is_choice (outside t))) same (stands_later s.choice (find is_choice (outside (at ts i))) r.choice);
    access = subst (λ t. StandsFor us s.access (find is_access (outside t))) same (stands_later s.access (find is_access (outside (at ts i))) r.access);
  }

  -- what a term of the first store becomes, found in the longer one
  pub replaced_later : (whole part by term : ℕ) → whole < length ts → part < length ts → by < length ts → IsAt us term (replaced (at ts part) (at ts by) (at ts whole)) → IsReplacement us (record { whole = whole; part = part; by = by; term = term })
  replaced_later whole part by term w p q h =
      let whole_same = sym (begins_at ts us whole b w) in let part_same = sym (begins_at ts us part b p) in let by_same = sym (begins_at ts us by b q) in record {
        whole = still_below ts us whole b w;
        part = still_below ts us part b p;
        by = still_below ts us by b q;
        term = (h.0, h.1 ∙ (λ k. replaced (part_same k) (by_same k) (whole_same k)));
      }

  pub replacements_later : (rs : List (Option Replacement)) → AreReplacements ts rs → AreReplacements us rs
  replacements_later rs h = λ i r e. let k = h i r e in
      replaced_later r.whole r.part r.by r.term k.whole k.part k.by (still_below ts us r.term b k.term.0, begins_at ts us r.term b k.term.0 ∙ k.term.1)

  pub tight_later : (i j : ℕ) → i < length ts → IsAt us j (tighten (at ts i)) → IsTight us i j
  tight_later i j l h = (still_below ts us i b l, (h.0, h.1 ∙ ap tighten (sym (begins_at ts us i b l))))

  pub tights_later : (qs : List (Option ℕ)) → AreKept (IsTight ts) qs → AreKept (IsTight us) qs
  tights_later qs h = λ i j e. let r = h i j e in tight_later i j r.0 (still_below ts us j b r.1.0, begins_at ts us j b r.1.0 ∙ r.1.1)

  pub bodies_later : (defs : List Def) (bs : List (Option (Option ℕ))) → AreKept (IsBody ts defs) bs → AreKept (IsBody us defs) bs
  bodies_later defs bs h = λ k o e. stands_later o (option_map (λ (d : Def). d.body) (slice_get defs k)) (h k o e)

pub lefts_later : (ts us : List Tree) (vars : List Kind) (defs : List Def) (b : Begins ts us) (ls : List (Option (Option ℕ))) → AreKept (IsLeft (record { terms = ts; vars = vars; defs = defs })) ls → AreKept (IsLeft (record { terms = us; vars = vars; defs = defs })) ls
lefts_later ts us vars defs b ls h = λ i o e. let r = h i o e in
    (still_below ts us i b r.0, subst (λ t. StandsFor us o (left_side vars defs t)) (sym (begins_at ts us i b r.0)) (stands_later ts us b o (left_side vars defs (at ts i)) r.1))

pub sorts_later : (ts us : List Tree) (vars : List Kind) (defs : List Def) (b : Begins ts us) (ks : List (Option (Option Kind))) → AreKept (IsSort (record { terms = ts; vars = vars; defs = defs })) ks → AreKept (IsSort (record { terms = us; vars = vars; defs = defs })) ks
sorts_later ts us vars defs b ks h = λ i o e. let r = h i o e in (still_below ts us i b r.0, r.1 ∙ ap (sort_of vars defs []) (sym (begins_at ts us i b r.0)))

module _ (ts us : List Tree) (vars : List Kind) (defs : List Def) (fs : List (Option ℕ)) (ls ns : List (Option (Option ℕ))) (as' : List (Option (Vec ℕ Global))) (ss : List (Option Standing)) (bs : List (Option (Option ℕ))) (ks : List (Option (Option Kind))) (rs : List (Option Replacement)) (qs : List (Option ℕ)) (b : Begins ts us) where
  pub memos_later : AreMemos (record { terms = ts; vars = vars; defs = defs }) fs ls ns as' ss bs ks rs qs → AreMemos (record { terms = us; vars = vars; defs = defs }) fs ls ns as' ss bs ks rs qs
  memos_later h = record {
    forms = forms_later vars defs ts us fs b h.forms;
    lefts = lefts_later ts us vars defs b ls h.lefts;
    negations = negations_later ts us b ns h.negations;
    atoms = atoms_later ts us b as' h.atoms;
    standing = standing_later ts us b ss h.standing;
    bodies = bodies_later ts us b defs bs h.bodies;
    sorts = sorts_later ts us vars defs b ks h.sorts;
    replacements = replacements_later ts us b rs h.replacements;
    tights = tights_later ts us b qs h.tights;
  }

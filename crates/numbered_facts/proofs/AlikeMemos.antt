-- What is kept of terms is right over variables and definitions that agree for them; bodies are kept anew.
use Rattle.std.proofs.Common.{sym, subst, ◌∙◌, ℕ, Vec, Option, List, [], length}
use Rattle.std.specs.declared.alloc.Global.{Global}
use Rattle.logic_core.specs.Tree.{Kind, Tree}
use Rattle.logic_core.specs.Def.{Def}
use Rattle.term_bank.specs.Numbered.{at}
use Rattle.numbered_terms.specs.Slots.{AreKept}
use Rattle.numbered_forms.specs.Forms.{AreForms}
use Rattle.numbered_facts.specs.Answers.{StandsFor}
use Rattle.numbered_facts.specs.Alike.{AreBelow, AgreeBelow}
use Rattle.numbered_facts.specs.Memos.{IsLeft, IsBody, IsSort, AreMemos}
use Rattle.numbered_facts.specs.declared.replacements.Replacement.{Replacement}
use Rattle.numbered_facts.specs.declared.standing.Standing.{Standing}
use Rattle.numbered_facts.proofs.AlikeSorts.{sort_alike}
use Rattle.numbered_facts.proofs.AlikeForms.{normal_alike, left_alike}

-- nothing is kept
pub none_kept : {A : Type 0} (Right : ℕ → A → Type 0) → AreKept Right []
none_kept Right i a e = absurd (cc)

module _ (ts : List Tree) (n : ℕ) (vars : List Kind) (defs : List Def) (vars' : List Kind) (defs' : List Def) (below : AreBelow ts (length ts) n) (a : AgreeBelow n vars defs vars' defs') where
  pub forms_alike : (fs : List (Option ℕ)) → AreForms vars defs ts fs → AreForms vars' defs' ts fs
  forms_alike fs h = λ i j e. let r = h i j e in (r.0, (r.1.0, sym (normal_alike n vars defs vars' defs' a (at ts i) [] (below i r.0)) ∙ r.1.1))

  pub lefts_alike : (ls : List (Option (Option ℕ))) → AreKept (IsLeft (record { terms = ts; vars = vars; defs = defs })) ls → AreKept (IsLeft (record { terms = ts; vars = vars'; defs = defs' })) ls
  lefts_alike ls h = λ i o e. let r = h i o e in (r.0, subst (StandsFor ts o) (left_alike n vars defs vars' defs' a (at ts i) (below i r.0)) r.1)

  pub sorts_alike : (ks : List (Option (Option Kind))) → AreKept (IsSort (record { terms = ts; vars = vars; defs = defs })) ks → AreKept (IsSort (record { terms = ts; vars = vars'; defs = defs' })) ks
  sorts_alike ks h = λ i o e. let r = h i o e in (r.0, r.1 ∙ sort_alike n vars defs vars' defs' a (at ts i) [] (below i r.0))

  module _ (fs : List (Option ℕ)) (ls ns : List (Option (Option ℕ))) (as' : List (Option (Vec ℕ Global))) (ss : List (Option Standing)) (bs : List (Option (Option ℕ))) (ks : List (Option (Option Kind))) (rs : List (Option Replacement)) (qs : List (Option ℕ)) where
    -- with the bodies of the new definitions
    pub memos_with : (bs' : List (Option (Option ℕ))) → AreKept (IsBody ts defs') bs' → AreMemos (record { terms = ts; vars = vars; defs = defs }) fs ls ns as' ss bs ks rs qs → AreMemos (record { terms = ts; vars = vars'; defs = defs' }) fs ls ns as' ss bs' ks rs qs
    memos_with bs' bodies h = record {
      forms = forms_alike fs h.forms;
      lefts = lefts_alike ls h.lefts;
      negations = h.negations;
      atoms = h.atoms;
      standing = h.standing;
      bodies = bodies;
      sorts = sorts_alike ks h.sorts;
      replacements = h.replacements;
      tights = h.tights;
    }

    -- without bodies
    pub memos_alike : AreMemos (record { terms = ts; vars = vars; defs = defs }) fs ls ns as' ss bs ks rs qs → AreMemos (record { terms = ts; vars = vars'; defs = defs' }) fs ls ns as' ss [] ks rs qs
    memos_alike h = memos_with [] (none_kept (IsBody ts defs')) h

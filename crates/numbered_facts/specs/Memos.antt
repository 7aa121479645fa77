-- What a store keeps of terms, by number.
use Rattle.std.specs.Prelude.{◌≡◌, ℕ, Vec, ◌+◌, ◌<◌, ◌≤◌, nat_eq, ◌&&◌, Option, List, [], length, filter, find, option_map, slice_get}
use Rattle.std.specs.List.{list_any, AllByRecursion}
use Rattle.std.specs.declared.alloc.Global.{Global}
use Rattle.logic_core.specs.Tree.{Kind, Tree}
use Rattle.logic_core.specs.Def.{Def}
use Rattle.logic_core.specs.Junction.{negated}
use Rattle.logic_core.specs.Sorts.{sort_of}
use Rattle.logic_core.specs.Subterm.{occurs, outside, replaced}
use Rattle.logic_core.specs.Tighten.{tighten}
use Rattle.tableau_branch.specs.Oriented.{is_application, left_side}
use Rattle.tableau_branch.specs.Shapes.{is_call, is_choice, is_access}
use Rattle.logic_rules.specs.Instantiating.{each_once}
use Rattle.term_bank.specs.Numbered.{at}
use Rattle.numbered_terms.specs.At.{IsAt}
use Rattle.numbered_terms.specs.Slots.{AreKept}
use Rattle.numbered_terms.specs.Stored.{Numbered}
use Rattle.numbered_forms.specs.Forms.{AreForms}
use Rattle.numbered_facts.specs.Answers.{StandsFor, AreAt}
use Rattle.numbered_facts.specs.Atoms.{is_atom, IsRising}
use Rattle.numbered_facts.specs.declared.replacements.Replacement.{Replacement}
use Rattle.numbered_facts.specs.declared.standing.Standing.{Standing}

module _ (ts : List Tree) where
  -- a normal Not, where there is one
  abbrev pub IsNegation : ℕ → Option ℕ → Type 0
  IsNegation i o = (i < length ts) × StandsFor ts o (negated (at ts i))

  -- the atoms in a term, whose numbers rise and are no higher than its own
  pub record AreAtoms (i : ℕ) (v : Vec ℕ Global) : Type 0 where
    pub whole : i < length ts
    pub within : AllByRecursion (λ j. j < i + 1) v.items
    pub rising : IsRising v.items
    pub are : (j : ℕ) → j ≤ i → list_any (nat_eq j) v.items ≡ (is_atom (at ts j) && occurs (at ts j) (at ts i))

  -- what stands in a term outside quantifiers
  pub record IsStanding (i : ℕ) (s : Standing) : Type 0 where
    pub whole : i < length ts
    pub ground : AreAt ts s.ground.items (each_once [] (filter is_application (outside (at ts i))))
    pub call : StandsFor ts s.call (find is_call (outside (at ts i)))
    pub choice : StandsFor ts s.choice (find is_choice (outside (at ts i)))
    pub access : StandsFor ts s.access (find is_access (outside (at ts i)))

  -- what a term becomes where a part of it is replaced by another term
  pub record IsReplacement (r : Replacement) : Type 0 where
    pub whole : r.whole < length ts
    pub part : r.part < length ts
    pub by : r.by < length ts
    pub term : IsAt ts r.term (replaced (at ts r.part) (at ts r.by) (at ts r.whole))

  -- at any places
  abbrev pub AreReplacements : List (Option Replacement) → Type 0
  AreReplacements rs = AreKept (λ _. IsReplacement) rs

  -- a normal fact, tightened
  abbrev pub IsTight : ℕ → ℕ → Type 0
  IsTight i t = (i < length ts) × IsAt ts t (tighten (at ts i))

  -- the body of the definition of a number, where there is one
  abbrev pub IsBody : List Def → ℕ → Option ℕ → Type 0
  IsBody defs k o = StandsFor ts o (option_map (λ (d : Def). d.body) (slice_get defs k))

-- the left side of a fact, where there is one
abbrev pub IsLeft : Numbered → ℕ → Option ℕ → Type 0
IsLeft n i o = (i < length n.terms) × StandsFor n.terms o (left_side n.vars n.defs (at n.terms i))

-- the sort of a closed term, where it is well sorted
abbrev pub IsSort : Numbered → ℕ → Option Kind → Type 0
IsSort n i o = (i < length n.terms) × (o ≡ sort_of n.vars n.defs [] (at n.terms i))

-- all that a store keeps
pub record AreMemos (n : Numbered) (fs : List (Option ℕ)) (ls ns : List (Option (Option ℕ))) (as' : List (Option (Vec ℕ Global))) (ss : List (Option Standing)) (bs : List (Option (Option ℕ))) (ks : List (Option (Option Kind))) (rs : List (Option Replacement)) (qs : List (Option ℕ)) : Type 0 where
  pub forms : AreForms n.vars n.defs n.terms fs
  pub lefts : AreKept (IsLeft n) ls
  pub negations : AreKept (IsNegation n.terms) ns
  pub atoms : AreKept (AreAtoms n.terms) as'
  pub standing : AreKept (IsStanding n.terms) ss
  pub bodies : AreKept (IsBody n.terms n.defs) bs
  pub sorts : AreKept (IsSort n) ks
  pub replacements : AreReplacements n.terms rs
  pub tights : AreKept (IsTight n.terms) qs

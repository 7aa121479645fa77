-- Obligations that rename one another have one canonical form, before triggers are chosen and after.
use Rattle.std.specs.Prelude.{◌≡◌, ℕ, Bool, IsTrue}
use Rattle.logic_core.specs.Def.{Obligation}
use Rattle.logic_laws.specs.RenamingLaws.{IsRenamedObligation}
use Rattle.obligation_text.specs.Canonical.{canonical}
use Rattle.quantifier_triggers.specs.Choice.{obligation_with_triggers}

-- no two of these have one new number
abbrev pub StayApart : (ℕ → ℕ) → (ℕ → Bool) → Type 0
StayApart new these? = (f g : ℕ) → IsTrue (these? f) → IsTrue (these? g) → new f ≡ new g → f ≡ g

-- the old number of each of these is known by its new one
abbrev pub HasOld : (ℕ → ℕ) → (ℕ → ℕ) → (ℕ → Bool) → Type 0
HasOld new old these? = (f : ℕ) → IsTrue (these? f) → old (new f) ≡ f

abbrev pub RenamedHaveOneForm : Type 0
RenamedHaveOneForm = (new_def new_var : ℕ → ℕ) (defs? vars? : ℕ → Bool) (o p : Obligation)
    → StayApart new_def defs? → IsRenamedObligation new_def new_var defs? vars? o p → canonical p ≡ canonical o

abbrev pub RenamedHaveOneFormWithTriggers : Type 0
RenamedHaveOneFormWithTriggers = (new_def new_var old_def old_var : ℕ → ℕ) (defs? vars? : ℕ → Bool) (o p : Obligation)
    → HasOld new_def old_def defs? → HasOld new_var old_var vars? → IsRenamedObligation new_def new_var defs? vars? o p
    → canonical (obligation_with_triggers p) ≡ canonical (obligation_with_triggers o)
